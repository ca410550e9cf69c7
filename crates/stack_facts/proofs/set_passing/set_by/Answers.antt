use Rattle.std.proofs.Common.{◌+◌, ◌∙◌, arith}
use Rattle.insn_effects.specs.Followed.{followed_by}
use Rattle.stack_facts.specs.Places.{writes}
use Rattle.stack_facts.proofs.PassLemmas.{slot_after}
use Rattle.stack_facts.proofs.RankLemmas.{ranked_plain}
use Rattle.stack_facts.proofs.set_passing.set_by.Goals as goal

pub put_entries-requires-clause-stood : goal.put_entries-requires-clause-stood
put_entries-requires-clause-stood c = λ k h.
    c.in_ok-clear_under-2.ensures.dropped.entries k h
    ∙ c.in_ok-clear_freed.ensures.entries k h
    ∙ c.in_ok-put_saved.ensures.entries k h
    ∙ c.in_ok-clear_under.ensures.dropped.entries k h
    ∙ c.in_ok-clear_stored.ensures.dropped.entries k h
    ∙ c.in_ok-out.ensures.same k (omega arith)

pub returns-clause-slots : goal.returns-clause-slots
returns-clause-slots c = λ k h.
    c.in_ok-put_entries.ensures.others (6 + k) (omega arith)
    ∙ slot_after c.args.slots.now (writes (followed_by c.args.effect.now)) c.args.change.now c.args.before.now c.in_ok-out.out c.clear_stored.new.out c.clear_under.new.out c.put_saved.new.out c.clear_freed.new.out c.clear_under-2.new.out k (ranked_plain c.args.slots.now c.requires.ranked) h
    (c.in_ok-out.ensures.same (6 + k) (omega arith)) c.in_ok-clear_stored.ensures.dropped c.in_ok-clear_under.ensures.dropped c.in_ok-put_saved.ensures.made c.in_ok-clear_freed.ensures.freed c.in_ok-clear_under-2.ensures.dropped
