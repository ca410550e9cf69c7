use Rattle.std.proofs.Common.{sym, ap, ◌∙◌}
use Rattle.insn_effects.specs.Followed.{followed_by}
use Rattle.stack_depths.specs.States.{distances_in}
use Rattle.stack_facts.specs.declared.values.Change.{Change}
use Rattle.stack_facts.specs.Places.{writes}
use Rattle.stack_facts.specs.Facts.{facts_after, is_at}
use Rattle.stack_facts.specs.Sets.{holds_in}
use Rattle.stack_facts.proofs.FactLemmas.{stays, holds_after}
use Rattle.stack_facts.proofs.QuietLemmas.{quiet_after}
use Rattle.stack_facts.proofs.word_passing.word_after.Goals as goal

pub returns-then-is_quiet-clause-at : goal.returns-then-is_quiet-clause-at
returns-then-is_quiet-clause-at c = λ f.
    stays c.args.slots.now c.args.before.now c.first.result (λ k h. c.first.ensures.low k h) f
    ∙ sym (quiet_after c.args.clauses c.args.effect.now (distances_in c.args.depths.now c.args.item) (holds_in c.args.slots.now c.args.before.now) f (c.is_quiet.ensures c.if-is_quiet.true))

pub returns-clause-at : goal.returns-clause-at
returns-clause-at c = λ f.
    holds_after c.args.slots.now (writes (followed_by c.args.effect.now)) c.change_by-change.result c.args.before.now c.word_by.result c.requires.plain
    (λ n r h. c.requires.saved n r (ap (λ (k : Change). is_at k.saved n r) (sym c.change_by-change.ensures) ∙ h))
    c.word_by.ensures.entries c.word_by.ensures.slots f
    ∙ ap (λ k. facts_after (writes (followed_by c.args.effect.now)) k (holds_in c.args.slots.now c.args.before.now) f) c.change_by-change.ensures
