use Rattle.std.proofs.Common.{◌+◌, ◌∙◌, arith}
use Rattle.insn_effects.specs.Followed.{followed_by}
use Rattle.stack_facts.specs.Places.{writes}
use Rattle.stack_facts.proofs.QuietLemmas.{kept_entry}
use Rattle.stack_facts.proofs.set_passing.put_entries.Goals as goal

pub returns-then-keeps_entries-clause-entries : goal.returns-then-keeps_entries-clause-entries
returns-then-keeps_entries-clause-entries c = λ k h.
    let keeps = c.if-keeps_entries.true in
    c.requires.stood k h
    ∙ kept_entry c.args.slots.now (writes (followed_by c.args.effect.now)) c.args.change.now c.args.before.now k h (c.keeps_entries.ensures.loaded keeps) (c.keeps_entries.ensures.written keeps (k + 1) (omega arith))
