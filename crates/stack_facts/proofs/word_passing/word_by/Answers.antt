use Rattle.std.proofs.Common.{◌+◌, ◌∙◌, arith}
use Rattle.insn_effects.specs.Followed.{followed_by}
use Rattle.stack_facts.specs.Places.{writes}
use Rattle.stack_facts.proofs.PassLemmas.{slot_after, none_after}
use Rattle.stack_facts.proofs.word_passing.word_by.Goals as goal

pub returns-clause-slots : goal.returns-clause-slots
returns-clause-slots c = λ k h.
    c.with_first.ensures.high (6 + k) (omega arith)
    ∙ slot_after c.args.slots.now (writes (followed_by c.args.effect.now)) c.args.change.now c.args.before.now c.first-known.result c.untouched-stored.result c.not_below-cleared.result c.with_saved-saved.result c.unfreed-freed.result c.not_below-risen.result k c.requires.plain h
    (c.first-known.ensures.low (6 + k) (omega arith)) c.untouched-stored.ensures c.not_below-cleared.ensures c.with_saved-saved.ensures c.unfreed-freed.ensures c.not_below-risen.ensures

pub returns-clause-high : goal.returns-clause-high
returns-clause-high c = λ k h.
    c.with_first.ensures.high k (omega arith)
    ∙ none_after c.args.slots.now c.args.change.now c.args.before.now c.first-known.result c.untouched-stored.result c.not_below-cleared.result c.with_saved-saved.result c.unfreed-freed.result c.not_below-risen.result k h
    (c.first-known.ensures.high k h) c.untouched-stored.ensures c.not_below-cleared.ensures c.with_saved-saved.ensures c.unfreed-freed.ensures c.not_below-risen.ensures
