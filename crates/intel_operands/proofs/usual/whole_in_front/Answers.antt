-- Memory at a base behind its size.
use Rattle.std.proofs.Common.{sym, ◌∙◌}
use Rattle.intel_operands.proofs.UsualMemory.{memory_is}
use Rattle.intel_operands.proofs.usual.whole_in_front.Goals as goal

pub returns-in-Some-clause-value : goal.returns-in-Some-clause-value
returns-in-Some-clause-value c = λ branch.
    memory_is c.calm_tokens_stay.ensures c.sums_are_read.ensures.read branch c.args.tokens.now c.from_place-text.result.now c.bits_in-bits.result c.said_words-said.result c.in-Some.field-0 (sym c.is_offset.ensures.value ∙ c.if-is_offset.false) c.bits_in-bits.ensures.value
    (c.says_plainly.ensures c.if-not-says_plainly.false) c.said_words-said.ensures c.from_place-text.ensures.value c.in-Some.ensures.value
