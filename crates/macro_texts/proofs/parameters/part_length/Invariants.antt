-- The tokens so far are of one parameter.
use Rattle.std.proofs.Common.{◌≡◌, ◌+◌, ◌-◌, map, drop}
use Rattle.asm_base.specs.Tokens.{spelled}
use Rattle.macro_texts.specs.PartLengths.{part_length}
use Rattle.macro_texts.proofs.parameters.part_length.Given as goal

abbrev pub invariant-loop-at : goal.invariant-loop-at
invariant-loop-at l = part_length (map spelled l.tokens) ≡ (l.at - 1) + part_length (map spelled (drop (l.at - 1) l.tokens))
