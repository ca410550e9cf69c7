-- The tokens so far stand side by side.
use Rattle.std.proofs.Common.{◌≡◌, ◌-◌, map, drop}
use Rattle.asm_base.specs.Tokens.{spelled}
use Rattle.asm_words.specs.SectionWords.{are_adjacent}
use Rattle.asm_words.proofs.section_operands.are_adjacent.Given as goal

abbrev pub invariant-loop-at : goal.invariant-loop-at
invariant-loop-at l = are_adjacent (map spelled (drop (l.at - 1) l.tokens)) ≡ are_adjacent (map spelled l.tokens)
