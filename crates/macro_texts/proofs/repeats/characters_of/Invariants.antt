-- The characters so far, and those of the tokens that are left.
use Rattle.std.proofs.Common.{◌≡◌, ◌++◌, map, drop}
use Rattle.asm_base.specs.Tokens.{spelled}
use Rattle.macro_texts.specs.Repeats.{characters_of}
use Rattle.macro_texts.specs.RepeatsSeen.{texts}
use Rattle.macro_texts.proofs.repeats.characters_of.Given as goal

abbrev pub invariant-loop-token : goal.invariant-loop-token
invariant-loop-token l = texts l.values.items ++ characters_of (map spelled (drop l.token-index l.tokens)) ≡ characters_of (map spelled l.tokens)
