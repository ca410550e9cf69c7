-- An expression of numbers alone has its value whatever is known.
use Rattle.std.proofs.Common.{◌≡◌, ℕ, List, Ok, refl, map}
use Rattle.asm_base.specs.Tokens.{SpelledToken, spelled}
use Rattle.asm_expr.specs.NamesOf.{names_of}
use Rattle.asm_operands.specs.Constants.{IsConstant}
use Rattle.asm_operands.specs.Expressions.{expression_of}
use Rattle.asm_values.specs.State.{Placed}
use Rattle.asm_values.specs.PlacedBy.{placed_by}
use Rattle.asm_front.specs.Knowing.{value_told, known_among}
use Rattle.asm_front.proofs.knowing.value_told.Goals as goal

constant_told : (placed : Placed) (tokens : List SpelledToken) (value : ℕ) → IsConstant tokens value → value_told placed tokens ≡ Ok value
unfolding value_told expression_of
constant_told placed tokens value one = rw (one.reads, one.counts (known_among (names_of one.tree) placed)) refl

pub returns-in-Some : goal.returns-in-Some
returns-in-Some c = constant_told (placed_by c.args.assembler.now) (map spelled c.args.tokens.now) c.in-Some.value c.in-Some.ensures
