-- The end of operands.
use Rattle.std.proofs.Common.{◌≡◌, List, [], ◌∷◌, Ok, refl}
use Rattle.asm_base.specs.Tokens.{SpelledToken}
use Rattle.asm_operands.specs.Expressions.{no_more}

-- where no operand is left, whatever was made is the answer
pub ended : {A B : Type 0} (operands : List (List SpelledToken)) (one : A) (other : B) → no_more operands one ≡ Ok one → no_more operands other ≡ Ok other
ended [] one other is = refl
ended (operand ∷ operands) one other is = absurd cc
