-- The reading of an expression needs as many steps as tokens are left, and no more count.
use Rattle.std.proofs.Common.{◌≡◌, suc, ◌≤◌, Bool, true, false, cond, List, [], ◌∷◌, Ok, Err, length, refl, sym, ap, arith}
use Rattle.std.proofs.Common.{nat_lt}
use Rattle.std.proofs.lemmas.Bool.Decides.{nat_tests}
use Rattle.asm_base.specs.Tokens.{SpelledToken}
use Rattle.asm_expr.specs.declared.faults.ExprCause.TheVariants.{BadExpression, ExpressionTooDeep}
use Rattle.asm_expr.specs.Trees.{Tree, height}
use Rattle.expr_texts.specs.Operators.{closes}
use Rattle.expr_texts.specs.Reading.{Reading, Read, read, whole, closed_by}

pub whole_rest : (tree : Tree) (rest : List SpelledToken) (found : Reading) → whole tree rest ≡ Ok found → (found ≡ read tree rest) × (height tree ≤ 256)
unfolding whole
whole_rest tree rest found is = by (nat_lt 256 (height tree)) refl is
  where
    by : (b : Bool) → nat_lt 256 (height tree) ≡ b → cond b (Err ExpressionTooDeep) (Ok (read tree rest)) ≡ Ok found → (found ≡ read tree rest) × (height tree ≤ 256)
    by true test is = cc
    by false test is = (cc, grind (arith, nat_tests))

pub closed_rest : (tree : Tree) (rest : List SpelledToken) (found : Reading) → closed_by tree rest ≡ Ok found → (found.tree ≡ tree) × (suc (length found.rest) ≡ length rest)
closed_rest tree [] found is = cc
closed_rest tree (token ∷ rest) found is = by (closes token) is
  where
    by : (b : Bool) → cond b (Ok (read tree rest)) (Err BadExpression) ≡ Ok found → (found.tree ≡ tree) × (suc (length found.rest) ≡ suc (length rest))
    by true is = let same : read tree rest ≡ found = cc in (ap (λ (f : Reading). f.tree) (sym same), ap (λ (f : Reading). suc (length f.rest)) (sym same))
    by false is = cc

pub deeper_is : (b : Bool) (inner : Read) (found : Reading) → cond b inner (Err ExpressionTooDeep) ≡ Ok found → (b ≡ true) × (inner ≡ Ok found)
deeper_is true inner found is = (refl, is)
deeper_is false inner found is = cc
