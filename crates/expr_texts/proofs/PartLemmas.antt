-- What each call of a visitor raises by one, a fold raises by the number of the parts.
use Rattle.std.proofs.Common.{ℕ, arith}
use Rattle.asm_expr.specs.declared.trees.Written.{Written}
use Rattle.asm_expr.specs.declared.trees.UnaryOp.{UnaryOp}
use Rattle.asm_expr.specs.declared.trees.BinaryOp.{BinaryOp}
use Rattle.asm_expr.specs.Trees.{Tree, number, name, here, unary, binary}
use Rattle.asm_expr.specs.Folds.{Folds}
use Rattle.expr_texts.specs.Parts.{parts, EachCall, RisesBy, RisesByAtMost}

module _ {V Out : Type 0} (num_gives : V → ℕ → Out → V → Type 0) (name_gives : V → Written → Out → V → Type 0) (here_gives : V → Out → V → Type 0)
    (unary_gives : V → UnaryOp → Out → Out → V → Type 0) (binary_gives : V → BinaryOp → Out → Out → Out → V → Type 0) (count : V → ℕ) where
  pub fold_rises : EachCall num_gives name_gives here_gives unary_gives binary_gives (RisesBy count 1) → (tree : Tree) (first : V) (answer : Out) (last : V)
      → Folds num_gives name_gives here_gives unary_gives binary_gives tree first answer last → RisesBy count (parts tree) first last
  unfolding parts
  fold_rises each (number value) first answer last folds = each.num first value answer last folds
  fold_rises each (name written) first answer last folds = each.name first written answer last folds
  fold_rises each here first answer last folds = each.here first answer last folds
  fold_rises each (unary op operand) first answer last folds =
      let below = fold_rises each operand first folds.1 folds.0 folds.2 in
      let top = each.unary folds.0 op folds.1 answer last folds.3 in
      omega arith
  fold_rises each (binary op left right) first answer last folds =
      let one = fold_rises each left first folds.2 folds.0 folds.4 in
      let other = fold_rises each right folds.0 folds.3 folds.1 folds.5 in
      let top = each.binary folds.1 op folds.2 folds.3 answer last folds.6 in
      omega arith

  pub fold_rises_at_most : EachCall num_gives name_gives here_gives unary_gives binary_gives (RisesByAtMost count 1) → (tree : Tree) (first : V) (answer : Out) (last : V)
      → Folds num_gives name_gives here_gives unary_gives binary_gives tree first answer last → RisesByAtMost count (parts tree) first last
  unfolding parts
  fold_rises_at_most each (number value) first answer last folds = each.num first value answer last folds
  fold_rises_at_most each (name written) first answer last folds = each.name first written answer last folds
  fold_rises_at_most each here first answer last folds = each.here first answer last folds
  fold_rises_at_most each (unary op operand) first answer last folds =
      let below = fold_rises_at_most each operand first folds.1 folds.0 folds.2 in
      let top = each.unary folds.0 op folds.1 answer last folds.3 in
      omega arith
  fold_rises_at_most each (binary op left right) first answer last folds =
      let one = fold_rises_at_most each left first folds.2 folds.0 folds.4 in
      let other = fold_rises_at_most each right folds.0 folds.3 folds.1 folds.5 in
      let top = each.binary folds.1 op folds.2 folds.3 answer last folds.6 in
      omega arith
