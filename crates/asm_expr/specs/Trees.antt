-- The trees of expressions, without the places where the program keeps their nodes.
use Rattle.std.specs.Prelude.{ℕ, ◌+◌, max}
use Rattle.asm_expr.specs.declared.trees.Written.{Written}
use Rattle.asm_expr.specs.declared.trees.UnaryOp.{UnaryOp}
use Rattle.asm_expr.specs.declared.trees.BinaryOp.{BinaryOp}
use Rattle.asm_expr.specs.declared.trees.Expr.{Expr}
use Rattle.asm_expr.specs.declared.trees.Expr.TheVariants.{Num, Name, Here, Unary', Binary'}

-- a number, a name, the place of the statement, or an operator with its operands
pub data Tree : Type 0 where
  number : ℕ → Tree
  name : Written → Tree
  here : Tree
  unary : UnaryOp → Tree → Tree
  binary : BinaryOp → Tree → Tree → Tree

-- the tree of an expression of the program
abbrev pub tree_of : Expr → Tree
tree_of (Num value) = number value
tree_of (Name written) = name written
tree_of Here = here
tree_of (Unary' op p operand) = unary op (tree_of operand)
tree_of (Binary' op p left q right) = binary op (tree_of left) (tree_of right)

-- how many nodes stand one above the other
unfoldable pub height : Tree → ℕ
height (number value) = 1
height (name written) = 1
height here = 1
height (unary op operand) = 1 + height operand
height (binary op left right) = 1 + max (height left) (height right)
