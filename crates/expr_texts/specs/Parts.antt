-- The parts of a tree, and a measure of a visitor that each of them raises.
use Rattle.std.specs.Prelude.{◌≡◌, ℕ, ◌+◌, ◌≤◌}
use Rattle.asm_expr.specs.declared.trees.Written.{Written}
use Rattle.asm_expr.specs.declared.trees.UnaryOp.{UnaryOp}
use Rattle.asm_expr.specs.declared.trees.BinaryOp.{BinaryOp}
use Rattle.asm_expr.specs.Trees.{Tree, number, name, here, unary, binary}

-- how many numbers, names, places and operators a tree has
unfoldable pub parts : Tree → ℕ
parts (number value) = 1
parts (name written) = 1
parts here = 1
parts (unary op operand) = 1 + parts operand
parts (binary op left right) = 1 + parts left + parts right

-- each call of a visitor takes the measure before and after it as the relation has them
pub record EachCall {V Out : Type 0} (num_gives : V → ℕ → Out → V → Type 0) (name_gives : V → Written → Out → V → Type 0) (here_gives : V → Out → V → Type 0)
    (unary_gives : V → UnaryOp → Out → Out → V → Type 0) (binary_gives : V → BinaryOp → Out → Out → Out → V → Type 0)
    (moves : V → V → Type 0) : Type 0 where
  pub num : (before : V) (value : ℕ) (answer : Out) (after : V) → num_gives before value answer after → moves before after
  pub name : (before : V) (written : Written) (answer : Out) (after : V) → name_gives before written answer after → moves before after
  pub here : (before : V) (answer : Out) (after : V) → here_gives before answer after → moves before after
  pub unary : (before : V) (op : UnaryOp) (operand answer : Out) (after : V) → unary_gives before op operand answer after → moves before after
  pub binary : (before : V) (op : BinaryOp) (left right answer : Out) (after : V) → binary_gives before op left right answer after → moves before after

-- the measure rises by just so much
abbrev pub RisesBy : {V : Type 0} (count : V → ℕ) → ℕ → V → V → Type 0
RisesBy count by before after = count after ≡ count before + by

-- the measure rises by no more than so much
abbrev pub RisesByAtMost : {V : Type 0} (count : V → ℕ) → ℕ → V → V → Type 0
RisesByAtMost count by before after = count after ≤ count before + by
