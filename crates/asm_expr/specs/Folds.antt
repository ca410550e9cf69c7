-- What a visitor answers for a tree, by cases of the tree.
use Rattle.std.specs.Prelude.{ℕ}
use Rattle.asm_expr.specs.declared.trees.Written.{Written}
use Rattle.asm_expr.specs.declared.trees.UnaryOp.{UnaryOp}
use Rattle.asm_expr.specs.declared.trees.BinaryOp.{BinaryOp}
use Rattle.asm_expr.specs.Trees.{Tree, number, name, here, unary, binary}

-- the visitor at first, the answer, and the visitor at last: operands come from left to right, then the operator
abbrev pub Folds : {V Out : Type 0} (num_gives : V → ℕ → Out → V → Type 0) (name_gives : V → Written → Out → V → Type 0) (here_gives : V → Out → V → Type 0)
    (unary_gives : V → UnaryOp → Out → Out → V → Type 0) (binary_gives : V → BinaryOp → Out → Out → Out → V → Type 0)
    → Tree → V → Out → V → Type 0
Folds num_gives name_gives here_gives unary_gives binary_gives (number value) first answer last = num_gives first value answer last
Folds num_gives name_gives here_gives unary_gives binary_gives (name written) first answer last = name_gives first written answer last
Folds num_gives name_gives here_gives unary_gives binary_gives here first answer last = here_gives first answer last
Folds {V} {Out} num_gives name_gives here_gives unary_gives binary_gives (unary op operand) first answer last =
    (middle : V) × (below : Out)
    × (Folds num_gives name_gives here_gives unary_gives binary_gives operand first below middle)
    × (unary_gives middle op below answer last)
Folds {V} {Out} num_gives name_gives here_gives unary_gives binary_gives (binary op left right) first answer last =
    (second : V) × (third : V) × (before : Out) × (behind : Out)
    × (Folds num_gives name_gives here_gives unary_gives binary_gives left first before second)
    × (Folds num_gives name_gives here_gives unary_gives binary_gives right second behind third)
    × (binary_gives third op before behind answer last)
