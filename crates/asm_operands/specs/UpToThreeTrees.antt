-- The trees of a few expressions.
use Rattle.std.specs.Prelude.{List, option_map}
use Rattle.asm_expr.specs.declared.trees.Expr.{Expr}
use Rattle.asm_expr.specs.Trees.{Tree, tree_of}
use Rattle.asm_operands.specs.declared.up_to_three.UpToThree.{UpToThree}
use Rattle.asm_operands.specs.Expressions.{up_to_three_listed}

-- the trees of the expressions, each where it is given
abbrev pub trees_in : UpToThree Expr → UpToThree Tree
trees_in few = record { first = tree_of few.first; second = option_map tree_of few.second; third = option_map tree_of few.third }

-- the trees of the expressions that are given, as a list
abbrev pub trees_listed : UpToThree Expr → List Tree
trees_listed few = up_to_three_listed (trees_in few)
