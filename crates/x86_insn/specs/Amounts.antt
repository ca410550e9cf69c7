-- The expressions that the amounts of values stand for.
use Rattle.std.specs.Prelude.{ℕ, List}
use Rattle.asm_expr.specs.declared.trees.Written.TheVariants.{Plain}
use Rattle.asm_expr.specs.declared.trees.BinaryOp.TheVariants.{Add}
use Rattle.asm_expr.specs.Trees.{Tree, number, name, binary, tree_of}
use Rattle.x86_insn.specs.declared.amounts.Amount.{Amount}
use Rattle.x86_insn.specs.declared.amounts.Amount.TheVariants as amount

-- a symbol and a number more
abbrev pub named_tree : List ℕ → ℕ → Tree
named_tree bytes more = binary Add (name (Plain bytes)) (number more)

-- the expression that an amount stands for
abbrev pub amount_tree : Amount → Tree
amount_tree (amount.Number value) = number value
amount_tree (amount.Name bytes more) = named_tree bytes.now more
amount_tree (amount.Tree boxed) = tree_of boxed.value
