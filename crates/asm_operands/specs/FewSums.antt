-- Operands that are one or two sums, of one or two summands or of up to three; and a name and a sum.
use Rattle.std.specs.Prelude.{◌≡◌, List, [], ◌∷◌, Option, None, Some, Ok}
use Rattle.asm_base.specs.Tokens.{SpelledToken}
use Rattle.asm_expr.specs.Trees.{Tree}
use Rattle.asm_operands.specs.Sums.{long_tree, sum_tree}
use Rattle.asm_operands.specs.declared.sum_operands.LongSums.{LongSums}
use Rattle.asm_operands.specs.declared.sum_operands.LongSums.TheVariants as long
use Rattle.asm_operands.specs.Expressions.{expression_of}
use Rattle.asm_operands.specs.Operands.{operands_of, each}
use Rattle.asm_expr.specs.declared.naming.Name.TheVariants.{Plain}
use Rattle.asm_operands.specs.declared.sum_operands.FewSums.{FewSums}
use Rattle.asm_operands.specs.declared.sum_operands.FewSums.TheVariants.{One, Two}
use Rattle.asm_operands.specs.declared.sum_operands.NamedSum.{NamedSum}
use Rattle.asm_operands.specs.NamedTrees.{NamedTree, named_tree}

-- the trees of one or two sums
abbrev pub few_trees : FewSums → List Tree
few_trees (One sum) = sum_tree sum ∷ []
few_trees (Two sum other) = sum_tree sum ∷ sum_tree other ∷ []

-- sums that are found are the operands; where none are found nothing is said
abbrev pub FindsFewSums : List SpelledToken → Option FewSums → Type 0
FindsFewSums tokens (Some few) = each expression_of (operands_of tokens) ≡ Ok (few_trees few)
FindsFewSums tokens None = Unit {0}

-- the trees of one or two sums of up to three summands
abbrev pub long_trees : LongSums → List Tree
long_trees (long.One sum) = long_tree sum ∷ []
long_trees (long.Two sum other) = long_tree sum ∷ long_tree other ∷ []

-- the same of these sums
abbrev pub FindsLongSums : List SpelledToken → Option LongSums → Type 0
FindsLongSums tokens (Some sums) = each expression_of (operands_of tokens) ≡ Ok (long_trees sums)
FindsLongSums tokens None = Unit {0}

-- the name and the tree of a sum with a name before it
abbrev pub named_sum_tree : NamedSum → NamedTree
named_sum_tree words = record { name = Plain words.name.now; tree = sum_tree words.sum }

-- a name and a sum that are found are the operands; where none are found nothing is said
abbrev pub FindsNamedSum : List SpelledToken → Option NamedSum → Type 0
FindsNamedSum tokens (Some words) = named_tree (operands_of tokens) ≡ Ok (named_sum_tree words)
FindsNamedSum tokens None = Unit {0}
