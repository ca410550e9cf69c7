-- Operands that are sums are the trees of those sums.
use Rattle.std.proofs.Common.{◌≡◌, ℕ, List, [], ◌∷◌, Some, Ok, ap, ◌∙◌}
use Rattle.asm_base.specs.Tokens.{SpelledToken}
use Rattle.asm_base.specs.Refusals.{◌>>=◌}
use Rattle.asm_expr.specs.declared.naming.Name.TheVariants.{Plain}
use Rattle.expr_texts.specs.Reading.{read, reading}
use Rattle.asm_expr.specs.Trees.{Tree}
use Rattle.asm_operands.specs.declared.sums.Sum.{Sum}
use Rattle.asm_operands.specs.Sums.{sum_tree, FindsSum}
use Rattle.asm_operands.specs.ExprFaults.{in_statement}
use Rattle.asm_operands.specs.Expressions.{alone, expression_of}
use Rattle.asm_operands.specs.Operands.{name_of, each}
use Rattle.asm_operands.specs.NamedTrees.{named_tree}
use Rattle.asm_operands.proofs.NamedLemmas.{name_and_tree}

-- a sum is one expression
reads_tree : (operand : List SpelledToken) (tree : Tree) → reading 1 0 operand ≡ Ok (read tree []) → expression_of operand ≡ Ok tree
unfolding expression_of
reads_tree operand tree reads = ap (λ read. in_statement read >>= λ found. alone found.rest found.tree) reads

module _ (operand : List SpelledToken) (tree : Tree) (reads : reading 1 0 operand ≡ Ok (read tree [])) where
  one_alone : each expression_of (operand ∷ []) ≡ Ok (tree ∷ [])
  unfolding each
  one_alone = ap (λ read. read >>= λ tree. Ok (tree ∷ [])) (reads_tree operand tree reads)

  two_alone : (other : List SpelledToken) (second : Tree) → reading 1 0 other ≡ Ok (read second [])
      → each expression_of (operand ∷ other ∷ []) ≡ Ok (tree ∷ second ∷ [])
  unfolding each
  two_alone other second more =
      ap (λ read. read >>= λ tree. (expression_of other >>= λ behind. Ok (behind ∷ [])) >>= λ others. Ok (tree ∷ others)) (reads_tree operand tree reads)
      ∙ ap (λ read. (read >>= λ behind. Ok (behind ∷ [])) >>= λ others. Ok (tree ∷ others)) (reads_tree other second more)

  -- one expression is all there is
  pub one_tree : (all first rest : List (List SpelledToken)) → first ≡ all → first ≡ operand ∷ rest → rest ≡ []
      → each expression_of all ≡ Ok (tree ∷ [])
  one_tree all first rest is front end = rw (← is, front, end) one_alone

  -- two expressions are all there is
  pub two_trees : (all first rest last : List (List SpelledToken)) (other : List SpelledToken) (second : Tree) → reading 1 0 other ≡ Ok (read second [])
      → first ≡ all → first ≡ operand ∷ rest → rest ≡ other ∷ last → last ≡ [] → each expression_of all ≡ Ok (tree ∷ second ∷ [])
  two_trees all first rest last other second more is front next end = rw (← is, front, next, end) (two_alone other second more)

-- a name and a sum are all there is
pub name_and_sum : (operand : List SpelledToken) (sum : Sum) → FindsSum operand (Some sum)
    → (all first rest last : List (List SpelledToken)) (name : List ℕ) (named : List SpelledToken) → name_of named ≡ Ok name
    → first ≡ all → first ≡ named ∷ rest → rest ≡ operand ∷ last → last ≡ []
    → named_tree all ≡ Ok (record { name = Plain name; tree = sum_tree sum })
name_and_sum operand sum reads = name_and_tree operand (sum_tree sum) (reads_tree operand (sum_tree sum) reads)
