-- Operands that are names, or a name and an expression.
use Rattle.std.specs.Prelude.{ℕ, List, [], ◌∷◌, Result, Ok, ◌≡◌, Option, None, Some}
use Rattle.asm_operands.specs.declared.place_faults.PlaceCause.{PlaceCause}
use Rattle.asm_base.specs.Tokens.{SpelledToken}
use Rattle.asm_expr.specs.declared.naming.Name.{Name}
use Rattle.asm_expr.specs.declared.naming.Name.TheVariants as naming
use Rattle.asm_expr.specs.Trees.{Tree, tree_of}
use Rattle.asm_base.specs.Refusals.{◌>>=◌}
use Rattle.asm_operands.specs.Operands.{name_of, operands_of, each, needed}
use Rattle.asm_operands.specs.Expressions.{first_tree, no_more}
use Rattle.asm_expr.specs.declared.naming.Name.TheVariants.{Plain}
use Rattle.asm_operands.specs.declared.trees.NamedExpr.{NamedExpr}

-- the name that an operand gives a symbol
unfoldable pub plain_of : List SpelledToken → Result Name PlaceCause
plain_of operand = name_of operand >>= λ name. Ok (naming.Plain name)

-- a name and an expression
pub record NamedTree : Type 0 where
  pub name : Name
  pub tree : Tree

-- the operands of `.size` and `.set`: a name and an expression
unfoldable pub named_tree : List (List SpelledToken) → Result NamedTree PlaceCause
named_tree operands =
    needed name_of operands >>= λ name. first_tree name.1 >>= λ tree. no_more tree.1 (record { name = naming.Plain name.0; tree = tree.0 })

-- the name and the tree of the expression that were read
abbrev pub named_tree_in : NamedExpr → NamedTree
named_tree_in words = record { name = Plain words.name; tree = tree_of words.expr }

-- a name that is found is all that the operands name; where none is found nothing is said
abbrev pub FindsLoneName : List SpelledToken → Option (List ℕ) → Type 0
FindsLoneName tokens (Some name) = each plain_of (operands_of tokens) ≡ Ok (Plain name ∷ [])
FindsLoneName tokens None = Unit {0}

-- a name that is found is the operand; where none is found nothing is said
abbrev pub FindsBareName : List SpelledToken → Option (List ℕ) → Type 0
FindsBareName operand (Some name) = name_of operand ≡ Ok name
FindsBareName operand None = Unit {0}
