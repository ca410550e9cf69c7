-- Operands that are a name and an expression.
use Rattle.std.proofs.Common.{◌≡◌, ℕ, List, [], ◌∷◌, Ok, ap, ◌∙◌}
use Rattle.asm_base.specs.Tokens.{SpelledToken}
use Rattle.asm_base.specs.Refusals.{◌>>=◌}
use Rattle.asm_expr.specs.declared.naming.Name.TheVariants.{Plain}
use Rattle.expr_texts.specs.Reading.{read}
use Rattle.asm_expr.specs.Trees.{Tree}
use Rattle.asm_operands.specs.Expressions.{expression_of, first_tree, no_more}
use Rattle.asm_operands.specs.Operands.{name_of, needed}
use Rattle.asm_operands.specs.NamedTrees.{named_tree}

-- a name that has to be there
needed_so : (name : List ℕ) (named : List SpelledToken) (rest : List (List SpelledToken)) → name_of named ≡ Ok name
    → needed name_of (named ∷ rest) ≡ Ok (name, rest)
needed_so name named rest is = ap (λ read. read >>= λ made. Ok (made, rest)) is

-- a name and an expression
first_so : (operand : List SpelledToken) (tree : Tree) → expression_of operand ≡ Ok tree → first_tree (operand ∷ []) ≡ Ok (tree, [])
unfolding first_tree
first_so operand tree reads = ap (λ read. read >>= λ made. Ok (made, [])) reads

named_alone : (operand : List SpelledToken) (tree : Tree) (name : List ℕ) (named : List SpelledToken) → expression_of operand ≡ Ok tree → name_of named ≡ Ok name
    → named_tree (named ∷ operand ∷ []) ≡ Ok (record { name = Plain name; tree = tree })
unfolding named_tree
named_alone operand tree name named reads is =
    ap (λ read. read >>= λ name. first_tree name.1 >>= λ made. no_more made.1 (record { name = Plain name.0; tree = made.0 }))
    (needed_so name named (operand ∷ []) is)
    ∙ ap (λ read. read >>= λ made. no_more made.1 (record { name = Plain name; tree = made.0 })) (first_so operand tree reads)

-- they are all there is
pub name_and_tree : (operand : List SpelledToken) (tree : Tree) → expression_of operand ≡ Ok tree
    → (all first rest last : List (List SpelledToken)) (name : List ℕ) (named : List SpelledToken) → name_of named ≡ Ok name
    → first ≡ all → first ≡ named ∷ rest → rest ≡ operand ∷ last → last ≡ []
    → named_tree all ≡ Ok (record { name = Plain name; tree = tree })
name_and_tree operand tree reads all first rest last name named called is front next end =
    rw (← is, front, next, end) (named_alone operand tree name named reads called)
