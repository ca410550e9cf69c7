-- Operands that are a name without quotes and a kind.
use Rattle.std.proofs.Common.{◌≡◌, ℕ, List, ◌∷◌, Ok, ap, [], ◌∙◌}
use Rattle.asm_base.specs.Tokens.{SpelledToken}
use Rattle.asm_base.specs.Refusals.{◌>>=◌}
use Rattle.asm_operands.specs.Operands.{name_of, needed}
use Rattle.asm_expr.specs.declared.naming.Name.TheVariants.{Plain}
use Rattle.asm_symbols.specs.declared.entries.Kind.{Kind}
use Rattle.asm_operands.specs.Expressions.{no_more}
use Rattle.asm_words.specs.SymbolKinds.{kind_of, named_kind}

-- a name that has to be there
needed_so : (name : List ℕ) (named : List SpelledToken) (rest : List (List SpelledToken)) → name_of named ≡ Ok name
    → needed name_of (named ∷ rest) ≡ Ok (name, rest)
needed_so name named rest is = ap (λ read. read >>= λ made. Ok (made, rest)) is

-- a name and a kind are all there is
kind_so : (operand : List SpelledToken) (kind : Kind) → kind_of operand ≡ Ok kind → needed kind_of (operand ∷ []) ≡ Ok (kind, [])
kind_so operand kind reads = ap (λ read. read >>= λ made. Ok (made, [])) reads

kind_alone : (operand : List SpelledToken) (kind : Kind) (name : List ℕ) (named : List SpelledToken) → kind_of operand ≡ Ok kind → name_of named ≡ Ok name
    → named_kind (named ∷ operand ∷ []) ≡ Ok (record { name = Plain name; kind = kind })
unfolding named_kind
kind_alone operand kind name named reads called =
    ap (λ read. read >>= λ name. needed kind_of name.1 >>= λ made. no_more made.1 (record { name = Plain name.0; kind = made.0 })) (needed_so name named (operand ∷ []) called)
    ∙ ap (λ read. read >>= λ made. no_more made.1 (record { name = Plain name; kind = made.0 })) (kind_so operand kind reads)

pub name_and_kind : (operand : List SpelledToken) (kind : Kind) → kind_of operand ≡ Ok kind
    → (all first rest last : List (List SpelledToken)) (name : List ℕ) (named : List SpelledToken) → name_of named ≡ Ok name
    → first ≡ all → first ≡ named ∷ rest → rest ≡ operand ∷ last → last ≡ []
    → named_kind all ≡ Ok (record { name = Plain name; kind = kind })
name_and_kind operand kind reads all first rest last name named called is front next end =
    rw (← is, front, next, end) (kind_alone operand kind name named reads called)
