-- What is said of one name alone.
use Rattle.std.proofs.Common.{◌≡◌, ℕ, Bool, List, [], ◌∷◌, Result, Ok, Err, refl, sym, ap, ◌∙◌}
use Rattle.std.specs.List.{list_any}
use Rattle.asm_base.specs.Tokens.{SpelledToken}
use Rattle.asm_base.specs.Refusals.{◌>>=◌}
use Rattle.asm_base.specs.declared.positions.Pos.{Pos}
use Rattle.asm_expr.specs.declared.naming.Name.{Name}
use Rattle.asm_expr.specs.declared.naming.Name.TheVariants.{Plain}
use Rattle.asm_symbols.specs.declared.entries.SymbolAttribute.{SymbolAttribute}
use Rattle.asm_declarations.specs.BareNames.{say_name}
use Rattle.asm_operands.specs.Operands.{is_dot, operands_of, each}
use Rattle.asm_operands.specs.Results.{all_steps}
use Rattle.asm_values.specs.State.{Placed, with_table, unless_dot}
use Rattle.asm_uses.specs.Attributes.{say_one, say_all}
use Rattle.asm_operands.specs.NamedTrees.{plain_of}
use Rattle.asm_declarations.specs.SymbolWords.{place_said}
use Rattle.asm_uses.specs.Tables.{Table}

-- what is said of one name alone
done : {A F : Type 0} → (made : Result A F) → (made >>= Ok) ≡ made
done (Ok value) = refl
done (Err fault) = refl

said_one : (pos : Pos) (attribute : SymbolAttribute) (name : Name) (table : Table) → say_all pos attribute (name ∷ []) table ≡ say_one pos attribute name table
unfolding say_all all_steps
said_one pos attribute name table = done (say_one pos attribute name table)

pub said_alone : (pos : Pos) (attribute : SymbolAttribute) (tokens : List SpelledToken) (name : List ℕ) (dot : Bool) (placed : Placed)
    → each plain_of (operands_of tokens) ≡ Ok (Plain name ∷ []) → dot ≡ list_any is_dot tokens
    → say_name pos attribute name dot placed ≡ place_said pos attribute tokens placed
unfolding place_said each
said_alone pos attribute [] name dot placed is same = cc
said_alone pos attribute (token ∷ rest) name dot placed is same =
    ap (λ d. say_name pos attribute name d placed) same
    ∙ sym (ap (λ read. read >>= λ names. say_all pos attribute names placed.table >>= λ table. unless_dot (list_any is_dot (token ∷ rest)) (with_table placed table)) is
    ∙ ap (λ made. made >>= λ table. unless_dot (list_any is_dot (token ∷ rest)) (with_table placed table)) (said_one pos attribute (Plain name) placed.table))
