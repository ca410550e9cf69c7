-- The kinds of symbols (GNU as manual, ".type"): their words, and operands that are a name and a kind.
use Rattle.std.specs.Prelude.{ℕ, ◌&&◌, List, [], ◌∷◌, codes, Result, Ok, Err, if◌then◌else◌, ◌≡◌, Option, None, Some}
use Rattle.std.specs.Str.{bytes_eq}
use Rattle.asm_operands.specs.declared.place_faults.PlaceCause.{PlaceCause}
use Rattle.asm_operands.specs.declared.place_faults.PlaceCause.TheVariants.{BadOperand}
use Rattle.asm_base.specs.Tokens.{SpelledToken}
use Rattle.asm_expr.specs.declared.naming.Name.TheVariants as naming
use Rattle.asm_symbols.specs.declared.entries.Kind.{Kind}
use Rattle.asm_symbols.specs.declared.entries.Kind.TheVariants.{NoType, Object, Function, Tls, Common}
use Rattle.asm_words.specs.declared.symbol_kinds.NamedKind.{NamedKind}
use Rattle.asm_base.specs.Refusals.{◌>>=◌}
use Rattle.asm_operands.specs.Operands.{is_name, name_of, operands_of, needed}
use Rattle.asm_operands.specs.Expressions.{no_more}
use Rattle.asm_words.specs.SectionWords.{begins_type}
use Rattle.asm_expr.specs.declared.naming.Name.TheVariants.{Plain}
use Rattle.asm_words.specs.declared.symbol_kinds.BareKind.{BareKind}

-- the kind of a symbol by its word (gABI, chapter 4, "Symbol Table")
unfoldable pub kind_named : List ℕ → Result Kind PlaceCause
kind_named word =
    if bytes_eq word (codes "function") then Ok Function
    else (if bytes_eq word (codes "object") then Ok Object
    else (if bytes_eq word (codes "notype") then Ok NoType
    else (if bytes_eq word (codes "tls_object") then Ok Tls
    else (if bytes_eq word (codes "common") then Ok Common
    else Err BadOperand))))

-- a kind behind `@` or `%`
unfoldable pub kind_of : List SpelledToken → Result Kind PlaceCause
kind_of (mark ∷ word ∷ []) = if begins_type mark && is_name word then kind_named word.bytes else Err BadOperand
kind_of _ = Err BadOperand

-- the operands of `.type`: a name and a kind
unfoldable pub named_kind : List (List SpelledToken) → Result NamedKind PlaceCause
named_kind operands =
    needed name_of operands >>= λ name. needed kind_of name.1 >>= λ kind.
    no_more kind.1 (record { name = naming.Plain name.0; kind = kind.0 })

-- a kind that is found is the operand; where none is found nothing is said
abbrev pub FindsKind : List SpelledToken → Option Kind → Type 0
FindsKind operand (Some kind) = kind_of operand ≡ Ok kind
FindsKind operand None = Unit {0}

-- a name and a kind that are found are the operands; where none are found nothing is said
abbrev pub FindsBareKind : List SpelledToken → Option BareKind → Type 0
FindsBareKind tokens (Some words) = named_kind (operands_of tokens) ≡ Ok (record { name = Plain words.name.now; kind = words.kind })
FindsBareKind tokens None = Unit {0}
