-- The instances of numeric labels, and the values of assigned symbols.
use Rattle.std.specs.Prelude.{ℕ, ◌+◌, ◌-◌, ◌^◌, ◌==◌, nat_eq, min, Bool, true, not, List, [], ◌∷◌, Option, None, Some, Result, slice_get, unwrap_or, option_and_then, if◌then◌else◌, ℤ}
use Rattle.std.specs.Int.{w64, cast_signed}
use Rattle.std.specs.Map.{lookup}
use Rattle.indexmap.specs.IndexMap.{insert_entry}
use Rattle.asm_expr.specs.declared.naming.Name.{Name}
use Rattle.asm_expr.specs.declared.naming.Name.TheVariants as naming
use Rattle.asm_expr.specs.declared.forms.Term.{Term}
use Rattle.asm_expr.specs.declared.trees.Written.{Written}
use Rattle.asm_expr.specs.declared.trees.Written.TheVariants.{Plain, Back, Next}
use Rattle.asm_symbols.specs.declared.entries.Meaning.{Meaning}
use Rattle.asm_symbols.specs.declared.entries.Meaning.TheVariants as meaning
use Rattle.asm_symbols.specs.declared.entries.Definition.{Definition}
use Rattle.asm_symbols.specs.declared.entries.Definition.TheVariants as definition
use Rattle.asm_base.specs.declared.causes.SymCause.{SymCause}
use Rattle.asm_symbols.specs.SymbolMap.{SymbolMap, names, index_of}
use Rattle.asm_symbols.specs.Interning.{named}

-- how often a numeric label is defined
abbrev pub counted : List (ℕ × ℕ) → ℕ → ℕ
counted counts number = unwrap_or (lookup (nat_eq number) counts) 0

-- how often each numeric label is defined after this definition: the next instance counts, and no other
abbrev pub counts_after : Name → Definition → List (ℕ × ℕ) → List (ℕ × ℕ)
counts_after (naming.Numeric number instance) (definition.Label spot) counts =
    if instance == counted counts number + 1 then insert_entry nat_eq counts number instance else counts
counts_after _ _ counts = counts

-- the instance behind those that are defined; none is above the last u32
abbrev pub next_instance : ℕ → ℕ
next_instance count = min (count + 1) (2 ^ 32 - 1)

-- the name that is meant: `Nb` is the instance that is counted, and `Nf` the next one
abbrev pub meant_name : List (ℕ × ℕ) → Written → Name
meant_name counts (Plain text) = naming.Plain text
meant_name counts (Back number) = naming.Numeric number (counted counts number)
meant_name counts (Next number) = naming.Numeric number (next_instance (counted counts number))

-- `Nb` means a label that came before; any other name may be a new one
abbrev pub may_be_meant : List (ℕ × ℕ) → Written → Bool
may_be_meant counts (Plain text) = true
may_be_meant counts (Back number) = not (counted counts number == 0)
may_be_meant counts (Next number) = true

-- the map where the next instance of the numeric label is a symbol's name, and the symbol's index
unfoldable pub next_named : SymbolMap → ℕ → Result (SymbolMap × ℕ) SymCause
next_named map number = named map (naming.Numeric number (next_instance (counted map.counts number)))

-- the last instance that is defined
unfoldable pub last_named : SymbolMap → ℕ → Option ℕ
last_named map number = last_by (counted map.counts number)
  where
    last_by : ℕ → Option ℕ
    last_by count = if count == 0 then None else index_of (naming.Numeric number count) (names map.symbols)

-- the value of a form without symbols, as a signed number
abbrev pub constant_value : List Term → ℕ → Option ℤ
constant_value [] constant = Some (cast_signed w64 constant)
constant_value (term ∷ terms) constant = None

-- the value of an assigned symbol whose form is without symbols
abbrev pub assigned_value : Meaning → Option ℤ
assigned_value (meaning.Assigned form) = constant_value form.terms form.constant
assigned_value _ = None

-- the value of the symbol at this index, where it is known
unfoldable pub known_value : SymbolMap → ℕ → Option ℤ
known_value map index = option_and_then (λ symbol. assigned_value symbol.meaning) (slice_get map.symbols index)
