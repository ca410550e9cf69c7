-- Fields of which the linker alone knows the value.
use Rattle.std.specs.Prelude.{◌≡◌, ℕ, ◌==◌, ◌&&◌, ◌||◌, Bool, true, false, not, List, sum_by, Option, None, Some, option_map, is_some, slice_get, if◌then◌else◌}
use Rattle.std.specs.Option.{option_and_then, option_map_or}
use Rattle.std.specs.List.{list_any}
use Rattle.asm_expr.specs.declared.forms.Term.{Term}
use Rattle.asm_expr.specs.Forms.{Form, wrapped}
use Rattle.asm_expr.specs.Knowledge.{Told, absent, constant, label, form}
use Rattle.asm_expr.specs.Settled.{settled}
use Rattle.asm_symbols.specs.declared.entries.Meaning.{Meaning}
use Rattle.asm_symbols.specs.Attributes.{is_weak}
use Rattle.asm_symbols.specs.SymbolMap.{SymbolMap}
use Rattle.asm_frags.specs.declared.fields.Field.{Field}
use Rattle.x86_insn.specs.declared.amounts.Suffix.{Suffix}
use Rattle.row_distances.specs.Places.{meant_place}

-- there is a suffix
abbrev pub is_suffixed : Option Suffix → Bool
is_suffixed suffix = is_some suffix

-- the term is of a symbol that is weak: another object may define it too
abbrev pub is_of_weak : SymbolMap → Term → Bool
is_of_weak map term = option_map_or (λ symbol. is_weak symbol.binding) (slice_get map.symbols term.symbol) false

-- the section where a symbol of this meaning stands, if it is a label or space of the object
abbrev pub meant_section : Meaning → Option ℕ
meant_section meaning = option_map (λ place. place.section) (meant_place meaning)

-- the section where the symbol at this index stands
abbrev pub section_of : SymbolMap → ℕ → Option ℕ
section_of map index = option_and_then (λ symbol. meant_section symbol.meaning) (slice_get map.symbols index)

-- how often a symbol that stands in the one section counts in the other one
abbrev pub counted_if : Option ℕ → ℕ → ℕ → ℕ
counted_if None section coefficient = 0
counted_if (Some own) section coefficient = if own == section then coefficient else 0

-- how often the term counts in this section
abbrev pub counted_in : SymbolMap → ℕ → Term → ℕ
counted_in map section term = counted_if (section_of map term.symbol) section term.coefficient

-- how often the labels of this section count in the terms
abbrev pub section_sum : SymbolMap → ℕ → List Term → ℕ
section_sum map section terms = sum_by (counted_in map section) terms

-- a symbol that stands there is left of the terms: it has no section, or the labels of this do not cancel
abbrev pub is_left_in : SymbolMap → List Term → Option ℕ → Bool
is_left_in map terms None = true
is_left_in map terms (Some section) = not (wrapped (section_sum map section terms) == 0)

-- the term is of a weak symbol, which is left when the labels of each section that cancel are taken out of the terms
abbrev pub is_weak_left : SymbolMap → List Term → Term → Bool
is_weak_left map terms term = is_of_weak map term && is_left_in map terms (section_of map term.symbol)

-- a weak symbol is left in the form when labels have cancelled; the place of a field is no symbol of the map, and cancels none
abbrev pub leaves_weak : SymbolMap → Form → Bool
leaves_weak map made = list_any (is_weak_left map made.terms) made.terms

-- the linker alone knows how far the symbol is from the field: it has a suffix, or is weak
abbrev pub is_linked : SymbolMap → Field → Bool
is_linked map field = is_suffixed field.role.suffix || leaves_weak map field.form

-- the stretch of a label, if a symbol is known as one
abbrev pub stretch_of : Told → Option ℕ
stretch_of (label stretch at) = Some stretch
stretch_of absent = None
stretch_of (constant number) = None
stretch_of (form other) = None

-- labels and space of the object, and no other symbols, are known by their sections, wherever they stand in them
abbrev pub AreBySection : SymbolMap → (ℕ → Told) → Type 0
AreBySection map told = (index : ℕ) → stretch_of (told index) ≡ section_of map index

-- a weak symbol is left exactly where one is named by the form once labels of one section that cancel are replaced by their places
abbrev pub WeakAreLeft : Type 0
WeakAreLeft = (map : SymbolMap) (told : ℕ → Told) (made : Form) → AreBySection map told
    → leaves_weak map made ≡ list_any (is_of_weak map) (settled told made).terms
