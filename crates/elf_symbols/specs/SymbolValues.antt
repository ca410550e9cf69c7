-- Where symbols stand at the end, and how they are bound (gABI, chapter 4, "Symbol Table").
use Rattle.std.specs.Prelude.{ℕ, ◌+◌, ◌==◌, Bool, true, false, List, [], ◌∷◌, Option, None, Some, slice_get, unwrap_or, bit_and, if◌then◌else◌}
use Rattle.std.specs.Option.{option_map_or}
use Rattle.asm_expr.specs.declared.forms.Term.{Term}
use Rattle.asm_expr.specs.Forms.{Form, wrapped}
use Rattle.asm_expr.specs.Knowledge.{Told, absent, constant, label, form}
use Rattle.asm_frags.specs.SectionOf.{SectionOf}
use Rattle.asm_symbols.specs.declared.entries.Meaning.{Meaning}
use Rattle.asm_symbols.specs.declared.entries.Meaning.TheVariants as meaning
use Rattle.asm_symbols.specs.declared.entries.Binding.{Binding}
use Rattle.asm_symbols.specs.declared.entries.Binding.TheVariants.{Local, Global, Weak}
use Rattle.asm_symbols.specs.declared.entries.Spot.{Spot}
use Rattle.asm_symbols.specs.SymbolMap.{SymbolMap}
use Rattle.asm_relax.specs.Final.{address_of, final_told, final_form}
use Rattle.asm_relax.specs.Settling.{LaidSections}
use Rattle.elf_symbols.specs.declared.symbol_values.SymbolSection.{SymbolSection}
use Rattle.elf_symbols.specs.declared.symbol_values.SymbolSection.TheVariants.{Undefined, Absolute, Common, InSection, InGroup}
use Rattle.elf_symbols.specs.declared.symbol_values.SymbolValue.{SymbolValue}

-- a value that counts from the beginning of a section
abbrev pub symbol_value : SymbolSection → ℕ → SymbolValue
symbol_value section value = record { section = section; value = value }

-- a label and a number
abbrev pub label_value : Told → ℕ → Option SymbolValue
label_value (label section address) more = Some (symbol_value (InSection section) (wrapped (address + more)))
label_value absent more = None
label_value (constant number) more = None
label_value (form made) more = None

-- what a form stands for at the end: a number, or a label and a number
abbrev pub form_value : SymbolMap → LaidSections → List Term → ℕ → Option SymbolValue
form_value map sections [] number = Some (symbol_value Absolute number)
form_value map sections (term ∷ []) number = if term.coefficient == 1 then label_value (final_told map sections term.symbol) number else None
form_value map sections (first ∷ second ∷ more) number = None

-- what a form stands for at the end
abbrev pub final_value : SymbolMap → LaidSections → Form → Option SymbolValue
final_value map sections made = form_value map sections made.terms made.constant

-- where a place of the source stands
abbrev pub spot_value : LaidSections → Spot → SymbolValue
spot_value sections spot = symbol_value (InSection spot.place.section) (address_of sections spot.place.section spot.place.place.item spot.place.place.offset)

-- where a symbol stands, by what it is; one that is assigned what is neither a number nor a label and a number has no value
abbrev pub symbol_value_of : SymbolMap → LaidSections → Meaning → Option SymbolValue
symbol_value_of map sections meaning.Undefined = Some (symbol_value Undefined 0)
symbol_value_of map sections (meaning.Label spot) = Some (spot_value sections spot)
symbol_value_of map sections (meaning.Space spot) = Some (spot_value sections spot)
symbol_value_of map sections (meaning.Common size align) = Some (symbol_value Common align)
symbol_value_of map sections (meaning.Assigned made) = final_value map sections (final_form map sections made)

-- a symbol for which the linker finds a place is weak where that is said, and else global
abbrev pub linked_binding : Option Binding → Binding
linked_binding (Some Weak) = Weak
linked_binding (Some Local) = Global
linked_binding (Some Global) = Global
linked_binding None = Global

-- a symbol that stands in this object is local where nothing is said
abbrev pub binding_of : Meaning → Option Binding → Binding
binding_of meaning.Undefined said = linked_binding said
binding_of (meaning.Common size align) said = linked_binding said
binding_of (meaning.Label spot) said = unwrap_or said Local
binding_of (meaning.Space spot) said = unwrap_or said Local
binding_of (meaning.Assigned made) said = unwrap_or said Local

-- the binding is STB_LOCAL
abbrev pub is_local : Binding → Bool
is_local Local = true
is_local Global = false
is_local Weak = false

-- the section has the flag
abbrev pub has_flag : {Item : Type 0} → ℕ → SectionOf Item → Bool
has_flag flag section = bit_and section.flags.0 flag == flag

-- the section of this number is there and has the flag
abbrev pub is_flagged : LaidSections → ℕ → ℕ → Bool
is_flagged sections flag number = option_map_or (has_flag flag) (slice_get sections number) false

-- SHF_TLS: each thread has the section for itself (gABI, chapter 4, "Sections")
abbrev pub thread_local : ℕ
thread_local = 0x400

-- whether a symbol that stands there is each thread's own
abbrev pub is_thread_local : LaidSections → SymbolSection → Bool
is_thread_local sections Undefined = false
is_thread_local sections Absolute = false
is_thread_local sections Common = false
is_thread_local sections (InSection number) = is_flagged sections thread_local number
is_thread_local sections (InGroup index) = false
