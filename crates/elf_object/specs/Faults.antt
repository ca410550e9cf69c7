-- Why there is no object: symbols that are not defined, then fields and sizes that cannot be said.
use Rattle.std.specs.Prelude.{◌≡◌, ℕ, ◌+◌, ◌&&◌, Bool, true, false, List, [], ◌∷◌, length, nat_le, nat_lt, find, is_none, Option, None, Some, option_map, if◌then◌else◌}
use Rattle.std.specs.List.{position_or_len}
use Rattle.asm_base.specs.declared.positions.Pos.{Pos}
use Rattle.asm_base.specs.declared.refusals.Refusal.{Refusal}
use Rattle.asm_base.specs.declared.refusals.Refusal.TheVariants.{Fault, NoMemory}
use Rattle.asm_expr.specs.Forms.{Form}
use Rattle.asm_frags.specs.declared.fields.Field.{Field}
use Rattle.asm_frags.specs.SectionOf.{SectionOf}
use Rattle.asm_symbols.specs.declared.entries.Symbol.{Symbol}
use Rattle.asm_symbols.specs.declared.entries.Meaning.{Meaning}
use Rattle.asm_symbols.specs.declared.entries.Meaning.TheVariants as meaning
use Rattle.asm_symbols.specs.SymbolMap.{SymbolMap}
use Rattle.asm_relax.specs.Faults.{or_later}
use Rattle.asm_relax.specs.Final.{field_value}
use Rattle.asm_relax.specs.Settling.{LaidItem, LaidSections}
use Rattle.elf_object.specs.declared.faults.ObjectCause.{ObjectCause}
use Rattle.elf_object.specs.declared.searching.UnknownSize.{UnknownSize}
use Rattle.elf_object.specs.declared.faults.ObjectCause.TheVariants.{UndefinedLocalSymbol, NoRelocation, SizeNotKnown}
use Rattle.elf_symbols.specs.FileLocals.{is_file_local}
use Rattle.elf_object.specs.Contents.{filed_fields, is_lost}

-- a symbol that is named and not defined
abbrev pub is_undefined : Meaning → Bool
is_undefined meaning.Undefined = true
is_undefined (meaning.Label spot) = false
is_undefined (meaning.Common size align) = false
is_undefined (meaning.Space spot) = false
is_undefined (meaning.Assigned form) = false

-- a symbol that must be defined in this file, and is not
abbrev pub is_undefined_local : Symbol → Bool
is_undefined_local symbol = is_file_local symbol.name && is_undefined symbol.meaning

-- the size of the symbol is said and has no value
abbrev pub unknown_size : SymbolMap → LaidSections → Option Form → Bool
unknown_size map sections None = false
unknown_size map sections (Some form) = is_none (field_value map sections form)

-- the fault of the first symbol that is so, by its index
abbrev pub fault_of_first : (Symbol → Bool) → (ℕ → ObjectCause) → List Symbol → Option ObjectCause
fault_of_first is_so fault symbols = if nat_lt (position_or_len is_so symbols) (length symbols) then Some (fault (position_or_len is_so symbols)) else None

-- the fault of the first symbol that must be defined in this file and is not
abbrev pub undefined_fault : SymbolMap → Option ObjectCause
undefined_fault map = fault_of_first is_undefined_local UndefinedLocalSymbol map.symbols

-- the fault of the first of these fields of the section of this number that has neither a value nor a relocation
unfoldable pub fields_fault : SymbolMap → LaidSections → ℕ → SectionOf LaidItem → List Field → Option ObjectCause
fields_fault map sections number section fields = option_map (λ field. NoRelocation field.pos) (find (is_lost map sections number section) fields)

-- the fault of the first such field of the section
abbrev pub field_fault_in : SymbolMap → LaidSections → ℕ → SectionOf LaidItem → Option ObjectCause
field_fault_in map sections number section = fields_fault map sections number section (filed_fields section)

-- the fault of the first of these sections that has one; they have the numbers from this one on
abbrev pub field_fault_from : SymbolMap → LaidSections → ℕ → List (SectionOf LaidItem) → Option ObjectCause
field_fault_from map sections number [] = None
field_fault_from map sections number (section ∷ more) = or_later (field_fault_in map sections number section) (field_fault_from map sections (number + 1) more)

-- the symbol at this index, if its size has no value
abbrev pub unknown_at : SymbolMap → LaidSections → ℕ → Symbol → Option UnknownSize
unknown_at map sections index symbol =
    if unknown_size map sections symbol.size then Some (record { symbol = index; statement = symbol.sized }) else None

-- the one whose `.size` statement comes first
abbrev pub earlier : Option UnknownSize → Option UnknownSize → Option UnknownSize
earlier None other = other
earlier (Some one) None = Some one
earlier (Some one) (Some other) = if nat_le one.statement other.statement then Some one else Some other

-- of these symbols, which have the indices from this one on, the one of the first `.size` statement without a value
abbrev pub first_unknown : SymbolMap → LaidSections → ℕ → List Symbol → Option UnknownSize
first_unknown map sections index [] = None
first_unknown map sections index (symbol ∷ symbols) =
    earlier (unknown_at map sections index symbol) (first_unknown map sections (index + 1) symbols)

-- sizes without a value are told in the order of the `.size` statements that count
abbrev pub size_fault : SymbolMap → LaidSections → Option ObjectCause
size_fault map sections = option_map (λ found. SizeNotKnown found.symbol) (first_unknown map sections 0 map.symbols)

-- the first fault: symbols in the order in which they are first named, then fields in the order of sections and offsets, then sizes in
-- the order of their statements
unfoldable pub object_fault : SymbolMap → LaidSections → Option ObjectCause
object_fault map sections = or_later (undefined_fault map) (or_later (field_fault_from map sections 0 sections) (size_fault map sections))

-- a fault is the one that is due; want of memory may come at any point
abbrev pub IsDue : Refusal ObjectCause → Option ObjectCause → Type 0
IsDue (Fault fault) due = due ≡ Some fault
IsDue NoMemory due = Unit {0}

-- a fault is that of a field of this statement that is lost; want of memory may come at any point
abbrev pub IsLostAt : Pos → Bool → Refusal ObjectCause → Type 0
IsLostAt pos lost (Fault fault) = (fault ≡ NoRelocation pos) × (lost ≡ true)
IsLostAt pos lost NoMemory = Unit {0}
