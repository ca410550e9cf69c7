-- Fields that the linker fills: the distance from itself to a place, the address of a place, and a form (psABI for AMD64, section 4.4, "Relocation").
use Rattle.std.specs.Prelude.{◌≡◌, ℕ, ◌+◌, ◌-◌, ◌^◌, ◌<◌, ◌≤◌, ◌==◌, Bool, false, true, List, [], ◌∷◌, length, IsSomeAnd, Option, None, Some, slice_get, if◌then◌else◌}
use Rattle.asm_base.specs.declared.places.SectionPlace.{SectionPlace}
use Rattle.asm_base.specs.declared.positions.Pos.{Pos}
use Rattle.asm_expr.specs.declared.forms.Term.{Term}
use Rattle.asm_expr.specs.Forms.{Form, wrapped, term_of, symbol_form}
use Rattle.asm_expr.specs.FormValues.{form_value}
use Rattle.asm_expr.specs.Settled.{settled}
use Rattle.asm_frags.specs.declared.fields.Field.{Field}
use Rattle.asm_frags.specs.declared.fields.FieldSize.{FieldSize}
use Rattle.asm_frags.specs.declared.fields.FieldSize.TheVariants.{Four, Eight}
use Rattle.asm_frags.specs.Fields.{data_role, low_bytes, own_place}
use Rattle.asm_frags.specs.SectionOf.{SectionOf}
use Rattle.asm_symbols.specs.Assigning.{form_at}
use Rattle.asm_symbols.specs.SymbolMap.{SymbolMap}
use Rattle.assigned_forms.specs.Linked.{linked}
use Rattle.asm_relax.specs.FieldValues.{told_in_field, held_value}
use Rattle.asm_relax.specs.Settling.{LaidItem, LaidSections}
use Rattle.elf_symbols.specs.declared.targets.Target.{Target}
use Rattle.elf_symbols.specs.declared.targets.Target.TheVariants.{OfSection, OfSymbol}
use Rattle.elf_symbols.specs.SymbolValues.{is_flagged}
use Rattle.elf_object.specs.declared.relocations.Relocation.{Relocation}
use Rattle.elf_object.specs.declared.relocations.RelocationKind.TheVariants.{Pc32, Direct64}
use Rattle.elf_object.specs.Faults.{object_fault}
use Rattle.elf_object.specs.FieldRelocations.{HasOneRelocation}
use Rattle.elf_object.specs.RelocationLaws.{PlaceStands, IsLinked}
use Rattle.elf_file.specs.Places.{PieceAt}
use Rattle.elf_object.specs.Image.{image_of}
use Rattle.elf_object.specs.Places.{section_offset, moved}
use Rattle.elf_object.specs.Relocations.{sized_kind, field_relocation, merge}
use Rattle.table_pieces.specs.declared.ends.SectionEnd.{SectionEnd}
use Rattle.table_pieces.specs.Found.{FieldBehind, NumberAt}
use Rattle.table_pieces.specs.Labels.{NamesPlace, PlacesAreLabels}
use Rattle.table_pieces.specs.Marks.{with_label, with_marks, distance_form, address_form}
use Rattle.table_pieces.specs.Pieces.{from_here}
use Rattle.table_pieces.specs.StandingPlaces.{HoldsItems}
use Rattle.piece_laws.specs.HeldDistances.{NamesStay}
use Rattle.piece_laws.specs.LaidTables.{place_address, end_address, LaidTable, StandsTo}

-- what a relocation names that leads to a place: its section, or in a section with SHF_MERGE, whose parts the linker may move, the label at the place
abbrev pub place_target : LaidSections → SectionPlace → ℕ → Target
place_target laid at label = if is_flagged laid merge at.section then OfSymbol label else OfSection at.section

-- how far the place stands behind what is named
abbrev pub place_addend : LaidSections → SectionPlace → ℕ
place_addend laid at = if is_flagged laid merge at.section then 0 else place_address laid at

-- R_X86_64_PC32 of a place, by its section or the label there, for a field at this offset: S + A - P is the distance from the field to the place
abbrev pub distance_relocation : LaidSections → ℕ → SectionPlace → ℕ → Relocation
distance_relocation laid offset at label = record { offset = offset; kind = Pc32; target = place_target laid at label; addend = place_addend laid at }

-- a data field of four bytes at this offset of the section, which has this number, holds the distance from itself to a place; where that is in another
-- section, the field has one relocation, by which the linker puts the distance there
pub record PointsTo (map : SymbolMap) (laid : LaidSections) (number : ℕ) (section : SectionOf LaidItem) (offset : ℕ) (at : SectionPlace) : Type 0 where
  pub index : ℕ
  pub field : Field
  pub there : slice_get section.fields index ≡ Some field
  pub own : field.section ≡ number
  pub plain : field.in_item ≡ false
  pub stands : moved section.items field.item field.offset ≡ offset
  pub size : field.size ≡ Four
  pub role : field.role ≡ data_role
  pub label : ℕ
  pub form : field.form ≡ record { terms = term_of label 1 ∷ term_of own_place (2 ^ 64 - 1) ∷ []; constant = 0 }
  pub names_it : NamesPlace map label at
  pub relocated : (at.section == number) ≡ false → HasOneRelocation map laid number index section field (distance_relocation laid offset at label)

-- R_X86_64_64 of a place, by its section or the label there, for a field at this offset: S + A is the address of the place
abbrev pub address_relocation : LaidSections → ℕ → SectionPlace → ℕ → Relocation
address_relocation laid offset at label = record { offset = offset; kind = Direct64; target = place_target laid at label; addend = place_addend laid at }

-- a data field of eight bytes at this offset of the section, which has this number, holds the address of a place: it has one relocation, by which the linker
-- puts it there
pub record HoldsAddress (map : SymbolMap) (laid : LaidSections) (number : ℕ) (section : SectionOf LaidItem) (offset : ℕ) (at : SectionPlace) : Type 0 where
  pub index : ℕ
  pub field : Field
  pub there : slice_get section.fields index ≡ Some field
  pub own : field.section ≡ number
  pub plain : field.in_item ≡ false
  pub stands : moved section.items field.item field.offset ≡ offset
  pub size : field.size ≡ Eight
  pub role : field.role ≡ data_role
  pub label : ℕ
  pub form : field.form ≡ symbol_form label
  pub names_it : NamesPlace map label at
  pub relocated : HasOneRelocation map laid number index section field (address_relocation laid offset at label)

-- what is left of a form takes a place of the section from a symbol: two terms
abbrev pub is_place_taken : List Term → Bool
is_place_taken [] = false
is_place_taken (term ∷ []) = false
is_place_taken (one ∷ other ∷ terms) = true

-- the terms of one symbol, alone or less the own place of a field
abbrev pub one_symbol : ℕ → Bool → List Term
one_symbol symbol false = term_of symbol 1 ∷ []
one_symbol symbol true = term_of symbol 1 ∷ term_of own_place (2 ^ 64 - 1) ∷ []

-- the linker fills the field with this index of the section: it has just one relocation. By the field's size that is R_X86_64_64 or R_X86_64_32, S + A, or,
-- where what is left of the form takes a place of the section from a symbol, R_X86_64_PC64 or R_X86_64_PC32, S + A - P; a form of one symbol does so exactly
-- where it takes the field's own place from that. What is calculated, wherever sections begin and symbols stand, is the value of the form
pub record LinkerFills (map : SymbolMap) (laid : LaidSections) (number index : ℕ) (section : SectionOf LaidItem) (field : Field) : Type 0 where
  pub relocation : Relocation
  pub one : HasOneRelocation map laid number index section field relocation
  pub kind : relocation.kind ≡ sized_kind (is_place_taken (settled (told_in_field map laid field) field.form).terms) field.size
  pub relative : (symbol : ℕ) (own : Bool) → field.form.terms ≡ one_symbol symbol own → relocation.kind ≡ sized_kind own field.size
  pub means : (begins given : ℕ → ℕ) (value : ℕ) → PlaceStands begins given laid field → IsLinked begins given map laid number relocation value
      → wrapped value ≡ form_value begins given (told_in_field map laid field) field.form

-- the bytes at this place of the file are those of the field's value, and it has no relocation; where it has no value they are 0, and the linker fills them
abbrev pub IsFilled : List ℕ → SymbolMap → LaidSections → ℕ → ℕ → SectionOf LaidItem → Field → ℕ → Option ℕ → Type 0
IsFilled file map laid number index section field at (Some value) =
    PieceAt file at (low_bytes field.size value) × (field_relocation map laid number section field ≡ None)
IsFilled file map laid number index section field at None = PieceAt file at (low_bytes field.size 0) × LinkerFills map laid number index section field

-- a data field of this size at this offset of the section, which has this number, is of this form, with the last forms of assigned symbols put in, and is
-- filled with its value, or by the linker
pub record HoldsForm (map : SymbolMap) (laid : LaidSections) (number : ℕ) (section : SectionOf LaidItem) (offset : ℕ) (size : FieldSize) (form : Form) : Type 0 where
  pub index : ℕ
  pub field : Field
  pub there : slice_get section.fields index ≡ Some field
  pub own : field.section ≡ number
  pub plain : field.in_item ≡ false
  pub stands : moved section.items field.item field.offset ≡ offset
  pub sized : field.size ≡ size
  pub role : field.role ≡ data_role
  pub is_form : field.form ≡ linked map form
  pub filled : IsFilled (image_of map laid) map laid number index section field (section_offset map laid number + offset) (held_value map laid field)

-- a form of one symbol that is no assigned one, alone or less the own place of the field, is that of the field as it is
abbrev pub OneSymbolsStay : Type 0
OneSymbolsStay = (map : SymbolMap) (laid : LaidSections) (number : ℕ) (section : SectionOf LaidItem) (offset : ℕ) (size : FieldSize) (form : Form) (symbol : ℕ) (own : Bool)
    → length map.symbols ≤ own_place → form_at map.symbols symbol ≡ None → form.terms ≡ one_symbol symbol own
    → (held : HoldsForm map laid number section offset size form) → held.field.form ≡ form

-- in an object the field of a form behind an end holds it
abbrev pub FormsAreHeld : Type 0
FormsAreHeld = (t : LaidTable) (size : FieldSize) (pos : Pos) (end : SectionEnd) (form : Form) → object_fault t.symbols t.laid ≡ None → StandsTo t.held end
    → FieldBehind size t.held t.number pos end form
    → IsSomeAnd (slice_get t.laid t.number) (λ section. HoldsForm t.symbols t.laid t.number section (end_address t.laid t.number end) size form)

-- the field of a pointer behind an end points to its place
abbrev pub PointersPoint : Type 0
PointersPoint = (t : LaidTable) (map : SymbolMap) (pos : Pos) (end : SectionEnd) (at : SectionPlace) → PlacesAreLabels map
    → NamesStay (with_marks map (from_here at)) t.symbols → StandsTo t.held end → HoldsItems t.sections at.section at.place.item → place_address t.laid at < 2 ^ 64
    → NumberAt t.held t.number pos end (distance_form map (from_here at))
    → IsSomeAnd (slice_get t.laid t.number) (λ section. PointsTo t.symbols t.laid t.number section (end_address t.laid t.number end) at)

-- the field of an address behind an end holds that of its place
abbrev pub AddressesAreHeld : Type 0
AddressesAreHeld = (t : LaidTable) (map : SymbolMap) (pos : Pos) (end : SectionEnd) (at : SectionPlace) → PlacesAreLabels map
    → NamesStay (with_label map at) t.symbols → StandsTo t.held end → HoldsItems t.sections at.section at.place.item → place_address t.laid at < 2 ^ 64
    → FieldBehind Eight t.held t.number pos end (address_form map at)
    → IsSomeAnd (slice_get t.laid t.number) (λ section. HoldsAddress t.symbols t.laid t.number section (end_address t.laid t.number end) at)
