-- The distances between marks that fields hold, and their values in a layout.
use Rattle.std.specs.Prelude.{◌≡◌, ℕ, ◌+◌, ◌-◌, ◌^◌, ◌<◌, ◌≤◌, false, length, None, Some}
use Rattle.asm_expr.specs.Coefficients.{is_among}
use Rattle.asm_expr.specs.Forms.{Form, wrapped, constant_form, symbol_form, joined, plus_times}
use Rattle.asm_symbols.specs.SymbolMap.{SymbolMap}
use Rattle.asm_frags.specs.declared.fields.Field.{Field}
use Rattle.asm_frags.specs.Fields.{is_distance, own_place}
use Rattle.asm_frags.specs.Substituting.{substituted_field}
use Rattle.assigned_forms.specs.Linked.{linked}
use Rattle.asm_relax.specs.FieldValues.{field_address, held_value}
use Rattle.asm_relax.specs.Final.{address_of}
use Rattle.asm_relax.specs.Settling.{LaidSections}
use Rattle.table_pieces.specs.declared.marks.Distance.{Distance}
use Rattle.table_pieces.specs.declared.marks.Mark.{Mark}
use Rattle.table_pieces.specs.declared.marks.Mark.TheVariants.{Here, At}
use Rattle.asm_base.specs.declared.places.SectionPlace.{SectionPlace}
use Rattle.table_pieces.specs.Labels.{NamesPlace}

-- the number is that of a mark's symbol: the field's own place, or a label there
abbrev pub IsMarkOf : SymbolMap → Mark → ℕ → Type 0
IsMarkOf map Here number = number ≡ own_place
IsMarkOf map (At at) number = NamesPlace map number at

-- what names a place in the one map does in the other
abbrev pub NamesStay : SymbolMap → SymbolMap → Type 0
NamesStay before after = (number : ℕ) (at : SectionPlace) → NamesPlace before number at → NamesPlace after number at

-- the section in which a mark stands, of a field in this section
abbrev pub mark_section : ℕ → Mark → ℕ
mark_section section Here = section
mark_section section (At at) = at.section

-- the form of the one symbol and a number, less the other symbol
abbrev pub numbers_form : ℕ → ℕ → ℕ → Form
numbers_form to from plus = plus_times (joined false (symbol_form to) (constant_form plus)) (2 ^ 64 - 1) (symbol_form from)

-- the field has the form of a distance between marks, whose symbols are among those of the map or the field's own place
pub record HasDistance (map : SymbolMap) (field : Field) (distance : Distance) : Type 0 where
  pub few : length map.symbols ≤ own_place
  pub to : ℕ
  pub from : ℕ
  pub form : field.form ≡ numbers_form to from distance.plus
  pub plus : distance.plus < 2 ^ 64
  pub to_named : IsMarkOf map distance.to to
  pub from_named : IsMarkOf map distance.from from

-- the field holds the distance as a number without a suffix, and both marks stand in one section
pub record IsPlainDistance (field : Field) (distance : Distance) : Type 0 where
  pub one : mark_section field.section distance.to ≡ mark_section field.section distance.from
  pub plain : is_distance field.role.kind ≡ false
  pub bare : field.role.suffix ≡ None

-- the address of a mark of a field in the layout, modulo 2^64
abbrev pub laid_mark : LaidSections → Field → Mark → ℕ
laid_mark laid field Here = field_address laid field
laid_mark laid field (At at) = address_of laid at.section at.place.item at.place.offset

-- the value leads from the one mark to the other and so many bytes more, modulo 2^64
pub record Leads (laid : LaidSections) (field : Field) (distance : Distance) (value : ℕ) : Type 0 where
  pub within : value < 2 ^ 64
  pub leads : wrapped (value + laid_mark laid field distance.from) ≡ wrapped (laid_mark laid field distance.to + distance.plus)

-- for all laid sections a field that holds a distance between marks of one section has a value, which leads from the one to the other
abbrev pub DistancesAreHeld : Type 0
DistancesAreHeld = (map : SymbolMap) (laid : LaidSections) (field : Field) (distance : Distance) → HasDistance map field distance → IsPlainDistance field distance
    → (value : ℕ) × (held_value map laid (substituted_field (linked map) field) ≡ Some value) × Leads laid field distance value

-- the form of a distance has no assigned symbol
abbrev pub FormsAreExpanded : Type 0
FormsAreExpanded = (map : SymbolMap) (field : Field) (distance : Distance) → HasDistance map field distance → linked map field.form ≡ field.form

-- the form of a distance between two places does not name the field's own place, and its constant is below 2^64
pub record IsBetweenPlaces (form : Form) : Type 0 where
  pub own : is_among own_place form.terms ≡ false
  pub small : form.constant < 2 ^ 64

-- so it is of every distance between two places
abbrev pub PlacesAreApart : Type 0
PlacesAreApart = (map : SymbolMap) (field : Field) (to from : SectionPlace) (plus : ℕ) → HasDistance map field (record { to = At to; from = At from; plus = plus })
    → IsBetweenPlaces field.form

-- the field has the form of the address of a place: a label there
pub record HasAddress (map : SymbolMap) (field : Field) (at : SectionPlace) : Type 0 where
  pub few : length map.symbols ≤ own_place
  pub label : ℕ
  pub form : field.form ≡ symbol_form label
  pub named : NamesPlace map label at

-- its form has no assigned symbol, and without a suffix it has no value in any layout: an address is the linker's
abbrev pub AddressesAreLinked : Type 0
AddressesAreLinked = (map : SymbolMap) (laid : LaidSections) (field : Field) (at : SectionPlace) → HasAddress map field at → field.role.suffix ≡ None
    → (linked map field.form ≡ field.form) × (held_value map laid (substituted_field (linked map) field) ≡ None)
