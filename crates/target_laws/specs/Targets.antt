-- The labels of a function to which the fields of its jumps and branches lead, and their places in
-- a layout.
use Rattle.std.specs.Prelude.{◌≡◌, ◌⊎◌, ◌≤◌, ◌<◌, ◌^◌, ℕ, true, false, List, None, Some, length, slice_get}
use Rattle.asm_base.specs.declared.places.Place.{Place}
use Rattle.asm_expr.specs.Forms.{Form}
use Rattle.asm_expr.specs.Coefficients.{is_among}
use Rattle.asm_symbols.specs.Assigning.{form_at, NoFormLeadsBack}
use Rattle.asm_symbols.specs.SymbolMap.{SymbolMap}
use Rattle.asm_frags.specs.declared.fields.Field.{Field}
use Rattle.asm_frags.specs.Fields.{is_distance, own_place}
use Rattle.asm_frags.specs.Substituting.{substituted_field}
use Rattle.assigned_forms.specs.Linked.{linked}
use Rattle.x86_insn.specs.declared.amounts.Suffix.TheVariants.{Plt}
use Rattle.asm_relax.specs.Final.{address_of}
use Rattle.asm_relax.specs.Settling.{LaidSections}
use Rattle.code_functions.specs.declared.items.CodeItem.{CodeItem}
use Rattle.flow_graph.specs.declared.targets.Target.TheVariants.{Inside}
use Rattle.flow_graph.specs.Targets.{field_target}
use Rattle.asm_place.specs.Coding.{from_own_place}
use Rattle.place_laws.specs.Branches.{IsBranchTo}

-- the form names no place of a field
abbrev pub NamesNoField : Form → Type 0
NamesNoField form = is_among own_place form.terms ≡ false

-- assigned symbols can be put into forms: no form of a symbol leads back to it; and no symbol is the
-- place of a field, nor names it in its form
pub record AreExpandable (symbols : SymbolMap) : Type 0 where
  pub forward : NoFormLeadsBack symbols.symbols
  pub few : length symbols.symbols ≤ own_place
  pub forms : (index : ℕ) (form : Form) → form_at symbols.symbols index ≡ Some form
      → NamesNoField form

-- the field is that of a branch in the section of this number: it holds a target less its own
-- place, and `@PLT` is said of the target or nothing is
pub record IsBranchField (section : ℕ) (field : Field) : Type 0 where
  pub in_section : field.section ≡ section
  pub kind : is_distance field.role.kind ≡ true
  pub behind : field.role.behind < 2 ^ 8
  pub target : Form
  pub plain : NamesNoField target
  pub form : field.form ≡ from_own_place target
  pub suffix : (field.role.suffix ≡ None) ⊎ (field.role.suffix ≡ Some Plt)

-- the place of a section has this address in a layout
abbrev pub place_address : LaidSections → (section : ℕ) → Place → ℕ
place_address laid section place = address_of laid section place.item place.offset

-- the item is there, and the field as it is in the layout is that of a branch to the place where it
-- begins
pub record BranchesToItem (symbols : SymbolMap) (laid : LaidSections) (section : ℕ)
    (items : List CodeItem) (field : Field) (item : ℕ) : Type 0 where
  pub code : CodeItem
  pub there : slice_get items item ≡ Some code
  pub symbol : ℕ
  pub branch : IsBranchTo symbols laid (substituted_field (linked symbols) field) symbol 0
      (place_address laid section code.place)

-- where a field leads to an item of a function, and no other object may put its own definition in
-- the place of what the field names, the field is that of a branch to the item
abbrev pub TargetsAreItems : Type 0
TargetsAreItems = (symbols : SymbolMap) (laid : LaidSections) (section : ℕ) (items : List CodeItem)
    (field : Field) (item : ℕ) → AreExpandable symbols → IsBranchField section field
    → field_target symbols section items field ≡ Inside item false
    → BranchesToItem symbols laid section items field item
