-- The values of fields in a layout: that of the form, less what the field's kind counts from.
use Rattle.std.specs.Prelude.{◌≡◌, ◌<◌, [], ◌∷◌, ℕ, ◌+◌, ◌-◌, ◌^◌, ◌==◌, true, false, List, Option, Some, option_map, if◌then◌else◌}
use Rattle.asm_expr.specs.declared.forms.Term.{Term}
use Rattle.asm_expr.specs.Forms.{wrapped, term_of}
use Rattle.asm_expr.specs.Knowledge.{Told, absent, label}
use Rattle.asm_expr.specs.Settled.{settled, constant_left}
use Rattle.asm_symbols.specs.SymbolMap.{SymbolMap}
use Rattle.asm_frags.specs.declared.fields.Field.{Field}
use Rattle.asm_frags.specs.declared.fields.FieldSize.{FieldSize}
use Rattle.asm_frags.specs.declared.roles.FieldRole.{FieldRole}
use Rattle.asm_frags.specs.declared.items.Frag.{Frag}
use Rattle.asm_frags.specs.declared.phases.Laid.{Laid}
use Rattle.asm_frags.specs.Fields.{width, is_distance, own_place}
use Rattle.asm_frags.specs.SectionOf.{SectionOf}
use Rattle.item_rows.specs.Links.{is_linked}
use Rattle.asm_relax.specs.Final.{address_of, final_told}

-- a number modulo 2 ^ 64, taken away
abbrev pub less : ℕ → ℕ → ℕ
less n taken = wrapped (n + (2 ^ 64 - taken))

-- the address of a field: that of its place, or, where the field stands in an item, of the last bytes of that, which end at its place
abbrev pub field_address : {P : Type 0} → List (SectionOf (Frag P ℕ)) → Field → ℕ
field_address sections field =
    if field.in_item then less (address_of sections field.section field.item field.offset) (width field.size) else address_of sections field.section field.item field.offset

-- the place of a field, as a label of its section
abbrev pub place_label : {P : Type 0} → List (SectionOf (Frag P ℕ)) → Field → Told
place_label sections field = label field.section (field_address sections field)

-- what the symbol at this index is known as where the place of the field is one of the labels
unfoldable pub told_beside : {P : Type 0} → SymbolMap → List (SectionOf (Frag P ℕ)) → Field → ℕ → Told
told_beside map sections field index = if index == own_place then place_label sections field else final_told map sections index

-- the place of a field cancels as a label does, unless the linker alone knows how far the symbol is from it
abbrev pub place_told : {P : Type 0} → SymbolMap → List (SectionOf (Frag P ℕ)) → Field → Told
place_told map sections field = if is_linked map field then absent else place_label sections field

-- what the symbol at this index is known as in the form of a field
unfoldable pub told_in_field : {P : Type 0} → SymbolMap → List (SectionOf (Frag P ℕ)) → Field → ℕ → Told
told_in_field map sections field index = if index == own_place then place_told map sections field else final_told map sections index

-- of the two terms of a field's form the other alone is the place of the field; it counts minus once, where the one counts once, and cancels as a label does
pub record IsNearPair (map : SymbolMap) (field : Field) (one other : Term) : Type 0 where
  pub symbol : (one.symbol == own_place) ≡ false
  pub own : other.symbol ≡ own_place
  pub once : one.coefficient ≡ 1
  pub minus : other.coefficient ≡ 2 ^ 64 - 1
  pub linked : is_linked map field ≡ false

-- how many bytes stand from a field to what its value counts from: a distance counts from the end of the instruction
abbrev pub counted_bytes : FieldSize → FieldRole → ℕ
counted_bytes size role = if is_distance role.kind then width size + role.behind else 0

-- a value less what the field's kind counts from
abbrev pub counted : FieldSize → FieldRole → ℕ → ℕ
counted size role value = if is_distance role.kind then less value (counted_bytes size role) else value

-- the value in the layout of a field whose form is expanded, where all symbols cancel
unfoldable pub held_value : {P : Type 0} → SymbolMap → List (SectionOf (Frag P ℕ)) → Field → Option ℕ
held_value map sections field = option_map (counted field.size field.role) (constant_left (settled (told_in_field map sections field) field.form))

-- the field holds the distance to a symbol and a number
pub record IsDistanceTo (field : Field) (symbol number : ℕ) : Type 0 where
  pub kind : is_distance field.role.kind ≡ true
  pub form : field.form ≡ record { terms = term_of symbol 1 ∷ term_of own_place (2 ^ 64 - 1) ∷ []; constant = number }
  pub behind : field.role.behind < 2 ^ 8

-- where the end of the instruction stands: behind the field, and the bytes of the instruction that follow it
abbrev pub instruction_end : {P : Type 0} → List (SectionOf (Frag P ℕ)) → Field → ℕ
instruction_end sections field = field_address sections field + width field.size + field.role.behind

-- a distance to a label of the field's section leads from the end of the instruction to the label, unless the linker alone knows it
abbrev pub DistancesLead : Type 0
DistancesLead = (map : SymbolMap) (sections : List (SectionOf (Frag Laid ℕ))) (field : Field) (symbol number address : ℕ)
    → IsDistanceTo field symbol number → is_linked map field ≡ false → (symbol == own_place) ≡ false → final_told map sections symbol ≡ label field.section address
    → (value : ℕ) × (held_value map sections field ≡ Some value) × (wrapped (instruction_end sections field + value) ≡ wrapped (address + number))
