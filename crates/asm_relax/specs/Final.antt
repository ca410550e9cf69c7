-- The meaning of symbols and the values of forms at the addresses of a layout.
use Rattle.std.specs.Prelude.{ℕ, ◌+◌, ◌-◌, ◌*◌, ◌^◌, ◌==◌, ◌&&◌, List, length, Option, None, Some, slice_get, if◌then◌else◌}
use Rattle.std.specs.Option.{option_map_or}
use Rattle.asm_expr.specs.Forms.{Form, wrapped}
use Rattle.asm_expr.specs.Knowledge.{Told, absent, constant, label, form}
use Rattle.asm_expr.specs.Settled.{settled, constant_left}
use Rattle.asm_symbols.specs.declared.entries.Meaning.{Meaning}
use Rattle.asm_symbols.specs.declared.entries.Meaning.TheVariants as meaning
use Rattle.asm_symbols.specs.declared.entries.Spot.{Spot}
use Rattle.asm_symbols.specs.SymbolMap.{SymbolMap}
use Rattle.asm_frags.specs.declared.items.Frag.{Frag}
use Rattle.asm_frags.specs.SectionOf.{SectionOf}
use Rattle.assigned_forms.specs.Expanding.{expanded}

-- how far the plain bytes behind the item are moved by the items up to it
abbrev pub shift_behind : {P : Type 0} → Frag P ℕ → ℕ
shift_behind item = wrapped (wrapped (item.address + item.size) + (2 ^ 64 - item.offset))

-- how far the plain bytes behind so many items are moved
unfoldable pub shift_in : {P : Type 0} → List (Frag P ℕ) → ℕ → ℕ
shift_in items before = if before == 0 then 0 else option_map_or shift_behind (slice_get items (before - 1)) 0

-- the address of a place: so many items and so many plain bytes stand before it
abbrev pub address_in : {P : Type 0} → List (Frag P ℕ) → ℕ → ℕ → ℕ
address_in items item offset = wrapped (offset + shift_in items item)

-- `sh_size`: the address behind all plain bytes and items
unfoldable pub section_size : {P : Type 0} → SectionOf (Frag P ℕ) → ℕ
section_size section = address_in section.items (length section.items) (length section.bytes)

-- the address of a place of a section, and 0 where there is no such section
unfoldable pub address_of : {P : Type 0} → List (SectionOf (Frag P ℕ)) → ℕ → ℕ → ℕ → ℕ
address_of sections section item offset = option_map_or (λ found. address_in found.items item offset) (slice_get sections section) 0

-- a place is known as a label of its section at its address
abbrev pub spot_told : {P : Type 0} → List (SectionOf (Frag P ℕ)) → Spot → Told
spot_told sections spot = label spot.place.section (address_of sections spot.place.section spot.place.place.item spot.place.place.offset)

-- labels and space of this object are known by their places, and other symbols are not known
abbrev pub final_meaning : {P : Type 0} → List (SectionOf (Frag P ℕ)) → Meaning → Told
final_meaning sections meaning.Undefined = absent
final_meaning sections (meaning.Label spot) = spot_told sections spot
final_meaning sections (meaning.Common size align) = absent
final_meaning sections (meaning.Space spot) = spot_told sections spot
final_meaning sections (meaning.Assigned other) = absent

-- what the symbol at this index is known as in the layout, and nothing where there is none
unfoldable pub final_told : {P : Type 0} → SymbolMap → List (SectionOf (Frag P ℕ)) → ℕ → Told
final_told map sections index = option_map_or (λ symbol. final_meaning sections symbol.meaning) (slice_get map.symbols index) absent

-- a form in the layout: assigned symbols are expanded, and labels of one section that cancel are replaced by their addresses
unfoldable pub final_form : {P : Type 0} → SymbolMap → List (SectionOf (Frag P ℕ)) → Form → Form
final_form map sections made = settled (final_told map sections) (expanded map made)

-- the value of a number, a label that counts so often, and another symbol that is known as this and counts so often: both cancel where that is a label of
-- the same stretch, and the one counts as often as minus the other
abbrev pub beside_label : ℕ → ℕ → ℕ → ℕ → ℕ → Told → Option ℕ
beside_label number count at stretch other absent = None
beside_label number count at stretch other (constant value) = None
beside_label number count at stretch other (form made) = None
beside_label number count at stretch other (label others origin) =
    if (others == stretch) && (wrapped (count + other) == 0) then Some (wrapped (wrapped (number + wrapped (count * at)) + wrapped (other * origin))) else None

-- the value in the layout of an expanded form, where all of its symbols cancel
unfoldable pub laid_value : {P : Type 0} → SymbolMap → List (SectionOf (Frag P ℕ)) → Form → Option ℕ
laid_value map sections made = constant_left (settled (final_told map sections) made)

-- the value in the layout of a form, where all of its symbols cancel
abbrev pub field_value : {P : Type 0} → SymbolMap → List (SectionOf (Frag P ℕ)) → Form → Option ℕ
field_value map sections made = laid_value map sections (expanded map made)
