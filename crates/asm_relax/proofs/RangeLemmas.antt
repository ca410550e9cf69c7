-- Where a layout has no fault, each field that has a value holds it.
use Rattle.std.proofs.Common.{◌≡◌, ℕ, zero, suc, ◌-◌, ◌^◌, inl, inr, Bool, true, false, List, [], ◌∷◌, Option, Some, None, if◌then◌else◌, refl, sym, ap, ◌∙◌, subst, arith}
use Rattle.std.specs.Prelude.{IfSome, nat_lt, nat_le, slice_get}
use Rattle.std.proofs.lemmas.Bool.{or_cases, ltb-true, leb-true}
use Rattle.std.proofs.lemmas.Option.{none-some, same_Some}
use Rattle.asm_base.specs.declared.positions.Pos.{Pos}
use Rattle.asm_symbols.specs.SymbolMap.{SymbolMap}
use Rattle.asm_frags.specs.declared.fields.Field.{Field}
use Rattle.asm_frags.specs.declared.fields.FieldSize.{FieldSize}
use Rattle.asm_frags.specs.declared.fields.FieldSize.TheVariants.{Four}
use Rattle.asm_frags.specs.Fields.{fits_signed, holds, is_distance}
use Rattle.asm_frags.specs.SectionOf.{SectionOf}
use Rattle.item_bytes.specs.Levels.{IsSignedWithin}
use Rattle.x86_insn.specs.declared.amounts.FieldKind.{FieldKind}
use Rattle.x86_insn.specs.declared.amounts.FieldKind.TheVariants.{Plain, Signed, Address, Branch, Number}
use Rattle.asm_relax.specs.declared.faults.LayoutFault.{LayoutFault}
use Rattle.asm_relax.specs.declared.faults.LayoutFault.TheVariants.{DistanceOutOfRange}
use Rattle.asm_relax.specs.Faults.{or_later, first_of}
use Rattle.asm_relax.specs.FieldValues.{held_value}
use Rattle.asm_relax.specs.RangeChecks.{large_section, section_back, misfit, field_misfit, section_misfit, first_fault}
use Rattle.asm_relax.specs.Settling.{LaidItem, LaidSections}
use Rattle.asm_relax.specs.ValueRanges.{ValuesAreInRange, IsNearDistance, HasNearRoom}

-- without a fault there is neither the one nor the later one
or_none : {E : Type 0} (one later : Option E) → or_later one later ≡ None → (one ≡ None) × (later ≡ None)
or_none (Some fault) later is = absurd (let none : ⊥ = cc in none)
or_none None later is = (refl, is)

-- so no element has one
none_of : {X E : Type 0} (fault : X → Option E) (xs : List X) (index : ℕ) (x : X) → first_of fault xs ≡ None → slice_get xs index ≡ Some x → fault x ≡ None
unfolding first_of
none_of fault [] index x is there = absurd (none-some x there)
none_of {X = X} fault (y ∷ xs) zero x is there = subst (λ (z : X). fault z ≡ None) (same_Some y x there) (or_none (fault y) (first_of fault xs) is).0
none_of fault (y ∷ xs) (suc index) x is there = none_of fault xs index x (or_none (fault y) (first_of fault xs) is).1 there

-- a field that fits holds its value, if it has one
fitting : (pos : Pos) (kind : FieldKind) (size : FieldSize) (held : Option ℕ) → misfit pos kind size held ≡ None → IfSome held (λ value. holds kind size value ≡ true)
fitting pos kind size None is = tt
fitting pos kind size (Some value) is = by (holds kind size value) refl is
  where
    by : (test : Bool) → holds kind size value ≡ test → (let fault : Option LayoutFault = if test then None else Some (DistanceOutOfRange pos value) in fault ≡ None)
        → holds kind size value ≡ true
    by true holding is = holding
    by false holding is = absurd (let none : ⊥ = cc in none)

-- so each field of a section holds its value
pub values_in_range : ValuesAreInRange
unfolding first_fault
values_in_range map sections number at section field none found has =
    let small = or_none (first_of large_section sections) (or_later (first_of section_back sections) (first_of (section_misfit map sections) sections)) none in
    let forward = or_none (first_of section_back sections) (first_of (section_misfit map sections) sections) small.1 in
    let fits = none_of (section_misfit map sections) sections number section forward.1 found in
    fitting field.pos field.role.kind field.size (held_value map sections field) (none_of (field_misfit map sections) section.fields at field fits has)

-- a value in four signed bytes lies within 2^31
within_four : (value : ℕ) → fits_signed Four value ≡ true → IsSignedWithin (2 ^ 31) value
unfolding fits_signed
within_four value is = elim (or_cases (nat_lt value (2 ^ 31)) (nat_le (2 ^ 64 - 2 ^ 31) value) is) [
  | inl low ↦ inl (ltb-true value (2 ^ 31) low)
  | inr high ↦ (let le = leb-true (2 ^ 64 - 2 ^ 31) value high in inr (omega (arith, le)))
]

-- a distance is signed
distance_four : (kind : FieldKind) (value : ℕ) → is_distance kind ≡ true → holds kind Four value ≡ true → IsSignedWithin (2 ^ 31) value
distance_four Plain value is holding = absurd (let none : ⊥ = cc in none)
distance_four Signed value is holding = absurd (let none : ⊥ = cc in none)
distance_four Address value is holding = within_four value holding
distance_four Branch value is holding = within_four value holding
distance_four Number value is holding = absurd (let none : ⊥ = cc in none)

-- so it is of the value, if there is one
near_by : (field : Field) (held : Option ℕ) → IsNearDistance field → IfSome held (λ value. holds field.role.kind field.size value ≡ true) → IfSome held (IsSignedWithin (2 ^ 31))
near_by field None is holding = tt
near_by field (Some value) is holding = distance_four field.role.kind value is.kind (ap (λ size. holds field.role.kind size value) (sym is.size) ∙ holding)

-- so a distance in four bytes has room
pub near_room : (map : SymbolMap) (sections : LaidSections) (number at : ℕ) (section : SectionOf LaidItem) (field : Field)
    → slice_get sections number ≡ Some section → slice_get section.fields at ≡ Some field → HasNearRoom map sections field
near_room map sections number at section field found has none is =
    near_by field (held_value map sections field) is (values_in_range map sections number at section field none found has)
