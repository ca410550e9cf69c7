-- A field of four bytes that leads to a place near to it holds its value.
use Rattle.std.proofs.Common.{◌≡◌, ℕ, ◌+◌, ◌-◌, ◌^◌, ◌<◌, ◌≤◌, ◌||◌, ◌⊎◌, inl, inr, Bool, true, false, cond, List, [], ◌∷◌, Option, Some, None, length, option_map, refl, ap, ◌∙◌, arith}
use Rattle.std.specs.Prelude.{slice_get, nat_lt, nat_le}
use Rattle.std.proofs.lemmas.Bool.{cases_lt, lt-ltb, le-leb}
use Rattle.asm_base.specs.declared.positions.Pos.{Pos}
use Rattle.asm_expr.specs.declared.forms.Term.{Term}
use Rattle.asm_expr.specs.Forms.{Form, wrapped, term_of}
use Rattle.asm_expr.specs.Knowledge.{label}
use Rattle.asm_expr.specs.Settled.{settled, constant_left}
use Rattle.asm_symbols.specs.SymbolMap.{SymbolMap}
use Rattle.asm_frags.specs.declared.fields.Field.{Field}
use Rattle.asm_frags.specs.declared.fields.FieldSize.{FieldSize}
use Rattle.asm_frags.specs.declared.fields.FieldSize.TheVariants.{Four}
use Rattle.asm_frags.specs.declared.items.Frag.{Frag}
use Rattle.x86_insn.specs.declared.amounts.FieldKind.{FieldKind}
use Rattle.x86_insn.specs.declared.amounts.FieldKind.TheVariants.{Plain, Signed, Address, Branch, Number}
use Rattle.asm_frags.specs.Fields.{width, fits, fits_signed, holds, is_distance, own_place}
use Rattle.asm_frags.specs.SectionOf.{SectionOf}
use Rattle.asm_relax.specs.declared.faults.LayoutFault.TheVariants.{DistanceOutOfRange}
use Rattle.asm_relax.specs.Final.{address_in, address_of, final_told}
use Rattle.asm_relax.specs.FieldValues.{less, counted, field_address, told_in_field, held_value, IsNearPair}
use Rattle.asm_relax.specs.LowPlaces.{StandLow, KeepsLow, StandWithin, IsSmall}
use Rattle.asm_relax.specs.RangeChecks.{misfit, field_misfit}
use Rattle.asm_relax.proofs.DistanceLemmas.{both_of, left_of, both_cancel, told_else, told_own}

-- a number modulo 2^64 that is from -2^31 to 2^31 - 1
abbrev IsClose : ℕ → Type 0
IsClose value = wrapped (value + 2 ^ 31) < 2 ^ 32

either_is : (a b : Bool) → (a ≡ true) ⊎ (b ≡ true) → (a || b) ≡ true
either_is true b is = refl
either_is false b (inl is) = absurd cc
either_is false b (inr is) = is

close_sides : (value : ℕ) → value < 2 ^ 64 → IsClose value → (value < 2 ^ 31) ⊎ (2 ^ 64 - 2 ^ 31 ≤ value)
close_sides value small close = elim (cases_lt value (2 ^ 31)) [ inl low ↦ inl low | inr high ↦ inr (omega arith) ]

signed_fits : (value : ℕ) → value < 2 ^ 64 → IsClose value → fits_signed Four value ≡ true
unfolding fits_signed
signed_fits value small close = elim (close_sides value small close) [
  | inl low ↦ either_is (nat_lt value (2 ^ 31)) (nat_le (2 ^ 64 - 2 ^ 31) value) (inl (lt-ltb value (2 ^ 31) low))
  | inr high ↦ either_is (nat_lt value (2 ^ 31)) (nat_le (2 ^ 64 - 2 ^ 31) value) (inr (le-leb (2 ^ 64 - 2 ^ 31) value high))
]

plain_fits : (value : ℕ) → value < 2 ^ 64 → IsClose value → fits Four value ≡ true
unfolding fits
plain_fits value small close = elim (close_sides value small close) [
  | inl low ↦ either_is (nat_lt value (2 ^ 32)) (nat_le (2 ^ 64 - 2 ^ 31) value) (inl (lt-ltb value (2 ^ 32) (omega arith)))
  | inr high ↦ either_is (nat_lt value (2 ^ 32)) (nat_le (2 ^ 64 - 2 ^ 31) value) (inr (le-leb (2 ^ 64 - 2 ^ 31) value high))
]

-- the value of a form of a place and the place of a field, both near, and less what its kind counts from
close_value : (at origin number : ℕ) → at ≤ 2 ^ 30 → wrapped (origin + 4) ≤ 2 ^ 30 + 4 → wrapped (number + 2 ^ 29) ≤ 2 ^ 30
    → IsClose (left_of at origin number)
close_value at origin number low near small = omega arith

close_less : (at origin number taken : ℕ) → at ≤ 2 ^ 30 → wrapped (origin + 4) ≤ 2 ^ 30 + 4 → wrapped (number + 2 ^ 29) ≤ 2 ^ 30 → taken < 2 ^ 9
    → IsClose (less (left_of at origin number) taken)
close_less at origin number taken low near small few = omega arith

kind_holds : (kind : FieldKind) (behind at origin number : ℕ) → behind < 2 ^ 8 → at ≤ 2 ^ 30 → wrapped (origin + 4) ≤ 2 ^ 30 + 4 → wrapped (number + 2 ^ 29) ≤ 2 ^ 30
    → holds kind Four (cond (is_distance kind) (less (left_of at origin number) (cond (is_distance kind) (4 + behind) 0)) (left_of at origin number)) ≡ true
kind_holds Plain behind at origin number few low near small = plain_fits (left_of at origin number) (omega arith) (close_value at origin number low near small)
kind_holds Signed behind at origin number few low near small = signed_fits (left_of at origin number) (omega arith) (close_value at origin number low near small)
kind_holds Address behind at origin number few low near small =
    signed_fits (less (left_of at origin number) (4 + behind)) (omega arith) (close_less at origin number (4 + behind) low near small (omega arith))
kind_holds Branch behind at origin number few low near small =
    signed_fits (less (left_of at origin number) (4 + behind)) (omega arith) (close_less at origin number (4 + behind) low near small (omega arith))
kind_holds Number behind at origin number few low near small = refl

module _ {P : Type 0} (map : SymbolMap) (sections : List (SectionOf (Frag P ℕ))) (field : Field) (section : SectionOf (Frag P ℕ)) (there : slice_get sections field.section ≡ Some section)
    (keeps : KeepsLow section) (low : StandLow section) where
  there_at : (item offset : ℕ) → address_of sections field.section item offset ≡ address_in section.items item offset
  unfolding address_of
  there_at item offset = rw there refl

  place_low : (item offset : ℕ) → offset ≤ length section.bytes → address_of sections field.section item offset ≤ 2 ^ 30
  place_low item offset within =
      let is = there_at item offset in
      let most = keeps low item in
      omega arith

  origin_near : field.size ≡ Four → field.offset ≤ length section.bytes → wrapped (field_address sections field + 4) ≤ 2 ^ 30 + 4
  origin_near four within =
      let place = address_of sections field.section field.item field.offset in
      let most : place ≤ 2 ^ 30 = place_low field.item field.offset within in
      let size : width field.size ≡ 4 = ap width four in
      by place (width field.size) most size field.in_item
    where
      by : (place bytes : ℕ) → place ≤ 2 ^ 30 → bytes ≡ 4 → (b : Bool) → wrapped (cond b (less place bytes) place + 4) ≤ 2 ^ 30 + 4
      by place bytes most size true = omega arith
      by place bytes most size false = omega arith

  pub near_misfit : (one other : Term) (item offset : ℕ) → field.form.terms ≡ one ∷ other ∷ [] → IsNearPair map field one other
      → final_told map sections one.symbol ≡ label field.section (address_of sections field.section item offset)
      → StandWithin section offset field.offset → IsSmall field → field_misfit map sections field ≡ None
  unfolding held_value
  near_misfit one other item offset terms near leads within small =
      let told = told_in_field map sections field in
      let at = address_of sections field.section item offset in
      let origin = field_address sections field in
      let number = field.form.constant in
      let value = left_of at origin number in
      let both : field.form ≡ both_of one.symbol own_place number =
      ap (λ (all : List Term). record { terms = all; constant = number }) (terms ∙ ap (λ n. record { coefficient = n; symbol = one.symbol } ∷ other ∷ []) near.once
      ∙ ap (λ n. term_of one.symbol 1 ∷ record { coefficient = n; symbol = other.symbol } ∷ []) near.minus ∙ ap (λ n. term_of one.symbol 1 ∷ term_of n (2 ^ 64 - 1) ∷ []) near.own) in
      let made : constant_left (settled told field.form) ≡ Some value =
      ap (λ (f : Form). constant_left (settled told f)) both
      ∙ both_cancel told field.section at origin one.symbol own_place number (told_else map sections field one.symbol near.symbol ∙ leads) (told_own map sections field near.linked) in
      let low_at = place_low item offset within.place in
      let near_origin = origin_near small.size within.other in
      let held : holds field.role.kind field.size (counted field.size field.role value) ≡ true =
      ap (λ (size : FieldSize). holds field.role.kind size (counted size field.role value)) small.size
      ∙ kind_holds field.role.kind field.role.behind at origin number small.behind low_at near_origin small.constant in
      ap (λ (found : Option ℕ). misfit field.pos field.role.kind field.size (option_map (counted field.size field.role) found)) made
      ∙ ap (λ b. cond b None (Some (DistanceOutOfRange field.pos (counted field.size field.role value)))) held

-- a field that takes as many bytes as its value needs holds any value
pub number_misfit : (pos : Pos) (kind : FieldKind) (size : FieldSize) (value : Option ℕ) → kind ≡ Number → misfit pos kind size value ≡ None
number_misfit pos kind size None is = refl
number_misfit pos kind size (Some value) is = ap (λ (k : FieldKind). misfit pos k size (Some value)) is
