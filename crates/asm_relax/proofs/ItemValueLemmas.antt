-- The value that an item holds is the distance of its row.
use Rattle.std.proofs.Common.{◌≡◌, inl, inr, ℕ, ◌+◌, ◌-◌, ◌*◌, ◌^◌, ◌==◌, ◌<◌, ◌&&◌, ◌||◌, Bool, true, false, cond, List, [], ◌∷◌, Option, Some, None, length, map, option_map, refl, sym, ap, ◌∙◌, subst, arith, add-mul, mul-zero, zero-mul}
use Rattle.std.specs.Prelude.{slice_get}
use Rattle.std.specs.Option.{option_map_or}
use Rattle.std.proofs.lemmas.Bool.Decides.{Decides-eqb}
use Rattle.std.proofs.lemmas.Nat.{mul-mod_first}
use Rattle.asm_base.specs.declared.places.SectionPlace.{SectionPlace}
use Rattle.asm_expr.specs.declared.forms.Term.{Term}
use Rattle.asm_expr.specs.Forms.{Form, wrapped}
use Rattle.asm_expr.specs.Knowledge.{Told, absent, label}
use Rattle.asm_expr.specs.Settled.{spot_of, settled, constant_by, constant_left}
use Rattle.asm_expr.specs.Coefficients.{times, coefficient, is_cancelled, is_among, IsSettled}
use Rattle.asm_symbols.specs.declared.entries.Symbol.{Symbol}
use Rattle.asm_symbols.specs.declared.entries.Meaning.{Meaning}
use Rattle.asm_symbols.specs.declared.entries.Meaning.TheVariants as meaning
use Rattle.asm_symbols.specs.SymbolMap.{SymbolMap}
use Rattle.asm_frags.specs.declared.fields.Field.{Field}
use Rattle.asm_frags.specs.declared.fields.FieldSize.{FieldSize}
use Rattle.asm_frags.specs.declared.fields.FieldSize.TheVariants.{One, Two, Four, Eight}
use Rattle.asm_frags.specs.Fields.{width, is_distance, own_place}
use Rattle.asm_levels.specs.declared.distances.Distance.{Distance}
use Rattle.asm_levels.specs.declared.distances.Distance.TheVariants.{Between, Sum}
use Rattle.asm_levels.specs.Distances.{distance_value}
use Rattle.asm_levels.specs.Shifts.{shifts_of}
use Rattle.row_distances.specs.declared.places.OwnPlace.{OwnPlace}
use Rattle.row_distances.specs.Places.{meant_place, place_of, address_at, place_told, row_told}
use Rattle.row_distances.specs.FormDistances.{value_among, distance_of, IsDistanceOf}
use Rattle.item_rows.specs.Links.{is_linked}
use Rattle.item_rows.specs.ItemRows.{all_rows, starts_from, rows_of, own_of, levels_of}
use Rattle.asm_relax.specs.Final.{address_of, final_meaning, final_told}
use Rattle.asm_relax.specs.FieldValues.{less, field_address, place_label, place_told as field_told, told_in_field, held_value}
use Rattle.asm_relax.specs.Layout.{laid_out, laid_by, AreWithin}
use Rattle.asm_relax.specs.Settling.{LaidSections, settled_sections}
use Rattle.asm_relax.specs.ItemValues.{StandsIn, NamesOwnPlace, HoldTheirDistances, HoldWhereSettled}
use Rattle.asm_relax.proofs.LayingLemmas.{rows_are_all}
use Rattle.asm_relax.specs.RisingRows.{AllRise}
use Rattle.asm_relax.proofs.ShiftTail.{rows_rise, shifts_long}
use Rattle.asm_relax.proofs.PlaceLemmas.{AllLow, place_moved}
use Rattle.asm_relax.proofs.ShiftedForms.{IsShifted, AreShifted, shifted_by, value_shifted}

-- what settling does to all forms
abbrev AreSettled : Type 0
AreSettled = (told : ℕ → Told) (made : Form) → IsSettled told made

-- the distance of each form is its value, however far rows are moved
abbrev AreDistances : Type 0
AreDistances = (symbols : SymbolMap) (own : OwnPlace) (starts : List ℕ) (count : ℕ) (made : Form) → made.constant < 2 ^ 64
    → IsDistanceOf symbols own starts count made (distance_of symbols own starts count made)

few_bytes : (size : FieldSize) → width size < 9
few_bytes One = omega arith
few_bytes Two = omega arith
few_bytes Four = omega arith
few_bytes Eight = omega arith

-- a distance is a number modulo 2^64
pub distance_small : (shifts : List ℕ) (distance : Distance) → distance_value shifts distance < 2 ^ 64
unfolding distance_value
distance_small shifts (Between number ahead behind) = omega arith
distance_small shifts (Sum number terms) = omega arith

-- how far symbols are moved where the own place alone is moved
abbrev own_moved : ℕ → ℕ → ℕ
own_moved shift symbol = cond (symbol == own_place) shift 0

module _ (still moved : ℕ → Told) (shift : ℕ) where
  -- the own place is moved as often as it counts
  own_times : (terms : List Term) → shifted_by still moved (own_moved shift) terms ≡ times own_place terms * shift
  own_times [] = sym (zero-mul shift)
  own_times (term ∷ terms) = by (term.symbol == own_place) (own_times terms)
    where
      by : (b : Bool) → shifted_by still moved (own_moved shift) terms ≡ times own_place terms * shift
          → term.coefficient * cond b shift 0 + shifted_by still moved (own_moved shift) terms ≡ (cond b term.coefficient 0 + times own_place terms) * shift
      by true later = let parts = add-mul term.coefficient (times own_place terms) shift in omega arith
      by false later = let none = mul-zero term.coefficient in omega arith

-- a symbol that is not among the terms counts 0 times
not_among : (own : ℕ) (terms : List Term) → is_among own terms ≡ false → times own terms ≡ 0
not_among own [] none = refl
not_among own (term ∷ terms) none = by (term.symbol == own) (not_among own terms) none
  where
    by : (b : Bool) → (is_among own terms ≡ false → times own terms ≡ 0) → (b || is_among own terms) ≡ false → cond b term.coefficient 0 + times own terms ≡ 0
    by true later none = cc
    by false later none = let rest = later none in omega arith

-- where the own place counts minus once and is not known, the form has no value
own_left : AreSettled → (told : ℕ → Told) (made : Form) → told own_place ≡ absent → coefficient made own_place ≡ 2 ^ 64 - 1 → constant_left (settled told made) ≡ None
own_left laws told made unknown counts = by (settled told made).terms refl
  where
    by : (terms : List Term) → (settled told made).terms ≡ terms → constant_by terms (settled told made).constant ≡ None
    by [] none =
        let kept : coefficient (settled told made) own_place ≡ coefficient made own_place =
        (laws told made).coefficients own_place ∙ ap (λ known. cond (is_cancelled (map (spot_of told) made.terms) known) 0 (coefficient made own_place)) unknown in
        let zero : coefficient (settled told made) own_place ≡ 0 = ap (λ terms. wrapped (times own_place terms)) none in
        absurd (omega arith)
    by (term ∷ terms) some = refl

-- a value that is moved by minus the width, and counted from behind that, is what it was
back_again : (n counts taken behind : ℕ) → n < 2 ^ 64 → taken < 9 → behind ≡ 0 → wrapped counts ≡ 2 ^ 64 - 1
    → less (wrapped (n + counts * (2 ^ 64 - taken))) (taken + behind) ≡ n
back_again n counts taken behind small few none minus =
    let shift = 2 ^ 64 - taken in
    let parts = add-mul counts 1 shift in
    let first = mul-mod_first (counts + 1) shift (2 ^ 64) in
    let zero : wrapped (counts + 1) ≡ 0 = omega arith in
    let whole : wrapped ((counts + 1) * shift) ≡ 0 = sym first ∙ ap (λ m. wrapped (m * shift)) zero ∙ ap wrapped (zero-mul shift) in
    omega arith

module _ (map' : SymbolMap) (shifts : List ℕ) (sections : LaidSections) (field : Field) (rise : AllRise shifts sections) (low : AllLow sections)
    (places : (index : ℕ) (place : SectionPlace) → place_of map' (own_of field) index ≡ Some place → StandsIn sections place) (in_item : field.in_item ≡ true) where
  -- the first rows of the sections
  abbrev starts : List ℕ
  starts = starts_from 0 sections

  -- the sections that are laid out
  abbrev laid : LaidSections
  laid = laid_out shifts sections

  -- how far the field begins before its place
  abbrev ahead : ℕ
  ahead = 2 ^ 64 - width field.size

  -- how symbols are known in the row
  abbrev still : ℕ → Told
  still = row_told map' (own_of field) starts shifts

  -- how symbols are known in the field
  abbrev moved : ℕ → Told
  moved = told_in_field map' laid field

  address_is : (index : ℕ) (place : SectionPlace) → place_of map' (own_of field) index ≡ Some place → address_of laid place.section place.place.item place.place.offset ≡ address_at starts shifts place
  address_is index place is =
      let stands = places index place is in
      place_moved shifts place.section place.place.item place.place.offset sections stands.section stands.there stands.within rise low

  as_it_is : (place : SectionPlace) → address_at starts shifts place ≡ wrapped (address_at starts shifts place + 0)
  as_it_is place = omega arith

  by_meaning : (symbol : ℕ) (meant : Meaning) → place_of map' (own_of field) symbol ≡ meant_place meant → IsShifted (place_told starts shifts (meant_place meant)) (final_meaning laid meant) 0
  by_meaning symbol meaning.Undefined is = inl (refl, refl)
  by_meaning symbol (meaning.Label spot) is =
      let place : SectionPlace = spot.place in
      inr (spot.place.section, address_at starts shifts place, refl, ap (λ at. label spot.place.section at) (address_is symbol place is ∙ as_it_is place))
  by_meaning symbol (meaning.Common size align) is = inl (refl, refl)
  by_meaning symbol (meaning.Space spot) is =
      let place : SectionPlace = spot.place in
      inr (spot.place.section, address_at starts shifts place, refl, ap (λ at. label spot.place.section at) (address_is symbol place is ∙ as_it_is place))
  by_meaning symbol (meaning.Assigned other) is = inl (refl, refl)

  by_symbol : (symbol : ℕ) (found : Option Symbol) → place_of map' (own_of field) symbol ≡ option_map_or (λ one. meant_place one.meaning) found None
      → IsShifted (place_told starts shifts (option_map_or (λ one. meant_place one.meaning) found None)) (option_map_or (λ one. final_meaning laid one.meaning) found absent) 0
  by_symbol symbol None is = inl (refl, refl)
  by_symbol symbol (Some found) is = by_meaning symbol found.meaning is

  -- where a symbol stands that is not the own place
  place_else : (symbol : ℕ) → (symbol == own_place) ≡ false → place_of map' (own_of field) symbol ≡ option_map_or (λ one. meant_place one.meaning) (slice_get map'.symbols symbol) None
  unfolding place_of
  place_else symbol differs = ap (λ b. cond b (Some (own_of field).place) (option_map_or (λ one. meant_place one.meaning) (slice_get map'.symbols symbol) None)) differs

  told_else : (symbol : ℕ) → (symbol == own_place) ≡ false → moved symbol ≡ option_map_or (λ one. final_meaning laid one.meaning) (slice_get map'.symbols symbol) absent
  unfolding told_in_field final_told
  told_else symbol differs = ap (λ b. cond b (field_told map' laid field) (final_told map' laid symbol)) differs

  else_shifted : (symbol : ℕ) → (symbol == own_place) ≡ false → IsShifted (still symbol) (moved symbol) 0
  else_shifted symbol differs =
      let is = place_else symbol differs in
      let told = told_else symbol differs in
      rw (is, told) (by_symbol symbol (slice_get map'.symbols symbol) is)

  own_stands : place_of map' (own_of field) own_place ≡ Some (own_of field).place
  unfolding place_of
  own_stands = refl

  told_own : is_linked map' field ≡ false → moved own_place ≡ place_label laid field
  unfolding told_in_field
  told_own free = ap (λ b. cond b absent (place_label laid field)) free

  pub told_linked : is_linked map' field ≡ true → moved own_place ≡ absent
  unfolding told_in_field
  told_linked linked = ap (λ b. cond b absent (place_label laid field)) linked

  own_shifted : is_linked map' field ≡ false → IsShifted (still own_place) (moved own_place) ahead
  own_shifted free =
      let place = (own_of field).place in
      let at : field_address laid field ≡ wrapped (address_at starts shifts place + ahead) =
      ap (λ b. cond b (less (address_of laid field.section field.item field.offset) (width field.size)) (address_of laid field.section field.item field.offset)) in_item
      ∙ ap (λ n. less n (width field.size)) (address_is own_place place own_stands) in
      inr (field.section, address_at starts shifts place, ap (place_told starts shifts) own_stands, told_own free ∙ ap (λ n. label field.section n) at)

  -- each symbol is moved so
  one_shifted : is_linked map' field ≡ false → (symbol : ℕ) (b : Bool) → (symbol == own_place) ≡ b → IsShifted (still symbol) (moved symbol) (cond b ahead 0)
  one_shifted free symbol true is =
      let same : symbol ≡ own_place = (Decides-eqb symbol own_place).0 is in
      subst (λ (one : ℕ). IsShifted (still one) (moved one) ahead) (sym same) (own_shifted free)
  one_shifted free symbol false differs = else_shifted symbol differs

  all_shifted : is_linked map' field ≡ false → (terms : List Term) → AreShifted still moved (own_moved ahead) terms
  all_shifted free [] = tt
  all_shifted free (term ∷ terms) = (one_shifted free term.symbol (term.symbol == own_place) refl, all_shifted free terms)

  -- where the own place is not among them
  none_shifted : (terms : List Term) → is_among own_place terms ≡ false → AreShifted still moved (own_moved ahead) terms
  none_shifted [] none = tt
  none_shifted (term ∷ terms) none = by (term.symbol == own_place) refl (none_shifted terms) none
    where
      by : (b : Bool) → (term.symbol == own_place) ≡ b → (is_among own_place terms ≡ false → AreShifted still moved (own_moved ahead) terms)
          → (b || is_among own_place terms) ≡ false → AreShifted still moved (own_moved ahead) (term ∷ terms)
      by true is later none = cc
      by false differs later none = (rw differs (else_shifted term.symbol differs), later none)

  module _ (laws : AreSettled) (behind : field.role.behind ≡ 0) (small : field.form.constant < 2 ^ 64) (found : Option Distance)
      (values : option_map (distance_value shifts) found ≡ value_among map' (own_of field) starts shifts field.form) where
    -- the value by the distance
    value_is : AreShifted still moved (own_moved ahead) field.form.terms
        → constant_left (settled moved field.form) ≡ option_map (λ n. wrapped (n + times own_place field.form.terms * ahead)) (option_map (distance_value shifts) found)
    value_is shifted =
        value_shifted still moved (own_moved ahead) field.form small shifted
        ∙ ap (λ m. option_map (λ n. wrapped (n + m)) (constant_left (settled still field.form))) (own_times still moved ahead field.form.terms)
        ∙ ap (option_map (λ n. wrapped (n + times own_place field.form.terms * ahead))) (sym values)

    -- what a field that counts a distance holds of a value, and one that does not
    abbrev held : Bool → ℕ → ℕ
    held b value = cond b (less value (cond b (width field.size + field.role.behind) 0)) value

    as_counted : coefficient field.form own_place ≡ 2 ^ 64 - 1 → (distance : Option Distance)
        → option_map (held true) (option_map (λ n. wrapped (n + times own_place field.form.terms * ahead)) (option_map (distance_value shifts) distance)) ≡ option_map (distance_value shifts) distance
    as_counted minus None = refl
    as_counted minus (Some distance) =
        ap Some (back_again (distance_value shifts distance) (times own_place field.form.terms) (width field.size) field.role.behind (distance_small shifts distance) (few_bytes field.size) behind minus)

    as_it_stands : times own_place field.form.terms ≡ 0 → (distance : Option Distance)
        → option_map (held false) (option_map (λ n. wrapped (n + times own_place field.form.terms * ahead)) (option_map (distance_value shifts) distance)) ≡ option_map (distance_value shifts) distance
    as_it_stands none None = refl
    as_it_stands none (Some distance) =
        let low = distance_small shifts distance in
        let zero : times own_place field.form.terms * ahead ≡ 0 = ap (λ n. n * ahead) none ∙ zero-mul ahead in
        ap Some (omega arith)

    by_role : (b l : Bool) → is_linked map' field ≡ l → NamesOwnPlace b field.form
        → option_map (held b) (constant_left (settled moved field.form)) ≡ option_map (distance_value shifts) (cond (b && l) None found)
    by_role true true linked own = ap (option_map (held true)) (own_left laws moved field.form (told_linked linked) own)
    by_role true false free own = ap (option_map (held true)) (value_is (all_shifted free field.form.terms)) ∙ as_counted own found
    by_role false l either own =
        ap (option_map (held false)) (value_is (none_shifted field.form.terms own)) ∙ as_it_stands (not_among own_place field.form.terms own) found

-- an item holds the distance of its row
pub items_hold : AreSettled → AreDistances → HoldTheirDistances
unfolding held_value laid_by
items_hold laws distances map' levels sections field within low item =
    let shifts = shifts_of (rows_of map' sections) levels in
    let long : length shifts ≡ all_rows sections = shifts_long (rows_of map' sections) levels ∙ rows_are_all map' sections in
    let found = distance_of map' (own_of field) (starts_from 0 sections) (all_rows sections) field.form in
    by_role map' shifts sections field (rows_rise map' levels sections within) low.offsets item.places item.in_item laws item.behind item.constant found
    (distances map' (own_of field) (starts_from 0 sections) (all_rows sections) field.form item.constant shifts long low.shifts)
    (is_distance field.role.kind) (is_linked map' field) refl item.own

-- the same in the layout
pub settled_hold : HoldTheirDistances → ((map : SymbolMap) (sections : LaidSections) → AreWithin (levels_of (rows_of map sections)) (rows_of map sections)) → HoldWhereSettled
unfolding settled_sections
settled_hold hold within map' sections field low item = hold map' (levels_of (rows_of map' sections)) sections field (within map' sections) low item
