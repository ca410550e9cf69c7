-- Where places stand in sections that are laid out by how far rows are moved.
use Rattle.std.proofs.Common.{◌≡◌, ℕ, zero, suc, ◌+◌, ◌-◌, ◌^◌, ◌<◌, ◌≤◌, List, [], ◌∷◌, Some, length, drop, refl, sym, ap, ◌∙◌, subst, arith, drop-drop}
use Rattle.std.specs.Prelude.{◌==◌, false, All, slice_get, slice_index}
use Rattle.std.specs.Option.{option_map_or}
use Rattle.std.proofs.Math.Dec.{eqb-suc-zero}
use Rattle.std.proofs.lemmas.Option.{get_or_from_slice_get}
use Rattle.std.proofs.lemmas.List.Elements.{All-head, All-tail}
use Rattle.asm_expr.specs.Forms.{wrapped}
use Rattle.asm_frags.specs.declared.items.Frag.{Frag}
use Rattle.asm_frags.specs.SectionOf.{SectionOf}
use Rattle.item_rows.specs.ItemRows.{row_count, starts_from}
use Rattle.asm_relax.specs.Final.{shift_in, address_in, address_of}
use Rattle.asm_relax.specs.Layout.{laid_from, laid_out}
use Rattle.asm_relax.proofs.LayingLemmas.{next_shift, laid_there, there_is, shift_behind}
use Rattle.asm_relax.specs.RisingRows.{Rise, AllRise}

-- the end of an item, less the plain bytes before it
behind_row : (offset this next : ℕ) → offset < 2 ^ 64 → this ≤ next → wrapped (wrapped (offset + this + (next - this)) + (2 ^ 64 - offset)) ≡ wrapped next
behind_row offset this next small rise = omega arith

put_behind : (offset shift : ℕ) → wrapped (offset + wrapped shift) ≡ wrapped (offset + shift)
put_behind offset shift = omega arith

module _ {P : Type 0} where
  -- an item that is laid out
  laid_get : (shifts : List ℕ) (items : List (Frag P ℕ)) (n : ℕ) (item : Frag P ℕ) → slice_get items n ≡ Some item → slice_get (laid_from shifts items) n ≡ Some (laid_there shifts n item)
  laid_get shifts [] n item is = absurd cc
  laid_get shifts (x ∷ xs) zero item is = let same : x ≡ item = cc in rw same refl
  laid_get shifts (x ∷ xs) (suc n) item is = rw (← next_shift shifts n, ← next_shift shifts (suc n)) (laid_get (drop 1 shifts) xs n item is)

  -- the next row is moved as far or farther
  pub rise_at : (shifts : List ℕ) (items : List (Frag P ℕ)) (n : ℕ) → Rise shifts items → n < length items → slice_index shifts n ≤ slice_index shifts (suc n)
  rise_at shifts [] n rise inside = absurd (omega arith)
  rise_at shifts (x ∷ xs) zero (first, rest) inside = first
  rise_at shifts (x ∷ xs) (suc n) (first, rest) inside = rw (← next_shift shifts n, ← next_shift shifts (suc n)) (rise_at (drop 1 shifts) xs n rest (omega arith))

  -- what stands behind so many items is moved as far as the row behind them
  pub moved_as_row : (shifts : List ℕ) (items : List (Frag P ℕ)) (n : ℕ) → n ≤ length items → slice_index shifts 0 ≡ 0 → Rise shifts items → All (λ item. item.offset < 2 ^ 64) items
      → shift_in (laid_from shifts items) n ≡ wrapped (slice_index shifts n)
  unfolding shift_in
  moved_as_row shifts items zero within start rise small = rw start refl
  moved_as_row shifts items (suc n) within start rise small =
      let last = there_is items n (omega arith) in
      let one : suc n - 1 ≡ n = omega arith in
      let there = laid_get shifts items n last.0 last.1 in
      let self = get_or_from_slice_get items n last.0 last.0 last.1 in
      let offset : last.0.offset < 2 ^ 64 = rw self at (small n last.0 (omega arith)) in
      let some : (suc n == 0) ≡ false = eqb-suc-zero n in
      rw (some, one, there) (behind_row last.0.offset (slice_index shifts n) (slice_index shifts (suc n)) offset (rise_at shifts items n rise (omega arith)))

  -- each item of each section stands behind few plain bytes
  abbrev pub AllLow : List (SectionOf (Frag P ℕ)) → Type 0
  AllLow sections = All (λ section. All (λ item. item.offset < 2 ^ 64) section.items) sections

  -- a place is moved as far as its row
  place_from : (all : List ℕ) (first number item offset : ℕ) (sections : List (SectionOf (Frag P ℕ))) (found : SectionOf (Frag P ℕ)) → slice_get sections number ≡ Some found
      → item ≤ length found.items → AllRise (drop first all) sections → AllLow sections
      → option_map_or (λ section. address_in section.items item offset) (slice_get (laid_out (drop first all) sections) number) 0
      ≡ wrapped (offset + slice_index all (slice_index (starts_from first sections) number + item))
  place_from all first number item offset [] found is within rise low = absurd cc
  place_from all first zero item offset (section ∷ sections) found is within (start, rise, rest) low =
      let same : section ≡ found = cc in
      let few : item ≤ length section.items = rw same within in
      let small : All (λ one. one.offset < 2 ^ 64) section.items = All-head (λ (s : SectionOf (Frag P ℕ)). All (λ one. one.offset < 2 ^ 64) s.items) section sections low in
      ap (λ n. wrapped (offset + n)) (moved_as_row (drop first all) section.items item few start rise small) ∙ put_behind offset (slice_index (drop first all) item)
      ∙ ap (λ n. wrapped (offset + n)) (sym (shift_behind all first item))
  place_from all first (suc number) item offset (section ∷ sections) found is within (start, rise, rest) low =
      let behind : drop (row_count section) (drop first all) ≡ drop (first + row_count section) all = drop-drop (row_count section) first all in
      let small = All-tail (λ (s : SectionOf (Frag P ℕ)). All (λ one. one.offset < 2 ^ 64) s.items) section sections low in
      rw behind (place_from all (first + row_count section) number item offset sections found is within
      (subst (λ (shifts : List ℕ). AllRise shifts sections) behind rest) small)

  -- the address of a place
  pub place_moved : (all : List ℕ) (number item offset : ℕ) (sections : List (SectionOf (Frag P ℕ))) (found : SectionOf (Frag P ℕ)) → slice_get sections number ≡ Some found
      → item ≤ length found.items → AllRise all sections → AllLow sections
      → address_of (laid_out all sections) number item offset ≡ wrapped (offset + slice_index all (slice_index (starts_from 0 sections) number + item))
  unfolding address_of
  place_moved all number item offset sections found is within rise low = place_from all 0 number item offset sections found is within rise low
