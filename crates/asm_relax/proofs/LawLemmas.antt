-- Where items stand in a layout, and what stays.
use Rattle.std.proofs.Common.{◌≡◌, ℕ, zero, suc, ◌+◌, ◌-◌, ◌^◌, ◌<◌, ◌≤◌, List, [], ◌∷◌, Some, length, drop, map, option_map, refl, ap, ◌∙◌, subst, arith}
use Rattle.std.specs.Prelude.{◌==◌, false, All, slice_get}
use Rattle.std.proofs.Math.Dec.{eqb-suc-zero}
use Rattle.std.proofs.lemmas.Option.{get_or_from_slice_get}
use Rattle.asm_expr.specs.Forms.{wrapped}
use Rattle.asm_frags.specs.declared.items.Frag.{Frag}
use Rattle.asm_frags.specs.SectionOf.{SectionOf}
use Rattle.asm_frags.specs.Addresses.{item_laid_at}
use Rattle.item_rows.specs.ItemRows.{row_count}
use Rattle.asm_relax.specs.Final.{shift_in}
use Rattle.asm_relax.specs.Layout.{laid_from, laid_out, without_addresses, IsInRow}
use Rattle.asm_relax.specs.Placing.{placed_from, shift_of}
use Rattle.asm_relax.proofs.LayingLemmas.{there_is}

some_is : {X : Type 0} (x y : X) → Some x ≡ Some y → x ≡ y
some_is x y is = cc

-- an item stands behind its plain bytes, which the sizes of the items before it move
pub placed_get : {P : Type 0} (index shift : ℕ) (items : List (Frag P ℕ))
    → slice_get (placed_from shift items) index ≡ option_map (λ item. item_laid_at (item.offset + shift_of index shift items) item.size item) (slice_get items index)
unfolding placed_from
placed_get index shift [] = refl
placed_get zero shift (item ∷ items) = refl
placed_get (suc index) shift (item ∷ items) = placed_get index (shift + item.size) items

pub placed_length : {P : Type 0} (shift : ℕ) (items : List (Frag P ℕ)) → length (placed_from shift items) ≡ length items
unfolding placed_from
placed_length shift [] = refl
placed_length shift (item ∷ items) = ap suc (placed_length (shift + item.size) items)

-- an address less the plain bytes before it
without_offset : (offset shift size : ℕ) → offset < 2 ^ 64 → wrapped (wrapped (offset + shift + size) + (2 ^ 64 - offset)) ≡ wrapped (shift + size)
without_offset offset shift size small = omega arith

shift_next : {P : Type 0} (n shift : ℕ) (xs : List (Frag P ℕ)) (x : Frag P ℕ) → slice_get xs n ≡ Some x → shift_of n shift xs + x.size ≡ shift_of (suc n) shift xs
shift_next n shift [] x is = absurd cc
shift_next zero shift (y ∷ ys) x is = let same : x ≡ y = cc in rw same
shift_next (suc n) shift (y ∷ ys) x is = shift_next n (shift + y.size) ys x is

-- what stands behind so many items is moved by the sum of their sizes
pub placed_shift : {P : Type 0} (items : List (Frag P ℕ)) (before : ℕ) → before ≤ length items → All (λ item. item.offset < 2 ^ 64) items
    → shift_in (placed_from 0 items) before ≡ wrapped (shift_of before 0 items)
unfolding shift_in
placed_shift items zero within small = refl
placed_shift {P} items (suc before) within small =
    let last = there_is items before (omega arith) in
    let one : suc before - 1 ≡ before = omega arith in
    let there : slice_get (placed_from 0 items) before ≡ Some (item_laid_at (last.0.offset + shift_of before 0 items) last.0.size last.0) = placed_get before 0 items ∙ (rw last.1) in
    let more = shift_next before 0 items last.0 last.1 in
    let self = get_or_from_slice_get items before last.0 last.0 last.1 in
    let offset : last.0.offset < 2 ^ 64 = rw self at (small before last.0 (omega arith)) in
    let some : (suc before == 0) ≡ false = eqb-suc-zero before in
    rw (some, one, there, ← more) (without_offset last.0.offset (shift_of before 0 items) last.0.size offset)

placed_next : {P : Type 0} (shift : ℕ) (items : List (Frag P ℕ)) (index : ℕ) (item following : Frag P ℕ) → slice_get (placed_from shift items) index ≡ Some item
    → slice_get (placed_from shift items) (suc index) ≡ Some following → following.address + item.offset ≡ following.offset + (item.address + item.size)
unfolding placed_from
placed_next shift [] index item following is then_is = absurd cc
placed_next shift (x ∷ []) zero item following is then_is = absurd cc
placed_next shift (x ∷ y ∷ ys) zero item following is then_is =
    let one = some_is (item_laid_at (x.offset + shift) x.size x) item is in
    let two = some_is (item_laid_at (y.offset + (shift + x.size)) y.size y) following then_is in
    rw (← one, ← two) (omega arith)
placed_next shift (x ∷ xs) (suc index) item following is then_is = placed_next (shift + x.size) xs index item following is then_is

placed_first : {P : Type 0} (items : List (Frag P ℕ)) (item : Frag P ℕ) → slice_get (placed_from 0 items) 0 ≡ Some item → item.address ≡ item.offset
unfolding placed_from
placed_first [] item is = absurd cc
placed_first (x ∷ xs) item is = let one = some_is (item_laid_at (x.offset + 0) x.size x) item is in rw (← one) (omega arith)

-- items that stand behind one another
pub placed_in_row : {P : Type 0} (items : List (Frag P ℕ)) → placed_from 0 items ≡ items → IsInRow items
placed_in_row {P} items placed = subst (λ (all : List (Frag P ℕ)). IsInRow all) placed (record {
  first = placed_first items;
  next = λ index item following is then_is. placed_next 0 items index item following is (let one : index + 1 ≡ suc index = omega arith in rw one at then_is);
})

items_kept : {P : Type 0} (shifts : List ℕ) (items : List (Frag P ℕ)) → map (item_laid_at 0 0) (laid_from shifts items) ≡ map (item_laid_at 0 0) items
items_kept shifts [] = refl
items_kept {P} shifts (item ∷ items) = ap (λ (rest : List (Frag P ℕ)). item_laid_at 0 0 item ∷ rest) (items_kept (drop 1 shifts) items)

pub sections_kept : {P : Type 0} (shifts : List ℕ) (sections : List (SectionOf (Frag P ℕ))) → without_addresses (laid_out shifts sections) ≡ without_addresses sections
sections_kept shifts [] = refl
sections_kept shifts (section ∷ sections) =
    let first = items_kept shifts section.items in
    let later = sections_kept (drop (row_count section) shifts) sections in
    rw (first, later)
