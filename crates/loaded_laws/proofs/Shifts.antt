-- How far the items of a section move what stands after them.
use Rattle.std.proofs.Common.{◌≡◌, ℕ, zero, suc, ◌+◌, ◌-◌, ◌^◌, ◌<◌, ◌≤◌, List, [], ◌∷◌, All, Some, length, take, drop, get_or, refl, sym, ap, ◌∙◌, arith}
use Rattle.std.specs.Prelude.{slice_get}
use Rattle.std.specs.Option.{option_map_or}
use Rattle.std.proofs.lemmas.List.Elements.{All-head, All-tail}
use Rattle.std.proofs.lemmas.Option.{none-some, same_Some, slice_get-get_or}
use Rattle.asm_frags.specs.SectionOf.{SectionOf}
use Rattle.asm_relax.specs.Placing.{placed_from, placed_section, shift_of}
use Rattle.asm_relax.specs.RangeChecks.{end_shift, whole_size}
use Rattle.asm_relax.specs.Settling.{LaidItem}
use Rattle.elf_object.specs.Places.{moved}

-- items only move farther
moves_on : (count s t : ℕ) (items : List LaidItem) → s ≤ t → s ≤ shift_of count t items
moves_on zero s t items le = le
moves_on (suc count) s t [] le = le
moves_on (suc count) s t (x ∷ xs) le = moves_on count s (t + x.size) xs (omega (arith, le))

-- the first items move no farther than more of them
rises : (few more shift : ℕ) (items : List LaidItem) → few ≤ more → shift_of few shift items ≤ shift_of more shift items
rises zero more shift items le = moves_on more shift shift items (omega arith)
rises (suc few) zero shift items le = absurd (omega (arith, le))
rises (suc few) (suc more) shift [] le = omega arith
rises (suc few) (suc more) shift (x ∷ xs) le = rises few more (shift + x.size) xs (omega (arith, le))

-- of two places, the one before the other is moved no farther
pub in_order : (items : List LaidItem) (i j s t a b : ℕ) → s ≤ t → a < b → All (λ item. item.offset ≤ a) (take i items)
    → All (λ item. b ≤ item.offset) (drop j items) → shift_of i s items ≤ shift_of j t items
in_order items zero j s t a b le lt before after = moves_on j s t items le
in_order [] (suc i) zero s t a b le lt before after = le
in_order [] (suc i) (suc j) s t a b le lt before after = le
in_order (x ∷ xs) (suc i) zero s t a b le lt before after =
    let low = All-head (λ (item : LaidItem). item.offset ≤ a) x (take i xs) before in
    let high = All-head (λ (item : LaidItem). b ≤ item.offset) x xs after in
    absurd (omega (arith, lt, low, high))
in_order (x ∷ xs) (suc i) (suc j) s t a b le lt before after =
    in_order xs i j (s + x.size) (t + x.size) a b (omega (arith, le)) lt (All-tail (λ (item : LaidItem). item.offset ≤ a) x (take i xs) before) after

-- an item moves what stands after it by its size
pub shift_next : (n s : ℕ) (items : List LaidItem) (x : LaidItem) → slice_get items n ≡ Some x → shift_of (suc n) s items ≡ shift_of n s items + x.size
shift_next n s [] x is = absurd (none-some x is)
shift_next zero s (y ∷ ys) x is = ap (λ (i : LaidItem). s + i.size) (same_Some y x is)
shift_next (suc n) s (y ∷ ys) x is = shift_next n (s + y.size) ys x is

-- an item stands at its offset, moved by the items before it
placed_at : (items : List LaidItem) (shift index : ℕ) (item : LaidItem) → slice_get (placed_from shift items) index ≡ Some item
    → item.address ≡ item.offset + shift_of index shift items
unfolding placed_from
placed_at [] shift index item is = absurd (none-some item is)
placed_at (x ∷ xs) shift zero item is = let same = same_Some _ item is in sym (ap (λ (i : LaidItem). i.address) same) ∙ ap (λ (i : LaidItem). i.offset + shift) same
placed_at (x ∷ xs) shift (suc index) item is = placed_at xs (shift + x.size) index item is

-- all items of a layout move its end
end_is : (items : List LaidItem) → placed_from 0 items ≡ items → shift_of (length items) 0 items ≡ end_shift items
end_is [] laid = refl
end_is (x ∷ xs) laid =
    let items : List LaidItem = x ∷ xs in
    let last = get_or items (length xs) x in
    let there : slice_get items (length xs) ≡ Some last = slice_get-get_or items (length xs) x (omega arith) in
    let one : length items - 1 ≡ length xs = omega arith in
    let end : end_shift items ≡ last.address + last.size - last.offset =
    ap (λ found. option_map_or (λ (item : LaidItem). item.address + item.size - item.offset) found 0) (ap (slice_get items) one ∙ there) in
    let at : last.address ≡ last.offset + shift_of (length xs) 0 items =
    placed_at items 0 (length xs) last (ap (λ (l : List LaidItem). slice_get l (length xs)) laid ∙ there) in
    let next : shift_of (length items) 0 items ≡ shift_of (length xs) 0 items + last.size = shift_next (length xs) 0 items last there in
    omega (arith, end, at, next)

-- the places of a section that is not too large are low
pub places_low : (section : SectionOf LaidItem) (count offset : ℕ) → placed_section section ≡ section → whole_size section ≤ 2 ^ 30 → count ≤ length section.items
    → offset ≤ length section.bytes → moved section.items count offset < 2 ^ 64
places_low section count offset laid small few within =
    let end = end_is section.items (ap (λ (s : SectionOf LaidItem). s.items) laid) in
    let up = rises count (length section.items) 0 section.items few in
    omega (arith, end, up, small, within)
