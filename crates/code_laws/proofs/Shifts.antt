-- How far the items of a section move what stands after them.
use Rattle.std.proofs.Common.{◌≡◌, ℕ, zero, suc, ◌+◌, ◌<◌, ◌≤◌, List, [], ◌∷◌, All, Some, take, drop, sym, ap, subst, ◌∙◌, arith}
use Rattle.std.specs.Prelude.{slice_get}
use Rattle.std.proofs.lemmas.List.Elements.{All-head, All-tail}
use Rattle.std.proofs.lemmas.Option.{none-some, same_Some}
use Rattle.asm_relax.specs.Placing.{placed_from, shift_of}
use Rattle.asm_relax.specs.Settling.{LaidItem}
use Rattle.code_laws.proofs.Lists.{All-there}

-- items only move farther
moves_on : (count s t : ℕ) (items : List LaidItem) → s ≤ t → s ≤ shift_of count t items
moves_on zero s t items le = le
moves_on (suc count) s t [] le = le
moves_on (suc count) s t (x ∷ xs) le = moves_on count s (t + x.size) xs (omega (arith, le))

-- the first items move no farther than more of them
pub rises : (few more shift : ℕ) (items : List LaidItem) → few ≤ more → shift_of few shift items ≤ shift_of more shift items
rises zero more shift items le = moves_on more shift shift items (omega arith)
rises (suc few) zero shift items le = absurd (omega (arith, le))
rises (suc few) (suc more) shift [] le = omega arith
rises (suc few) (suc more) shift (x ∷ xs) le = rises few more (shift + x.size) xs (omega (arith, le))

-- an item moves what stands after it by its size
pub shift_next : (n s : ℕ) (items : List LaidItem) (x : LaidItem) → slice_get items n ≡ Some x → shift_of (suc n) s items ≡ shift_of n s items + x.size
shift_next n s [] x is = absurd (none-some x is)
shift_next zero s (y ∷ ys) x is = ap (λ (i : LaidItem). s + i.size) (same_Some y x is)
shift_next (suc n) s (y ∷ ys) x is = shift_next n (s + y.size) ys x is

-- an item stands at its offset, moved by the items before it
pub placed_at : (items : List LaidItem) (shift index : ℕ) (item : LaidItem) → slice_get (placed_from shift items) index ≡ Some item
    → item.address ≡ item.offset + shift_of index shift items
unfolding placed_from
placed_at [] shift index item is = absurd (none-some item is)
placed_at (x ∷ xs) shift zero item is = let same = same_Some _ item is in sym (ap (λ (i : LaidItem). i.address) same) ∙ ap (λ (i : LaidItem). i.offset + shift) same
placed_at (x ∷ xs) shift (suc index) item is = placed_at xs (shift + x.size) index item is

-- what holds of the first ones, and of the others
pub take_there : (P : LaidItem → Type 0) (xs : List LaidItem) (n i : ℕ) (x : LaidItem) → i < n → slice_get xs i ≡ Some x → All P (take n xs) → P x
take_there P [] n i x few is all = absurd (none-some x is)
take_there P (y ∷ xs) zero i x few is all = absurd (omega (arith, few))
take_there P (y ∷ xs) (suc n) zero x few is all = subst P (same_Some y x is) (All-head P y (take n xs) all)
take_there P (y ∷ xs) (suc n) (suc i) x few is all = take_there P xs n i x (omega (arith, few)) is (All-tail P y (take n xs) all)

pub drop_there : (P : LaidItem → Type 0) (xs : List LaidItem) (n i : ℕ) (x : LaidItem) → n ≤ i → slice_get xs i ≡ Some x → All P (drop n xs) → P x
drop_there P [] n i x few is all = absurd (none-some x is)
drop_there P (y ∷ xs) zero i x few is all = All-there P (y ∷ xs) i x is all
drop_there P (y ∷ xs) (suc n) zero x few is all = absurd (omega (arith, few))
drop_there P (y ∷ xs) (suc n) (suc i) x few is all = drop_there P xs n i x (omega (arith, few)) is all
