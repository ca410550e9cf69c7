-- How far the items of a section move what stands behind them.
use Rattle.std.proofs.Common.{◌≡◌, ℕ, zero, suc, ◌+◌, ◌≤◌, List, [], ◌∷◌, Some, ap, arith}
use Rattle.std.specs.Prelude.{slice_get}
use Rattle.std.proofs.lemmas.Option.{none-some, same_Some}
use Rattle.asm_relax.specs.Placing.{shift_of}
use Rattle.asm_relax.specs.Settling.{LaidItem}

-- an item moves what stands behind it by its size
pub shift_next : (items : List LaidItem) (index shift : ℕ) (item : LaidItem) → slice_get items index ≡ Some item
    → shift_of (suc index) shift items ≡ shift_of index shift items + item.size
shift_next [] index shift item there = absurd (none-some item there)
shift_next (one ∷ items) zero shift item there = ap (λ (i : LaidItem). shift + i.size) (same_Some one item there)
shift_next (one ∷ items) (suc index) shift item there = shift_next items index (shift + one.size) item there

shift_least : (items : List LaidItem) (shift count : ℕ) → shift ≤ shift_of count shift items
shift_least items shift zero = omega arith
shift_least [] shift (suc count) = omega arith
shift_least (item ∷ items) shift (suc count) = let later = shift_least items (shift + item.size) count in omega (arith, later)

-- the first items move what stands behind them no farther than more of them
pub shift_rises : (items : List LaidItem) (shift few more : ℕ) → few ≤ more → shift_of few shift items ≤ shift_of more shift items
shift_rises items shift zero more le = shift_least items shift more
shift_rises [] shift (suc few) zero le = absurd (omega (arith, le))
shift_rises [] shift (suc few) (suc more) le = omega arith
shift_rises (item ∷ items) shift (suc few) zero le = absurd (omega (arith, le))
shift_rises (item ∷ items) shift (suc few) (suc more) le = shift_rises items (shift + item.size) few more (omega (arith, le))
