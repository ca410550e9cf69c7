-- What is pushed of a number, and what is left.
use Rattle.std.proofs.Common.{◌≡◌, ℕ, ◌+◌, ◌-◌, ◌%◌, ◌^◌, ◌<◌, ◌≤◌, ◌∙◌, suc, Bool, List, [], ◌∷◌, ◌++◌, ap, sym, arith, append_assoc}
use Rattle.item_bytes.specs.Leb128.{groups_above, leb128_bytes}

-- before the first group all are left
pub all_left : (signed : Bool) (value groups : ℕ) → 1 ≤ groups → leb128_bytes signed value (suc (groups - 1)) ≡ leb128_bytes signed value groups
all_left signed value groups some = let same : suc (groups - 1) ≡ groups = omega arith in ap (leb128_bytes signed value) same

-- a group that is not the last one
pub more_left : (signed : Bool) (value groups counter : ℕ) (items new whole : List ℕ) (above : ℕ) → counter < groups → items ++ leb128_bytes signed value (suc (groups - counter)) ≡ whole → new ≡ items ++ ((2 ^ 7 + value % 2 ^ 7) ∷ []) → above ≡ groups_above signed value → new ++ leb128_bytes signed above (suc (groups - (counter + 1))) ≡ whole
unfolding leb128_bytes
more_left signed value groups counter items new whole above inside left pushed higher =
    let same : groups - counter ≡ suc (groups - (counter + 1)) = omega arith in
    let next = ap (λ n. items ++ leb128_bytes signed value (suc n)) same in
    rw (pushed, higher, append_assoc) (sym next ∙ left)

-- the last group
pub last_left : (signed : Bool) (value groups counter : ℕ) (items whole : List ℕ) → groups ≤ counter → items ++ leb128_bytes signed value (suc (groups - counter)) ≡ whole → items ++ ((value % 2 ^ 7) ∷ []) ≡ whole
unfolding leb128_bytes
last_left signed value groups counter items whole past left =
    let same : groups - counter ≡ 0 = omega arith in
    let next = ap (λ n. items ++ leb128_bytes signed value (suc n)) same in
    sym next ∙ left
