-- Few bytes of a value are the first of more of them, and are those of a fill.
use Rattle.std.proofs.Common.{◌≡◌, ℕ, zero, suc, ◌+◌, ◌%◌, ◌^◌, ◌≤◌, List, [], ◌∷◌, ◌++◌, take, replicate, refl, ap, ◌∙◌, arith}
use Rattle.item_contents.specs.Contents.{unit_of, repeated, fill_bytes}
use Rattle.item_contents.specs.ItemParts.{FillOf}

-- the first of these, which are all the same
pub few_taken : (count most value : ℕ) → count ≤ most → take count (replicate most value) ≡ replicate count value
few_taken zero most value within = refl
few_taken (suc count) zero value within = absurd (omega arith)
few_taken (suc count) (suc most) value within = ap (λ rest. value ∷ rest) (few_taken count most value (omega arith))

-- a fill of units of one byte has the low byte of its value, again and again
pub few_filled : (count value : ℕ) → fill_bytes (record { count = count; size = 1; value = value }) ≡ replicate count (value % 2 ^ 8)
unfolding repeated unit_of
few_filled zero value = refl
few_filled (suc count) value =
    let low : value % 2 ^ 32 % 2 ^ 8 ≡ value % 2 ^ 8 = omega arith in
    ap (λ rest. (value % 2 ^ 32 % 2 ^ 8) ∷ rest) (few_filled count value) ∙ ap (λ byte. byte ∷ replicate count (value % 2 ^ 8)) low
