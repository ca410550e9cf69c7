use Rattle.std.proofs.Common.{◌≡◌, ℕ, zero, suc, ◌+◌, ◌-◌, ◌*◌, ◌/◌, ◌%◌, ◌^◌, ◌<◌, ◌≤◌, ◌≢◌, ◌==◌, ◌⊎◌, inl, inr, Bool, true, false, List, [], ◌∷◌, ◌++◌, length, get_or, refl, sym, ap, ◌∙◌, arith, w64, length-append}
use Rattle.std.specs.Prelude.{bit_and, bit_or}
use Rattle.std.specs.Int.{bit_not}
use Rattle.std.proofs.lemmas.Bool.{cases_lt}
use Rattle.std.proofs.lemmas.Nat.{shr-shr}
use Rattle.std.proofs.lemmas.Nat.Bits.{bit_at-zero, bit_at_set_same, bit_at_set_other, bit_at_clear_same, bit_at_clear_other}
use Rattle.number_sets.specs.Bits.{has_bit}
use Rattle.number_sets.specs.Bits.{low_bits}

-- bits that were there stay
pub pushed_same : (bits : List Bool) (bit : Bool) (k : ℕ) → k < length bits → get_or (bits ++ bit ∷ []) k false ≡ get_or bits k false
pushed_same [] bit k h = absurd (omega arith)
pushed_same (x ∷ bits) bit zero h = refl
pushed_same (x ∷ bits) bit (suc k) h = pushed_same bits bit k (omega arith)

-- the bit that was put last
pub pushed_last : (bits : List Bool) (bit : Bool) (k : ℕ) → k ≡ length bits → get_or (bits ++ bit ∷ []) k false ≡ bit
pushed_last [] bit zero h = refl
pushed_last [] bit (suc k) h = absurd (omega arith)
pushed_last (x ∷ bits) bit zero h = absurd (omega arith)
pushed_last (x ∷ bits) bit (suc k) h = pushed_last bits bit k (omega arith)

-- a bit that is put is there
pub put_here : (word k : ℕ) → k < 64 → has_bit (bit_or word (1 * 2 ^ k % 2 ^ 64)) k ≡ true
put_here word k h = ap (λ x. x == 1) (bit_at_set_same w64 word k h)

-- and the others stay
pub put_other : (word k j : ℕ) → k < 64 → j ≢ k → has_bit (bit_or word (1 * 2 ^ k % 2 ^ 64)) j ≡ has_bit word j
put_other word k j h ne = ap (λ x. x == 1) (bit_at_set_other w64 word k h j ne)

-- a bit that is taken out is not there
pub cleared_here : (word k : ℕ) → k < 64 → has_bit (bit_and word (bit_not w64 (1 * 2 ^ k % 2 ^ 64))) k ≡ false
cleared_here word k h = ap (λ x. x == 1) (bit_at_clear_same w64 word k h)

-- and the others stay
pub cleared_other : (word k j : ℕ) → k < 64 → j < 64 → j ≢ k → has_bit (bit_and word (bit_not w64 (1 * 2 ^ k % 2 ^ 64))) j ≡ has_bit word j
cleared_other word k j h l ne = ap (λ x. x == 1) (bit_at_clear_other w64 word k h j l ne)

-- so many bits are as many
pub length_low : (word n : ℕ) → length (low_bits word n) ≡ n
unfolding low_bits
length_low word zero = refl
length_low word (suc n) = let e = length-append (low_bits word n) (has_bit word n ∷ []) in let i = length_low word n in omega arith

-- each of the first bits
pub get_low : (word n k : ℕ) → k < n → get_or (low_bits word n) k false ≡ has_bit word k
unfolding low_bits
get_low word zero k h = absurd (omega arith)
get_low word (suc n) k h = by_place (get_low word n k) (cases_lt k n)
  where
    by_place : (k < n → get_or (low_bits word n) k false ≡ has_bit word k) → (k < n) ⊎ (n ≤ k) → get_or (low_bits word n ++ has_bit word n ∷ []) k false ≡ has_bit word k
    by_place before (inl l) = let e = length_low word n in pushed_same (low_bits word n) (has_bit word n) k (omega arith) ∙ before l
    by_place before (inr l) =
        let e = length_low word n in
        let same : n ≡ k = omega arith in
        pushed_last (low_bits word n) (has_bit word n) k (omega arith) ∙ ap (has_bit word) same

-- words with the same first bits
pub same_low : (one other n : ℕ) → ((k : ℕ) → k < n → has_bit one k ≡ has_bit other k) → low_bits one n ≡ low_bits other n
unfolding low_bits
same_low one other zero h = refl
same_low one other (suc n) h =
    ap (λ bits. bits ++ has_bit one n ∷ []) (same_low one other n (λ k l. h k (omega arith)))
    ∙ ap (λ b. low_bits other n ++ b ∷ []) (h n (omega arith))

-- behind the word no bit is 1 that no higher bit of it is
pub none_high : (word k : ℕ) → word / 2 ^ 6 ≡ 0 → 6 ≤ k → has_bit word k ≡ false
none_high word k h l =
    let e : k ≡ 6 + (k - 6) = omega arith in
    ap (λ m. word / 2 ^ m % 2 == 1) e ∙ ap (λ x. x % 2 == 1) (sym (shr-shr word 6 (k - 6)) ∙ ap (λ x. x / 2 ^ (k - 6)) h) ∙ ap (λ x. x == 1) (bit_at-zero (k - 6))
