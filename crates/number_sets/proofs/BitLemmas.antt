use Rattle.std.proofs.Common.{◌≡◌, ℕ, zero, suc, ◌+◌, ◌-◌, ◌*◌, ◌/◌, ◌%◌, ◌^◌, ◌<◌, ◌≤◌, ◌≢◌, ◌==◌, ◌⊎◌, ◌&&◌, ◌||◌, not, nat_lt, nat_le, inl, inr, Bool, true, false, Some, None, [], ◌∷◌, ◌++◌, get_or, sum_by, refl, sym, ap, subst, ◌∙◌, arith, w64, min, max}
use Rattle.std.specs.Prelude.{bit_and, bit_or}
use Rattle.std.specs.Int.{bit_at, bit_not, leading_zeros}
use Rattle.std.proofs.lemmas.Bool.{cases_lt}
use Rattle.std.proofs.lemmas.Bool.Decides.{nat_tests}
use Rattle.std.proofs.lemmas.List.{get_or_past}
use Rattle.std.proofs.lemmas.List.Sums.{sum_by-append, sum_by-cons}
use Rattle.std.proofs.lemmas.Nat.{shr-shr, shr_high, one_shl}
use Rattle.std.proofs.Math.Nat.{pow-suc}
use Rattle.std.proofs.lemmas.Nat.Bits.{bit_at_and, bit_at_or, bit_at_not, bit_at-lt, bit_at_ones, bit_at_ones_above, bit_at_mask_inside, bit_at_mask_below, bit_at-zero, bit_at_above, same_from_bits_below}
use Rattle.std.proofs.lemmas.Nat.{and_le_l, leading_top}
use Rattle.number_sets.specs.Bits.{has_bit}
use Rattle.number_sets.specs.Bits.{low_bits, counted}
use Rattle.number_sets.specs.Trees.{IsLast}
use Rattle.number_sets.proofs.WordLemmas.{length_low, get_low, same_low, none_high}

-- a bit that both have
pub in_both : (a b k : ℕ) → has_bit (bit_and a b) k ≡ (has_bit a k && has_bit b k)
in_both a b k = let e = bit_at_and a b k in by_bits (bit_at a k) (bit_at b k) (bit_at (bit_and a b) k) (bit_at-lt a k) (bit_at-lt b k) e
  where
    by_bits : (x y z : ℕ) → x < 2 → y < 2 → z ≡ min x y → (z == 1) ≡ ((x == 1) && (y == 1))
    by_bits x y z h g e = grind (arith, nat_tests)

-- a bit that one has
pub in_one : (a b k : ℕ) → has_bit (bit_or a b) k ≡ (has_bit a k || has_bit b k)
in_one a b k = let e = bit_at_or a b k in by_bits (bit_at a k) (bit_at b k) (bit_at (bit_or a b) k) (bit_at-lt a k) (bit_at-lt b k) e
  where
    by_bits : (x y z : ℕ) → x < 2 → y < 2 → z ≡ max x y → (z == 1) ≡ ((x == 1) || (y == 1))
    by_bits x y z h g e = grind (arith, nat_tests)

-- a bit that is turned
pub turned : (n k : ℕ) → n < 2 ^ 64 → k < 64 → has_bit (bit_not w64 n) k ≡ not (has_bit n k)
turned n k h l = let e = bit_at_not w64 n k h l in by_bits (bit_at n k) (bit_at (bit_not w64 n) k) (bit_at-lt n k) e
  where
    by_bits : (x z : ℕ) → x < 2 → z ≡ 1 - x → (z == 1) ≡ not (x == 1)
    by_bits x z h e = grind (arith, nat_tests)

-- a bit of a word
pub in_word_alone : (word k : ℕ) → k < 64 → get_or (low_bits word 64) k false ≡ has_bit word k
in_word_alone word k h = get_low word 64 k h

-- behind it there is none
pub behind_word_alone : (word k : ℕ) → 64 ≤ k → get_or (low_bits word 64) k false ≡ false
behind_word_alone word k h = let l = length_low word 64 in get_or_past (low_bits word 64) k false (omega arith)

-- two words, of which one has at each number what is said
pub by_each : (word : ℕ) (wanted : ℕ → Bool) → ((k : ℕ) → k < 64 → has_bit word k ≡ wanted k) → ((k : ℕ) → 64 ≤ k → wanted k ≡ false)
    → (k : ℕ) → get_or (low_bits word 64) k false ≡ wanted k
by_each word wanted low high k = by_place (cases_lt k 64)
  where
    by_place : (k < 64) ⊎ (64 ≤ k) → get_or (low_bits word 64) k false ≡ wanted k
    by_place (inl l) = in_word_alone word k l ∙ low k l
    by_place (inr l) = behind_word_alone word k l ∙ sym (high k l)

-- what holds with what does not
and_false : (a : Bool) → (a && false) ≡ false
and_false true = refl
and_false false = refl

and_true : (a : Bool) → (a && true) ≡ a
and_true true = refl
and_true false = refl

-- what two words have both
pub met_word : (one other k : ℕ) → get_or (low_bits (bit_and one other) 64) k false ≡ (get_or (low_bits one 64) k false && get_or (low_bits other 64) k false)
met_word one other = by_each (bit_and one other) (λ k. get_or (low_bits one 64) k false && get_or (low_bits other 64) k false)
    (λ k h. in_both one other k ∙ ap (λ b. b && has_bit other k) (sym (in_word_alone one k h)) ∙ ap (λ b. get_or (low_bits one 64) k false && b) (sym (in_word_alone other k h)))
    (λ k h. ap (λ b. b && get_or (low_bits other 64) k false) (behind_word_alone one k h))

-- the other has all numbers
pub within_word_alone : (one other k : ℕ) → bit_and one other ≡ one → get_or (low_bits one 64) k false ≡ (get_or (low_bits one 64) k false && get_or (low_bits other 64) k false)
within_word_alone one other k e = ap (λ w. get_or (low_bits w 64) k false) (sym e) ∙ met_word one other k

-- bits that are counted, of two words of which one has no more
fewer : (less more n : ℕ) → ((k : ℕ) → k < n → has_bit less k ≡ true → has_bit more k ≡ true)
    → ((k : ℕ) → k < n → has_bit less k ≡ has_bit more k) ⊎ (sum_by counted (low_bits less n) < sum_by counted (low_bits more n))
unfolding low_bits
fewer less more zero h = inl (λ k l. absurd (omega arith))
fewer less more (suc n) h = by_last (has_bit less n) (has_bit more n) refl refl (fewer less more n (λ k l. h k (omega arith)))
  where
    added : (word : ℕ) (b : Bool) → has_bit word n ≡ b → sum_by counted (low_bits word n ++ has_bit word n ∷ []) ≡ sum_by counted (low_bits word n) + counted b
    added word b e =
        let s = sum_by-append counted (low_bits word n) (has_bit word n ∷ []) in
        let t = sum_by-cons counted (has_bit word n) [] in
        let u = ap counted e in
        omega arith

    at : (b : Bool) → has_bit less n ≡ b → has_bit more n ≡ b → ((k : ℕ) → k < n → has_bit less k ≡ has_bit more k) → (k : ℕ) → k < suc n → has_bit less k ≡ has_bit more k
    at b e f before k l = by_place (cases_lt k n)
      where
        by_place : (k < n) ⊎ (n ≤ k) → has_bit less k ≡ has_bit more k
        by_place (inl s) = before k s
        by_place (inr s) = let same : k ≡ n = omega arith in ap (has_bit less) same ∙ e ∙ sym f ∙ ap (has_bit more) (sym same)

    by_last : (a b : Bool) → has_bit less n ≡ a → has_bit more n ≡ b
        → ((k : ℕ) → k < n → has_bit less k ≡ has_bit more k) ⊎ (sum_by counted (low_bits less n) < sum_by counted (low_bits more n))
        → ((k : ℕ) → k < suc n → has_bit less k ≡ has_bit more k) ⊎ (sum_by counted (low_bits less n ++ has_bit less n ∷ []) < sum_by counted (low_bits more n ++ has_bit more n ∷ []))
    by_last true true e f (inl before) = inl (at true e f before)
    by_last false false e f (inl before) = inl (at false e f before)
    by_last true true e f (inr l) = inr (let x = added less true e in let y = added more true f in omega arith)
    by_last false false e f (inr l) = inr (let x = added less false e in let y = added more false f in omega arith)
    by_last false true e f (inr l) = inr (let x = added less false e in let y = added more true f in omega arith)
    by_last false true e f (inl before) = inr (let x = added less false e in let y = added more true f in let z = same_sum before in omega arith)
      where
        same_sum : ((k : ℕ) → k < n → has_bit less k ≡ has_bit more k) → sum_by counted (low_bits less n) ≡ sum_by counted (low_bits more n)
        same_sum s = ap (sum_by counted) (same_low less more n s)
    by_last true false e f x = let t = h n (omega arith) e in cc

-- one word less
pub met_less : (one other : ℕ) → one < 2 ^ 64 → bit_and one other ≢ one → sum_by counted (low_bits (bit_and one other) 64) < sum_by counted (low_bits one 64)
met_less one other h ne = by_case (fewer (bit_and one other) one 64 (λ k s e. first (has_bit one k) (has_bit other k) (sym (in_both one other k) ∙ e)))
  where
    first : (a b : Bool) → (a && b) ≡ true → a ≡ true
    first true b e = refl
    first false b e = cc

    same_bit : (k : ℕ) → has_bit (bit_and one other) k ≡ has_bit one k → bit_at (bit_and one other) k ≡ bit_at one k
    same_bit k e = by_bits (bit_at (bit_and one other) k) (bit_at one k) (bit_at-lt (bit_and one other) k) (bit_at-lt one k) e
      where
        by_bits : (x y : ℕ) → x < 2 → y < 2 → (x == 1) ≡ (y == 1) → x ≡ y
        by_bits x y h g e = grind (arith, nat_tests)

    by_case : ((k : ℕ) → k < 64 → has_bit (bit_and one other) k ≡ has_bit one k) ⊎ (sum_by counted (low_bits (bit_and one other) 64) < sum_by counted (low_bits one 64)) → sum_by counted (low_bits (bit_and one other) 64) < sum_by counted (low_bits one 64)
    by_case (inr s) = s
    by_case (inl same) = absurd (ne (same_from_bits_below 64 (bit_and one other) one (let l = and_le_l one other in omega arith) h (λ k s. same_bit k (same k s))))

-- the first six numbers
pub six_low : (k : ℕ) → k < 6 → get_or (low_bits 63 64) k false ≡ true
six_low k h = in_word_alone 63 k (omega arith) ∙ ap (λ x. x == 1) (bit_at_ones 6 k h)

-- and no other
pub six_high : (k : ℕ) → 6 ≤ k → get_or (low_bits 63 64) k false ≡ false
six_high k h = by_place (cases_lt k 64)
  where
    by_place : (k < 64) ⊎ (64 ≤ k) → get_or (low_bits 63 64) k false ≡ false
    by_place (inl l) = in_word_alone 63 k l ∙ ap (λ x. x == 1) (bit_at_ones_above 6 k h)
    by_place (inr l) = behind_word_alone 63 k l

-- the mask of the first bits
pub mask_is : (count : ℕ) → count < 64 → 1 * 2 ^ count % 2 ^ 64 - 1 ≡ 2 ^ count - 1
mask_is count h = ap (λ m. m - 1) (one_shl count 64 h)

-- one that is below
pub first_low : (word count k : ℕ) → count < 64 → k < count → get_or (low_bits (bit_and word (1 * 2 ^ count % 2 ^ 64 - 1)) 64) k false ≡ get_or (low_bits word 64) k false
first_low word count k h l =
    in_word_alone (bit_and word (1 * 2 ^ count % 2 ^ 64 - 1)) k (omega arith) ∙ in_both word (1 * 2 ^ count % 2 ^ 64 - 1) k
    ∙ ap (λ m. has_bit word k && has_bit m k) (mask_is count h) ∙ ap (λ b. has_bit word k && (b == 1)) (bit_at_ones count k l) ∙ and_true (has_bit word k)
    ∙ sym (in_word_alone word k (omega arith))

-- and one that is not
pub first_high : (word count k : ℕ) → count < 64 → count ≤ k → get_or (low_bits (bit_and word (1 * 2 ^ count % 2 ^ 64 - 1)) 64) k false ≡ false
first_high word count k h l = by_place (cases_lt k 64)
  where
    by_place : (k < 64) ⊎ (64 ≤ k) → get_or (low_bits (bit_and word (1 * 2 ^ count % 2 ^ 64 - 1)) 64) k false ≡ false
    by_place (inl s) =
        in_word_alone (bit_and word (1 * 2 ^ count % 2 ^ 64 - 1)) k s ∙ in_both word (1 * 2 ^ count % 2 ^ 64 - 1) k
        ∙ ap (λ m. has_bit word k && has_bit m k) (mask_is count h) ∙ ap (λ b. has_bit word k && (b == 1)) (bit_at_ones_above count k l) ∙ and_false (has_bit word k)
    by_place (inr s) = behind_word_alone (bit_and word (1 * 2 ^ count % 2 ^ 64 - 1)) k s

-- the bits of a mask are taken out
pub masked : (word mask k : ℕ) → mask < 2 ^ 8 → k < 64
    → get_or (low_bits (bit_and word (bit_not w64 (mask / 2 ^ 1))) 64) k false ≡ (get_or (low_bits word 64) k false && not (has_bit mask (k + 1)))
masked word mask k h l =
    in_word_alone (bit_and word (bit_not w64 (mask / 2 ^ 1))) k l ∙ in_both word (bit_not w64 (mask / 2 ^ 1)) k
    ∙ ap (λ b. has_bit word k && b) (turned (mask / 2 ^ 1) k (omega arith) l)
    ∙ ap (λ b. has_bit word k && not (b % 2 == 1)) (shr-shr mask 1 k) ∙ ap (λ m. has_bit word k && not (has_bit mask m)) (let e : 1 + k ≡ k + 1 = omega arith in e)
    ∙ ap (λ b. b && not (has_bit mask (k + 1))) (sym (in_word_alone word k l))

-- no bits from 6 on
pub short_word : (word k : ℕ) → word / 2 ^ 6 ≡ 0 → 6 ≤ k → get_or (low_bits word 64) k false ≡ false
short_word word k h l = by_place (cases_lt k 64)
  where
    by_place : (k < 64) ⊎ (64 ≤ k) → get_or (low_bits word 64) k false ≡ false
    by_place (inl s) = in_word_alone word k s ∙ none_high word k h l
    by_place (inr s) = behind_word_alone word k s

-- one bit is put in a word
pub set_here : (new k : ℕ) (bit : Bool) → k < 64 → has_bit new k ≡ bit → get_or (low_bits new 64) k false ≡ bit
set_here new k bit h e = in_word_alone new k h ∙ e

-- and the others stay
pub set_other : (new word k j : ℕ) → j ≢ k → ((j : ℕ) → j < 64 → j ≢ k → has_bit new j ≡ has_bit word j) → get_or (low_bits new 64) j false ≡ get_or (low_bits word 64) j false
set_other new word k j ne others = by_place (cases_lt j 64)
  where
    by_place : (j < 64) ⊎ (64 ≤ j) → get_or (low_bits new 64) j false ≡ get_or (low_bits word 64) j false
    by_place (inl s) = in_word_alone new j s ∙ others j s ne ∙ sym (in_word_alone word j s)
    by_place (inr s) = behind_word_alone new j s ∙ sym (behind_word_alone word j s)

-- bits of two words
joined : (word other k : ℕ) (a b : Bool) → has_bit (2 ^ 64 - 2 ^ 6) k ≡ a → has_bit (2 ^ 6 - 1) k ≡ b
    → has_bit (bit_or (bit_and word (2 ^ 64 - 2 ^ 6)) (bit_and other (2 ^ 6 - 1))) k ≡ ((has_bit word k && a) || (has_bit other k && b))
joined word other k a b e f =
    in_one (bit_and word (2 ^ 64 - 2 ^ 6)) (bit_and other (2 ^ 6 - 1)) k ∙ ap (λ x. x || has_bit (bit_and other (2 ^ 6 - 1)) k) (in_both word (2 ^ 64 - 2 ^ 6) k)
    ∙ ap (λ x. (has_bit word k && has_bit (2 ^ 64 - 2 ^ 6) k) || x) (in_both other (2 ^ 6 - 1) k)
    ∙ ap (λ x. (has_bit word k && x) || (has_bit other k && has_bit (2 ^ 6 - 1) k)) e ∙ ap (λ x. (has_bit word k && a) || (has_bit other k && x)) f

-- one or the other
only_second : (x y : Bool) → ((x && false) || (y && true)) ≡ y
only_second true true = refl
only_second true false = refl
only_second false true = refl
only_second false false = refl

only_first : (x y : Bool) → ((x && true) || (y && false)) ≡ x
only_first true true = refl
only_first true false = refl
only_first false true = refl
only_first false false = refl

-- the first six are those of the other
pub joined_low : (word other k : ℕ) → k < 6
    → get_or (low_bits (bit_or (bit_and word 18446744073709551552) (bit_and other 63)) 64) k false ≡ get_or (low_bits other 64) k false
joined_low word other k h =
    let far : k < 64 = omega arith in
    in_word_alone (bit_or (bit_and word 18446744073709551552) (bit_and other 63)) k far
    ∙ joined word other k false true (ap (λ x. x == 1) (bit_at_mask_below 6 64 k h)) (ap (λ x. x == 1) (bit_at_ones 6 k h))
    ∙ only_second (has_bit word k) (has_bit other k) ∙ sym (in_word_alone other k far)

-- and the rest those of the word
pub joined_high : (word other k : ℕ) → 6 ≤ k
    → get_or (low_bits (bit_or (bit_and word 18446744073709551552) (bit_and other 63)) 64) k false ≡ get_or (low_bits word 64) k false
joined_high word other k h = by_place (cases_lt k 64)
  where
    all : ℕ
    all = bit_or (bit_and word 18446744073709551552) (bit_and other 63)

    by_place : (k < 64) ⊎ (64 ≤ k) → get_or (low_bits all 64) k false ≡ get_or (low_bits word 64) k false
    by_place (inl s) =
        in_word_alone all k s
        ∙ joined word other k true false (ap (λ x. x == 1) (bit_at_mask_inside 6 64 k h s)) (ap (λ x. x == 1) (bit_at_ones_above 6 k h))
        ∙ only_first (has_bit word k) (has_bit other k) ∙ sym (in_word_alone word k s)
    by_place (inr s) = behind_word_alone all k s ∙ sym (behind_word_alone word k s)

-- the word 0 has no number
pub none_set : (k : ℕ) → get_or (low_bits 0 64) k false ≡ false
none_set = by_each 0 (λ k. false) (λ k h. ap (λ x. x == 1) (bit_at-zero k)) (λ k h. refl)

-- the same of a word that is 0
pub zero_set : (word k : ℕ) → word ≡ 0 → get_or (low_bits word 64) k false ≡ false
zero_set word k e = ap (λ w. get_or (low_bits w 64) k false) e ∙ none_set k

-- the ones below a bit
pub ones_short : (count k : ℕ) → count < 64 → has_bit (1 * 2 ^ count % 2 ^ 64 - 1) k ≡ nat_lt k count
ones_short count k h = ap (λ m. has_bit m k) (mask_is count h) ∙ by_place (cases_lt k count)
  where
    by_place : (k < count) ⊎ (count ≤ k) → has_bit (2 ^ count - 1) k ≡ nat_lt k count
    by_place (inl l) = let e = bit_at_ones count k l in grind (arith, nat_tests)
    by_place (inr l) = let e = bit_at_ones_above count k l in grind (arith, nat_tests)

-- and all of them
pub ones_long : (count k : ℕ) → 64 ≤ count → k < 64 → has_bit 18446744073709551615 k ≡ nat_lt k count
ones_long count k h l = let e : bit_at (2 ^ 64 - 1) k ≡ 1 = bit_at_ones 64 k l in ap (λ x. x == 1) e ∙ grind (arith, nat_tests)

-- a number that is not in a range
out_of : (b x y : Bool) → (b && (x || not y)) ≡ (b && not (not x && y))
out_of false x y = refl
out_of true true true = refl
out_of true true false = refl
out_of true false true = refl
out_of true false false = refl

-- from one on up to another, by what is below
within_both : (from to k : ℕ) → (not (nat_lt k from) && nat_lt k to) ≡ (nat_le from k && nat_lt k to)
within_both from to k = grind (arith, nat_tests)

-- the numbers of a range are taken out
pub range_out : (word low high from to k : ℕ) → low < 2 ^ 64 → high < 2 ^ 64 → ((j : ℕ) → j < 64 → has_bit low j ≡ nat_lt j from) → ((j : ℕ) → j < 64 → has_bit high j ≡ nat_lt j to)
    → get_or (low_bits (bit_and word (bit_or low (bit_not w64 high))) 64) k false ≡ (get_or (low_bits word 64) k false && not (nat_le from k && nat_lt k to))
range_out word low high from to k small big is_low is_high =
    by_each (bit_and word (bit_or low (bit_not w64 high))) (λ k. get_or (low_bits word 64) k false && not (nat_le from k && nat_lt k to))
    (λ k h.
    in_both word (bit_or low (bit_not w64 high)) k ∙ ap (λ b. has_bit word k && b) (in_one low (bit_not w64 high) k)
    ∙ ap (λ b. has_bit word k && (b || has_bit (bit_not w64 high) k)) (is_low k h)
    ∙ ap (λ b. has_bit word k && (nat_lt k from || b)) (turned high k big h ∙ ap not (is_high k h))
    ∙ out_of (has_bit word k) (nat_lt k from) (nat_lt k to)
    ∙ ap (λ b. has_bit word k && not b) (within_both from to k)
    ∙ ap (λ b. b && not (nat_le from k && nat_lt k to)) (sym (in_word_alone word k h)))
    (λ k h. ap (λ b. b && not (nat_le from k && nat_lt k to)) (behind_word_alone word k h)) k

-- what is kept of a word within a range
abbrev Keeps : (word kept from to : ℕ) → Type 0
Keeps word kept from to = (k : ℕ) → k < 64 → has_bit kept k ≡ (has_bit word k && (nat_le from k && nat_lt k to))

kept_is : (word low high from to : ℕ) → low < 2 ^ 64 → ((j : ℕ) → j < 64 → has_bit low j ≡ nat_lt j from) → ((j : ℕ) → j < 64 → has_bit high j ≡ nat_lt j to)
    → Keeps word (bit_and (bit_and word high) (bit_not w64 low)) from to
kept_is word low high from to small is_low is_high k h =
    in_both (bit_and word high) (bit_not w64 low) k ∙ ap (λ b. b && has_bit (bit_not w64 low) k) (in_both word high k)
    ∙ ap (λ b. (has_bit word k && b) && has_bit (bit_not w64 low) k) (is_high k h)
    ∙ ap (λ b. (has_bit word k && nat_lt k to) && b) (turned low k small h ∙ ap not (is_low k h))
    ∙ turned_round (has_bit word k) (nat_lt k from) (nat_lt k to) ∙ ap (λ b. has_bit word k && b) (within_both from to k)
  where
    turned_round : (b x y : Bool) → ((b && y) && not x) ≡ (b && (not x && y))
    turned_round false x y = refl
    turned_round true true true = refl
    turned_round true true false = refl
    turned_round true false true = refl
    turned_round true false false = refl

-- true is not false
wrong : {A : Type 0} → true ≡ false → A
wrong h = cc

-- of what is kept, what is not a number of it is none of the word within the range
not_kept : (word kept from to k : ℕ) → Keeps word kept from to → from ≤ k → k < to → (k < 64 → has_bit kept k ≡ false) → get_or (low_bits word 64) k false ≡ false
not_kept word kept from to k keeps l h none = by_place (cases_lt k 64)
  where
    inside : (nat_le from k && nat_lt k to) ≡ true
    inside = grind (arith, nat_tests)

    by_place : (k < 64) ⊎ (64 ≤ k) → get_or (low_bits word 64) k false ≡ false
    by_place (inr s) = behind_word_alone word k s
    by_place (inl s) = in_word_alone word k s ∙ sym (and_true (has_bit word k)) ∙ ap (λ b. has_bit word k && b) (sym inside) ∙ sym (keeps k s) ∙ none s

-- a number from a power of 2 on, below the next one, has the bit of that power
own_bit : (n j : ℕ) → 2 ^ j ≤ n → n < 2 ^ suc j → has_bit n j ≡ true
own_bit n j l h =
    let d : 2 ^ suc j ≡ 2 ^ j * 2 = pow-suc 2 j in
    let e : n ≡ 1 * 2 ^ j + (n - 2 ^ j) = omega arith in
    let one : n / 2 ^ j ≡ 1 = ap (λ m. m / 2 ^ j) e ∙ shr_high 1 j (n - 2 ^ j) (omega arith) in
    ap (λ m. m % 2 == 1) one

-- the highest bit of a word that is not 0
top_of : (n : ℕ) → n < 2 ^ 64 → n ≢ 0 → (j : ℕ) × (leading_zeros w64 n + suc j ≡ 64) × (has_bit n j ≡ true) × ((k : ℕ) → j < k → has_bit n k ≡ false)
top_of n h some = by_top (leading_top 64 n (omega arith) h)
  where
    by_top : (j : ℕ) × (leading_zeros w64 n + suc j ≡ 64) × (2 ^ j ≤ n) × (n < 2 ^ suc j)
        → (j : ℕ) × (leading_zeros w64 n + suc j ≡ 64) × (has_bit n j ≡ true) × ((k : ℕ) → j < k → has_bit n k ≡ false)
    by_top (j, e, l, g) = (j, e, own_bit n j l g, λ k m. ap (λ x. x == 1) (bit_at_above n (suc j) k g (omega arith)))

-- there is one, where what is kept is not 0
pub top_small : (n : ℕ) → n < 2 ^ 64 → n ≢ 0 → leading_zeros w64 n ≤ 63
top_small n h some = let t = top_of n h some in omega arith

-- where nothing is kept there is none
pub last_none : (word low high from to : ℕ) → low < 2 ^ 64 → ((j : ℕ) → j < 64 → has_bit low j ≡ nat_lt j from) → ((j : ℕ) → j < 64 → has_bit high j ≡ nat_lt j to)
    → bit_and (bit_and word high) (bit_not w64 low) ≡ 0 → IsLast (λ k. get_or (low_bits word 64) k false) from to None
last_none word low high from to small is_low is_high e = λ k l h.
    not_kept word 0 from to k (λ j s. ap (λ n. has_bit n j) (sym e) ∙ kept_is word low high from to small is_low is_high j s) l h (λ s. ap (λ x. x == 1) (bit_at-zero k))

-- a bit of what is kept is one of the word within the range
kept_bit : (word kept from to k : ℕ) → Keeps word kept from to → k < 64 → has_bit kept k ≡ true → (from ≤ k) × (k < to) × (get_or (low_bits word 64) k false ≡ true)
kept_bit word kept from to k keeps s h = by_tests (has_bit word k) (nat_le from k) (nat_lt k to) refl refl refl (sym (keeps k s) ∙ h)
  where
    by_tests : (a b d : Bool) → has_bit word k ≡ a → nat_le from k ≡ b → nat_lt k to ≡ d → (a && (b && d)) ≡ true → (from ≤ k) × (k < to) × (get_or (low_bits word 64) k false ≡ true)
    by_tests true true true e f g t = (grind (arith, nat_tests), grind (arith, nat_tests), in_word_alone word k s ∙ e)
    by_tests false b d e f g t = wrong (sym t)
    by_tests true false d e f g t = wrong (sym t)
    by_tests true true false e f g t = wrong (sym t)

-- the highest bit of what is kept
last_kept : (word kept from to : ℕ) → kept < 2 ^ 64 → kept ≢ 0 → Keeps word kept from to → IsLast (λ k. get_or (low_bits word 64) k false) from to (Some (63 - leading_zeros w64 kept))
last_kept word kept from to fits some keeps = by_top (top_of kept fits some)
  where
    by_top : (j : ℕ) × (leading_zeros w64 kept + suc j ≡ 64) × (has_bit kept j ≡ true) × ((k : ℕ) → j < k → has_bit kept k ≡ false)
        → IsLast (λ k. get_or (low_bits word 64) k false) from to (Some (63 - leading_zeros w64 kept))
    by_top (j, e, here, above) =
        let is : j ≡ 63 - leading_zeros w64 kept = omega arith in
        let k = kept_bit word kept from to j keeps (omega arith) here in
        let P : ℕ → Type 0 = λ n. IsLast (λ k. get_or (low_bits word 64) k false) from to (Some n) in
        subst P is (k.0, k.1, k.2, λ m l h. not_kept word kept from to m keeps (let f = k.0 in omega arith) h (λ s. above m l))

-- or else the highest one of what is kept is the last one
pub last_some : (word low high from to : ℕ) → word < 2 ^ 64 → low < 2 ^ 64 → ((j : ℕ) → j < 64 → has_bit low j ≡ nat_lt j from) → ((j : ℕ) → j < 64 → has_bit high j ≡ nat_lt j to)
    → bit_and (bit_and word high) (bit_not w64 low) ≢ 0 → IsLast (λ k. get_or (low_bits word 64) k false) from to (Some (63 - leading_zeros w64 (bit_and (bit_and word high) (bit_not w64 low))))
last_some word low high from to fits small is_low is_high some =
    let l = and_le_l word high in
    let m = and_le_l (bit_and word high) (bit_not w64 low) in
    last_kept word (bit_and (bit_and word high) (bit_not w64 low)) from to (omega arith) some (kept_is word low high from to small is_low is_high)

-- all numbers of one word are those of the other, or one is not
differs : (one other n : ℕ) → ((k : ℕ) → k < n → has_bit one k ≡ true → has_bit other k ≡ true) ⊎ ((k : ℕ) × (k < n) × (has_bit one k ≡ true) × (has_bit other k ≡ false))
differs one other zero = inl (λ k l e. absurd (omega arith))
differs one other (suc n) = by_last (has_bit one n) (has_bit other n) refl refl (differs one other n)
  where
    Says : ℕ → Type 0
    Says m = ((k : ℕ) → k < m → has_bit one k ≡ true → has_bit other k ≡ true) ⊎ ((k : ℕ) × (k < m) × (has_bit one k ≡ true) × (has_bit other k ≡ false))

    at : (has_bit one n ≡ true → has_bit other n ≡ true) → ((k : ℕ) → k < n → has_bit one k ≡ true → has_bit other k ≡ true) → (k : ℕ) → k < suc n → has_bit one k ≡ true → has_bit other k ≡ true
    at here before k l = by_place (cases_lt k n)
      where
        by_place : (k < n) ⊎ (n ≤ k) → has_bit one k ≡ true → has_bit other k ≡ true
        by_place (inl s) e = before k s e
        by_place (inr s) e = let same : k ≡ n = omega arith in ap (has_bit other) same ∙ here (ap (has_bit one) (sym same) ∙ e)

    by_last : (a b : Bool) → has_bit one n ≡ a → has_bit other n ≡ b → Says n → Says (suc n)
    by_last a b e f (inr (k, l, x, y)) = inr (k, omega arith, x, y)
    by_last true false e f (inl before) = inr (n, omega arith, e, f)
    by_last true true e f (inl before) = inl (at (λ _. f) before)
    by_last false b e f (inl before) = inl (at (λ x. wrong (sym x ∙ e)) before)

-- a number that one word has and the other has not
pub beyond_word : (one other : ℕ) → one < 2 ^ 64 → bit_and one other ≢ one → (k : ℕ) × (get_or (low_bits one 64) k false ≡ true) × (get_or (low_bits other 64) k false ≡ false)
beyond_word one other h ne = by_case (differs one other 64)
  where
    kept : (a b : Bool) → (a ≡ true → b ≡ true) → (a && b) ≡ a
    kept true b t = t refl
    kept false b t = refl

    by_bits : (x y : ℕ) → x < 2 → y < 2 → (x == 1) ≡ (y == 1) → x ≡ y
    by_bits x y g l e = grind (arith, nat_tests)

    by_case : ((k : ℕ) → k < 64 → has_bit one k ≡ true → has_bit other k ≡ true) ⊎ ((k : ℕ) × (k < 64) × (has_bit one k ≡ true) × (has_bit other k ≡ false))
        → (k : ℕ) × (get_or (low_bits one 64) k false ≡ true) × (get_or (low_bits other 64) k false ≡ false)
    by_case (inr (k, l, x, y)) = (k, in_word_alone one k l ∙ x, in_word_alone other k l ∙ y)
    by_case (inl all) = absurd (ne (same_from_bits_below 64 (bit_and one other) one (let l = and_le_l one other in omega arith) h
        (λ k s. by_bits (bit_at (bit_and one other) k) (bit_at one k) (bit_at-lt (bit_and one other) k) (bit_at-lt one k) (in_both one other k ∙ kept (has_bit one k) (has_bit other k) (all k s)))))
