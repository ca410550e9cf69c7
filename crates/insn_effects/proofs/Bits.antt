-- Registers of the seven as bits.
use Rattle.std.proofs.Common.{◌≡◌, ◌≤◌, ◌<◌, ℕ, ◌+◌, ◌-◌, ◌^◌, ◌==◌, ◌||◌, Bool, true, false, refl, subst, arith}
use Rattle.std.proofs.lemmas.Bool.Decides.{nat_tests}
use Rattle.insn_effects.specs.Seven.{number_of, kept_number, bit_of, bits_of, AreNumbered}
use Rattle.insn_effects.specs.Followed.{wrap, moved, written_beside}

-- a test is no more true the other way round
turned : (a b : ℕ) → (a == b) ≡ (b == a)
turned a b = grind (arith, nat_tests)

-- what holds of each of the seven, and of all others, holds of each number
by_number : (P : ℕ → Type 0) → P 4 → P 3 → P 5 → P 12 → P 13 → P 14 → P 15
    → ((r : ℕ) → (r == 4) ≡ false → (r == 3) ≡ false → (r == 5) ≡ false → (r == 12) ≡ false → (r == 13) ≡ false → (r == 14) ≡ false → (r == 15) ≡ false → P r) → (r : ℕ) → P r
by_number P a b c d e f g other r = by_test (r == 4) refl
  where
    same : (n : ℕ) → (r == n) ≡ true → n ≡ r
    same n h = grind (arith, nat_tests)

    last : (r == 4) ≡ false → (r == 3) ≡ false → (r == 5) ≡ false → (r == 12) ≡ false → (r == 13) ≡ false → (r == 14) ≡ false → (t : Bool) → (r == 15) ≡ t → P r
    last z y x w v u true h = subst P (same 15 h) g
    last z y x w v u false h = other r z y x w v u h

    sixth : (r == 4) ≡ false → (r == 3) ≡ false → (r == 5) ≡ false → (r == 12) ≡ false → (r == 13) ≡ false → (t : Bool) → (r == 14) ≡ t → P r
    sixth z y x w v true h = subst P (same 14 h) f
    sixth z y x w v false h = last z y x w v h (r == 15) refl

    fifth : (r == 4) ≡ false → (r == 3) ≡ false → (r == 5) ≡ false → (r == 12) ≡ false → (t : Bool) → (r == 13) ≡ t → P r
    fifth z y x w true h = subst P (same 13 h) e
    fifth z y x w false h = sixth z y x w h (r == 14) refl

    fourth : (r == 4) ≡ false → (r == 3) ≡ false → (r == 5) ≡ false → (t : Bool) → (r == 12) ≡ t → P r
    fourth z y x true h = subst P (same 12 h) d
    fourth z y x false h = fifth z y x h (r == 13) refl

    third : (r == 4) ≡ false → (r == 3) ≡ false → (t : Bool) → (r == 5) ≡ t → P r
    third z y true h = subst P (same 5 h) c
    third z y false h = fourth z y h (r == 12) refl

    second : (r == 4) ≡ false → (t : Bool) → (r == 3) ≡ t → P r
    second z true h = subst P (same 3 h) b
    second z false h = third z h (r == 5) refl

    by_test : (t : Bool) → (r == 4) ≡ t → P r
    by_test true h = subst P (same 4 h) a
    by_test false h = second h (r == 3) refl

-- the bit of a register alone
pub one_bit : (r : ℕ) → bits_of (λ q. q == r) ≡ bit_of (number_of r)
one_bit r = by_number (λ r. bits_of (λ q. q == r) ≡ bit_of (number_of r)) refl refl refl refl refl refl refl
    (λ r a b c d e f g. simp (turned 4 r, turned 3 r, turned 5 r, turned 12 r, turned 13 r, turned 14 r, turned 15 r, a, b, c, d, e, f, g) refl) r

-- the same with the test turned
pub low_bit : (r : ℕ) → bits_of (λ q. r == q) ≡ bit_of (number_of r)
low_bit r = by_number (λ r. bits_of (λ q. r == q) ≡ bit_of (number_of r)) refl refl refl refl refl refl refl
    (λ r a b c d e f g. simp (a, b, c, d, e, f, g) refl) r

high_test : (r n : ℕ) → 4 ≤ r → (r == 4 + n) ≡ (r - 4 == n)
high_test r n h = grind (arith, nat_tests)

-- ah is a part of rax
pub high_bit : (r : ℕ) → 4 ≤ r → bits_of (λ q. r == 4 + q) ≡ bit_of (number_of (r - 4))
high_bit r h =
    let a : (r == 8) ≡ (r - 4 == 4) = high_test r 4 h in
    let b : (r == 7) ≡ (r - 4 == 3) = high_test r 3 h in
    let c : (r == 9) ≡ (r - 4 == 5) = high_test r 5 h in
    let d : (r == 16) ≡ (r - 4 == 12) = high_test r 12 h in
    let e : (r == 17) ≡ (r - 4 == 13) = high_test r 13 h in
    let f : (r == 18) ≡ (r - 4 == 14) = high_test r 14 h in
    let g : (r == 19) ≡ (r - 4 == 15) = high_test r 15 h in
    simp (a, b, c, d, e, f, g) (low_bit (r - 4))

no_high_test : (r n m : ℕ) → r < 4 → m ≡ 4 + n → (r == m) ≡ false
no_high_test r n m h e = grind (arith, nat_tests)

-- and no part has a lower number
pub no_high_bit : (r : ℕ) → r < 4 → bits_of (λ q. r == 4 + q) ≡ 0
no_high_bit r h =
    let a : (r == 8) ≡ false = no_high_test r 4 8 h refl in
    let b : (r == 7) ≡ false = no_high_test r 3 7 h refl in
    let c : (r == 9) ≡ false = no_high_test r 5 9 h refl in
    let d : (r == 16) ≡ false = no_high_test r 12 16 h refl in
    let e : (r == 17) ≡ false = no_high_test r 13 17 h refl in
    let f : (r == 18) ≡ false = no_high_test r 14 18 h refl in
    let g : (r == 19) ≡ false = no_high_test r 15 19 h refl in
    simp (a, b, c, d, e, f, g) refl

-- another register has the number of none
other_number : (r : ℕ) → (r == 4) ≡ false → (r == 3) ≡ false → (r == 5) ≡ false → (r == 12) ≡ false → (r == 13) ≡ false → (r == 14) ≡ false → (r == 15) ≡ false → number_of r ≡ 7
other_number r a b c d e f g = simp (a, b, c, d, e, f, g) refl

-- a register that a move alone gives is written in no other way
pub moved_bits : (to base add : ℕ) → (number_of to == 7) ≡ false → (base == 7) ≡ false → bits_of (written_beside (moved (number_of to) base add) (λ q. q == to)) ≡ 0
moved_bits to base add h g = by_number (λ r. (number_of r == 7) ≡ false → bits_of (written_beside (moved (number_of r) base add) (λ q. q == r)) ≡ 0)
    (λ h. simp g refl) (λ h. simp g refl) (λ h. simp g refl) (λ h. simp g refl) (λ h. simp g refl) (λ h. simp g refl) (λ h. simp g refl)
    (λ r a b c d e f k h. let n = other_number r a b c d e f k in let bad : (7 == 7) ≡ false = subst (λ (x : ℕ). (x == 7) ≡ false) n h in cc) to h

-- a pop writes its register, if it is callee-saved, in another way than by its move
pub popped_bits : (r : ℕ) → bits_of (written_beside (moved 0 0 8) (λ q. (q == 4) || (q == r))) ≡ bit_of (kept_number (number_of r))
popped_bits r = by_number (λ r. bits_of (written_beside (moved 0 0 8) (λ q. (q == 4) || (q == r))) ≡ bit_of (kept_number (number_of r))) refl refl refl refl refl refl refl
    (λ r a b c d e f g. simp (turned 3 r, turned 5 r, turned 12 r, turned 13 r, turned 14 r, turned 15 r, a, b, c, d, e, f, g) refl) r

-- numbers of the code are modulo 2 ^ 64
pub wrap_small : (n : ℕ) → n < 2 ^ 64 → wrap n ≡ n
wrap_small n h = omega arith

pub numbered : AreNumbered
numbered = refl
