-- The seven registers by their numbers among them and in the processor, and the bits of them.
use Rattle.std.proofs.Common.{◌≡◌, ◌≢◌, ◌+◌, ◌*◌, ◌/◌, ◌%◌, ◌<◌, ◌≤◌, ◌==◌, ℕ, zero, suc, Bool, true, false, cond, refl, sym, ap, ◌∙◌, arith}
use Rattle.std.proofs.lemmas.Bool.Decides.{nat_tests}
use Rattle.insn_effects.specs.Seven.{number_of, bit_if, bits_of}
use Rattle.stack_depths.specs.Distances.{has_bit}
use Rattle.scfi_laws.specs.Performing.{processor_number}

-- a number below 7 is one of seven
pub each_of_seven : (P : ℕ → Type 0) → P 0 → P 1 → P 2 → P 3 → P 4 → P 5 → P 6 → (q : ℕ) → q < 7 → P q
each_of_seven P a b c d e f g zero low = a
each_of_seven P a b c d e f g (suc zero) low = b
each_of_seven P a b c d e f g (suc (suc zero)) low = c
each_of_seven P a b c d e f g (suc (suc (suc zero))) low = d
each_of_seven P a b c d e f g (suc (suc (suc (suc zero)))) low = e
each_of_seven P a b c d e f g (suc (suc (suc (suc (suc zero))))) low = f
each_of_seven P a b c d e f g (suc (suc (suc (suc (suc (suc zero)))))) low = g
each_of_seven P a b c d e f g (suc (suc (suc (suc (suc (suc (suc more))))))) low = absurd (let none : ⊥ = omega arith in none)

-- the number among the seven of one of them
pub numbered : (q : ℕ) → q < 7 → number_of (processor_number q) ≡ q
numbered = each_of_seven (λ q. number_of (processor_number q) ≡ q) refl refl refl refl refl refl refl

-- the number in the processor of a register that is one of them
pub found : (n : ℕ) → number_of n ≢ 7 → processor_number (number_of n) ≡ n
found n is = by_tests (n == 4) (n == 3) (n == 5) (n == 12) (n == 13) (n == 14) (n == 15) refl refl refl refl refl refl refl is
  where
    Goal : (a b c d e f g : Bool) → ℕ
    Goal a b c d e f g = cond a 0 (cond b 1 (cond c 2 (cond d 3 (cond e 4 (cond f 5 (cond g 6 7))))))

    by_tests : (a b c d e f g : Bool) → (n == 4) ≡ a → (n == 3) ≡ b → (n == 5) ≡ c → (n == 12) ≡ d → (n == 13) ≡ e → (n == 14) ≡ f → (n == 15) ≡ g
        → Goal a b c d e f g ≢ 7 → processor_number (Goal a b c d e f g) ≡ n
    by_tests true b c d e f g is _ _ _ _ _ _ _ = let same : 4 ≡ n = grind (arith, nat_tests) in same
    by_tests false true c d e f g _ is _ _ _ _ _ _ = let same : 3 ≡ n = grind (arith, nat_tests) in same
    by_tests false false true d e f g _ _ is _ _ _ _ _ = let same : 5 ≡ n = grind (arith, nat_tests) in same
    by_tests false false false true e f g _ _ _ is _ _ _ _ = let same : 12 ≡ n = grind (arith, nat_tests) in same
    by_tests false false false false true f g _ _ _ _ is _ _ _ = let same : 13 ≡ n = grind (arith, nat_tests) in same
    by_tests false false false false false true g _ _ _ _ _ is _ _ = let same : 14 ≡ n = grind (arith, nat_tests) in same
    by_tests false false false false false false true _ _ _ _ _ _ is _ = let same : 15 ≡ n = grind (arith, nat_tests) in same
    by_tests false false false false false false false _ _ _ _ _ _ _ none = absurd (none refl)

-- one where something holds, else nothing
abbrev one_if : Bool → ℕ
one_if b = bit_if b 1

-- it is at most one
at_most_one : (b : Bool) → one_if b ≤ 1
at_most_one true = omega arith
at_most_one false = omega arith

-- a bit is a multiple of that
scaled : (b : Bool) (bit : ℕ) → bit_if b bit ≡ bit * one_if b
scaled true bit = omega arith
scaled false bit = omega arith

-- it tells whether that holds
tells : (b : Bool) → (one_if b == 1) ≡ b
tells true = refl
tells false = refl

-- seven numbers of at most one, as the bits of a number
abbrev sum_of_bits : (a b c d e f g : ℕ) → ℕ
sum_of_bits a b c d e f g = a + (2 * b + (4 * c + (8 * d + (16 * e + (32 * f + 64 * g)))))

module _ (a b c d e f g : ℕ) (la : a ≤ 1) (lb : b ≤ 1) (lc : c ≤ 1) (ld : d ≤ 1) (le : e ≤ 1) (lf : f ≤ 1) (lg : g ≤ 1) where
  bit0 : sum_of_bits a b c d e f g / 1 % 2 ≡ a
  bit0 = omega arith

  bit1 : sum_of_bits a b c d e f g / 2 % 2 ≡ b
  bit1 = omega arith

  bit2 : sum_of_bits a b c d e f g / 4 % 2 ≡ c
  bit2 = omega arith

  bit3 : sum_of_bits a b c d e f g / 8 % 2 ≡ d
  bit3 = omega arith

  bit4 : sum_of_bits a b c d e f g / 16 % 2 ≡ e
  bit4 = omega arith

  bit5 : sum_of_bits a b c d e f g / 32 % 2 ≡ f
  bit5 = omega arith

  bit6 : sum_of_bits a b c d e f g / 64 % 2 ≡ g
  bit6 = omega arith

-- the bit of one of the seven says whether that was counted
pub counted : (f : ℕ → Bool) (q : ℕ) → q < 7 → has_bit (bits_of f) q ≡ f (processor_number q)
counted f = by (f 4) (f 3) (f 5) (f 12) (f 13) (f 14) (f 15) refl refl refl refl refl refl refl
  where
    by : (a b c d e g h : Bool) → f 4 ≡ a → f 3 ≡ b → f 5 ≡ c → f 12 ≡ d → f 13 ≡ e → f 14 ≡ g → f 15 ≡ h → (q : ℕ) → q < 7 → has_bit (bits_of f) q ≡ f (processor_number q)
    by a b c d e g h ia ib ic id ie ig ih =
        let sum : bits_of f ≡ sum_of_bits (one_if a) (one_if b) (one_if c) (one_if d) (one_if e) (one_if g) (one_if h) =
        (let sb = scaled b 2 in let sc = scaled c 4 in let sd = scaled d 8 in let se = scaled e 16 in let sg = scaled g 32 in let sh = scaled h 64 in cc) in
        let la = at_most_one a in let lb = at_most_one b in let lc = at_most_one c in let ld = at_most_one d in
        let le = at_most_one e in let lg = at_most_one g in let lh = at_most_one h in
        let z = one_if in
        each_of_seven (λ q. has_bit (bits_of f) q ≡ f (processor_number q))
        (ap (λ n. n / 1 % 2 == 1) sum ∙ ap (λ n. n == 1) (bit0 (z a) (z b) (z c) (z d) (z e) (z g) (z h) la lb lc ld le lg lh) ∙ tells a ∙ sym ia)
        (ap (λ n. n / 2 % 2 == 1) sum ∙ ap (λ n. n == 1) (bit1 (z a) (z b) (z c) (z d) (z e) (z g) (z h) la lb lc ld le lg lh) ∙ tells b ∙ sym ib)
        (ap (λ n. n / 4 % 2 == 1) sum ∙ ap (λ n. n == 1) (bit2 (z a) (z b) (z c) (z d) (z e) (z g) (z h) la lb lc ld le lg lh) ∙ tells c ∙ sym ic)
        (ap (λ n. n / 8 % 2 == 1) sum ∙ ap (λ n. n == 1) (bit3 (z a) (z b) (z c) (z d) (z e) (z g) (z h) la lb lc ld le lg lh) ∙ tells d ∙ sym id)
        (ap (λ n. n / 16 % 2 == 1) sum ∙ ap (λ n. n == 1) (bit4 (z a) (z b) (z c) (z d) (z e) (z g) (z h) la lb lc ld le lg lh) ∙ tells e ∙ sym ie)
        (ap (λ n. n / 32 % 2 == 1) sum ∙ ap (λ n. n == 1) (bit5 (z a) (z b) (z c) (z d) (z e) (z g) (z h) la lb lc ld le lg lh) ∙ tells g ∙ sym ig)
        (ap (λ n. n / 64 % 2 == 1) sum ∙ ap (λ n. n == 1) (bit6 (z a) (z b) (z c) (z d) (z e) (z g) (z h) la lb lc ld le lg lh) ∙ tells h ∙ sym ih)
