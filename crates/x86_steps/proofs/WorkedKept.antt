-- What the states of worked changes have in common.
use Rattle.std.proofs.Common.{◌≡◌, ◌≢◌, ◌+◌, ◌==◌, ◌||◌, ◌++◌, ℕ, Bool, true, false, cond, List, [], ◌∷◌, refl, ◌∙◌, arith, lit<}
use Rattle.std.proofs.lemmas.Bool.Decides.{nat_tests}
use Rattle.insn_effects.specs.Followed.{wrap}
use Rattle.x86_steps.specs.Memory.{Cell, byte_at, SameOutside}
use Rattle.x86_steps.specs.WorkedOperands.{eight_cells}
use Rattle.x86_steps.specs.WorkedSteps.{stands_at}

-- another address has no cell there
passed : (p b v w : ℕ) → b ≢ p → cond (p == b) v w ≡ w
passed p b v w h = grind (arith, nat_tests)

-- all but rsp stay
pub top_set : (p q r t b n : ℕ) → (stands_at q t b).registers n ≡ cond (n == 4) t ((stands_at p r b).registers n)
top_set p q r t b n = by_test (n == 4) (n == 5)
  where
    same : ℕ → ℕ → Type 0
    same a b = a ≡ b

    by_test : (c d : Bool) → same (cond c t (cond d b 0)) (cond c t (cond c r (cond d b 0)))
    by_test true d = refl
    by_test false d = refl

-- the eight addresses from this one on
pub record Eight (p first second : ℕ) : Type 0 where
  pub a : first ≡ wrap (p + 0)
  pub b : second ≡ wrap (p + 1)
  pub c : second + 1 ≡ wrap (p + 2)
  pub d : second + 2 ≡ wrap (p + 3)
  pub e : second + 3 ≡ wrap (p + 4)
  pub f : second + 4 ≡ wrap (p + 5)
  pub g : second + 5 ≡ wrap (p + 6)
  pub h : second + 6 ≡ wrap (p + 7)

-- a byte at none of these stays
pub beside : (p first second : ℕ) (memory : List Cell) → Eight p first second → SameOutside p 8 memory (eight_cells first second ++ memory)
unfolding byte_at
beside p first second memory is b outside =
    passed first b 1 _ (λ e. outside 0 (lit< tt) (e ∙ is.a))
    ∙ passed second b 2 _ (λ e. outside 1 (lit< tt) (e ∙ is.b))
    ∙ passed (second + 1) b 3 _ (λ e. outside 2 (lit< tt) (e ∙ is.c))
    ∙ passed (second + 2) b 4 _ (λ e. outside 3 (lit< tt) (e ∙ is.d))
    ∙ passed (second + 3) b 5 _ (λ e. outside 4 (lit< tt) (e ∙ is.e))
    ∙ passed (second + 4) b 6 _ (λ e. outside 5 (lit< tt) (e ∙ is.f))
    ∙ passed (second + 5) b 7 _ (λ e. outside 6 (lit< tt) (e ∙ is.g))
    ∙ passed (second + 6) b 8 _ (λ e. outside 7 (lit< tt) (e ∙ is.h))

-- a byte that is not the second of eight stays
pub beside_second : (p second : ℕ) → second ≡ wrap (p + 1) → SameOutside p 8 [] (record { address = second; byte = 16 } ∷ [])
unfolding byte_at
beside_second p second is b outside = passed second b 16 _ (λ e. outside 1 (lit< tt) (e ∙ is))

-- a byte that is not the one that is stored stays
pub beside_one : (p address byte : ℕ) → address ≡ wrap (p + 0) → SameOutside p 1 [] (record { address = address; byte = byte } ∷ [])
unfolding byte_at
beside_one p address byte is b outside = passed address b byte _ (λ e. outside 0 (lit< tt) (e ∙ is))

-- what is not a part of rbp stays
pub no_frame : (p q r b c n : ℕ) → ((5 == n) || false) ≡ false → (stands_at q r c).registers n ≡ (stands_at p r b).registers n
no_frame p q r b c n h = grind (arith, nat_tests)

-- all but rsp and rbp stay
pub frame_set : (p q r t b c n : ℕ) → n ≢ 5 → (stands_at q t c).registers n ≡ cond (n == 4) t ((stands_at p r b).registers n)
frame_set p q r t b c n h = grind (arith, nat_tests)

-- all but rsp stay
pub only_top : (p q r t b n : ℕ) → n ≢ 4 → (stands_at q t b).registers n ≡ (stands_at p r b).registers n
only_top p q r t b n h = grind (arith, nat_tests)

-- all but rbp stay
pub only_frame : (p q r b c n : ℕ) → n ≢ 5 → (stands_at q r c).registers n ≡ (stands_at p r b).registers n
only_frame p q r b c n h = grind (arith, nat_tests)
