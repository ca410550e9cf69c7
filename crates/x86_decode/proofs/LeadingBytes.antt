-- The bytes that may stand before an opcode are read off one by one, by their ranks.
use Rattle.std.proofs.Common.{◌≡◌, ◌<◌, ℕ, ◌==◌, ◌||◌, List, [], ◌∷◌, ◌++◌, Bool, true, false, cond, Option, Some, None, refl, arith, inl, inr}
use Rattle.std.proofs.lemmas.Bool.{eqb-true, or_cases, cases_Bool}
use Rattle.x86_table.specs.Bytes.{opt}
use Rattle.x86_table.specs.Heads.{rank}
use Rattle.x86_table.specs.Leads.{HasRank}
use Rattle.x86_decode.specs.Heads.{is_first, is_size, is_repeat, is_lock, is_rex, front_if, behind}

-- the rank by the tests of the classes
abbrev by_tests : Bool → Bool → Bool → Bool → Bool → Bool → ℕ
by_tests rex escape size lock rep first = cond rex 5 (cond escape 6 (cond size 2 (cond lock 4 (cond rep 3 (cond first 1 7)))))

one_is : (a b c d e f : Bool) → by_tests a b c d e f ≡ 1 → f ≡ true
one_is true b c d e f h = cc
one_is false true c d e f h = cc
one_is false false true d e f h = cc
one_is false false false true e f h = cc
one_is false false false false true f h = cc
one_is false false false false false true h = refl
one_is false false false false false false h = cc

two_is : (a b c d e f : Bool) → by_tests a b c d e f ≡ 2 → c ≡ true
two_is true b c d e f h = cc
two_is false true c d e f h = cc
two_is false false true d e f h = refl
two_is false false false true e f h = cc
two_is false false false false true f h = cc
two_is false false false false false true h = cc
two_is false false false false false false h = cc

three_is : (a b c d e f : Bool) → by_tests a b c d e f ≡ 3 → e ≡ true
three_is true b c d e f h = cc
three_is false true c d e f h = cc
three_is false false true d e f h = cc
three_is false false false true e f h = cc
three_is false false false false true f h = refl
three_is false false false false false true h = cc
three_is false false false false false false h = cc

four_is : (a b c d e f : Bool) → by_tests a b c d e f ≡ 4 → d ≡ true
four_is true b c d e f h = cc
four_is false true c d e f h = cc
four_is false false true d e f h = cc
four_is false false false true e f h = refl
four_is false false false false true f h = cc
four_is false false false false false true h = cc
four_is false false false false false false h = cc

five_is : (a b c d e f : Bool) → by_tests a b c d e f ≡ 5 → a ≡ true
five_is true b c d e f h = refl
five_is false true c d e f h = cc
five_is false false true d e f h = cc
five_is false false false true e f h = cc
five_is false false false false true f h = cc
five_is false false false false false true h = cc
five_is false false false false false false h = cc

-- a test is that of a rank
pub record Tests (p : ℕ → Bool) (k : ℕ) : Type 0 where
  pub hit : (b : ℕ) → rank b ≡ k → p b ≡ true
  pub met : (b : ℕ) → p b ≡ true → rank b ≡ k

met_first : (b : ℕ) → is_first b ≡ true → rank b ≡ 1
met_first b h = elim (or_cases (b == 62) (b == 100 || b == 101) h) [
  | inl e ↦ rw (eqb-true b 62 e) refl
  | inr o ↦ elim (or_cases (b == 100) (b == 101) o) [
    | inl e ↦ rw (eqb-true b 100 e) refl
    | inr e ↦ rw (eqb-true b 101 e) refl
  ]
]

met_repeat : (b : ℕ) → is_repeat b ≡ true → rank b ≡ 3
met_repeat b h = elim (or_cases (b == 242) (b == 243) h) [
  | inl e ↦ rw (eqb-true b 242 e) refl
  | inr e ↦ rw (eqb-true b 243 e) refl
]

pub tests_first : Tests is_first 1
tests_first = record { hit = λ b h. one_is _ _ _ _ _ _ h; met = met_first }

pub tests_size : Tests is_size 2
tests_size = record { hit = λ b h. two_is _ _ _ _ _ _ h; met = λ b h. rw (eqb-true b 102 h) refl }

pub tests_repeat : Tests is_repeat 3
tests_repeat = record { hit = λ b h. three_is _ _ _ _ _ _ h; met = met_repeat }

pub tests_lock : Tests is_lock 4
tests_lock = record { hit = λ b h. four_is _ _ _ _ _ _ h; met = λ b h. rw (eqb-true b 240 h) refl }

pub tests_rex : Tests is_rex 5
tests_rex = record { hit = λ b h. five_is _ _ _ _ _ _ h; met = λ b h. rw h refl }

-- the list is empty, or its first byte comes behind those of this rank
abbrev pub Above : ℕ → List ℕ → Type 0
Above k [] = Unit {0}
Above k (x ∷ xs) = k < rank x

pub above : (k m : ℕ) (a : Option ℕ) (xs : List ℕ) → m < k → HasRank k a → Above k xs → Above m (opt a ++ xs)
above k m None [] lt r g = tt
above k m None (x ∷ xs) lt r g = omega arith
above k m (Some v) xs lt r g = omega arith

-- a byte that may stand is read off, and what is behind it is left
pub read_off : (p : ℕ → Bool) (k : ℕ) (a : Option ℕ) (xs : List ℕ) → Tests p k → HasRank k a → Above k xs
    → (front_if p (opt a ++ xs) ≡ a) × (behind a (opt a ++ xs) ≡ xs)
read_off p k None [] t r g = (refl, refl)
read_off p k None (x ∷ xs) t r g = elim (cases_Bool (p x)) [
  | inl y ↦ let at = t.met x y in absurd (omega arith)
  | inr n ↦ (rw n refl, refl)
]
read_off p k (Some v) xs t r g = (rw (t.hit v r) refl, refl)
