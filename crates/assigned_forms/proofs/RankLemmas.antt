-- The rank of a form, the number of symbols that it leads to: it falls from a form to those of the symbols that it names.
use Rattle.std.proofs.Common.{◌≡◌, ◌≢◌, ℕ, zero, suc, ◌+◌, ◌<◌, ◌≤◌, Bool, true, false, cond, nat_eq, List, [], ◌∷◌, length, Some, refl, subst, arith}
use Rattle.std.proofs.lemmas.Bool.{eqb-true}
use Rattle.std.proofs.lemmas.Bool.Decides.{nat_tests}
use Rattle.asm_expr.specs.Forms.{Form}
use Rattle.asm_symbols.specs.declared.entries.Symbol.{Symbol}
use Rattle.asm_symbols.specs.Assigning.{form_at, NamesSymbol, Leads, straight, further, NoFormLeadsBack}
use Rattle.asm_symbols.specs.LeadsBack.{leads_back}

-- 1 where the test passes
abbrev bit : Bool → ℕ
bit b = cond b 1 0

bit_small : (b : Bool) → bit b ≤ 1
bit_small true = omega arith
bit_small false = omega arith

bit_grows : (a b : Bool) → (a ≡ true → b ≡ true) → bit a ≤ bit b
bit_grows true b grows = let is : b ≡ true = grows refl in rw is (omega arith)
bit_grows false b grows = omega arith

-- how many numbers below this one pass the test
abbrev count : (ℕ → Bool) → ℕ → ℕ
count test zero = 0
count test (suc n) = bit (test n) + count test n

count_small : (test : ℕ → Bool) (n : ℕ) → count test n ≤ n
count_small test zero = omega arith
count_small test (suc n) = let one = bit_small (test n) in let rest = count_small test n in omega arith

module _ (one other : ℕ → Bool) (grows : (i : ℕ) → one i ≡ true → other i ≡ true) where
  count_grows : (n : ℕ) → count one n ≤ count other n
  count_grows zero = omega arith
  count_grows (suc n) = let last = bit_grows (one n) (other n) (grows n) in let rest = count_grows n in omega arith

  apart : (a b : ℕ) → nat_eq a b ≡ false → a ≢ b
  apart a b is = grind (arith, nat_tests)

  count_less : (at n : ℕ) → at < n → one at ≡ false → other at ≡ true → count one n < count other n
  count_less at zero below fails passes = absurd (omega arith)
  count_less at (suc n) below fails passes = by (nat_eq at n) refl (λ inside. count_less at n inside fails passes)
    where
      by : (b : Bool) → nat_eq at n ≡ b → (at < n → count one n < count other n) → count one (suc n) < count other (suc n)
      by true is later =
          let same : at ≡ n = eqb-true at n is in
          let none : one n ≡ false = subst (λ (i : ℕ). one i ≡ false) same fails in
          let some : other n ≡ true = subst (λ (i : ℕ). other i ≡ true) same passes in
          let rest = count_grows n in
          rw (none, some) (omega arith)
      by false is later =
          let differ : at ≢ n = apart at n is in
          let rest = later (omega arith) in
          let last = bit_grows (one n) (other n) (grows n) in
          omega arith

-- the program that decides whether a form leads to a symbol is right
pub record AreDecided : Type 0 where
  pub back : (symbols : List Symbol) (form : Form) (at : ℕ) → leads_back symbols form at ≡ true → Leads symbols form at
  pub leads : (symbols : List Symbol) (form : Form) (at : ℕ) → Leads symbols form at → leads_back symbols form at ≡ true

not_back : AreDecided → (symbols : List Symbol) (form : Form) (at : ℕ) → (Leads symbols form at → ⊥) → leads_back symbols form at ≡ false
not_back decided symbols form at not = by (leads_back symbols form at) refl
  where
    by : (b : Bool) → leads_back symbols form at ≡ b → b ≡ false
    by true is = absurd (not (decided.back symbols form at is))
    by false is = refl

-- a form goes on to what the form of a symbol leads to
leads_on : (symbols : List Symbol) (first : Form) (middle : ℕ) (next : Form) (last : ℕ) → Leads symbols first middle → form_at symbols middle ≡ Some next → Leads symbols next last
    → Leads symbols first last
leads_on symbols first middle next last leads is (straight index named) = further middle index next leads is named
leads_on symbols first middle next last leads is (further other index found more has named) = further other index found (leads_on symbols first middle next other leads is more) has named

-- an assigned symbol is one of the symbols
pub form_within : (symbols : List Symbol) (index : ℕ) (form : Form) → form_at symbols index ≡ Some form → index < length symbols
form_within [] index form is = cc
form_within (symbol ∷ symbols) zero form is = omega arith
form_within (symbol ∷ symbols) (suc index) form is = let later = form_within symbols index form is in omega arith

-- how many symbols the form leads to
pub rank : List Symbol → Form → ℕ
rank symbols form = count (leads_back symbols form) (length symbols)

-- no more than there are
pub rank_small : (symbols : List Symbol) (form : Form) → rank symbols form ≤ length symbols
unfolding rank
rank_small symbols form = count_small (leads_back symbols form) (length symbols)

-- it falls from a form to those of the symbols that it names
pub rank_falls : AreDecided → (symbols : List Symbol) → NoFormLeadsBack symbols → (form : Form) (at : ℕ) (next : Form) → form_at symbols at ≡ Some next → NamesSymbol form at
    → rank symbols next < rank symbols form
unfolding rank
rank_falls decided symbols forward form at next is named =
    count_less (leads_back symbols next) (leads_back symbols form) (λ i leads. decided.leads symbols form i (leads_on symbols form at next i (straight at named) is (decided.back symbols next i leads)))
    at (length symbols) (form_within symbols at next is) (not_back decided symbols next at (forward at next is)) (decided.leads symbols form at (straight at named))
