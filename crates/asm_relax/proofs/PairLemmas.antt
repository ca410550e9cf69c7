-- The value of a form of two terms.
use Rattle.std.proofs.Common.{◌≡◌, ℕ, zero, suc, ◌+◌, ◌*◌, ◌^◌, ◌==◌, ◌<◌, ◌&&◌, Bool, true, false, not, cond, [], ◌∷◌, map, Option, Some, None, refl, ap, arith}
use Rattle.std.proofs.lemmas.Bool.Decides.{Decides-eqb}
use Rattle.asm_expr.specs.declared.forms.Term.{Term}
use Rattle.asm_expr.specs.Forms.{Form, wrapped, is_kept}
use Rattle.asm_expr.specs.declared.knowledge.Look.{Look}
use Rattle.asm_expr.specs.declared.knowledge.Look.TheVariants as look
use Rattle.asm_expr.specs.Knowledge.{Told, absent, constant, label, form, told_by}
use Rattle.asm_expr.specs.Settled.{spot_by, spot_of, cancelled_number, put_one, put_all, settled, constant_left}
use Rattle.asm_relax.specs.Final.{beside_label}

-- the form of a number and two terms
abbrev pub pair_form : ℕ → Term → Term → Form
pair_form number one other = record { terms = one ∷ other ∷ []; constant = number }

self_equal : (n : ℕ) → (n == n) ≡ true
self_equal n = (Decides-eqb n n).1 refl

-- a coefficient that is kept is not 0 modulo 2^64
kept_counts : (n sum : ℕ) → not (n == 0) ≡ true → n < 2 ^ 64 → sum ≡ n → (wrapped sum == 0) ≡ false
kept_counts zero sum kept small is = cc
kept_counts (suc n) sum kept small is = by (wrapped sum == 0) refl
  where
    by : (b : Bool) → (wrapped sum == 0) ≡ b → (wrapped sum == 0) ≡ false
    by true test = let none : wrapped sum ≡ 0 = (Decides-eqb (wrapped sum) 0).0 test in absurd (omega arith)
    by false test = test

module _ (told : ℕ → Told) (number : ℕ) (one other : Term) where
  abbrev the_value : Option ℕ
  the_value = constant_left (settled told (pair_form number one other))

  -- the first term is left
  first_left : cancelled_number (map (spot_of told) (one ∷ other ∷ [])) (spot_of told one) ≡ None → None ≡ the_value
  unfolding settled put_all
  first_left none = rw none (by_number (cancelled_number (map (spot_of told) (one ∷ other ∷ [])) (spot_of told other)))
    where
      by_number : (found : Option ℕ) → None ≡ constant_left (put_one (record { terms = one ∷ []; constant = number }) other found)
      by_number None = refl
      by_number (Some at) = refl

  -- both terms cancel
  both_numbers : (at origin : ℕ) → cancelled_number (map (spot_of told) (one ∷ other ∷ [])) (spot_of told one) ≡ Some at → cancelled_number (map (spot_of told) (one ∷ other ∷ [])) (spot_of told other) ≡ Some origin
      → Some (wrapped (wrapped (number + wrapped (one.coefficient * at)) + wrapped (other.coefficient * origin))) ≡ the_value
  unfolding settled put_all
  both_numbers at origin first second = rw (first, second) refl

  -- the first term is no label
  pub no_label : spot_of told one ≡ None → None ≡ the_value
  no_label none = first_left (ap (cancelled_number (map (spot_of told) (one ∷ other ∷ []))) none)

  module _ (kept : is_kept one ≡ true) (small : one.coefficient < 2 ^ 64) (stretch at : ℕ) (is : told one.symbol ≡ label stretch at) where
    -- the other is no label
    alone : spot_of told other ≡ None → None ≡ the_value
    alone none =
        let same = self_equal stretch in
        let some = kept_counts one.coefficient (0 + one.coefficient + 0) kept small (omega arith) in
        first_left (rw (is, none, same, some) refl)

    -- the other is a label
    with_label : (others origin : ℕ) → told other.symbol ≡ label others origin → (b c : Bool) → (others == stretch) ≡ b → (wrapped (one.coefficient + other.coefficient) == 0) ≡ c
        → cond (b && c) (Some (wrapped (wrapped (number + wrapped (one.coefficient * at)) + wrapped (other.coefficient * origin)))) None ≡ the_value
    with_label others origin also false c apart sum =
        let same = self_equal stretch in
        let some = kept_counts one.coefficient (0 + one.coefficient + 0) kept small (omega arith) in
        first_left (rw (is, also, same, apart, some) refl)
    with_label others origin also true false equal sum =
        let same = self_equal stretch in
        let all : 0 + one.coefficient + other.coefficient ≡ one.coefficient + other.coefficient = omega arith in
        first_left (rw (is, also, same, equal, all, sum) refl)
    with_label others origin also true true equal sum =
        let same = self_equal stretch in
        let e : others ≡ stretch = (Decides-eqb others stretch).0 equal in
        let there : told other.symbol ≡ label stretch origin = rw e at also in
        let all : 0 + one.coefficient + other.coefficient ≡ one.coefficient + other.coefficient = omega arith in
        both_numbers at origin (rw (is, there, same, all, sum) refl) (rw (is, there, same, all, sum) refl)

    -- the first term is a label
    pub beside_is : (known : Told) → told other.symbol ≡ known → beside_label number one.coefficient at stretch other.coefficient known ≡ the_value
    beside_is absent also = alone (rw also refl)
    beside_is (constant value) also = alone (rw also refl)
    beside_is (form made) also = alone (rw also refl)
    beside_is (label others origin) also = with_label others origin also (others == stretch) (wrapped (one.coefficient + other.coefficient) == 0) refl refl

-- a form of two terms
pub pair_is : (made : Form) (one other : Term) → made.terms ≡ one ∷ other ∷ [] → made ≡ pair_form made.constant one other
pair_is made one other is = rw (← is) refl

-- what is not known as a label
pub not_label : (found : Look) (coefficient : ℕ) → ((stretch at : ℕ) → found ≡ look.Label stretch at → ⊥) → spot_by (told_by found) coefficient ≡ None
not_label look.Absent coefficient none = refl
not_label (look.Constant number) coefficient none = refl
not_label (look.Label stretch at) coefficient none = absurd (none stretch at refl)
not_label (look.Form made) coefficient none = refl
