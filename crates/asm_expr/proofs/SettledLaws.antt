-- What settling leaves of the coefficients and the constant of a form.
use Rattle.std.proofs.Common.{◌≡◌, ℕ, ◌+◌, ◌==◌, Bool, true, false, cond, List, [], ◌∷◌, ◌++◌, map, Option, Some, None, refl, sym, ap, ◌∙◌, arith}
use Rattle.asm_expr.specs.declared.forms.Term.{Term}
use Rattle.asm_expr.specs.declared.settling.Spot.{Spot}
use Rattle.asm_expr.specs.Forms.{Form, wrapped, constant_form}
use Rattle.asm_expr.specs.Knowledge.{Told, absent, constant, label, form}
use Rattle.asm_expr.specs.Settled.{spot_by, spot_of, stretch_sum, cancelled_number, put_one, put_all, settled}
use Rattle.asm_expr.specs.Coefficients.{counted_as, times, coefficient, is_cancelled, cancels, times_number, numbers_in, IsSettled}
use Rattle.asm_expr.proofs.Weights.{same_is}

-- what is counted of a term that is put
abbrev kept_by : Option ℕ → ℕ → ℕ
kept_by None n = n
kept_by (Some number) n = 0

abbrev kept_times : List (Option Spot) → (ℕ → Told) → ℕ → List Term → ℕ
kept_times spots told own [] = 0
kept_times spots told own (term ∷ terms) = kept_by (cancelled_number spots (spot_of told term)) (counted_as own term.symbol term.coefficient) + kept_times spots told own terms

times_push : (own : ℕ) (terms : List Term) (term : Term) → times own (terms ++ (term ∷ [])) ≡ times own terms + counted_as own term.symbol term.coefficient
times_push own [] term = omega arith
times_push own (first ∷ terms) term = let later = times_push own terms term in omega arith

put_times : (own : ℕ) (made : Form) (term : Term) (number : Option ℕ) → times own (put_one made term number).terms ≡ times own made.terms + kept_by number (counted_as own term.symbol term.coefficient)
put_times own made term None = times_push own made.terms term
put_times own made term (Some number) = omega arith

put_constant : (made : Form) (term : Term) (number : Option ℕ) → wrapped (put_one made term number).constant ≡ wrapped (made.constant + times_number number term.coefficient)
put_constant made term None = omega arith
put_constant made term (Some number) = omega arith

all_times : (spots : List (Option Spot)) (told : ℕ → Told) (own : ℕ) (made : Form) (terms : List Term)
    → times own (put_all spots told made terms).terms ≡ times own made.terms + kept_times spots told own terms
unfolding put_all
all_times spots told own made [] = omega arith
all_times spots told own made (term ∷ terms) =
    let one = put_times own made term (cancelled_number spots (spot_of told term)) in
    let all = all_times spots told own (put_one made term (cancelled_number spots (spot_of told term))) terms in
    omega arith

all_constant : (spots : List (Option Spot)) (told : ℕ → Told) (made : Form) (terms : List Term)
    → wrapped (put_all spots told made terms).constant ≡ wrapped (made.constant + numbers_in spots told terms)
unfolding put_all
all_constant spots told made [] = omega arith
all_constant spots told made (term ∷ terms) =
    let one = put_constant made term (cancelled_number spots (spot_of told term)) in
    let all = all_constant spots told (put_one made term (cancelled_number spots (spot_of told term))) terms in
    omega arith

-- a label is kept unless its stretch cancels
kept_label : (b : Bool) (at n : ℕ) → kept_by (cond b (Some at) None) n ≡ cond b 0 n
kept_label true at n = refl
kept_label false at n = refl

kept_told : (spots : List (Option Spot)) (told : Told) (coefficient n : ℕ) → kept_by (cancelled_number spots (spot_by told coefficient)) n ≡ cond (is_cancelled spots told) 0 n
kept_told spots absent coefficient n = refl
kept_told spots (constant number) coefficient n = refl
kept_told spots (form other) coefficient n = refl
kept_told spots (label stretch at) coefficient n = kept_label (wrapped (stretch_sum stretch spots) == 0) at n

zero_or_zero : (b : Bool) → ◌≡◌ {A = ℕ} (cond b 0 0) 0
zero_or_zero true = refl
zero_or_zero false = refl

kept_one : (spots : List (Option Spot)) (told : ℕ → Told) (own : ℕ) (term : Term) (b : Bool) → (term.symbol == own) ≡ b
    → cond (is_cancelled spots (told term.symbol)) 0 (cond b term.coefficient 0) ≡ cond (is_cancelled spots (told own)) 0 (cond b term.coefficient 0)
kept_one spots told own term true is = ap (λ (symbol : ℕ). cond (is_cancelled spots (told symbol)) 0 term.coefficient) (same_is term.symbol own is)
kept_one spots told own term false is = zero_or_zero (is_cancelled spots (told term.symbol)) ∙ sym (zero_or_zero (is_cancelled spots (told own)))

add_each : (b : Bool) (m n : ℕ) → cond b 0 m + cond b 0 n ≡ cond b 0 (m + n)
add_each true m n = refl
add_each false m n = refl

kept_all : (spots : List (Option Spot)) (told : ℕ → Told) (own : ℕ) (terms : List Term) → kept_times spots told own terms ≡ cond (is_cancelled spots (told own)) 0 (times own terms)
kept_all spots told own [] = sym (zero_or_zero (is_cancelled spots (told own)))
kept_all spots told own (term ∷ terms) =
    let first = kept_told spots (told term.symbol) term.coefficient (counted_as own term.symbol term.coefficient) ∙ kept_one spots told own term (term.symbol == own) refl in
    let later = kept_all spots told own terms in
    let both = add_each (is_cancelled spots (told own)) (counted_as own term.symbol term.coefficient) (times own terms) in
    omega arith

wrapped_each : (b : Bool) (n : ℕ) → wrapped (cond b 0 n) ≡ cond b 0 (wrapped n)
wrapped_each true n = refl
wrapped_each false n = refl

pub is_settled : (told : ℕ → Told) (made : Form) → IsSettled told made
unfolding settled
is_settled told made =
    let spots = map (spot_of told) made.terms in
    record {
      coefficients = λ own.
          ap (λ (n : ℕ). wrapped n) (all_times spots told own (constant_form made.constant) made.terms ∙ (let all = kept_all spots told own made.terms in omega arith))
          ∙ wrapped_each (cancels told made own) (times own made.terms);
      constant = all_constant spots told (constant_form made.constant) made.terms;
    }
