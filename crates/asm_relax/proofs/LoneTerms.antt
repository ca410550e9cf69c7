-- The value of a form in which nothing can cancel: its number, or none where a symbol stands alone.
use Rattle.std.proofs.Common.{◌≡◌, ℕ, ◌+◌, ◌==◌, Bool, true, false, not, cond, List, [], ◌∷◌, Option, Some, None, refl, arith}
use Rattle.std.proofs.lemmas.Bool.Decides.{nat_tests}
use Rattle.asm_expr.specs.declared.forms.Term.{Term}
use Rattle.asm_expr.specs.Forms.{Form, wrapped}
use Rattle.asm_expr.specs.Knowledge.{Told, label}
use Rattle.asm_expr.specs.Settled.{spot_by, cancelled_number, put_all, settled, cannot_cancel, constant_left}

left_alone : (told : Told) (coefficient : ℕ) → not (wrapped coefficient == 0) ≡ true → cancelled_number (spot_by told coefficient ∷ []) (spot_by told coefficient) ≡ None
left_alone (label stretch at) coefficient some =
    let same : (stretch == stretch) ≡ true = grind (arith, nat_tests) in
    let zero : 0 + coefficient ≡ coefficient = omega arith in
    rw (same, zero) (none (wrapped coefficient == 0) some)
  where
    none : (b : Bool) → not b ≡ true → cond b (Some at) None ≡ None
    none true some = cc
    none false some = refl
left_alone _ coefficient some = refl

pub value_stays : (told : ℕ → Told) (terms : List Term) (total : ℕ) → cannot_cancel terms ≡ true
    → (let made : Form = record { terms = terms; constant = total } in constant_left made ≡ constant_left (settled told made))
unfolding settled put_all
value_stays told [] total is = refl
value_stays told (only ∷ []) total is = rw (left_alone (told only.symbol) only.coefficient is) refl
value_stays told (first ∷ second ∷ others) total is = cc
