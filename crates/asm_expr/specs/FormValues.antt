-- The value of a form where each stretch begins somewhere and each symbol that is no label has a value.
use Rattle.std.specs.Prelude.{◌≡◌, ℕ, ◌+◌, ◌*◌, List, [], ◌∷◌}
use Rattle.asm_expr.specs.declared.forms.Term.{Term}
use Rattle.asm_expr.specs.Forms.{Form, wrapped}
use Rattle.asm_expr.specs.Knowledge.{Told, absent, constant, label, form}
use Rattle.asm_expr.specs.Settled.{settled}

-- a label stands so far behind the beginning of its stretch, and any other symbol has the value that it is given
abbrev pub value_by : (ℕ → ℕ) → (ℕ → ℕ) → ℕ → Told → ℕ
value_by begins given own (label stretch at) = begins stretch + at
value_by begins given own absent = given own
value_by begins given own (constant number) = given own
value_by begins given own (form other) = given own

-- the values of the symbols, each as often as it counts
abbrev pub terms_value : (ℕ → ℕ) → (ℕ → ℕ) → (ℕ → Told) → List Term → ℕ
terms_value begins given told [] = 0
terms_value begins given told (term ∷ terms) = term.coefficient * value_by begins given term.symbol (told term.symbol) + terms_value begins given told terms

-- the value of the form
abbrev pub form_value : (ℕ → ℕ) → (ℕ → ℕ) → (ℕ → Told) → Form → ℕ
form_value begins given told made = wrapped (terms_value begins given told made.terms + made.constant)

-- settling leaves the value of the form as it was, wherever the stretches begin and whatever the other symbols are given
abbrev pub KeepsValue : (ℕ → Told) → Form → Type 0
KeepsValue told made = (begins : ℕ → ℕ) (given : ℕ → ℕ) → form_value begins given told (settled told made) ≡ form_value begins given told made
