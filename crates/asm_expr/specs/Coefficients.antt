-- A form as a finite map from symbols to coefficients modulo 2^64.
use Rattle.std.specs.Prelude.{◌≡◌, ℕ, ◌+◌, ◌-◌, ◌*◌, ◌^◌, ◌==◌, ◌&&◌, ◌||◌, Bool, true, false, not, List, [], ◌∷◌, map, if◌then◌else◌, Option, Some, None}
use Rattle.std.specs.List.{list_all}
use Rattle.asm_expr.specs.declared.forms.Term.{Term}
use Rattle.asm_expr.specs.declared.settling.Spot.{Spot}
use Rattle.asm_expr.specs.Forms.{Form, wrapped, sum_of, difference_of}
use Rattle.asm_expr.specs.Knowledge.{Told, absent, constant, label, form, Knowledge}
use Rattle.asm_expr.specs.Settled.{spot_of, stretch_sum, cancelled_number, settled}

-- how often a symbol counts in a term
abbrev pub counted_as : ℕ → ℕ → ℕ → ℕ
counted_as own symbol coefficient = if symbol == own then coefficient else 0

-- how often a symbol counts in all the terms
abbrev pub times : ℕ → List Term → ℕ
times own [] = 0
times own (term ∷ terms) = counted_as own term.symbol term.coefficient + times own terms

-- the coefficient of a symbol, which is 0 where the form does not have it
abbrev pub coefficient : Form → ℕ → ℕ
coefficient made own = wrapped (times own made.terms)

-- in a sum the coefficients are added, and so are the constants; in a difference those of the second form are taken off
pub record AreAdded (one other : Form) : Type 0 where
  pub sum : (own : ℕ) → coefficient (sum_of one other) own ≡ wrapped (coefficient one own + coefficient other own)
  pub difference : (own : ℕ) → coefficient (difference_of one other) own ≡ wrapped (coefficient one own + (2 ^ 64 - coefficient other own))
  pub sum_constant : (sum_of one other).constant ≡ wrapped (one.constant + other.constant)
  pub difference_constant : (difference_of one other).constant ≡ wrapped (one.constant + (2 ^ 64 - wrapped other.constant))

-- the symbol is a label of a stretch whose coefficients, all of them, sum to 0
abbrev pub is_cancelled : List (Option Spot) → Told → Bool
is_cancelled spots (label stretch at) = wrapped (stretch_sum stretch spots) == 0
is_cancelled spots absent = false
is_cancelled spots (constant number) = false
is_cancelled spots (form other) = false

-- settling the form takes this symbol out
abbrev pub cancels : (ℕ → Told) → Form → ℕ → Bool
cancels told made own = is_cancelled (map (spot_of told) made.terms) (told own)

-- the numbers that stand for labels in terms, each as often as its label counts
abbrev pub times_number : Option ℕ → ℕ → ℕ
times_number None coefficient = 0
times_number (Some number) coefficient = coefficient * number

-- the numbers that stand for the labels of all the terms, each as often as its label counts
abbrev pub numbers_in : List (Option Spot) → (ℕ → Told) → List Term → ℕ
numbers_in spots told [] = 0
numbers_in spots told (term ∷ terms) = times_number (cancelled_number spots (spot_of told term)) term.coefficient + numbers_in spots told terms

-- settling takes out the labels of whole stretches that cancel, and nothing else, and adds the numbers that stand for them
pub record IsSettled (told : ℕ → Told) (made : Form) : Type 0 where
  pub coefficients : (own : ℕ) → coefficient (settled told made) own ≡ (if cancels told made own then 0 else coefficient made own)
  pub constant : wrapped (settled told made).constant ≡ wrapped (made.constant + numbers_in (map (spot_of told) made.terms) told made.terms)

-- the symbol is among those of the terms
abbrev pub is_among : ℕ → List Term → Bool
is_among own [] = false
is_among own (term ∷ terms) = (term.symbol == own) || is_among own terms

-- no symbol stands twice among the terms
abbrev pub are_apart : List Term → Bool
are_apart [] = true
are_apart (term ∷ terms) = not (is_among term.symbol terms) && are_apart terms

-- the symbol of the term counts: its coefficient is not 0
abbrev pub is_counted : Term → Bool
is_counted term = not (wrapped term.coefficient == 0)

-- each symbol of the form stands in it once, and counts
pub record IsReduced (made : Form) : Type 0 where
  pub apart : are_apart made.terms ≡ true
  pub counted : list_all is_counted made.terms ≡ true

-- the forms that are known of assigned symbols are reduced, as forms of expressions are
abbrev pub KnowsReduced : Knowledge → Type 0
KnowsReduced known = (own : ℕ) (made : Form) → known.told own ≡ form made → IsReduced made

-- the form has no term exactly where the coefficient of every symbol is 0
pub record IsEmptyExactly (made : Form) : Type 0 where
  pub uncounted : made.terms ≡ [] → (own : ℕ) → coefficient made own ≡ 0
  pub empty : ((own : ℕ) → coefficient made own ≡ 0) → made.terms ≡ []
