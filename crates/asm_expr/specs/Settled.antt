-- Labels that cancel: those of one stretch whose coefficients sum to 0 modulo 2^64 are replaced by their places in it.
use Rattle.std.specs.Prelude.{ℕ, ◌+◌, ◌-◌, ◌*◌, ◌^◌, ◌==◌, Bool, true, false, not, List, [], ◌∷◌, ◌++◌, map, sum_by, if◌then◌else◌, Option, Some, None, is_none}
use Rattle.std.specs.List.{list_all}
use Rattle.asm_expr.specs.declared.forms.Term.{Term}
use Rattle.asm_expr.specs.declared.settling.Spot.{Spot}
use Rattle.asm_expr.specs.Forms.{Form, wrapped, constant_form}
use Rattle.asm_expr.specs.Knowledge.{Told, absent, constant, label, form}

-- a term that is a label: its stretch, its place in that, and how often it counts
abbrev pub spot_by : Told → ℕ → Option Spot
spot_by (label stretch at) coefficient = Some (record { stretch = stretch; at = at; coefficient = coefficient })
spot_by absent coefficient = None
spot_by (constant number) coefficient = None
spot_by (form other) coefficient = None

-- a term as a label, by what its symbol is known as
abbrev pub spot_of : (ℕ → Told) → Term → Option Spot
spot_of told term = spot_by (told term.symbol) term.coefficient

-- how often the labels of this stretch count
abbrev pub counted_in : ℕ → Option Spot → ℕ
counted_in stretch None = 0
counted_in stretch (Some spot) = if spot.stretch == stretch then spot.coefficient else 0

-- how often all labels of this stretch count
abbrev pub stretch_sum : ℕ → List (Option Spot) → ℕ
stretch_sum stretch spots = sum_by (counted_in stretch) spots

-- the number that stands for a label, where those of its stretch cancel
abbrev pub cancelled_number : List (Option Spot) → Option Spot → Option ℕ
cancelled_number spots None = None
cancelled_number spots (Some spot) = if wrapped (stretch_sum spot.stretch spots) == 0 then Some spot.at else None

-- the form and one term more, or its number in place of it
abbrev pub put_one : Form → Term → Option ℕ → Form
put_one made term None = record { terms = made.terms ++ term ∷ []; constant = made.constant }
put_one made term (Some number) = record { terms = made.terms; constant = wrapped (made.constant + wrapped (term.coefficient * number)) }

-- the form and these terms more, or their numbers in place of them
unfoldable pub put_all : List (Option Spot) → (ℕ → Told) → Form → List Term → Form
put_all spots told made [] = made
put_all spots told made (term ∷ terms) = put_all spots told (put_one made term (cancelled_number spots (spot_of told term))) terms

-- the form where numbers stand for the labels that cancel
unfoldable pub settled : (ℕ → Told) → Form → Form
settled told made = put_all (map (spot_of told) made.terms) told (constant_form made.constant) made.terms

-- no term, or one that counts: nothing can cancel
abbrev pub cannot_cancel : List Term → Bool
cannot_cancel [] = true
cannot_cancel (only ∷ []) = not (wrapped only.coefficient == 0)
cannot_cancel (first ∷ second ∷ others) = false

-- no number stands for a term: none is a label whose stretch cancels
abbrev pub nothing_cancels : (ℕ → Told) → List Term → Bool
nothing_cancels told terms = list_all (λ term. is_none (cancelled_number (map (spot_of told) terms) (spot_of told term))) terms

-- the constant of a form where no symbol is left
abbrev pub constant_by : List Term → ℕ → Option ℕ
constant_by [] total = Some total
constant_by (term ∷ terms) total = None

-- the constant of a form, if no symbol is left in it
abbrev pub constant_left : Form → Option ℕ
constant_left made = constant_by made.terms made.constant

-- how far a label stands behind another one of its stretch, modulo 2^64
abbrev pub distance_by : Told → Told → Option ℕ
distance_by (label stretch at) (label others origin) = if others == stretch then Some (wrapped (at + wrapped ((2 ^ 64 - 1) * origin))) else None
distance_by _ _ = None
