-- Settling leaves the value of a form as it was.
use Rattle.std.proofs.Common.{◌≡◌, ℕ, ◌+◌, ◌*◌, ◌^◌, ◌==◌, Bool, true, false, cond, List, [], ◌∷◌, ◌++◌, map, fold, Option, Some, None, refl, sym, ap, arith, add-mul, mul-add, mul-zero, zero-mul, zero-add}
use Rattle.std.proofs.lemmas.Bool.Decides.{Decides-eqb}
use Rattle.std.proofs.lemmas.Nat.{mul-mod_first}
use Rattle.asm_expr.specs.declared.forms.Term.{Term}
use Rattle.asm_expr.specs.declared.settling.Spot.{Spot}
use Rattle.asm_expr.specs.Forms.{Form, wrapped, constant_form}
use Rattle.asm_expr.specs.Knowledge.{Told, absent, constant, label, form}
use Rattle.asm_expr.specs.Settled.{spot_by, spot_of, counted_in, stretch_sum, cancelled_number, put_one, put_all, settled}
use Rattle.asm_expr.specs.FormValues.{value_by, terms_value, form_value, KeepsValue}

-- the coefficients of a stretch, added from the end
abbrev counted_all : ℕ → List (Option Spot) → ℕ
counted_all stretch [] = 0
counted_all stretch (spot ∷ spots) = counted_in stretch spot + counted_all stretch spots

sum_from : (stretch n : ℕ) (spots : List (Option Spot)) → fold (λ a x. a + counted_in stretch x) n spots ≡ n + counted_all stretch spots
sum_from stretch n [] = omega arith
sum_from stretch n (spot ∷ spots) = let later = sum_from stretch (n + counted_in stretch spot) spots in omega arith

sum_is : (stretch : ℕ) (spots : List (Option Spot)) → stretch_sum stretch spots ≡ counted_all stretch spots
sum_is stretch spots = let is = sum_from stretch 0 spots in omega arith

-- how much the labels are moved where each stretch is moved so much
abbrev moved_one : (ℕ → ℕ) → Option Spot → ℕ
moved_one by None = 0
moved_one by (Some spot) = spot.coefficient * by spot.stretch

abbrev moved_all : (ℕ → ℕ) → List (Option Spot) → ℕ
moved_all by [] = 0
moved_all by (spot ∷ spots) = moved_one by spot + moved_all by spots

-- one stretch stays, and the others are moved
abbrev but_one : ℕ → (ℕ → ℕ) → ℕ → ℕ
but_one stretch by other = cond (other == stretch) 0 (by other)

split_one : (b : Bool) (stretch other coefficient : ℕ) (by : ℕ → ℕ) → (other == stretch) ≡ b
    → coefficient * by other ≡ cond b coefficient 0 * by stretch + coefficient * cond b 0 (by other)
split_one true stretch other coefficient by is =
    let same : other ≡ stretch = (Decides-eqb other stretch).0 is in
    let none = mul-zero coefficient in
    let moved : coefficient * by other ≡ coefficient * by stretch = ap (λ (n : ℕ). coefficient * by n) same in
    omega arith
split_one false stretch other coefficient by is = let none = zero-mul (by stretch) in omega arith

split_spot : (stretch : ℕ) (by : ℕ → ℕ) (spot : Option Spot) → moved_one by spot ≡ counted_in stretch spot * by stretch + moved_one (but_one stretch by) spot
split_spot stretch by None = let none = zero-mul (by stretch) in omega arith
split_spot stretch by (Some spot) = split_one (spot.stretch == stretch) stretch spot.stretch spot.coefficient by refl

split_all : (stretch : ℕ) (by : ℕ → ℕ) (spots : List (Option Spot)) → moved_all by spots ≡ counted_all stretch spots * by stretch + moved_all (but_one stretch by) spots
split_all stretch by [] = let none = zero-mul (by stretch) in omega arith
split_all stretch by (spot ∷ spots) =
    let one = split_spot stretch by spot in
    let later = split_all stretch by spots in
    let parts = add-mul (counted_in stretch spot) (counted_all stretch spots) (by stretch) in
    omega arith

-- stretches whose coefficients sum to 0, each moved by what it likes, are moved by 0 together
abbrev Cancels : (ℕ → ℕ) → List (Option Spot) → Type 0
Cancels by spots = (stretch : ℕ) → wrapped (counted_all stretch spots * by stretch) ≡ 0

self_equal : (n : ℕ) → (n == n) ≡ true
self_equal n = (Decides-eqb n n).1 refl

but_one_cancels : (spot : Spot) (by : ℕ → ℕ) (spots : List (Option Spot)) → Cancels by (Some spot ∷ spots) → Cancels (but_one spot.stretch by) spots
but_one_cancels spot by spots cancels other = each (other == spot.stretch) refl
  where
    each : (b : Bool) → (other == spot.stretch) ≡ b → wrapped (counted_all other spots * cond b 0 (by other)) ≡ 0
    each true is = let none = mul-zero (counted_all other spots) in omega arith
    each false is = by_turn (spot.stretch == other) refl (cancels other)
      where
        by_turn : (b : Bool) → (spot.stretch == other) ≡ b → wrapped ((cond b spot.coefficient 0 + counted_all other spots) * by other) ≡ 0 → wrapped (counted_all other spots * by other) ≡ 0
        by_turn true same zero =
            let e : spot.stretch ≡ other = (Decides-eqb spot.stretch other).0 same in
            let self : (other == spot.stretch) ≡ true = (Decides-eqb other spot.stretch).1 (sym e) in
            absurd cc
        by_turn false same zero =
            let parts = add-mul 0 (counted_all other spots) (by other) in
            let none = zero-mul (by other) in
            omega arith

all_cancel : (by : ℕ → ℕ) (spots : List (Option Spot)) → Cancels by spots → wrapped (moved_all by spots) ≡ 0
all_cancel by [] cancels = refl
all_cancel by (None ∷ spots) cancels = rw zero-add (all_cancel by spots (λ stretch. rw zero-add at (cancels stretch)))
all_cancel by (Some spot ∷ spots) cancels =
    let later = all_cancel (but_one spot.stretch by) spots (but_one_cancels spot by spots cancels) in
    let split = split_all spot.stretch by spots in
    let parts = add-mul spot.coefficient (counted_all spot.stretch spots) (by spot.stretch) in
    let self = self_equal spot.stretch in
    let whole : wrapped ((spot.coefficient + counted_all spot.stretch spots) * by spot.stretch) ≡ 0 = rw self at (cancels spot.stretch) in
    omega arith

-- the stretches that cancel begin where they do, and the others at 0
abbrev masked : List (Option Spot) → (ℕ → ℕ) → ℕ → ℕ
masked spots begins stretch = cond (wrapped (stretch_sum stretch spots) == 0) (begins stretch) 0

masked_cancels : (spots : List (Option Spot)) (begins : ℕ → ℕ) → Cancels (masked spots begins) spots
masked_cancels spots begins stretch = by (wrapped (stretch_sum stretch spots) == 0) refl
  where
    by : (b : Bool) → (wrapped (stretch_sum stretch spots) == 0) ≡ b → wrapped (counted_all stretch spots * cond b (begins stretch) 0) ≡ 0
    by true is =
        let zero : wrapped (stretch_sum stretch spots) ≡ 0 = (Decides-eqb (wrapped (stretch_sum stretch spots)) 0).0 is in
        let same = sum_is stretch spots in
        let none : wrapped (counted_all stretch spots) ≡ 0 = omega arith in
        let first = mul-mod_first (counted_all stretch spots) (begins stretch) (2 ^ 64) in
        let all : wrapped (wrapped (counted_all stretch spots) * begins stretch) ≡ 0 = rw none (let z = zero-mul (begins stretch) in omega arith) in
        omega arith
    by false is = let none = mul-zero (counted_all stretch spots) in omega arith

-- what a term gives that is put, or the number in its place
abbrev put_by : Option ℕ → ℕ → ℕ → ℕ
put_by None coefficient value = coefficient * value
put_by (Some number) coefficient value = coefficient * number

module _ (begins : ℕ → ℕ) (given : ℕ → ℕ) (told : ℕ → Told) (spots : List (Option Spot)) where
  abbrev put_value : Option ℕ → Term → ℕ
  put_value number term = put_by number term.coefficient (value_by begins given term.symbol (told term.symbol))

  abbrev put_values : List Term → ℕ
  put_values [] = 0
  put_values (term ∷ terms) = put_value (cancelled_number spots (spot_of told term)) term + put_values terms

  value_push : (terms : List Term) (term : Term) → terms_value begins given told (terms ++ (term ∷ []))
      ≡ terms_value begins given told terms + term.coefficient * value_by begins given term.symbol (told term.symbol)
  value_push [] term = omega arith
  value_push (first ∷ terms) term = let later = value_push terms term in omega arith

  put_one_value : (made : Form) (term : Term) (number : Option ℕ) → form_value begins given told (put_one made term number)
      ≡ wrapped (terms_value begins given told made.terms + made.constant + put_value number term)
  put_one_value made term None = let pushed = value_push made.terms term in omega arith
  put_one_value made term (Some number) = omega arith

  put_all_value : (made : Form) (terms : List Term) → form_value begins given told (put_all spots told made terms)
      ≡ wrapped (terms_value begins given told made.terms + made.constant + put_values terms)
  unfolding put_all
  put_all_value made [] = omega arith
  put_all_value made (term ∷ terms) =
      let one = put_one_value made term (cancelled_number spots (spot_of told term)) in
      let all = put_all_value (put_one made term (cancelled_number spots (spot_of told term))) terms in
      omega arith

  -- a term gives what it gives when it is put, and what its stretch is moved
  label_value : (b : Bool) (coefficient stretch at : ℕ)
      → coefficient * (begins stretch + at) ≡ put_by (cond b (Some at) None) coefficient (begins stretch + at) + coefficient * cond b (begins stretch) 0
  label_value true coefficient stretch at = let parts = mul-add coefficient (begins stretch) at in omega arith
  label_value false coefficient stretch at = let none = mul-zero coefficient in omega arith

  known_value : (known : Told) (own : ℕ) (coefficient : ℕ) → coefficient * value_by begins given own known
      ≡ put_by (cancelled_number spots (spot_by known coefficient)) coefficient (value_by begins given own known) + moved_one (masked spots begins) (spot_by known coefficient)
  known_value absent own coefficient = omega arith
  known_value (constant number) own coefficient = omega arith
  known_value (form other) own coefficient = omega arith
  known_value (label stretch at) own coefficient = label_value (wrapped (stretch_sum stretch spots) == 0) coefficient stretch at

  all_values : (terms : List Term) → terms_value begins given told terms ≡ put_values terms + moved_all (masked spots begins) (map (spot_of told) terms)
  all_values [] = omega arith
  all_values (term ∷ terms) =
      let one = known_value (told term.symbol) term.symbol term.coefficient in
      let later = all_values terms in
      omega arith

pub keeps_value : (told : ℕ → Told) (made : Form) → KeepsValue told made
unfolding settled
keeps_value told made begins given =
    let spots = map (spot_of told) made.terms in
    let put = put_all_value begins given told spots (constant_form made.constant) made.terms in
    let values = all_values begins given told spots made.terms in
    let cancel = all_cancel (masked spots begins) spots (masked_cancels spots begins) in
    omega arith
