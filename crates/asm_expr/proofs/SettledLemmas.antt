-- A form whose labels that cancel are replaced, term by term.
use Rattle.std.proofs.Common.{◌≡◌, ℕ, suc, ◌+◌, ◌*◌, ◌==◌, ◌<◌, ◌≤◌, Bool, true, false, not, cond, ◌&&◌, List, [], ◌∷◌, ◌++◌, Option, Some, None, length, get_or, drop, map, refl, sym, ap, ◌∙◌, arith, add-one, drop-cons, length-drop, is_none, append-nil, append_assoc}
use Rattle.std.proofs.lemmas.List.{nil_from_length}
use Rattle.std.proofs.lemmas.Bool.Decides.{nat_tests}
use Rattle.std.specs.List.{list_all}
use Rattle.asm_expr.specs.declared.forms.Term.{Term}
use Rattle.asm_expr.specs.declared.settling.Spot.{Spot}
use Rattle.asm_expr.specs.Forms.{Form, wrapped, is_kept, constant_form}
use Rattle.asm_expr.specs.Knowledge.{Told, absent, constant, label, form}
use Rattle.asm_expr.specs.Settled.{spot_by, spot_of, cancelled_number, put_one, put_all, settled, cannot_cancel, nothing_cancels, constant_left}

-- one term alone has no number
alone : (told : Told) (coefficient : ℕ) → not (wrapped coefficient == 0) ≡ true → cancelled_number (spot_by told coefficient ∷ []) (spot_by told coefficient) ≡ None
alone absent coefficient some = refl
alone (constant number) coefficient some = refl
alone (form other) coefficient some = refl
alone (label stretch at) coefficient some =
    let same : (stretch == stretch) ≡ true = grind (arith, nat_tests) in
    let zero : 0 + coefficient ≡ coefficient = omega arith in
    rw (same, zero) (none (wrapped coefficient == 0) some)
  where
    none : (b : Bool) → not b ≡ true → cond b (Some at) None ≡ None
    none true is = cc
    none false is = refl

stays_by : (told : ℕ → Told) (terms : List Term) (total : ℕ) → cannot_cancel terms ≡ true → (let whole : Form = record { terms = terms; constant = total } in whole ≡ settled told whole)
unfolding settled put_all
stays_by told [] total is = refl
stays_by told (only ∷ []) total is =
    let none = alone (told only.symbol) only.coefficient is in
    rw none
stays_by told (first ∷ second ∷ others) total is = cc

-- with no term, or one that counts, the form stays
pub stays : (told : ℕ → Told) (made : Form) → cannot_cancel made.terms ≡ true → made ≡ settled told made
stays told made some = stays_by told made.terms made.constant some

both : (a b : Bool) → (a && b) ≡ true → (a ≡ true) × (b ≡ true)
both true true is = (refl, refl)
both true false is = cc
both false b is = cc

-- the first of the terms is put
pub put_step : (told : ℕ → Told) (spots : List (Option Spot)) (at : ℕ) (terms later : List Term) (first : Term) (made new whole : Form)
    → map (spot_of told) terms ≡ drop at spots → at < length spots → first ≡ get_or terms 0 first → later ≡ drop 1 terms
    → list_all is_kept terms ≡ true → new ≡ put_one made first (cancelled_number spots (get_or spots at None)) → put_all spots told made terms ≡ whole
    → (map (spot_of told) later ≡ drop (at + 1) spots) × (list_all is_kept later ≡ true) × (put_all spots told new later ≡ whole) × (is_kept first ≡ true)
unfolding put_all
put_step told spots at [] later first made new whole left inside front rest kept grown before =
    let front = drop-cons spots at None inside in
    absurd cc
put_step told spots at (term ∷ terms) later first made new whole left inside front rest kept grown before =
    let next = drop-cons spots at None inside in
    let same : spot_of told term ≡ get_or spots at None = cc in
    let more : map (spot_of told) terms ≡ drop (suc at) spots = cc in
    let parts = both (is_kept term) (list_all is_kept terms) kept in
    let one : first ≡ term = front in
    (rw (rest, add-one) more, rw rest parts.1, rw (rest, grown, one, ← same) before, rw one parts.0)

-- all terms are put
pub put_done : (told : ℕ → Told) (spots : List (Option Spot)) (at : ℕ) (terms : List Term) (made whole : Form) → map (spot_of told) terms ≡ drop at spots → length spots ≤ at
    → put_all spots told made terms ≡ whole → made ≡ whole
unfolding put_all
put_done told spots at [] made whole left all is = is
put_done told spots at (term ∷ terms) made whole left all is =
    let none : drop at spots ≡ [] = nil_from_length (drop at spots) (omega (arith, length-drop at spots)) in
    absurd cc

put_more : (told : ℕ → Told) (spots : List (Option Spot)) (made : Form) (term : Term) (terms : List Term)
    → put_all spots told made (term ∷ terms) ≡ put_all spots told (put_one made term (cancelled_number spots (spot_of told term))) terms
unfolding put_all
put_more told spots made term terms = refl

put_none : (told : ℕ → Told) (spots : List (Option Spot)) (made : Form) → put_all spots told made [] ≡ made
unfolding put_all
put_none told spots made = refl

-- the next of the terms is put
put_at : (told : ℕ → Told) (spots : List (Option Spot)) (terms : List Term) (at : ℕ) (item : Term) (made whole : Form) (number : Option ℕ) → at < length terms
    → item ≡ get_or terms at item → cancelled_number spots (spot_of told item) ≡ number → put_all spots told made (drop at terms) ≡ whole
    → put_all spots told (put_one made item number) (drop (suc at) terms) ≡ whole
put_at told spots terms at item made whole number inside is counts before =
    let front = drop-cons terms at item inside in
    let more = put_more told spots made item (drop (suc at) terms) in
    cc

-- a term that is left stays
kept_on : (told : ℕ → Told) (spots : List (Option Spot)) (first : Term) (terms kept : List Term) (total : ℕ)
    → constant_left (put_all spots told (record { terms = first ∷ kept; constant = total }) terms) ≡ None
kept_on told spots first [] kept total = ap constant_left (put_none told spots (record { terms = first ∷ kept; constant = total }))
kept_on told spots first (term ∷ terms) kept total =
    ap constant_left (put_more told spots (record { terms = first ∷ kept; constant = total }) term terms) ∙ by_number (cancelled_number spots (spot_of told term)) (kept_on told spots first terms)
  where
    by_number : (number : Option ℕ) → ((kept : List Term) (total : ℕ) → constant_left (put_all spots told (record { terms = first ∷ kept; constant = total }) terms) ≡ None)
        → constant_left (put_all spots told (put_one (record { terms = first ∷ kept; constant = total }) term number) terms) ≡ None
    by_number None later = later (kept ++ term ∷ []) total
    by_number (Some at) later = later kept (wrapped (total + wrapped (term.coefficient * at)))

-- the next term has no number
pub left_in : (told : ℕ → Told) (spots : List (Option Spot)) (terms : List Term) (at total : ℕ) (item : Term) (whole : Form) → at < length terms → item ≡ get_or terms at item
    → cancelled_number spots (spot_of told item) ≡ None → put_all spots told (constant_form total) (drop at terms) ≡ whole → None ≡ constant_left whole
left_in told spots terms at total item whole inside is none before =
    sym (ap constant_left (sym (put_at told spots terms at item (constant_form total) whole None inside is none before)) ∙ kept_on told spots item (drop (suc at) terms) [] total)

-- the next term has a number
pub number_in : (told : ℕ → Told) (spots : List (Option Spot)) (terms : List Term) (at total number : ℕ) (item : Term) (whole : Form) → at < length terms → item ≡ get_or terms at item
    → cancelled_number spots (spot_of told item) ≡ Some number → put_all spots told (constant_form total) (drop at terms) ≡ whole
    → put_all spots told (constant_form (wrapped (total + wrapped (item.coefficient * number)))) (drop (at + 1) terms) ≡ whole
number_in told spots terms at total number item whole inside is some before =
    let one : suc at ≡ at + 1 = omega arith in
    rw one at (put_at told spots terms at item (constant_form total) whole (Some number) inside is some before)

-- no term is left
pub none_in : (told : ℕ → Told) (spots : List (Option Spot)) (terms : List Term) (at total : ℕ) (whole : Form) → length terms ≤ at
    → put_all spots told (constant_form total) (drop at terms) ≡ whole → Some total ≡ constant_left whole
none_in told spots terms at total whole all before =
    let none : drop at terms ≡ [] = nil_from_length (drop at terms) (omega (arith, length-drop at terms)) in
    ap constant_left (sym (put_none told spots (constant_form total)) ∙ rw none at before)

-- no term is put yet
pub none_put : (told : ℕ → Told) (made : Form) → put_all (map (spot_of told) made.terms) told (constant_form made.constant) made.terms ≡ settled told made
unfolding settled
none_put told made = refl

-- terms of which none has a number stay
stay_by : (told : ℕ → Told) (spots : List (Option Spot)) (kept : List Term) (total : ℕ) (term : Term) (terms : List Term) (number : Option ℕ)
    → ((kept : List Term) → list_all (λ term. is_none (cancelled_number spots (spot_of told term))) terms ≡ true
    → put_all spots told (record { terms = kept; constant = total }) terms ≡ record { terms = kept ++ terms; constant = total })
    → (is_none number && list_all (λ term. is_none (cancelled_number spots (spot_of told term))) terms) ≡ true
    → put_all spots told (put_one (record { terms = kept; constant = total }) term number) terms ≡ record { terms = kept ++ term ∷ terms; constant = total }
stay_by told spots kept total term terms (Some number) later all = cc
stay_by told spots kept total term terms None later all =
    later (kept ++ term ∷ []) all ∙ ap (λ (list : List Term). let form : Form = record { terms = list; constant = total } in form) (append_assoc kept (term ∷ []) terms)

all_stay : (told : ℕ → Told) (spots : List (Option Spot)) (kept : List Term) (total : ℕ) (terms : List Term)
    → list_all (λ term. is_none (cancelled_number spots (spot_of told term))) terms ≡ true
    → put_all spots told (record { terms = kept; constant = total }) terms ≡ record { terms = kept ++ terms; constant = total }
unfolding put_all
all_stay told spots kept total [] all = ap (λ (list : List Term). let form : Form = record { terms = list; constant = total } in form) (sym (append-nil kept))
all_stay told spots kept total (term ∷ terms) all =
    stay_by told spots kept total term terms (cancelled_number spots (spot_of told term)) (λ more. all_stay told spots more total terms) all

-- where no label cancels the form stays
pub none_cancel : (told : ℕ → Told) (made : Form) → nothing_cancels told made.terms ≡ true → made ≡ settled told made
unfolding settled
none_cancel told made none = sym (all_stay told (map (spot_of told) made.terms) [] made.constant made.terms none)
