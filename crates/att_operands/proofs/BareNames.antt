-- A name alone counts as the name and 0 more: what is settled is settled.
use Rattle.std.proofs.Common.{◌≡◌, ℕ, ◌+◌, ◌^◌, ◌<◌, ◌==◌, ◌&&◌, Bool, true, false, cond, List, [], ◌∷◌, ◌++◌, map, Option, Some, None, is_none, Result, Ok, refl, sym, ap, subst, ◌∙◌, arith, append_assoc}
use Rattle.std.proofs.lemmas.Bool.{eqb-true}
use Rattle.std.proofs.lemmas.Bool.Decides.{nat_tests}
use Rattle.std.proofs.lemmas.List.Sums.{sum_by-cons}
use Rattle.std.proofs.lemmas.List.{append-nil}
use Rattle.std.proofs.lemmas.List.Elements.{All-head}
use Rattle.std.specs.List.{list_all}
use Rattle.asm_expr.specs.declared.faults.ExprCause.{ExprCause}
use Rattle.asm_expr.specs.declared.forms.Term.{Term}
use Rattle.asm_expr.specs.declared.trees.Written.TheVariants.{Plain}
use Rattle.asm_expr.specs.Trees.{name}
use Rattle.asm_expr.specs.Forms.{Form, wrapped, constant_form, symbol_form, sum_of, with_terms}
use Rattle.asm_expr.specs.Knowledge.{Told, absent, constant, label, form}
use Rattle.asm_expr.specs.Settled.{spot_by, spot_of, counted_in, stretch_sum, cancelled_number, put_one, put_all, settled, nothing_cancels}
use Rattle.asm_expr.specs.Linear.{form_by, linear, binary_form}
use Rattle.x86_insn.specs.Amounts.{named_tree}
use Rattle.att_operands.specs.Values.{IsFitting, CountAlike}

-- where no label cancels all terms are put, and the form stays
all_put : (told : ℕ → Told) (all : List Term) (made : Form) (terms : List Term) → list_all (λ (t : Term). is_none (cancelled_number (map (spot_of told) all) (spot_of told t))) terms ≡ true
    → put_all (map (spot_of told) all) told made terms ≡ (let whole : Form = record { terms = made.terms ++ terms; constant = made.constant } in whole)
unfolding put_all
all_put told all made [] none = ap (λ (ts : List Term). let whole : Form = record { terms = ts; constant = made.constant } in whole) (sym (append-nil made.terms))
all_put told all made (term ∷ terms) none = by_number (cancelled_number (map (spot_of told) all) (spot_of told term)) (λ more. all_put told all more terms) none
  where
    by_number : (number : Option ℕ) → ((more : Form) → list_all (λ (t : Term). is_none (cancelled_number (map (spot_of told) all) (spot_of told t))) terms ≡ true
        → put_all (map (spot_of told) all) told more terms ≡ (let whole : Form = record { terms = more.terms ++ terms; constant = more.constant } in whole))
        → (is_none number && list_all (λ (t : Term). is_none (cancelled_number (map (spot_of told) all) (spot_of told t))) terms) ≡ true
        → put_all (map (spot_of told) all) told (put_one made term number) terms ≡ (let whole : Form = record { terms = made.terms ++ term ∷ terms; constant = made.constant } in whole)
    by_number (Some number) later rest = cc
    by_number None later rest =
        later (put_one made term None) rest ∙ ap (λ (ts : List Term). let whole : Form = record { terms = ts; constant = made.constant } in whole) (append_assoc made.terms (term ∷ []) terms)

none_cancel : (told : ℕ → Told) (made : Form) → nothing_cancels told made.terms ≡ true → made ≡ settled told made
unfolding settled
none_cancel told made none = sym (all_put told made.terms (constant_form made.constant) made.terms none)

-- a symbol alone does not cancel
alone : (known : Told) → (is_none (cancelled_number (spot_by known 1 ∷ []) (spot_by known 1)) && true) ≡ true
alone absent = refl
alone (constant n) = refl
alone (form made) = refl
alone (label stretch at) = let same : (stretch == stretch) ≡ true = grind (arith, nat_tests) in rw same refl

symbol_stays : (told : ℕ → Told) (own : ℕ) → symbol_form own ≡ settled told (symbol_form own)
symbol_stays told own = none_cancel told (symbol_form own) (alone (told own))

-- the term before others, unless a number stands for it
abbrev kept_one : Option ℕ → Term → List Term → List Term
kept_one None term rest = term ∷ rest
kept_one (Some number) term rest = rest

-- the number that stands for a term among all of them
abbrev number_for : (ℕ → Told) → List Term → Term → Option ℕ
number_for told all term = cancelled_number (map (spot_of told) all) (spot_of told term)

-- the stretch, whose labels count so often among all terms, does not cancel
abbrev Stays : (ℕ → Told) → List Term → ℕ → Type 0
Stays told all stretch = (wrapped (stretch_sum stretch (map (spot_of told) all)) == 0) ≡ false

-- stretches that do not cancel count the same in the others
abbrev SameIn : (ℕ → Told) → List Term → List Term → Type 0
SameIn told all others = (stretch : ℕ) → Stays told all stretch → stretch_sum stretch (map (spot_of told) others) ≡ stretch_sum stretch (map (spot_of told) all)

-- the terms for which no number stands
abbrev kept : (ℕ → Told) → List Term → List Term → List Term
kept told all [] = []
kept told all (term ∷ terms) = kept_one (number_for told all term) term (kept told all terms)

put_kept : (made : Form) (term : Term) (number : Option ℕ) (rest : List Term) → (put_one made term number).terms ++ rest ≡ made.terms ++ kept_one number term rest
put_kept made term None rest = append_assoc made.terms (term ∷ []) rest
put_kept made term (Some number) rest = refl

put_terms : (all : List Term) (told : ℕ → Told) (made : Form) (terms : List Term) → (put_all (map (spot_of told) all) told made terms).terms ≡ made.terms ++ kept told all terms
unfolding put_all
put_terms all told made [] = sym (append-nil made.terms)
put_terms all told made (term ∷ terms) =
    put_terms all told (put_one made term (number_for told all term)) terms
    ∙ put_kept made term (number_for told all term) (kept told all terms)

-- the constant stays below 2^64
one_fits : (made : Form) (term : Term) (number : Option ℕ) → made.constant < 2 ^ 64 → (put_one made term number).constant < 2 ^ 64
one_fits made term None fits = fits
one_fits made term (Some number) fits = omega arith

all_fit : (all : List Term) (told : ℕ → Told) (made : Form) (terms : List Term) → made.constant < 2 ^ 64 → (put_all (map (spot_of told) all) told made terms).constant < 2 ^ 64
unfolding put_all
all_fit all told made [] fits = fits
all_fit all told made (term ∷ terms) fits =
    all_fit all told (put_one made term (number_for told all term)) terms (one_fits made term (number_for told all term) fits)

-- a label for which a number stands is of a stretch that cancels
dropped_by : (all : List Term) (told : ℕ → Told) (stretch own at coefficient number : ℕ) (b c : Bool) → Stays told all stretch
    → (wrapped (stretch_sum own (map (spot_of told) all)) == 0) ≡ b → cond b (Some at) None ≡ Some number → (own == stretch) ≡ c → cond c coefficient 0 ≡ 0
dropped_by all told stretch own at coefficient number false c left sums is same = cc
dropped_by all told stretch own at coefficient number true false left sums is same = refl
dropped_by all told stretch own at coefficient number true true left sums is same =
    absurd (let one : own ≡ stretch = eqb-true own stretch same in
    let bad : (wrapped (stretch_sum stretch (map (spot_of told) all)) == 0) ≡ true = subst (λ (s : ℕ). (wrapped (stretch_sum s (map (spot_of told) all)) == 0) ≡ true) one sums in cc)

dropped : (all : List Term) (told : ℕ → Told) (stretch coefficient : ℕ) (known : Told) (number : ℕ) → Stays told all stretch
    → cancelled_number (map (spot_of told) all) (spot_by known coefficient) ≡ Some number → counted_in stretch (spot_by known coefficient) ≡ 0
dropped all told stretch coefficient absent number left is = refl
dropped all told stretch coefficient (constant n) number left is = refl
dropped all told stretch coefficient (form made) number left is = refl
dropped all told stretch coefficient (label own at) number left is =
    dropped_by all told stretch own at coefficient number (wrapped (stretch_sum own (map (spot_of told) all)) == 0) (own == stretch) left refl is refl

-- a stretch that does not cancel counts the same in what is left
same_sum_by : (all : List Term) (told : ℕ → Told) (stretch : ℕ) (term : Term) (rest : List Term) (total : ℕ) (number : Option ℕ) → Stays told all stretch
    → number_for told all term ≡ number → stretch_sum stretch (map (spot_of told) rest) ≡ total
    → stretch_sum stretch (map (spot_of told) (kept_one number term rest)) ≡ counted_in stretch (spot_of told term) + total
same_sum_by all told stretch term rest total None left is same =
    sum_by-cons (counted_in stretch) (spot_of told term) (map (spot_of told) rest) ∙ ap (λ (n : ℕ). counted_in stretch (spot_of told term) + n) same
same_sum_by all told stretch term rest total (Some number) left is same =
    let none : counted_in stretch (spot_of told term) ≡ 0 = dropped all told stretch term.coefficient (told term.symbol) number left is in
    let sum : total ≡ counted_in stretch (spot_of told term) + total = omega arith in
    same ∙ sum

same_sum : (all : List Term) (told : ℕ → Told) (stretch : ℕ) (terms : List Term) → Stays told all stretch
    → stretch_sum stretch (map (spot_of told) (kept told all terms)) ≡ stretch_sum stretch (map (spot_of told) terms)
same_sum all told stretch [] left = refl
same_sum all told stretch (term ∷ terms) left =
    same_sum_by all told stretch term (kept told all terms) (stretch_sum stretch (map (spot_of told) terms)) (number_for told all term) left refl (same_sum all told stretch terms left)
    ∙ sym (sum_by-cons (counted_in stretch) (spot_of told term) (map (spot_of told) terms))

-- what was kept is kept again
again_by : (all others : List Term) (told : ℕ → Told) (own at : ℕ) (b : Bool) → SameIn told all others
    → (wrapped (stretch_sum own (map (spot_of told) all)) == 0) ≡ b → cond b (Some at) None ≡ None
    → cond (wrapped (stretch_sum own (map (spot_of told) others)) == 0) (Some at) None ≡ None
again_by all others told own at true same sums is = cc
again_by all others told own at false same sums is = let equal = same own sums in rw equal (rw sums refl)

again : (all others : List Term) (told : ℕ → Told) (coefficient : ℕ) (known : Told) → SameIn told all others
    → cancelled_number (map (spot_of told) all) (spot_by known coefficient) ≡ None → cancelled_number (map (spot_of told) others) (spot_by known coefficient) ≡ None
again all others told coefficient absent same is = refl
again all others told coefficient (constant n) same is = refl
again all others told coefficient (form made) same is = refl
again all others told coefficient (label own at) same is = again_by all others told own at (wrapped (stretch_sum own (map (spot_of told) all)) == 0) same refl is

all_again_by : (all others : List Term) (told : ℕ → Told) (term : Term) (rest : List Term) (number : Option ℕ) → SameIn told all others → number_for told all term ≡ number
    → list_all (λ (t : Term). is_none (number_for told others t)) rest ≡ true → list_all (λ (t : Term). is_none (number_for told others t)) (kept_one number term rest) ≡ true
all_again_by all others told term rest None same is later =
    let none : number_for told others term ≡ None = again all others told term.coefficient (told term.symbol) same is in rw none later
all_again_by all others told term rest (Some number) same is later = later

all_again : (all others : List Term) (told : ℕ → Told) (terms : List Term) → SameIn told all others
    → list_all (λ (t : Term). is_none (number_for told others t)) (kept told all terms) ≡ true
all_again all others told [] same = refl
all_again all others told (term ∷ terms) same =
    all_again_by all others told term (kept told all terms) (number_for told all term) same refl (all_again all others told terms same)

-- what is settled is settled
settled_again : (told : ℕ → Told) (made : Form) → settled told made ≡ settled told (settled told made)
unfolding settled
settled_again told made =
    let left = kept told made.terms made.terms in
    let terms = put_terms made.terms told (constant_form made.constant) made.terms in
    let none : nothing_cancels told left ≡ true = all_again made.terms left told made.terms (λ stretch stays_here. same_sum made.terms told stretch made.terms stays_here) in
    none_cancel told (put_all (map (spot_of told) made.terms) told (constant_form made.constant) made.terms) (subst (λ (ts : List Term). nothing_cancels told ts ≡ true) (sym terms) none)

-- a form with 0 more
more_none : (made : Form) → made.constant < 2 ^ 64 → sum_of made (constant_form 0) ≡ made
unfolding with_terms
more_none made fits = let same : wrapped (made.constant + 0) ≡ made.constant = omega arith in ap (λ (n : ℕ). let whole : Form = record { terms = made.terms; constant = n } in whole) same

settled_fits : (told : ℕ → Told) (made : Form) → made.constant < 2 ^ 64 → (settled told made).constant < 2 ^ 64
unfolding settled
settled_fits told made fits = all_fit made.terms told (constant_form made.constant) made.terms fits

bare_form : (told : ℕ → Told) (own : ℕ) (known : Told) → ((n : ℕ) → known ≡ constant n → n < 2 ^ 64) → ((made : Form) → known ≡ form made → made.constant < 2 ^ 64)
    → settled told (sum_of (form_by told own known) (constant_form 0)) ≡ form_by told own known
bare_form told own absent numbers forms = ap (settled told) (more_none (symbol_form own) (omega arith)) ∙ sym (symbol_stays told own)
bare_form told own (label stretch at) numbers forms = ap (settled told) (more_none (symbol_form own) (omega arith)) ∙ sym (symbol_stays told own)
bare_form told own (constant n) numbers forms = ap (settled told) (more_none (constant_form n) (numbers n refl)) ∙ sym (none_cancel told (constant_form n) refl)
bare_form told own (form made) numbers forms = ap (settled told) (more_none (settled told made) (settled_fits told made (forms made refl))) ∙ sym (settled_again told made)

ok_form : Form → Result Form ExprCause
ok_form made = Ok made

-- a name alone counts as the name and 0 more
pub bare_counts : (bytes : List ℕ) → CountAlike (named_tree bytes 0) (name (Plain bytes))
unfolding linear binary_form ok_form
bare_counts bytes known fits =
    let own = known.meant (Plain bytes) in
    let fitting = All-head (λ written. IsFitting (known.told (known.meant written))) (Plain bytes) [] fits in
    ap ok_form (bare_form known.told own (known.told own) fitting.number fitting.made)
