-- The value of a form where its labels are moved within their stretches.
use Rattle.std.proofs.Common.{◌≡◌, ◌⊎◌, inl, inr, ℕ, ◌+◌, ◌*◌, ◌^◌, ◌<◌, Bool, true, false, List, [], ◌∷◌, ◌++◌, map, Option, Some, None, refl, sym, ap, ◌∙◌, arith, mul-add, mul_comm}
use Rattle.std.specs.Prelude.{◌==◌, option_map}
use Rattle.std.proofs.lemmas.Nat.{mul-mod_first}
use Rattle.std.proofs.lemmas.List.Sums.{sum_by-cons}
use Rattle.asm_expr.specs.declared.forms.Term.{Term}
use Rattle.asm_expr.specs.Forms.{Form, wrapped, constant_form}
use Rattle.asm_expr.specs.Knowledge.{Told, absent, label}
use Rattle.asm_expr.specs.Settled.{spot_by, spot_of, counted_in, stretch_sum, cancelled_number, put_one, put_all, settled, constant_by, constant_left}

-- where a term is left, no constant is
left_none : (all : List Term) (told : ℕ → Told) (first : Term) (rest : List Term) (constant : ℕ) (terms : List Term)
    → constant_left (put_all (map (spot_of told) all) told (record { terms = first ∷ rest; constant = constant }) terms) ≡ None
unfolding put_all
left_none all told first rest constant [] = refl
left_none all told first rest constant (term ∷ terms) =
    by_number (cancelled_number (map (spot_of told) all) (spot_of told term)) (left_none all told first (rest ++ term ∷ []) constant terms)
    (λ next. left_none all told first rest next terms)
  where
    by_number : (number : Option ℕ)
        → constant_left (put_all (map (spot_of told) all) told (record { terms = first ∷ (rest ++ term ∷ []); constant = constant }) terms) ≡ None
        → ((next : ℕ) → constant_left (put_all (map (spot_of told) all) told (record { terms = first ∷ rest; constant = next }) terms) ≡ None)
        → constant_left (put_all (map (spot_of told) all) told (put_one (record { terms = first ∷ rest; constant = constant }) term number) terms) ≡ None
    by_number None more same = more
    by_number (Some n) more same = same (wrapped (constant + wrapped (term.coefficient * n)))

left_behind : (all : List Term) (told : ℕ → Told) (before : List Term) (term : Term) (constant : ℕ) (terms : List Term)
    → constant_left (put_all (map (spot_of told) all) told (record { terms = before ++ term ∷ []; constant = constant }) terms) ≡ None
left_behind all told [] term constant terms = left_none all told term [] constant terms
left_behind all told (first ∷ before) term constant terms = left_none all told first (before ++ term ∷ []) constant terms

-- a number that counts so often, moved
moved_times : (coefficient at moved : ℕ) → wrapped (coefficient * wrapped (at + moved)) ≡ wrapped (coefficient * at + coefficient * moved)
moved_times coefficient at moved =
    let turned : coefficient * wrapped (at + moved) ≡ wrapped (at + moved) * coefficient = mul_comm coefficient (wrapped (at + moved)) in
    let first = mul-mod_first (at + moved) coefficient (2 ^ 64) in
    let back : (at + moved) * coefficient ≡ coefficient * (at + moved) = mul_comm (at + moved) coefficient in
    let parts : coefficient * (at + moved) ≡ coefficient * at + coefficient * moved = mul-add coefficient at moved in
    ap wrapped turned ∙ first ∙ ap wrapped (back ∙ parts)

-- both are unknown, or labels of one stretch, the second of which is moved so far
abbrev pub IsShifted : Told → Told → ℕ → Type 0
IsShifted still moved by = ((still ≡ absent) × (moved ≡ absent)) ⊎ ((stretch : ℕ) × (at : ℕ) × (still ≡ label stretch at) × (moved ≡ label stretch (wrapped (at + by))))

module _ (still moved : ℕ → Told) (by : ℕ → ℕ) where
  -- the symbols of all terms are
  abbrev pub AreShifted : List Term → Type 0
  AreShifted [] = Unit {0}
  AreShifted (term ∷ terms) = IsShifted (still term.symbol) (moved term.symbol) (by term.symbol) × AreShifted terms

  -- how far the symbols of all terms are moved, each as often as it counts
  abbrev pub shifted_by : List Term → ℕ
  shifted_by [] = 0
  shifted_by (term ∷ terms) = term.coefficient * by term.symbol + shifted_by terms

  counted_same : (stretch coefficient symbol : ℕ) → IsShifted (still symbol) (moved symbol) (by symbol)
      → counted_in stretch (spot_by (moved symbol) coefficient) ≡ counted_in stretch (spot_by (still symbol) coefficient)
  counted_same stretch coefficient symbol (inl (one, other)) = rw (one, other) refl
  counted_same stretch coefficient symbol (inr (own, at, one, other)) = rw (one, other) refl

  sum_same : (stretch : ℕ) (terms : List Term) → AreShifted terms → stretch_sum stretch (map (spot_of moved) terms) ≡ stretch_sum stretch (map (spot_of still) terms)
  sum_same stretch [] shifted = refl
  sum_same stretch (term ∷ terms) (first, rest) =
      let one = counted_same stretch term.coefficient term.symbol first in
      let later = sum_same stretch terms rest in
      sum_by-cons (counted_in stretch) (spot_of moved term) (map (spot_of moved) terms)
      ∙ (rw (one, later) refl) ∙ sym (sum_by-cons (counted_in stretch) (spot_of still term) (map (spot_of still) terms))

  module _ (all : List Term) (shifted : AreShifted all) where
    -- the forms so far, and what is put to them of these terms
    abbrev IsMoved : Form → Form → ℕ → List Term → Type 0
    IsMoved made other sum terms =
        constant_left (put_all (map (spot_of moved) all) moved other terms)
        ≡ option_map (λ n. wrapped (n + (sum + shifted_by terms))) (constant_left (put_all (map (spot_of still) all) still made terms))

    -- the same, where these numbers stand for the first of the terms, and the symbols of all are moved so far
    abbrev IsStep : Form → Form → ℕ → ℕ → Term → List Term → Option ℕ → Option ℕ → Type 0
    IsStep made other sum amount term terms later before =
        constant_left (put_all (map (spot_of moved) all) moved (put_one other term later) terms)
        ≡ option_map (λ n. wrapped (n + (sum + amount))) (constant_left (put_all (map (spot_of still) all) still (put_one made term before) terms))

    -- whatever the forms so far, of which the one is moved
    abbrev AreMoved : List Term → Type 0
    AreMoved terms = (made other : Form) (sum : ℕ) → other.terms ≡ made.terms → other.constant ≡ wrapped (made.constant + sum) → IsMoved made other sum terms

    both_left : (made other : Form) (sum amount : ℕ) (term : Term) (terms : List Term) → IsStep made other sum amount term terms None None
    both_left made other sum amount term terms =
        left_behind all moved other.terms term other.constant terms
        ∙ ap (option_map (λ n. wrapped (n + (sum + amount)))) (sym (left_behind all still made.terms term made.constant terms))

    both_put : (made other : Form) (sum amount : ℕ) (term : Term) (terms : List Term) (at shift : ℕ) → AreMoved terms → other.terms ≡ made.terms
        → other.constant ≡ wrapped (made.constant + sum) → amount ≡ term.coefficient * shift + shifted_by terms
        → IsStep made other sum amount term terms (Some (wrapped (at + shift))) (Some at)
    both_put made other sum amount term terms at shift go same is total =
        let times = moved_times term.coefficient at shift in
        let next : wrapped (other.constant + wrapped (term.coefficient * wrapped (at + shift)))
        ≡ wrapped (wrapped (made.constant + wrapped (term.coefficient * at)) + (sum + term.coefficient * shift)) =
        rw (is, times) (omega arith) in
        let done = go (record { terms = made.terms; constant = wrapped (made.constant + wrapped (term.coefficient * at)) })
        (record { terms = other.terms; constant = wrapped (other.constant + wrapped (term.coefficient * wrapped (at + shift))) })
        (sum + term.coefficient * shift) same next in
        let sums_up : sum + amount ≡ sum + term.coefficient * shift + shifted_by terms = omega arith in
        rw sums_up done

    by_test : (made other : Form) (sum amount : ℕ) (term : Term) (terms : List Term) (stretch at : ℕ) → still term.symbol ≡ label stretch at
        → moved term.symbol ≡ label stretch (wrapped (at + by term.symbol)) → AreMoved terms
        → other.terms ≡ made.terms → other.constant ≡ wrapped (made.constant + sum) → amount ≡ term.coefficient * by term.symbol + shifted_by terms
        → (test : Bool) → (wrapped (stretch_sum stretch (map (spot_of still) all)) == 0) ≡ test
        → IsStep made other sum amount term terms (cancelled_number (map (spot_of moved) all) (spot_of moved term)) (cancelled_number (map (spot_of still) all) (spot_of still term))
    by_test made other sum amount term terms stretch at one two go same is total false fails =
        let sums = sum_same stretch all shifted in
        rw (one, two, sums, fails) (both_left made other sum amount term terms)
    by_test made other sum amount term terms stretch at one two go same is total true passes =
        let sums = sum_same stretch all shifted in
        rw (one, two, sums, passes) (both_put made other sum amount term terms at (by term.symbol) go same is total)

    by_kind : (made other : Form) (sum amount : ℕ) (term : Term) (terms : List Term) → AreMoved terms → other.terms ≡ made.terms → other.constant ≡ wrapped (made.constant + sum)
        → amount ≡ term.coefficient * by term.symbol + shifted_by terms → IsShifted (still term.symbol) (moved term.symbol) (by term.symbol)
        → IsStep made other sum amount term terms (cancelled_number (map (spot_of moved) all) (spot_of moved term)) (cancelled_number (map (spot_of still) all) (spot_of still term))
    by_kind made other sum amount term terms go same is total (inl (one, two)) = rw (one, two) (both_left made other sum amount term terms)
    by_kind made other sum amount term terms go same is total (inr (stretch, at, one, two)) =
        by_test made other sum amount term terms stretch at one two go same is total (wrapped (stretch_sum stretch (map (spot_of still) all)) == 0) refl

    none_left : (made other : Form) (sum : ℕ) → other.terms ≡ made.terms → other.constant ≡ wrapped (made.constant + sum) → (left : List Term) → made.terms ≡ left
        → constant_by other.terms other.constant ≡ option_map (λ n. wrapped (n + (sum + 0))) (constant_by made.terms made.constant)
    none_left made other sum same is [] none = rw (same, none, is) (ap Some (omega arith))
    none_left made other sum same is (term ∷ left) some = rw (same, some) refl

    -- what is left of terms where the form so far is moved too
    moved_all : (terms : List Term) → AreShifted terms → AreMoved terms
    unfolding put_all
    moved_all [] none made other sum same is = none_left made other sum same is made.terms refl
    moved_all (term ∷ terms) (first, rest) made other sum same is =
        by_kind made other sum (shifted_by (term ∷ terms)) term terms (moved_all terms rest) same is refl first

  -- the value of a form is what it is where no label is moved, and how far its symbols are moved
  pub value_shifted : (made : Form) → made.constant < 2 ^ 64 → AreShifted made.terms
      → constant_left (settled moved made) ≡ option_map (λ n. wrapped (n + shifted_by made.terms)) (constant_left (settled still made))
  unfolding settled
  value_shifted made small shifted =
      let none : 0 + shifted_by made.terms ≡ shifted_by made.terms = omega arith in
      rw none at (moved_all made.terms shifted made.terms shifted (constant_form made.constant) (constant_form made.constant) 0 refl (omega arith))
