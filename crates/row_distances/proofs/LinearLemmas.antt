-- The value of a form is what it is where no row is moved, and how far its symbols are moved.
use Rattle.std.proofs.Common.{◌≡◌, ℕ, ◌+◌, ◌*◌, ◌^◌, ◌<◌, Bool, true, false, List, [], ◌∷◌, ◌++◌, map, Option, Some, None, refl, sym, ap, ◌∙◌, arith, mul-add, mul-zero, mul_comm}
use Rattle.std.specs.Prelude.{◌==◌, option_map, slice_index}
use Rattle.std.proofs.lemmas.Nat.{mul-mod_first}
use Rattle.std.proofs.lemmas.List.Sums.{sum_by-cons}
use Rattle.asm_base.specs.declared.places.SectionPlace.{SectionPlace}
use Rattle.asm_expr.specs.declared.forms.Term.{Term}
use Rattle.asm_expr.specs.Forms.{Form, wrapped, constant_form}
use Rattle.asm_expr.specs.Knowledge.{Told}
use Rattle.asm_expr.specs.Settled.{spot_by, spot_of, counted_in, stretch_sum, cancelled_number, put_one, put_all, settled, constant_by, constant_left}
use Rattle.asm_symbols.specs.SymbolMap.{SymbolMap}
use Rattle.row_distances.specs.declared.places.OwnPlace.{OwnPlace}
use Rattle.row_distances.specs.Places.{place_of, row_at, address_at, place_told, row_told}
use Rattle.row_distances.specs.FormDistances.{value_among, term_moved, terms_moved}

-- where a term is left, no constant is
left_none : (all : List Term) (told : ℕ → Told) (first : Term) (rest : List Term) (constant : ℕ) (terms : List Term)
    → constant_left (put_all (map (spot_of told) all) told (record { terms = first ∷ rest; constant = constant }) terms) ≡ None
unfolding put_all
left_none all told first rest constant [] = refl
left_none all told first rest constant (term ∷ terms) =
    by_number (cancelled_number (map (spot_of told) all) (spot_of told term)) (left_none all told first (rest ++ term ∷ []) constant terms)
    (λ next. left_none all told first rest next terms)
  where
    by_number : (number : Option ℕ)
        → constant_left (put_all (map (spot_of told) all) told (record { terms = first ∷ (rest ++ term ∷ []); constant = constant }) terms) ≡ None
        → ((next : ℕ) → constant_left (put_all (map (spot_of told) all) told (record { terms = first ∷ rest; constant = next }) terms) ≡ None)
        → constant_left (put_all (map (spot_of told) all) told (put_one (record { terms = first ∷ rest; constant = constant }) term number) terms) ≡ None
    by_number None more same = more
    by_number (Some n) more same = same (wrapped (constant + wrapped (term.coefficient * n)))

left_behind : (all : List Term) (told : ℕ → Told) (before : List Term) (term : Term) (constant : ℕ) (terms : List Term)
    → constant_left (put_all (map (spot_of told) all) told (record { terms = before ++ term ∷ []; constant = constant }) terms) ≡ None
left_behind all told [] term constant terms = left_none all told term [] constant terms
left_behind all told (first ∷ before) term constant terms = left_none all told first (before ++ term ∷ []) constant terms

-- a number that counts so often, moved
moved_times : (coefficient at moved : ℕ) → wrapped (coefficient * wrapped (at + moved)) ≡ wrapped (coefficient * at + coefficient * moved)
moved_times coefficient at moved =
    let turned : coefficient * wrapped (at + moved) ≡ wrapped (at + moved) * coefficient = mul_comm coefficient (wrapped (at + moved)) in
    let first = mul-mod_first (at + moved) coefficient (2 ^ 64) in
    let back : (at + moved) * coefficient ≡ coefficient * (at + moved) = mul_comm (at + moved) coefficient in
    let parts : coefficient * (at + moved) ≡ coefficient * at + coefficient * moved = mul-add coefficient at moved in
    ap wrapped turned ∙ first ∙ ap wrapped (back ∙ parts)

module _ (map' : SymbolMap) (own : OwnPlace) (starts shifts : List ℕ) where
  -- how symbols are known where no row is moved, and where rows are moved so far
  abbrev still : ℕ → Told
  still = row_told map' own starts []

  abbrev moved : ℕ → Told
  moved = row_told map' own starts shifts

  counted_same : (stretch coefficient : ℕ) (place : Option SectionPlace)
      → counted_in stretch (spot_by (place_told starts shifts place) coefficient) ≡ counted_in stretch (spot_by (place_told starts [] place) coefficient)
  counted_same stretch coefficient None = refl
  counted_same stretch coefficient (Some place) = refl

  sum_same : (stretch : ℕ) (terms : List Term) → stretch_sum stretch (map (spot_of moved) terms) ≡ stretch_sum stretch (map (spot_of still) terms)
  sum_same stretch [] = refl
  sum_same stretch (term ∷ terms) =
      let first = counted_same stretch term.coefficient (place_of map' own term.symbol) in
      let later = sum_same stretch terms in
      sum_by-cons (counted_in stretch) (spot_of moved term) (map (spot_of moved) terms)
      ∙ (rw (first, later) refl) ∙ sym (sum_by-cons (counted_in stretch) (spot_of still term) (map (spot_of still) terms))

  module _ (all : List Term) where
    -- the forms so far, and what is put to them of these terms
    abbrev IsMoved : Form → Form → ℕ → List Term → Type 0
    IsMoved made other sum terms =
        constant_left (put_all (map (spot_of moved) all) moved other terms)
        ≡ option_map (λ n. wrapped (n + (sum + terms_moved map' own starts shifts terms))) (constant_left (put_all (map (spot_of still) all) still made terms))

    -- the same, where these numbers stand for the first of the terms, and the symbols of all are moved so far
    abbrev IsStep : Form → Form → ℕ → ℕ → Term → List Term → Option ℕ → Option ℕ → Type 0
    IsStep made other sum amount term terms later before =
        constant_left (put_all (map (spot_of moved) all) moved (put_one other term later) terms)
        ≡ option_map (λ n. wrapped (n + (sum + amount))) (constant_left (put_all (map (spot_of still) all) still (put_one made term before) terms))

    -- whatever the forms so far, of which the one is moved
    abbrev AreMoved : List Term → Type 0
    AreMoved terms = (made other : Form) (sum : ℕ) → other.terms ≡ made.terms → other.constant ≡ wrapped (made.constant + sum) → IsMoved made other sum terms

    both_left : (made other : Form) (sum amount : ℕ) (term : Term) (terms : List Term) → IsStep made other sum amount term terms None None
    both_left made other sum amount term terms =
        left_behind all moved other.terms term other.constant terms
        ∙ ap (option_map (λ n. wrapped (n + (sum + amount)))) (sym (left_behind all still made.terms term made.constant terms))

    both_put : (made other : Form) (sum amount : ℕ) (term : Term) (terms : List Term) (place : SectionPlace) → AreMoved terms → other.terms ≡ made.terms
        → other.constant ≡ wrapped (made.constant + sum)
        → amount ≡ term.coefficient * slice_index shifts (row_at starts place) + terms_moved map' own starts shifts terms
        → IsStep made other sum amount term terms (Some (address_at starts shifts place)) (Some (address_at starts [] place))
    both_put made other sum amount term terms place go same is total =
        let shift = slice_index shifts (row_at starts place) in
        let times = moved_times term.coefficient place.place.offset shift in
        let still_times = moved_times term.coefficient place.place.offset 0 in
        let none = mul-zero term.coefficient in
        let next : wrapped (other.constant + wrapped (term.coefficient * wrapped (place.place.offset + shift)))
        ≡ wrapped (wrapped (made.constant + wrapped (term.coefficient * wrapped (place.place.offset + 0))) + (sum + term.coefficient * shift)) =
        rw (is, times, still_times) (omega (arith, none)) in
        let done = go (record { terms = made.terms; constant = wrapped (made.constant + wrapped (term.coefficient * wrapped (place.place.offset + 0))) })
        (record { terms = other.terms; constant = wrapped (other.constant + wrapped (term.coefficient * wrapped (place.place.offset + shift))) })
        (sum + term.coefficient * shift) same next in
        let sums_up : sum + amount ≡ sum + term.coefficient * shift + terms_moved map' own starts shifts terms = omega arith in
        rw sums_up done

    by_test : (made other : Form) (sum amount : ℕ) (term : Term) (terms : List Term) (place : SectionPlace) → place_of map' own term.symbol ≡ Some place → AreMoved terms
        → other.terms ≡ made.terms → other.constant ≡ wrapped (made.constant + sum)
        → amount ≡ term.coefficient * slice_index shifts (row_at starts place) + terms_moved map' own starts shifts terms
        → (test : Bool) → (wrapped (stretch_sum place.section (map (spot_of still) all)) == 0) ≡ test
        → IsStep made other sum amount term terms (cancelled_number (map (spot_of moved) all) (spot_of moved term)) (cancelled_number (map (spot_of still) all) (spot_of still term))
    by_test made other sum amount term terms place there go same is total false fails =
        let sums = sum_same place.section all in
        rw (there, sums, fails) (both_left made other sum amount term terms)
    by_test made other sum amount term terms place there go same is total true passes =
        let sums = sum_same place.section all in
        rw (there, sums, passes) (both_put made other sum amount term terms place go same is total)

    by_place : (made other : Form) (sum amount : ℕ) (term : Term) (terms : List Term) → AreMoved terms → other.terms ≡ made.terms → other.constant ≡ wrapped (made.constant + sum)
        → amount ≡ term_moved map' own starts shifts term + terms_moved map' own starts shifts terms → (place : Option SectionPlace) → place_of map' own term.symbol ≡ place
        → IsStep made other sum amount term terms (cancelled_number (map (spot_of moved) all) (spot_of moved term)) (cancelled_number (map (spot_of still) all) (spot_of still term))
    by_place made other sum amount term terms go same is total None none = rw none (both_left made other sum amount term terms)
    by_place made other sum amount term terms go same is total (Some place) there =
        by_test made other sum amount term terms place there go same is (rw there at total) (wrapped (stretch_sum place.section (map (spot_of still) all)) == 0) refl

    none_left : (made other : Form) (sum : ℕ) → other.terms ≡ made.terms → other.constant ≡ wrapped (made.constant + sum) → (left : List Term) → made.terms ≡ left
        → constant_by other.terms other.constant ≡ option_map (λ n. wrapped (n + (sum + terms_moved map' own starts shifts []))) (constant_by made.terms made.constant)
    none_left made other sum same is [] none = rw (same, none, is) (ap Some (omega arith))
    none_left made other sum same is (term ∷ left) some = rw (same, some) refl

    -- what is left of terms where the form so far is moved too
    moved_all : (terms : List Term) → AreMoved terms
    unfolding put_all
    moved_all [] made other sum same is = none_left made other sum same is made.terms refl
    moved_all (term ∷ terms) made other sum same is =
        by_place made other sum (terms_moved map' own starts shifts (term ∷ terms)) term terms (moved_all terms) same is (sum_by-cons (term_moved map' own starts shifts) term terms)
        (place_of map' own term.symbol) refl

  -- the value of a form is its value where no row is moved, and how far its symbols are moved
  pub value_moved : (made : Form) → made.constant < 2 ^ 64
      → value_among map' own starts shifts made ≡ option_map (λ n. wrapped (n + terms_moved map' own starts shifts made.terms)) (value_among map' own starts [] made)
  unfolding settled
  value_moved made small =
      let none : 0 + terms_moved map' own starts shifts made.terms ≡ terms_moved map' own starts shifts made.terms = omega arith in
      rw none at (moved_all made.terms made.terms (constant_form made.constant) (constant_form made.constant) 0 refl (omega arith))
