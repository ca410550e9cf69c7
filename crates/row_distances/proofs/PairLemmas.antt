-- A pair of symbols cancels where both stand in one section.
use Rattle.std.proofs.Common.{◌≡◌, ◌≢◌, ◌⊎◌, inl, inr, ℕ, ◌+◌, ◌-◌, ◌^◌, ◌<◌, ◌==◌, ◌&&◌, Bool, true, false, cond, List, [], ◌∷◌, Option, Some, None, refl, sym, ap, ◌∙◌, arith}
use Rattle.std.specs.Prelude.{option_map}
use Rattle.std.proofs.lemmas.Bool.Decides.{nat_tests}
use Rattle.asm_base.specs.declared.places.SectionPlace.{SectionPlace}
use Rattle.asm_expr.specs.declared.forms.Term.{Term}
use Rattle.asm_expr.specs.Forms.{Form, wrapped, term_of}
use Rattle.asm_expr.specs.Settled.{settled, put_all}
use Rattle.asm_symbols.specs.SymbolMap.{SymbolMap}
use Rattle.asm_levels.specs.declared.distances.Distance.{Distance}
use Rattle.asm_levels.specs.declared.distances.Distance.TheVariants.{Sum}
use Rattle.row_distances.specs.declared.pairs.Pair.{Pair}
use Rattle.row_distances.specs.declared.places.OwnPlace.{OwnPlace}
use Rattle.row_distances.specs.Pairs.{pair_of}
use Rattle.row_distances.specs.Places.{place_of, row_among}
use Rattle.row_distances.specs.FormDistances.{value_among, between_rows, or_else, moved_terms, moved_distance, distance_of}
use Rattle.row_distances.proofs.RowLemmas.{both_true, is_number}

-- the terms are the two of a pair, in either order
abbrev ArePair : List Term → Pair → Type 0
ArePair terms pair =
    (terms ≡ term_of pair.ahead 1 ∷ term_of pair.behind (2 ^ 64 - 1) ∷ []) ⊎ (terms ≡ term_of pair.behind (2 ^ 64 - 1) ∷ term_of pair.ahead 1 ∷ [])

-- two terms whose coefficients are these
two_terms : (one other : Term) (first second : ℕ) → one.coefficient ≡ first → other.coefficient ≡ second
    → one ∷ other ∷ [] ≡ term_of one.symbol first ∷ term_of other.symbol second ∷ []
two_terms one other first second is also =
    ap (λ (n : ℕ). term_of one.symbol n ∷ other ∷ []) is ∙ ap (λ (n : ℕ). term_of one.symbol first ∷ term_of other.symbol n ∷ []) also

-- a pair that is found has the two terms
are_pair : (terms : List Term) (pair : Pair) → pair_of terms ≡ Some pair → ArePair terms pair
are_pair [] pair is = absurd cc
are_pair (one ∷ []) pair is = absurd cc
are_pair (one ∷ other ∷ third ∷ more) pair is = absurd cc
are_pair (one ∷ other ∷ []) pair is =
    by ((one.coefficient == 1) && (other.coefficient == 2 ^ 64 - 1)) refl ((one.coefficient == 2 ^ 64 - 1) && (other.coefficient == 1)) refl is
  where
    by : (first : Bool) → ((one.coefficient == 1) && (other.coefficient == 2 ^ 64 - 1)) ≡ first
        → (second : Bool) → ((one.coefficient == 2 ^ 64 - 1) && (other.coefficient == 1)) ≡ second
        → cond first (Some (record { ahead = one.symbol; behind = other.symbol })) (cond second (Some (record { ahead = other.symbol; behind = one.symbol })) None) ≡ Some pair
        → ArePair (one ∷ other ∷ []) pair
    by true first second second_is found =
        let (once, minus) = both_true (one.coefficient == 1) (other.coefficient == 2 ^ 64 - 1) first in
        let same : record { ahead = one.symbol; behind = other.symbol } ≡ pair = cc in
        inl (two_terms one other 1 (2 ^ 64 - 1) (is_number one.coefficient 1 once) (is_number other.coefficient (2 ^ 64 - 1) minus)
        ∙ ap (λ (p : Pair). term_of p.ahead 1 ∷ term_of p.behind (2 ^ 64 - 1) ∷ []) same)
    by false first true second found =
        let (minus, once) = both_true (one.coefficient == 2 ^ 64 - 1) (other.coefficient == 1) second in
        let same : record { ahead = other.symbol; behind = one.symbol } ≡ pair = cc in
        inr (two_terms one other (2 ^ 64 - 1) 1 (is_number one.coefficient (2 ^ 64 - 1) minus) (is_number other.coefficient 1 once)
        ∙ ap (λ (p : Pair). term_of p.behind (2 ^ 64 - 1) ∷ term_of p.ahead 1 ∷ []) same)
    by false first false second found = absurd cc

-- a place stands in its own section
same_section : (place : SectionPlace) → (place.section == place.section) ≡ true
same_section place = grind (arith, nat_tests)

-- the number that is left where both cancel
abbrev left_of : ℕ → ℕ → ℕ → ℕ
left_of constant ahead behind = wrapped (constant + wrapped (ahead + (2 ^ 64 - behind)))

module _ (map' : SymbolMap) (own : OwnPlace) (starts : List ℕ) (count : ℕ) (made : Form) (pair : Pair) where
  -- the value of the form where no row is moved
  abbrev value : Option ℕ
  value = value_among map' own starts [] made

  -- nothing cancels where the symbol ahead has no place
  none_ahead : ArePair made.terms pair → place_of map' own pair.ahead ≡ None → (there : Option SectionPlace) → place_of map' own pair.behind ≡ there → value ≡ None
  unfolding settled put_all
  none_ahead (inl is) none None there = rw (is, none, there) refl
  none_ahead (inl is) none (Some place) there = let one = same_section place in rw (is, none, there, one) refl
  none_ahead (inr is) none None there = rw (is, none, there) refl
  none_ahead (inr is) none (Some place) there = let one = same_section place in rw (is, none, there, one) refl

  -- nor where the one behind has none
  none_behind : ArePair made.terms pair → place_of map' own pair.behind ≡ None → (there : Option SectionPlace) → place_of map' own pair.ahead ≡ there → value ≡ None
  unfolding settled put_all
  none_behind (inl is) none None there = rw (is, none, there) refl
  none_behind (inl is) none (Some place) there = let one = same_section place in rw (is, none, there, one) refl
  none_behind (inr is) none None there = rw (is, none, there) refl
  none_behind (inr is) none (Some place) there = let one = same_section place in rw (is, none, there, one) refl

  module _ (place other : SectionPlace) (there : place_of map' own pair.ahead ≡ Some place) (also : place_of map' own pair.behind ≡ Some other) where
    -- nor where the two stand in two sections
    none_apart : ArePair made.terms pair → place.section ≢ other.section → value ≡ None
    unfolding settled put_all
    none_apart are differ = by are
      where
        apart : (place.section == other.section) ≡ false
        apart = grind (arith, nat_tests, differ)

        turned : (other.section == place.section) ≡ false
        turned = grind (arith, nat_tests, differ)

        one : (place.section == place.section) ≡ true
        one = same_section place

        two : (other.section == other.section) ≡ true
        two = same_section other

        by : ArePair made.terms pair → value ≡ None
        by (inl is) = rw (is, there, also, apart, turned, one, two) refl
        by (inr is) = rw (is, there, also, apart, turned, one, two) refl

    -- in one section both cancel
    both_cancel : ArePair made.terms pair → other.section ≡ place.section → other.place.offset < 2 ^ 64
        → value ≡ Some (left_of made.constant place.place.offset other.place.offset)
    unfolding settled put_all
    both_cancel are same small = by are
      where
        one : (place.section == place.section) ≡ true
        one = same_section place

        by : ArePair made.terms pair → value ≡ Some (left_of made.constant place.place.offset other.place.offset)
        by (inl is) = rw (is, there, also, same, one) (ap (λ (n : ℕ). Some n) (omega arith))
        by (inr is) = rw (is, there, also, same, one) (ap (λ (n : ℕ). Some n) (omega arith))

    -- and the distance is that of their rows, or a sum
    apart_by : (number : ℕ) → ArePair made.terms pair
        → moved_distance map' own starts count number made.terms
        ≡ or_else (between_rows number (row_among starts place count) (row_among starts other count)) (Sum number (moved_terms map' own starts count made.terms))
    apart_by number (inl is) = rw (is, there, also) refl
    apart_by number (inr is) = rw (is, there, also) refl

    -- where both stand in one section
    one_section : pair_of made.terms ≡ Some pair → place.section ≡ other.section → other.place.offset < 2 ^ 64 → (found : Option Distance)
        → between_rows (left_of made.constant place.place.offset other.place.offset) (row_among starts place count) (row_among starts other count) ≡ found
        → distance_of map' own starts count made
        ≡ Some (or_else found (Sum (left_of made.constant place.place.offset other.place.offset) (moved_terms map' own starts count made.terms)))
    unfolding distance_of
    one_section is same small found rows =
        let number = left_of made.constant place.place.offset other.place.offset in
        let are = are_pair made.terms pair is in
        ap (option_map (λ number. moved_distance map' own starts count number made.terms)) (both_cancel are (sym same) small)
        ∙ ap (λ (d : Distance). Some d) (apart_by number are ∙ ap (λ (found : Option Distance). or_else found (Sum number (moved_terms map' own starts count made.terms))) rows)

  -- a form without a value has no distance
  no_value : value ≡ None → distance_of map' own starts count made ≡ None
  unfolding distance_of
  no_value none = ap (option_map (λ number. moved_distance map' own starts count number made.terms)) none

  -- a pair of which the symbol ahead has no place has no distance
  pub no_place_ahead : pair_of made.terms ≡ Some pair → place_of map' own pair.ahead ≡ None → distance_of map' own starts count made ≡ None
  no_place_ahead is none = no_value (none_ahead (are_pair made.terms pair is) none (place_of map' own pair.behind) refl)

  -- nor has one of which the symbol behind has none
  pub no_place_behind : pair_of made.terms ≡ Some pair → place_of map' own pair.behind ≡ None → distance_of map' own starts count made ≡ None
  no_place_behind is none = no_value (none_behind (are_pair made.terms pair is) none (place_of map' own pair.ahead) refl)

  -- nor has one in two sections
  pub two_sections : (place other : SectionPlace) → pair_of made.terms ≡ Some pair → place_of map' own pair.ahead ≡ Some place
      → place_of map' own pair.behind ≡ Some other → place.section ≢ other.section → distance_of map' own starts count made ≡ None
  two_sections place other is there also differ = no_value (none_apart place other there also (are_pair made.terms pair is) differ)

  -- a pair in one section has the distance of its rows
  pub rows_between : (place other : SectionPlace) (found : Distance) → pair_of made.terms ≡ Some pair → place_of map' own pair.ahead ≡ Some place
      → place_of map' own pair.behind ≡ Some other → place.section ≡ other.section → other.place.offset < 2 ^ 64
      → between_rows (left_of made.constant place.place.offset other.place.offset) (row_among starts place count) (row_among starts other count) ≡ Some found
      → distance_of map' own starts count made ≡ Some found
  rows_between place other found is there also same small rows = one_section place other there also is same small (Some found) rows

  -- and where one of them has no row, a sum
  pub no_rows_between : (place other : SectionPlace) → pair_of made.terms ≡ Some pair → place_of map' own pair.ahead ≡ Some place
      → place_of map' own pair.behind ≡ Some other → place.section ≡ other.section → other.place.offset < 2 ^ 64
      → between_rows (left_of made.constant place.place.offset other.place.offset) (row_among starts place count) (row_among starts other count) ≡ None
      → distance_of map' own starts count made ≡ Some (Sum (left_of made.constant place.place.offset other.place.offset) (moved_terms map' own starts count made.terms))
  no_rows_between place other is there also same small rows = one_section place other there also is same small None rows
