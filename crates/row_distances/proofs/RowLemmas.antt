-- Symbols are moved as far as their rows.
use Rattle.std.proofs.Common.{◌≡◌, ℕ, ◌+◌, ◌-◌, ◌*◌, ◌%◌, ◌^◌, ◌<◌, ◌==◌, ◌&&◌, Bool, true, false, cond, nat_lt, List, [], ◌∷◌, ◌++◌, Option, Some, None, length, refl, sym, ap, ◌∙◌, arith, append_assoc}
use Rattle.std.specs.Prelude.{All, sum_by, slice_index, option_map}
use Rattle.std.proofs.lemmas.Bool.Decides.{nat_tests}
use Rattle.std.proofs.lemmas.List.{get_or_past}
use Rattle.std.proofs.lemmas.List.Sums.{sum_by-cons}
use Rattle.std.proofs.lemmas.List.Elements.{All-cons}
use Rattle.asm_base.specs.declared.places.SectionPlace.{SectionPlace}
use Rattle.asm_expr.specs.declared.forms.Term.{Term}
use Rattle.asm_expr.specs.Forms.{Form, wrapped}
use Rattle.asm_symbols.specs.SymbolMap.{SymbolMap}
use Rattle.asm_levels.specs.declared.distances.Distance.{Distance}
use Rattle.asm_levels.specs.declared.distances.Distance.TheVariants.{Between, Sum}
use Rattle.asm_levels.specs.declared.distances.RowTerm.{RowTerm}
use Rattle.asm_levels.specs.Distances.{distance_value, times_shift, DistanceStands}
use Rattle.row_distances.specs.declared.places.OwnPlace.{OwnPlace}
use Rattle.row_distances.specs.Places.{place_of, row_at, row_for, moved_by}
use Rattle.row_distances.specs.FormDistances.{value_among, term_moved, terms_moved, IsMovedBy, IsDistanceOf, NamesFew, with_row, between_rows, or_else, row_of, moved_terms, moved_distance, distance_of}
use Rattle.row_distances.proofs.LinearLemmas.{value_moved}

module _ (starts shifts : List ℕ) (count : ℕ) where
  -- a place with a row is moved as far as the row
  pub row_moves : (place : Option SectionPlace) (row : ℕ) → row_for starts place count ≡ Some row → moved_by starts shifts place ≡ slice_index shifts row
  row_moves None row is = absurd cc
  row_moves (Some place) row is = by_test (nat_lt (row_at starts place) count) is
    where
      by_test : (test : Bool) → cond test (Some (row_at starts place)) None ≡ Some row → slice_index shifts (row_at starts place) ≡ slice_index shifts row
      by_test true is = let same : row_at starts place ≡ row = cc in ap (slice_index shifts) same
      by_test false is = absurd cc

  -- and the row is one of so many
  pub row_inside : (place : Option SectionPlace) (row : ℕ) → row_for starts place count ≡ Some row → row < count
  row_inside None row is = absurd cc
  row_inside (Some place) row is = by_test (nat_lt (row_at starts place) count) refl is
    where
      by_test : (test : Bool) → nat_lt (row_at starts place) count ≡ test → cond test (Some (row_at starts place)) None ≡ Some row → row < count
      by_test true inside is = let same : row_at starts place ≡ row = cc in grind (arith, nat_tests, same)
      by_test false outside is = absurd cc

  -- one that has none is not moved
  pub none_moves : (place : Option SectionPlace) → row_for starts place count ≡ None → length shifts ≡ count → moved_by starts shifts place ≡ 0
  none_moves None none long = refl
  none_moves (Some place) none long = by_test (nat_lt (row_at starts place) count) refl none
    where
      by_test : (test : Bool) → nat_lt (row_at starts place) count ≡ test → cond test (Some (row_at starts place)) None ≡ None → slice_index shifts (row_at starts place) ≡ 0
      by_test true is some = absurd cc
      by_test false is none = get_or_past shifts (row_at starts place) 0 (grind (arith, nat_tests, long))

apart : (number ahead behind : ℕ) → behind < 2 ^ 64 → (number + ahead + (2 ^ 64 - behind)) % 2 ^ 64 ≡ (number + (ahead + (2 ^ 64 - 1) * behind)) % 2 ^ 64
apart number ahead behind small = omega arith

-- a number that passes the test for another is that one
pub is_number : (coefficient n : ℕ) → (coefficient == n) ≡ true → coefficient ≡ n
is_number coefficient n e = grind (arith, nat_tests)

-- where both of two tests pass, each does
pub both_true : (a b : Bool) → (a && b) ≡ true → (a ≡ true) × (b ≡ true)
both_true true true both = (refl, refl)
both_true true false both = absurd cc
both_true false b both = absurd cc

-- a term more goes last as well as first
pub terms_more : (rows : List RowTerm) (term : Term) (row : Option ℕ) (later : List RowTerm) → rows ++ with_row term row later ≡ (rows ++ with_row term row []) ++ later
terms_more rows term None later = sym (append_assoc rows [] later)
terms_more rows term (Some row) later = sym (append_assoc rows (record { coefficient = term.coefficient; row = row } ∷ []) later)

module _ (map' : SymbolMap) (own : OwnPlace) (starts : List ℕ) (count : ℕ) where
  -- the distance is the number and how far the symbols of the terms are moved
  abbrev Moves : ℕ → List Term → Distance → Type 0
  Moves number terms distance = IsMovedBy map' own starts count number terms distance

  -- the terms that have rows are moved as all of them are
  term_more : (shifts : List ℕ) → length shifts ≡ count → (term : Term) (later : List RowTerm) (row : Option ℕ) → row_of map' own starts count term.symbol ≡ row
      → sum_by (times_shift shifts) (with_row term row later) ≡ term_moved map' own starts shifts term + sum_by (times_shift shifts) later
  term_more shifts long term later None none =
      let still = none_moves starts shifts count (place_of map' own term.symbol) none long in
      rw still (omega arith)
  term_more shifts long term later (Some row) is =
      let moves = row_moves starts shifts count (place_of map' own term.symbol) row is in
      sum_by-cons (times_shift shifts) (record { coefficient = term.coefficient; row = row }) later ∙ (rw moves refl)

  terms_move : (shifts : List ℕ) → length shifts ≡ count → (terms : List Term) → sum_by (times_shift shifts) (moved_terms map' own starts count terms) ≡ terms_moved map' own starts shifts terms
  unfolding moved_terms
  terms_move shifts long [] = refl
  terms_move shifts long (term ∷ terms) =
      term_more shifts long term (moved_terms map' own starts count terms) (row_of map' own starts count term.symbol) refl
      ∙ (rw (terms_move shifts long terms) (sym (sum_by-cons (term_moved map' own starts shifts) term terms)))

  sum_moves : (number : ℕ) (terms : List Term) → Moves number terms (Sum number (moved_terms map' own starts count terms))
  unfolding distance_value
  sum_moves number terms shifts long small = ap (λ (n : ℕ). wrapped (number + n)) (terms_move shifts long terms)

  -- two rows are as far apart as the symbols that they move
  pair_value : (number ahead behind first second : ℕ) → row_of map' own starts count ahead ≡ Some first → row_of map' own starts count behind ≡ Some second
      → (shifts : List ℕ) → length shifts ≡ count → All (λ shift. shift < 2 ^ 64) shifts
      → distance_value shifts (Between number first second)
      ≡ wrapped (number + (moved_by starts shifts (place_of map' own ahead) + (2 ^ 64 - 1) * moved_by starts shifts (place_of map' own behind)))
  unfolding distance_value
  pair_value number ahead behind first second is other shifts long small =
      let one = row_moves starts shifts count (place_of map' own ahead) first is in
      let two = row_moves starts shifts count (place_of map' own behind) second other in
      let inside = row_inside starts shifts count (place_of map' own behind) second other in
      let below : slice_index shifts second < 2 ^ 64 = small second 0 (omega arith) in
      rw (one, two) (apart number (slice_index shifts first) (slice_index shifts second) below)

  -- what holds of a pair of rows, of the other way round, and of a sum, holds of the distance
  by_rows : (Goal : Distance → Type 0) (number : ℕ) (ahead behind : Option ℕ) (other : Distance) → Goal other
      → ((first second : ℕ) → ahead ≡ Some first → behind ≡ Some second → Goal (Between number first second)) → Goal (or_else (between_rows number ahead behind) other)
  by_rows Goal number None behind other last pair = last
  by_rows Goal number (Some ahead) None other last pair = last
  by_rows Goal number (Some ahead) (Some behind) other last pair = pair ahead behind refl refl

  in_order : (number : ℕ) (one other : Term) (first second : ℕ) → one.coefficient ≡ 1 → other.coefficient ≡ 2 ^ 64 - 1
      → row_of map' own starts count one.symbol ≡ Some first → row_of map' own starts count other.symbol ≡ Some second → Moves number (one ∷ other ∷ []) (Between number first second)
  in_order number one other first second once minus is there shifts long small =
      pair_value number one.symbol other.symbol first second is there shifts long small ∙ (rw (once, minus) (ap wrapped (omega arith)))

  turned : (number : ℕ) (one other : Term) (first second : ℕ) → one.coefficient ≡ 2 ^ 64 - 1 → other.coefficient ≡ 1
      → row_of map' own starts count other.symbol ≡ Some first → row_of map' own starts count one.symbol ≡ Some second → Moves number (one ∷ other ∷ []) (Between number first second)
  turned number one other first second minus once is there shifts long small =
      pair_value number other.symbol one.symbol first second is there shifts long small ∙ (rw (once, minus) (ap wrapped (omega arith)))

  by_tests : (number : ℕ) (one other : Term) (last : Distance) → Moves number (one ∷ other ∷ []) last → (first second : Bool)
      → ((one.coefficient == 1) && (other.coefficient == 2 ^ 64 - 1)) ≡ first → ((one.coefficient == 2 ^ 64 - 1) && (other.coefficient == 1)) ≡ second
      → Moves number (one ∷ other ∷ []) (or_else (cond first (between_rows number (row_of map' own starts count one.symbol) (row_of map' own starts count other.symbol))
      (cond second (between_rows number (row_of map' own starts count other.symbol) (row_of map' own starts count one.symbol)) None)) last)
  by_tests number one other last moved true second is second_is =
      let (once, minus) = both_true (one.coefficient == 1) (other.coefficient == 2 ^ 64 - 1) is in
      by_rows (λ (d : Distance). Moves number (one ∷ other ∷ []) d) number (row_of map' own starts count one.symbol) (row_of map' own starts count other.symbol) last moved
      (λ first second there here. in_order number one other first second (is_number one.coefficient 1 once) (is_number other.coefficient (2 ^ 64 - 1) minus) there here)
  by_tests number one other last moved false true first_is is =
      let (minus, once) = both_true (one.coefficient == 2 ^ 64 - 1) (other.coefficient == 1) is in
      by_rows (λ (d : Distance). Moves number (one ∷ other ∷ []) d) number (row_of map' own starts count other.symbol) (row_of map' own starts count one.symbol) last moved
      (λ first second there here. turned number one other first second (is_number one.coefficient (2 ^ 64 - 1) minus) (is_number other.coefficient 1 once) there here)
  by_tests number one other last moved false false first_is second_is = moved

  pair_moves : (number : ℕ) (one other : Term) → Moves number (one ∷ other ∷ []) (moved_distance map' own starts count number (one ∷ other ∷ []))
  pair_moves number one other =
      by_tests number one other (Sum number (moved_terms map' own starts count (one ∷ other ∷ []))) (sum_moves number (one ∷ other ∷ []))
      ((one.coefficient == 1) && (other.coefficient == 2 ^ 64 - 1)) ((one.coefficient == 2 ^ 64 - 1) && (other.coefficient == 1)) refl refl

  moves : (number : ℕ) (terms : List Term) → Moves number terms (moved_distance map' own starts count number terms)
  moves number [] = sum_moves number []
  moves number (one ∷ []) = sum_moves number (one ∷ [])
  moves number (one ∷ other ∷ []) = pair_moves number one other
  moves number (one ∷ other ∷ third ∷ more) = sum_moves number (one ∷ other ∷ third ∷ more)

  -- the distance of a form is its value, wherever the rows are
  pub distance_is : (made : Form) → made.constant < 2 ^ 64 → IsDistanceOf map' own starts count made (distance_of map' own starts count made)
  unfolding distance_of
  distance_is made bound shifts long small = by (value_among map' own starts [] made) refl
    where
      by : (value : Option ℕ) → value_among map' own starts [] made ≡ value
          → option_map (distance_value shifts) (option_map (λ number. moved_distance map' own starts count number made.terms) value) ≡ value_among map' own starts shifts made
      by None none =
          sym (value_moved map' own starts shifts made bound ∙ ap (option_map (λ n. wrapped (n + terms_moved map' own starts shifts made.terms))) none)
      by (Some number) is =
          ap (λ (n : ℕ). Some n) (moves number made.terms shifts long small)
          ∙ sym (value_moved map' own starts shifts made bound ∙ ap (option_map (λ n. wrapped (n + terms_moved map' own starts shifts made.terms))) is)

  -- the rows of the terms are among so many
  term_stands : (term : Term) (later : List RowTerm) (row : Option ℕ) → row_of map' own starts count term.symbol ≡ row → All (λ held. held.row < count) later
      → All (λ held. held.row < count) (with_row term row later)
  term_stands term later None none stand = stand
  term_stands term later (Some row) is stand =
      All-cons (λ (held : RowTerm). held.row < count) (record { coefficient = term.coefficient; row = row }) later (row_inside starts [] count (place_of map' own term.symbol) row is) stand

  terms_stand : (terms : List Term) → All (λ held. held.row < count) (moved_terms map' own starts count terms)
  unfolding moved_terms
  terms_stand [] = λ index default inside. absurd (omega arith)
  terms_stand (term ∷ terms) = term_stands term (moved_terms map' own starts count terms) (row_of map' own starts count term.symbol) refl (terms_stand terms)

  rows_stand : (number : ℕ) (one other : Term) (more : Distance) → DistanceStands count more
      → DistanceStands count (or_else (between_rows number (row_of map' own starts count one.symbol) (row_of map' own starts count other.symbol)) more)
  rows_stand number one other more stands =
      by_rows (DistanceStands count) number (row_of map' own starts count one.symbol) (row_of map' own starts count other.symbol) more stands
      (λ first second is there. (
        row_inside starts [] count (place_of map' own one.symbol) first is,
        row_inside starts [] count (place_of map' own other.symbol) second there,
      ))

  pair_stands : (number : ℕ) (one other : Term) (more : Distance) → DistanceStands count more → (first second : Bool)
      → DistanceStands count (or_else (cond first (between_rows number (row_of map' own starts count one.symbol) (row_of map' own starts count other.symbol))
      (cond second (between_rows number (row_of map' own starts count other.symbol) (row_of map' own starts count one.symbol)) None)) more)
  pair_stands number one other more stands true second = rows_stand number one other more stands
  pair_stands number one other more stands false true = rows_stand number other one more stands
  pair_stands number one other more stands false false = stands

  moved_stands : (number : ℕ) (terms : List Term) → DistanceStands count (moved_distance map' own starts count number terms)
  moved_stands number [] = terms_stand []
  moved_stands number (one ∷ []) = terms_stand (one ∷ [])
  moved_stands number (one ∷ other ∷ []) =
      pair_stands number one other (Sum number (moved_terms map' own starts count (one ∷ other ∷ []))) (terms_stand (one ∷ other ∷ []))
      ((one.coefficient == 1) && (other.coefficient == 2 ^ 64 - 1)) ((one.coefficient == 2 ^ 64 - 1) && (other.coefficient == 1))
  moved_stands number (one ∷ other ∷ third ∷ more) = terms_stand (one ∷ other ∷ third ∷ more)

  -- the distance of a form names rows among so many
  pub distance_stands : (made : Form) → NamesFew count (distance_of map' own starts count made)
  unfolding distance_of
  distance_stands made = by (value_among map' own starts [] made)
    where
      by : (value : Option ℕ) → NamesFew count (option_map (λ number. moved_distance map' own starts count number made.terms) value)
      by None = tt
      by (Some number) = moved_stands number made.terms
