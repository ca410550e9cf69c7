-- The distance that a form comes to, however far rows are moved.
use Rattle.std.specs.Prelude.{◌≡◌, ℕ, ◌+◌, ◌-◌, ◌*◌, ◌^◌, ◌<◌, ◌==◌, ◌&&◌, List, [], ◌∷◌, All, IfSome, length, sum_by, Option, None, Some, option_map, if◌then◌else◌}
use Rattle.asm_expr.specs.declared.forms.Term.{Term}
use Rattle.asm_expr.specs.Forms.{Form, wrapped}
use Rattle.asm_expr.specs.Settled.{settled, constant_left}
use Rattle.asm_symbols.specs.SymbolMap.{SymbolMap}
use Rattle.asm_levels.specs.declared.distances.Distance.{Distance}
use Rattle.asm_levels.specs.declared.distances.Distance.TheVariants.{Between, Sum}
use Rattle.asm_levels.specs.declared.distances.RowTerm.{RowTerm}
use Rattle.asm_levels.specs.Distances.{distance_value, DistanceStands}
use Rattle.row_distances.specs.declared.places.OwnPlace.{OwnPlace}
use Rattle.row_distances.specs.Places.{place_of, row_for, row_told, moved_by}

-- the value of a form where the rows are moved so far, if all of its symbols cancel
abbrev pub value_among : SymbolMap → OwnPlace → List ℕ → List ℕ → Form → Option ℕ
value_among map own starts shifts made = constant_left (settled (row_told map own starts shifts) made)

-- how far the symbol of a term is moved, as often as the term counts
abbrev pub term_moved : SymbolMap → OwnPlace → List ℕ → List ℕ → Term → ℕ
term_moved map own starts shifts term = term.coefficient * moved_by starts shifts (place_of map own term.symbol)

-- how far the symbols of all terms are moved
abbrev pub terms_moved : SymbolMap → OwnPlace → List ℕ → List ℕ → List Term → ℕ
terms_moved map own starts shifts terms = sum_by (term_moved map own starts shifts) terms

-- however far so many rows are moved, the distance is the number and how far the symbols of the terms are moved
abbrev pub IsMovedBy : SymbolMap → OwnPlace → List ℕ → ℕ → ℕ → List Term → Distance → Type 0
IsMovedBy map own starts count number terms distance = (shifts : List ℕ) → length shifts ≡ count → All (λ shift. shift < 2 ^ 64) shifts
    → distance_value shifts distance ≡ wrapped (number + terms_moved map own starts shifts terms)

-- however far so many rows are moved, the distance there is the value of the form, and there is none where its symbols do not cancel
abbrev pub IsDistanceOf : SymbolMap → OwnPlace → List ℕ → ℕ → Form → Option Distance → Type 0
IsDistanceOf map own starts count made found = (shifts : List ℕ) → length shifts ≡ count → All (λ shift. shift < 2 ^ 64) shifts
    → option_map (distance_value shifts) found ≡ value_among map own starts shifts made

-- where a distance is there, the rows that it names are among so many
abbrev pub NamesFew : ℕ → Option Distance → Type 0
NamesFew count found = IfSome found (λ distance. DistanceStands count distance)

-- the terms with one more before them, if its symbol is moved by a row
abbrev pub with_row : Term → Option ℕ → List RowTerm → List RowTerm
with_row term None rows = rows
with_row term (Some row) rows = record { coefficient = term.coefficient; row = row } ∷ rows

-- a number, the row ahead, and the row behind, where both are there
abbrev pub between_rows : ℕ → Option ℕ → Option ℕ → Option Distance
between_rows number None behind = None
between_rows number (Some ahead) None = None
between_rows number (Some ahead) (Some behind) = Some (Between number ahead behind)

-- the distance, or else the other one
abbrev pub or_else : Option Distance → Distance → Distance
or_else None other = other
or_else (Some distance) other = distance

module _ (map : SymbolMap) (own : OwnPlace) (starts : List ℕ) (count : ℕ) where
  -- the row that moves a symbol, if it is one of so many
  abbrev pub row_of : ℕ → Option ℕ
  row_of symbol = row_for starts (place_of map own symbol) count

  -- the terms whose symbols are moved, by their rows
  unfoldable pub moved_terms : List Term → List RowTerm
  moved_terms [] = []
  moved_terms (term ∷ terms) = with_row term (row_of term.symbol) (moved_terms terms)

  -- the distance of two terms, one of which counts once and the other minus once, where rows move both
  abbrev pub pair_distance : ℕ → Term → Term → Option Distance
  pair_distance number one other =
      if (one.coefficient == 1) && (other.coefficient == 2 ^ 64 - 1) then between_rows number (row_of one.symbol) (row_of other.symbol)
      else if (one.coefficient == 2 ^ 64 - 1) && (other.coefficient == 1) then between_rows number (row_of other.symbol) (row_of one.symbol) else None

  -- the same, where there are two terms
  abbrev pub between_terms : ℕ → List Term → Option Distance
  between_terms number [] = None
  between_terms number (one ∷ []) = None
  between_terms number (one ∷ other ∷ []) = pair_distance number one other
  between_terms number (one ∷ other ∷ third ∷ more) = None

  -- the distance of a number and terms: between two rows, or else a sum
  abbrev pub moved_distance : ℕ → List Term → Distance
  moved_distance number terms = or_else (between_terms number terms) (Sum number (moved_terms terms))

  -- the distance of a form: its value where no row is moved, and how far its symbols are; none where these do not cancel
  unfoldable pub distance_of : Form → Option Distance
  distance_of made = option_map (λ number. moved_distance number made.terms) (value_among map own starts [] made)
