-- The rows of a section at the places of a layout, with the bytes of the distances between them.
use Rattle.std.proofs.Common.{◌≡◌, ℕ, ◌+◌, ◌-◌, ◌^◌, ◌<◌, ◌≤◌, ◌==◌, ◌&&◌, nat_le, Bool, true, false, if◌then◌else◌, List, [], ◌∷◌, ◌++◌, map, length, Some, refl, sym, ap, ◌∙◌, subst, arith, append_assoc, append-nil}
use Rattle.std.specs.Prelude.{All}
use Rattle.std.proofs.lemmas.Bool.Decides.{nat_tests}
use Rattle.std.proofs.lemmas.List.{map-append}
use Rattle.std.proofs.lemmas.List.Elements.{All-nil, All-cons, All-head, All-tail}
use Rattle.asm_base.specs.declared.places.Place.{Place}
use Rattle.leb128.specs.Digits.{uleb_bytes}
use Rattle.leb128.specs.Numbers.{NumbersReadBack}
use Rattle.line_rows.specs.declared.rows.LineRow.{LineRow}
use Rattle.line_rows.specs.declared.sections.Distance.{Distance}
use Rattle.line_rows.specs.declared.sections.Distance.TheVariants.{Known, Between}
use Rattle.line_rows.specs.declared.sections.Gap.{Gap}
use Rattle.line_rows.specs.Places.{PlacedRow, AreRising, AreWritten, later_of, last_at}
use Rattle.line_rows.specs.Places as places
use Rattle.line_rows.specs.Sections.{Made, with_row, with_rows, gap_count, laid_rows}
use Rattle.line_rows.specs.Writing.{row_bytes, Advance, IsRow, IsWritten, Later}
use Rattle.line_directives.specs.Meanings.{RowAt, with_distances, last_place}
use Rattle.line_directives.specs.Order.{IsUpTo, RowsRise}
use Rattle.line_directives.specs.Sequences.{distance_to}

-- GAPS

-- from one place to another
abbrev pub Span : Type 0
Span = Place × Place

abbrev pub span_of : Gap → Span
span_of gap = (gap.from, gap.to)

-- what the distances of rows span that are not known
abbrev pub open_spans : List (Distance × LineRow) → List Span
open_spans [] = []
open_spans ((Known distance, row) ∷ rows) = open_spans rows
open_spans ((Between from to, row) ∷ rows) = (from, to) ∷ open_spans rows

-- the gaps of what is made of rows span that
pub made_spans : (rows : List (Distance × LineRow)) (made : Made) → map span_of (with_rows rows made).gaps ≡ map span_of made.gaps ++ open_spans rows
made_spans [] made = sym (append-nil (map span_of made.gaps))
made_spans ((Known distance, row) ∷ rows) made = made_spans rows (with_row (Known distance) row made)
made_spans ((Between from to, row) ∷ rows) made =
    let gap : Gap = record { at = length made.bytes + length (row_bytes made.registers row) + 1; from = from; to = to } in
    made_spans rows (with_row (Between from to) row made)
    ∙ ap (λ spans. spans ++ open_spans rows) (map-append span_of made.gaps (gap ∷ []))
    ∙ append_assoc (map span_of made.gaps) ((from, to) ∷ []) (open_spans rows)

pub spans_counted : (rows : List (Distance × LineRow)) → length (open_spans rows) ≡ gap_count rows
spans_counted [] = refl
spans_counted ((Known distance, row) ∷ rows) = spans_counted rows
spans_counted ((Between from to, row) ∷ rows) = let rest = spans_counted rows in omega (arith, rest)

-- the places of a section, from its first one on, up to a place of its end
pub up_to_end : (last : Place) (rows : List RowAt) (end : Place) → RowsRise last rows end → IsUpTo last end
up_to_end last [] end rise = rise
up_to_end last (row ∷ rows) end rise =
    let step = rise.0 in
    let items = step.0 in
    let bytes = step.1 in
    let more = up_to_end row.0 rows end rise.1 in
    let more_items = more.0 in
    let more_bytes = more.1 in
    (omega (arith, items, more_items), omega (arith, bytes, more_bytes))

-- a distance is known, or is that between the two places
abbrev Spans : Place → Place → Distance → Type 0
Spans last place (Known distance) = Unit {0}
Spans last place (Between from to) = (from ≡ last) × (to ≡ place)

spans : (last place : Place) → Spans last place (distance_to last place)
spans last place = by ((last.item == place.item) && nat_le last.offset place.offset)
  where
    by : (b : Bool) → Spans last place (if b then Known (place.offset - last.offset) else Between last place)
    by true = tt
    by false = (refl, refl)

span_all : (P : Span → Type 0) (last place : Place) (row : LineRow) (distance : Distance) (rows : List (Distance × LineRow)) → Spans last place distance → P (last, place)
    → All P (open_spans rows) → All P (open_spans ((distance, row) ∷ rows))
span_all P last place row (Known distance) rows is here rest = rest
span_all P last place row (Between from to) rows is here rest =
    All-cons P (from, to) (open_spans rows) (subst (λ (p : Place). P (p, to)) (sym is.0) (subst (λ (p : Place). P (last, p)) (sym is.1) here)) rest

-- what holds of each two places one behind the other, up to the end, holds of what rows span
pub spans_all : (P : Span → Type 0) (end : Place) → ((last place : Place) → IsUpTo last place → IsUpTo place end → P (last, place)) → (last : Place) (rows : List RowAt)
    → RowsRise last rows end → All P (open_spans (with_distances last rows))
spans_all P end fits last [] up = All-nil P
spans_all P end fits last (row ∷ rows) up =
    span_all P last row.0 row.1 (distance_to last row.0) (with_distances row.0 rows) (spans last row.0)
    (fits last row.0 up.0 (up_to_end row.0 rows end up.1)) (spans_all P end fits row.0 rows up.1)

-- the last place is up to the end
pub last_up : (last : Place) (rows : List RowAt) (end : Place) → RowsRise last rows end → IsUpTo (last_place last rows) end
last_up last [] end up = up
last_up last (row ∷ rows) end up = last_up row.0 rows end up.1

module _ (address : Place → ℕ) where
  -- each advance leads over its span
  abbrev pub AreAdvances : List Span → List Advance → Type 0
  AreAdvances [] [] = Unit {0}
  AreAdvances [] (advance ∷ advances) = ⊥
  AreAdvances (span ∷ spans) [] = ⊥
  AreAdvances (span ∷ spans) (advance ∷ advances) = (advance.distance ≡ address span.1 - address span.0) × IsWritten advance × AreAdvances spans advances

  pub advances_counted : (spans : List Span) (advances : List Advance) → AreAdvances spans advances → length advances ≡ length spans
  advances_counted [] [] are = refl
  advances_counted [] (advance ∷ advances) are = absurd are
  advances_counted (span ∷ spans) [] are = absurd are
  advances_counted (span ∷ spans) (advance ∷ advances) are = let rest = advances_counted spans advances are.2 in omega (arith, rest)

  -- the bytes of a row's distance, and the advances that are left for those behind it
  abbrev pub first_digits : Distance → List Advance → List ℕ
  first_digits (Known distance) advances = uleb_bytes distance
  first_digits (Between from to) [] = []
  first_digits (Between from to) (advance ∷ advances) = advance.digits

  abbrev pub advances_left : Distance → List Advance → List Advance
  advances_left (Known distance) advances = advances
  advances_left (Between from to) [] = []
  advances_left (Between from to) (advance ∷ advances) = advances

  -- rows at their places, with these advances
  abbrev pub placed_with : Place → List RowAt → List Advance → List PlacedRow
  placed_with last [] advances = []
  placed_with last (row ∷ rows) advances =
      record { place = address row.0; digits = first_digits (distance_to last row.0) advances; row = row.1 }
      ∷ placed_with row.0 rows (advances_left (distance_to last row.0) advances)

  -- how they are written does not matter for what is due
  pub same_due : (at : ℕ) (found : LineRow) (last : Place) (rows : List RowAt) (advances : List Advance)
      → last_at at found (placed_with last rows advances) ≡ last_at at found (map (λ row. record { place = address row.0; digits = []; row = row.1 }) rows)
  same_due at found last [] advances = refl
  same_due at found last (row ∷ rows) advances =
      ap (λ behind. if nat_le (address row.0) at then behind else found) (same_due at row.1 row.0 rows (advances_left (distance_to last row.0) advances))

  pub last_is : (last : Place) (rows : List RowAt) (advances : List Advance)
      → places.last_place (address last) (placed_with last rows advances) ≡ address (last_place last rows)
  last_is last [] advances = refl
  last_is last (row ∷ rows) advances = last_is row.0 rows (advances_left (distance_to last row.0) advances)

  -- a distance from one place to another is known, or is that between them
  abbrev pub IsDistance : Place → Place → Distance → Type 0
  IsDistance last place (Known distance) = distance ≡ address place - address last
  IsDistance last place (Between from to) = (from ≡ last) × (to ≡ place)

  module _ (beside : (first second : Place) → first.item ≡ second.item → address second + first.offset ≡ address first + second.offset) where
    pub is_distance : (last place : Place) → IsDistance last place (distance_to last place)
    is_distance last place = by (last.item == place.item) (nat_le last.offset place.offset) refl refl
      where
        by : (item offset : Bool) → (last.item == place.item) ≡ item → nat_le last.offset place.offset ≡ offset
            → IsDistance last place (if item && offset then Known (place.offset - last.offset) else Between last place)
        by true true same up =
            let item : last.item ≡ place.item = grind (arith, nat_tests, same) in
            let rises : last.offset ≤ place.offset = grind (arith, nat_tests, up) in
            let apart = beside last place item in
            omega (arith, apart, rises)
        by true false same up = (refl, refl)
        by false offset same up = (refl, refl)

    left_good : (distance : Distance) (row : LineRow) (rows : List (Distance × LineRow)) (advances : List Advance) → AreAdvances (open_spans ((distance, row) ∷ rows)) advances
        → AreAdvances (open_spans rows) (advances_left distance advances)
    left_good (Known distance) row rows advances are = are
    left_good (Between from to) row rows [] are = absurd are
    left_good (Between from to) row rows (advance ∷ advances) are = are.2

    -- a row and those behind it as the layout gives them
    row_laid : (last place : Place) (row : LineRow) (distance : Distance) (rows : List (Distance × LineRow)) (advances : List Advance) (behind : List Later)
        → IsDistance last place distance → AreAdvances (open_spans ((distance, row) ∷ rows)) advances → laid_rows rows (advances_left distance advances) ≡ behind
        → laid_rows ((distance, row) ∷ rows) advances
        ≡ record { advance = record { distance = address place - address last; digits = first_digits distance advances }; row = row } ∷ behind
    row_laid last place row (Known distance) rows advances behind is are rest =
        ap (λ (n : ℕ). record { advance = record { distance = n; digits = uleb_bytes distance }; row = row } ∷ laid_rows rows advances) is
        ∙ ap (λ (more : List Later). record { advance = record { distance = address place - address last; digits = uleb_bytes distance }; row = row } ∷ more) rest
    row_laid last place row (Between from to) rows [] behind is are rest = absurd are
    row_laid last place row (Between from to) rows (advance ∷ advances) behind is are rest =
        let leads : advance.distance ≡ address place - address last = are.0 ∙ ap (λ (p : Place). address p - address from) is.1 ∙ ap (λ (p : Place). address place - address p) is.0 in
        ap (λ (n : ℕ). record { advance = record { distance = n; digits = advance.digits }; row = row } ∷ laid_rows rows advances) leads
        ∙ ap (λ (more : List Later). record { advance = record { distance = address place - address last; digits = advance.digits }; row = row } ∷ more) rest

    -- rows with their distances are the rows at their places
    pub rows_laid : (last : Place) (rows : List RowAt) (advances : List Advance) → AreAdvances (open_spans (with_distances last rows)) advances
        → laid_rows (with_distances last rows) advances ≡ later_of (address last) (placed_with last rows advances)
    rows_laid last [] advances are = refl
    rows_laid last (row ∷ rows) advances are =
        let distance : Distance = distance_to last row.0 in
        row_laid last row.0 row.1 distance (with_distances row.0 rows) advances
        (later_of (address row.0) (placed_with row.0 rows (advances_left distance advances))) (is_distance last row.0) are
        (rows_laid row.0 rows (advances_left distance advances) (left_good distance row.1 (with_distances row.0 rows) advances are))

    module _ (rise : (first second : Place) → IsUpTo first second → address first ≤ address second) where
      -- their places never fall
      pub rows_rise : (last : Place) (rows : List RowAt) (end : Place) (advances : List Advance) → RowsRise last rows end
          → AreRising (address last) (placed_with last rows advances) (address end)
      rows_rise last [] end advances up = rise last end up
      rows_rise last (row ∷ rows) end advances up =
          (rise last row.0 up.0, rows_rise row.0 rows end (advances_left (distance_to last row.0) advances) up.1)

      -- what is written between two rows is the distance between them
      digits_written : NumbersReadBack → (last place : Place) (row : LineRow) (distance : Distance) (rows : List (Distance × LineRow)) (advances : List Advance)
          → address place < 2 ^ 64 → IsDistance last place distance → AreAdvances (open_spans ((distance, row) ∷ rows)) advances
          → IsWritten (record { distance = address place - address last; digits = first_digits distance advances })
      digits_written numbers last place row (Known distance) rows advances low is are rest =
          numbers.unsigned distance rest (omega (arith, is, low)) ∙ ap (λ (n : ℕ). Some (n, rest)) is
      digits_written numbers last place row (Between from to) rows [] low is are rest = absurd are
      digits_written numbers last place row (Between from to) rows (advance ∷ advances) low is are rest =
          are.1 rest
          ∙ ap (λ (n : ℕ). Some (n, rest)) (are.0 ∙ ap (λ (p : Place). address p - address from) is.1 ∙ ap (λ (p : Place). address place - address p) is.0)

      pub rows_written : NumbersReadBack → (last : Place) (rows : List RowAt) (end : Place) (advances : List Advance) (digits : List ℕ) → RowsRise last rows end
          → address end < 2 ^ 64 → AreAdvances (open_spans (with_distances last rows)) advances → All (λ (row : RowAt). IsRow row.1) rows
          → IsWritten (record { distance = address end - address (last_place last rows); digits = digits })
          → AreWritten (address last) (placed_with last rows advances) (address end) digits
      rows_written numbers last [] end advances digits up low are all is = is
      rows_written numbers last (row ∷ rows) end advances digits up low are all is =
          let distance : Distance = distance_to last row.0 in
          let behind = rise row.0 end (up_to_end row.0 rows end up.1) in (
            digits_written numbers last row.0 row.1 distance (with_distances row.0 rows) advances (omega (arith, behind, low)) (is_distance last row.0) are,
            All-head (λ (row : RowAt). IsRow row.1) row rows all,
            rows_written numbers row.0 rows end (advances_left distance advances) digits up.1 low
                (left_good distance row.1 (with_distances row.0 rows) advances are) (All-tail (λ (row : RowAt). IsRow row.1) row rows all) is,
          )
