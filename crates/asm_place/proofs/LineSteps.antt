-- What a step adds to the line table: directives, whose rows stand where their sections end.
use Rattle.std.proofs.Common.{◌≡◌, ℕ, Bool, true, false, List, [], ◌∷◌, ◌++◌, All, Option, None, Some, Result, Ok, Err, ◌==◌, is_some, unwrap_or, if◌then◌else◌, refl, sym, ◌∙◌, ap, subst, arith, slice_get, length-append}
use Rattle.std.specs.Prelude.{IsSomeAnd}
use Rattle.std.specs.Option.{option_map_or}
use Rattle.std.proofs.lemmas.Bool.{eqb-true}
use Rattle.std.proofs.lemmas.List.Elements.{All-nil, All-head, All-tail, All-append, All-weaker}
use Rattle.asm_base.specs.declared.places.Place.{Place}
use Rattle.asm_base.specs.declared.places.SectionPlace.{SectionPlace}
use Rattle.asm_base.specs.declared.positions.Pos.{Pos}
use Rattle.asm_base.specs.Refusals.{◌>>=◌}
use Rattle.asm_frags.specs.Writing.{LooseSection, takes_zeros_alone}
use Rattle.asm_line_tables.specs.Keeping.{FitsHere}
use Rattle.asm_uses.specs.Places.{spot_in, no_spot, spot_at}
use Rattle.asm_values.specs.State.{Placed, here}
use Rattle.line_directives.specs.declared.faults.LineTableCause.{LineTableCause}
use Rattle.line_directives.specs.declared.faults.LineTableCause.TheVariants.{UnassignedFileNumber}
use Rattle.line_directives.specs.Meanings.{RowAt, row_in, rows_in}
use Rattle.line_directives.specs.Order.{IsUpTo, RowsRise, IsInRange}
use Rattle.line_directives.specs.Rows.{row_with}
use Rattle.line_directives.specs.SourceFiles.{file_of, is_given, with_file}
use Rattle.line_directives.specs.Taking.{LineTable, LineDirective, numbered_file, loc, file_taken, filed, with_line, located, taken, taken_from}
use Rattle.line_rows.specs.declared.rows.LineRow.{LineRow}
use Rattle.asm_place.specs.Instructions.{Grows}
use Rattle.asm_place.specs.LinePlaces.{end_in, RowStands}

-- PLACES

up_to_itself : (place : Place) → IsUpTo place place
up_to_itself place = (omega arith, omega arith)

up_to_on : (one two three : Place) → IsUpTo one two → IsUpTo two three → IsUpTo one three
up_to_on one two three first later = (omega (arith, first.0, later.0), omega (arith, first.1, later.1))

-- rows that rise from a place rise from one before it
rise_from : (before from to : Place) (rows : List RowAt) → IsUpTo before from → RowsRise from rows to → RowsRise before rows to
rise_from before from to [] up rise = up_to_on before from to up rise
rise_from before from to (row ∷ rows) up rise = (up_to_on before from row.0 up rise.0, rise.1)

-- and others behind them
rise_on : (from between to : Place) (rows others : List RowAt) → RowsRise from rows between → RowsRise between others to → RowsRise from (rows ++ others) to
rise_on from between to [] others first later = rise_from from between to others first later
rise_on from between to (row ∷ rows) others first later = (first.0, rise_on row.0 between to rows others first.1 later)

-- the end of a section, if it is there
abbrev end_by : ℕ → Option LooseSection → SectionPlace
end_by number found = (option_map_or (spot_in number) found (no_spot number)).place

end_section : (number : ℕ) (found : Option LooseSection) → (end_by number found).section ≡ number
end_section number None = refl
end_section number (Some held) = refl

-- sections end where they ended, or behind it
ends_grow : (before after : List LooseSection) → Grows before after → (number : ℕ) → IsUpTo (end_in before number) (end_in after number)
unfolding spot_at
ends_grow before after grows number = by (slice_get before number) refl
  where
    by : (found : Option LooseSection) → slice_get before number ≡ found → IsUpTo (end_by number found).place (end_by number (slice_get after number)).place
    by None is = (omega arith, omega arith)
    by (Some held) is =
        let more = grows.kept number held is in
        subst (λ (found : Option LooseSection). IsUpTo (end_by number (Some held)).place (end_by number found).place) (sym more.there)
        (omega (arith, length-append held.items more.items), omega (arith, length-append held.bytes more.bytes))

-- what a row stands in it stands in when that has grown
row_stays : (before after : List LooseSection) → Grows before after → (directive : LineDirective) → RowStands before directive → RowStands after directive
row_stays before after grows (numbered_file pos number directory name) stands = tt
row_stays before after grows (loc line at) stands = by (slice_get before at.section) refl stands
  where
    by : (found : Option LooseSection) → slice_get before at.section ≡ found → IsSomeAnd found (λ (held : LooseSection). takes_zeros_alone held ≡ false)
        → IsSomeAnd (slice_get after at.section) (λ (held : LooseSection). takes_zeros_alone held ≡ false)
    by None is none = absurd none
    by (Some held) is takes =
        let more = grows.kept at.section held is in
        subst (λ (found : Option LooseSection). IsSomeAnd found (λ (held : LooseSection). takes_zeros_alone held ≡ false)) (sym more.there) takes

-- DIRECTIVES ONE AFTER THE OTHER

-- a directive that is taken, and those behind it
came : (r : Result LineTable LineTableCause) (directives : List LineDirective) (last : LineTable) → (r >>= λ next. taken_from next directives) ≡ Ok last
    → (next : LineTable) × (r ≡ Ok next) × (taken_from next directives ≡ Ok last)
came (Ok next) directives last is = (next, refl, is)
came (Err cause) directives last is = absurd (let none : ⊥ = cc in none)

ends : (table last : LineTable) → taken_from table [] ≡ Ok last → table ≡ last
ends table last is = cc

taken_appended : (table next last : LineTable) (directives others : List LineDirective) → taken_from table directives ≡ Ok next → taken_from next others ≡ Ok last
    → taken_from table (directives ++ others) ≡ Ok last
taken_appended table next last [] others first later = ap (λ (t : LineTable). taken_from t others) (ends table next first) ∙ later
taken_appended table next last (directive ∷ directives) others first later =
    let one = came (taken directive table) directives next first in
    ap (λ (r : Result LineTable LineTableCause). r >>= λ t. taken_from t (directives ++ others)) one.1 ∙ taken_appended one.0 next last directives others one.2 later

-- a table says the same of the rows that follow
abbrev IsAlike : LineTable → LineTable → Type 0
IsAlike one other = (one.is_stmt ≡ other.is_stmt) × (one.isa ≡ other.isa)

file_alike : (given : Option Bool) (pos : Pos) (number : ℕ) (directory : Option (List ℕ)) (name : List ℕ) (table next : LineTable)
    → file_taken given pos number directory name table ≡ Ok next → IsAlike table next
file_alike None pos number directory name table next is =
    let same : record table { first = Some (unwrap_or table.first pos); files = with_file number directory name table.files } ≡ next = cc in
    subst (IsAlike table) same (refl, refl)
file_alike (Some true) pos number directory name table next is = let same : table ≡ next = cc in subst (IsAlike table) same (refl, refl)
file_alike (Some false) pos number directory name table next is = absurd (let none : ⊥ = cc in none)

located_if : (test : Bool) (made next : LineTable) → (if test then Ok made else Err UnassignedFileNumber) ≡ Ok next → made ≡ next
located_if true made next is = cc
located_if false made next is = absurd (let none : ⊥ = cc in none)

row_appended : (test : Bool) (row : RowAt) (rows others : List RowAt) → (if test then row ∷ (rows ++ others) else (rows ++ others)) ≡ (if test then row ∷ rows else rows) ++ others
row_appended true row rows others = refl
row_appended false row rows others = refl

-- rows of a section behind others
module _ (number : ℕ) where
  abbrev rows_behind : LineTable → List LineDirective → List RowAt
  rows_behind table directives = rows_in number table.is_stmt table.isa directives

  alike_rows : (one other : LineTable) → IsAlike one other → (directives : List LineDirective) → rows_behind one directives ≡ rows_behind other directives
  alike_rows one other alike directives =
      ap (λ (is_stmt : Bool). rows_in number is_stmt one.isa directives) alike.0 ∙ ap (λ (isa : ℕ). rows_in number other.is_stmt isa directives) alike.1

  rows_appended : (table next : LineTable) (directives others : List LineDirective) → taken_from table directives ≡ Ok next
      → rows_behind table (directives ++ others) ≡ rows_behind table directives ++ rows_behind next others
  rows_appended table next [] others is = ap (λ (t : LineTable). rows_behind t others) (ends table next is)
  rows_appended table next (numbered_file pos given directory name ∷ directives) others is =
      let one = came (filed pos given directory name table) directives next is in
      let alike = file_alike (is_given given directory name table.files) pos given directory name table one.0 one.1 in
      alike_rows table one.0 alike (directives ++ others)
      ∙ rows_appended one.0 next directives others one.2
      ∙ ap (λ (rows : List RowAt). rows ++ rows_behind next others) (sym (alike_rows table one.0 alike directives))
  rows_appended table next (loc line at ∷ directives) others is =
      let row = row_with table.is_stmt table.isa line in
      let one = came (located line at table) directives next is in
      let made : with_line at row table ≡ one.0 = located_if (is_some (file_of line.file table.files)) (with_line at row table) one.0 one.1 in
      ap (row_in number at row)
      (rows_appended (with_line at row table) next directives others (ap (λ (t : LineTable). taken_from t directives) made ∙ one.2))
      ∙ row_appended (at.section == number) (at.place, row) (rows_in number row.is_stmt row.isa directives) (rows_behind next others)

-- STEPS

-- the line table has directives more: they stand in the sections as these are after the step, and rise from where sections ended before it
pub record GoesOn (before : List LooseSection) (had : LineTable) (after : List LooseSection) (has : LineTable) : Type 0 where
  pub directives : List LineDirective
  pub taken : taken_from had directives ≡ Ok has
  pub fit : All IsInRange directives
  pub stand : All (RowStands after) directives
  pub rise : (number : ℕ) → RowsRise (end_in before number) (rows_in number had.is_stmt had.isa directives) (end_in after number)

-- it stays where sections grow
pub lines_stay : (before after : List LooseSection) (lines : LineTable) → Grows before after → GoesOn before lines after lines
lines_stay before after lines grows =
    record { directives = []; taken = refl; fit = All-nil IsInRange; stand = All-nil (RowStands after); rise = ends_grow before after grows }

-- a step behind another
pub goes_on : (before : List LooseSection) (had : LineTable) (between : List LooseSection) (met : LineTable) (after : List LooseSection) (has : LineTable)
    → Grows between after → GoesOn before had between met → GoesOn between met after has → GoesOn before had after has
goes_on before had between met after has grows first later = record {
  directives = first.directives ++ later.directives;
  taken = taken_appended had met has first.directives later.directives first.taken later.taken;
  fit = All-append IsInRange first.directives later.directives first.fit later.fit;
  stand = All-append (RowStands after) first.directives later.directives
      (All-weaker (RowStands between) (RowStands after) (row_stays between after grows) first.directives first.stand) later.stand;
  rise = λ number. subst (λ (rows : List RowAt). RowsRise (end_in before number) rows (end_in after number))
      (sym (rows_appended number had met first.directives later.directives first.taken))
      (rise_on (end_in before number) (end_in between number) (end_in after number) (rows_in number had.is_stmt had.isa first.directives)
      (rows_in number met.is_stmt met.isa later.directives) (first.rise number) (later.rise number));
}

-- directives that stand where the current section ends
module _ (placed : Placed) where
  here_section : (here placed).place.section ≡ placed.current
  unfolding spot_at
  here_section = end_section placed.current (slice_get placed.sections placed.current)

  in_range : (directive : LineDirective) → FitsHere placed directive → IsInRange directive
  in_range directive fits = fits.0

  stands_here : (directive : LineDirective) → FitsHere placed directive → RowStands placed.sections directive
  stands_here (numbered_file pos number directory name) fits = tt
  stands_here (loc line at) fits =
      let current : at.section ≡ placed.current = ap (λ (place : SectionPlace). place.section) fits.1.0 ∙ here_section in
      subst (λ (n : ℕ). IsSomeAnd (slice_get placed.sections n) (λ (held : LooseSection). takes_zeros_alone held ≡ false)) (sym current) fits.1.1

  -- a row here stands where its section ends
  row_rises : (number : ℕ) (at : SectionPlace) (row : LineRow) (rows : List RowAt) (test : Bool) → (at.section == number) ≡ test → at ≡ (here placed).place
      → let end = end_in placed.sections number in RowsRise end rows end → RowsRise end (if test then (at.place, row) ∷ rows else rows) end
  row_rises number at row rows false is here_is rise = rise
  row_rises number at row rows true is here_is rise =
      let end = end_in placed.sections number in
      let current : placed.current ≡ number = sym here_section ∙ ap (λ (place : SectionPlace). place.section) (sym here_is) ∙ eqb-true at.section number is in
      let same : at.place ≡ end = ap (λ (place : SectionPlace). place.place) here_is ∙ ap (end_in placed.sections) current in
      (subst (IsUpTo end) (sym same) (up_to_itself end), subst (λ (from : Place). RowsRise from rows end) (sym same) rise)

  rows_rise : (number : ℕ) (is_stmt : Bool) (isa : ℕ) (directives : List LineDirective) → All (FitsHere placed) directives
      → let end = end_in placed.sections number in RowsRise end (rows_in number is_stmt isa directives) end
  rows_rise number is_stmt isa [] fit = up_to_itself (end_in placed.sections number)
  rows_rise number is_stmt isa (numbered_file pos given directory name ∷ directives) fit =
      rows_rise number is_stmt isa directives (All-tail (FitsHere placed) (numbered_file pos given directory name) directives fit)
  rows_rise number is_stmt isa (loc line at ∷ directives) fit =
      let row = row_with is_stmt isa line in
      row_rises number at row (rows_in number row.is_stmt row.isa directives) (at.section == number) refl (All-head (FitsHere placed) (loc line at) directives fit).1.0
      (rows_rise number row.is_stmt row.isa directives (All-tail (FitsHere placed) (loc line at) directives fit))

  pub rows_put : (directives : List LineDirective) (lines : LineTable) → taken_from placed.lines directives ≡ Ok lines → All (FitsHere placed) directives
      → GoesOn placed.sections placed.lines placed.sections lines
  rows_put directives lines taken fit = record {
    directives = directives;
    taken = taken;
    fit = All-weaker (FitsHere placed) IsInRange in_range directives fit;
    stand = All-weaker (FitsHere placed) (RowStands placed.sections) stands_here directives fit;
    rise = λ number. rows_rise number placed.lines.is_stmt placed.lines.isa directives fit;
  }
