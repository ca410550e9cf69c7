-- The rows of a section are those that the directives mean there.
use Rattle.std.proofs.Common.{◌≡◌, ◌≢◌, ℕ, Bool, true, false, List, [], ◌∷◌, Option, None, Some, Result, Ok, Err, ◌==◌, is_some, unwrap_or, if◌then◌else◌, refl, sym, ◌∙◌, ap, subst, arith}
use Rattle.asm_base.specs.declared.places.Place.{Place}
use Rattle.asm_base.specs.declared.places.SectionPlace.{SectionPlace}
use Rattle.asm_base.specs.declared.positions.Pos.{Pos}
use Rattle.asm_base.specs.Refusals.{◌>>=◌}
use Rattle.line_rows.specs.declared.rows.LineRow.{LineRow}
use Rattle.line_rows.specs.Sections.{with_rows}
use Rattle.line_directives.specs.declared.faults.LineTableCause.{LineTableCause}
use Rattle.line_directives.specs.declared.faults.LineTableCause.TheVariants.{UnassignedFileNumber}
use Rattle.line_directives.specs.declared.loc_lines.LocLine.{LocLine}
use Rattle.line_directives.specs.declared.sequences.Sequence.{Sequence}
use Rattle.line_directives.specs.Meanings.{RowAt, row_in, rows_in, rows_of, rows_onto, with_distances, last_place, last_row}
use Rattle.line_directives.specs.Numbered.{under, put_under}
use Rattle.line_directives.specs.Rows.{row_with}
use Rattle.line_directives.specs.Sequences.{distance_to, with_row_at, with_row_in}
use Rattle.line_directives.specs.SourceFiles.{file_of, is_given, with_file}
use Rattle.line_directives.specs.Taking.{LineTable, no_lines, LineDirective, numbered_file, loc, file_taken, filed, with_line, located, taken, taken_from, table_of}
use Rattle.line_directives.proofs.UnderLemmas.{put_here, put_other}

-- the rows and what stays of them are as before
record Keeps (old new : LineTable) : Type 0 where
  pub sequences : new.sequences ≡ old.sequences
  pub is_stmt : new.is_stmt ≡ old.is_stmt
  pub isa : new.isa ≡ old.isa

file_keeps : (given : Option Bool) (pos : Pos) (number : ℕ) (directory : Option (List ℕ)) (name : List ℕ) (table next : LineTable)
    → file_taken given pos number directory name table ≡ Ok next → Keeps table next
file_keeps None pos number directory name table next is =
    let same : record table { first = Some (unwrap_or table.first pos); files = with_file number directory name table.files } ≡ next = cc in
    subst (Keeps table) same (record { sequences = refl; is_stmt = refl; isa = refl })
file_keeps (Some true) pos number directory name table next is =
    let same : table ≡ next = cc in subst (Keeps table) same (record { sequences = refl; is_stmt = refl; isa = refl })
file_keeps (Some false) pos number directory name table next is = absurd (let none : ⊥ = cc in none)

located_if : (b : Bool) (made next : LineTable) → (if b then Ok made else Err UnassignedFileNumber) ≡ Ok next → made ≡ next
located_if true made next is = cc
located_if false made next is = absurd (let none : ⊥ = cc in none)

equal : (a b : ℕ) → (a == b) ≡ true → a ≡ b
equal a b is = grind arith

apart : (a b : ℕ) → (a == b) ≡ false → b ≢ a
apart a b is same = let none : ⊥ = grind (arith, is, same) in none

-- a row that is put into a section
row_put : (section : ℕ) (at : SectionPlace) (row : LineRow) (sequences : List (Option Sequence)) (rows : List RowAt)
    → rows_onto (under section (with_row_in at row sequences)) rows ≡ rows_onto (under section sequences) (row_in section at row rows)
row_put section at row sequences rows = by (at.section == section) refl
  where
    by : (b : Bool) → (at.section == section) ≡ b
        → rows_onto (under section (with_row_in at row sequences)) rows
        ≡ rows_onto (under section sequences) (if b then (at.place, row) ∷ rows else rows)
    by true is =
        subst (λ n. rows_onto (under n (with_row_in at row sequences)) rows ≡ rows_onto (Some (with_row_at at.place row (under n sequences))) rows)
        (equal at.section section is)
        (ap (λ found. rows_onto found rows) (put_here at.section (with_row_at at.place row (under at.section sequences)) sequences))
    by false is =
        ap (λ found. rows_onto found rows)
        (put_other at.section section (with_row_at at.place row (under at.section sequences)) sequences (apart at.section section is))

-- the rows of directives behind those that there are
abbrev IsMeant : ℕ → LineTable → List LineDirective → LineTable → Type 0
IsMeant section table directives after =
    under section after.sequences ≡ rows_onto (under section table.sequences) (rows_in section table.is_stmt table.isa directives)

ends : (table after : LineTable) → taken_from table [] ≡ Ok after → table ≡ after
ends table after is = cc

bound : (due : Result LineTable LineTableCause) (directives : List LineDirective) (after : LineTable)
    → (due >>= λ next. taken_from next directives) ≡ Ok after
    → (next : LineTable) × (due ≡ Ok next) × (taken_from next directives ≡ Ok after)
bound (Ok next) directives after is = (next, refl, is)
bound (Err cause) directives after is = absurd (let none : ⊥ = cc in none)

file_step : (section : ℕ) (table : LineTable) (pos : Pos) (number : ℕ) (directory : Option (List ℕ)) (name : List ℕ) (directives : List LineDirective) (after : LineTable)
    → ((next : LineTable) → taken_from next directives ≡ Ok after → IsMeant section next directives after)
    → (next : LineTable) × (filed pos number directory name table ≡ Ok next) × (taken_from next directives ≡ Ok after)
    → IsMeant section table (numbered_file pos number directory name ∷ directives) after
file_step section table pos number directory name directives after below (next, one, others) =
    let kept : Keeps table next = file_keeps (is_given number directory name table.files) pos number directory name table next one in
    below next others
    ∙ ap (λ sequences. rows_onto (under section sequences) (rows_in section next.is_stmt next.isa directives)) kept.sequences
    ∙ ap (λ is_stmt. rows_onto (under section table.sequences) (rows_in section is_stmt next.isa directives)) kept.is_stmt
    ∙ ap (λ isa. rows_onto (under section table.sequences) (rows_in section table.is_stmt isa directives)) kept.isa

loc_step : (section : ℕ) (table : LineTable) (line : LocLine) (at : SectionPlace) (directives : List LineDirective) (after : LineTable)
    → ((next : LineTable) → taken_from next directives ≡ Ok after → IsMeant section next directives after)
    → (next : LineTable) × (located line at table ≡ Ok next) × (taken_from next directives ≡ Ok after)
    → IsMeant section table (loc line at ∷ directives) after
loc_step section table line at directives after below (next, one, others) =
    let row : LineRow = row_with table.is_stmt table.isa line in
    let made : with_line at row table ≡ next = located_if (is_some (file_of line.file table.files)) (with_line at row table) next one in
    below next others
    ∙ ap (λ next. rows_onto (under section next.sequences) (rows_in section next.is_stmt next.isa directives)) (sym made)
    ∙ row_put section at row table.sequences (rows_in section row.is_stmt row.isa directives)

rows_taken : (section : ℕ) (table : LineTable) (directives : List LineDirective) (after : LineTable) → taken_from table directives ≡ Ok after
    → IsMeant section table directives after
rows_taken section table [] after is = ap (λ table. under section table.sequences) (sym (ends table after is))
rows_taken section table (numbered_file pos number directory name ∷ directives) after is =
    file_step section table pos number directory name directives after (λ next. rows_taken section next directives after)
    (bound (filed pos number directory name table) directives after is)
rows_taken section table (loc line at ∷ directives) after is =
    loc_step section table line at directives after (λ next. rows_taken section next directives after) (bound (located line at table) directives after is)

pub rows_meant : (directives : List LineDirective) (table : LineTable) (section : ℕ) → table_of directives ≡ Ok table
    → under section table.sequences ≡ rows_onto None (rows_of section directives)
rows_meant directives table section is = rows_taken section no_lines directives table is

pub rows_made : (sequence : Sequence) (rows : List RowAt)
    → rows_onto (Some sequence) rows ≡ Some (record {
      start = sequence.start;
      last = last_place sequence.last rows;
      row = last_row sequence.row rows;
      rows = with_rows (with_distances sequence.last rows) sequence.rows;
    })
rows_made sequence [] = refl
rows_made sequence (row ∷ rows) = rows_made (with_row_at row.0 row.1 (Some sequence)) rows
