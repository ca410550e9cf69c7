-- Directives of line tables in two parts: the table and the rows of both are those of the first, and then those of the second.
use Rattle.std.proofs.Common.{◌≡◌, ℕ, Bool, true, false, List, [], ◌∷◌, ◌++◌, Option, None, Some, Result, Ok, Err, ◌==◌, is_some, unwrap_or, if◌then◌else◌, refl, sym, ◌∙◌, ap, subst}
use Rattle.asm_base.specs.declared.positions.Pos.{Pos}
use Rattle.asm_base.specs.Refusals.{◌>>=◌}
use Rattle.line_directives.specs.declared.faults.LineTableCause.{LineTableCause}
use Rattle.line_directives.specs.declared.faults.LineTableCause.TheVariants.{UnassignedFileNumber}
use Rattle.line_directives.specs.Meanings.{RowAt, row_in, rows_in}
use Rattle.line_directives.specs.Rows.{row_with}
use Rattle.line_directives.specs.SourceFiles.{file_of, is_given, with_file}
use Rattle.line_directives.specs.Taking.{LineTable, LineDirective, numbered_file, loc, file_taken, filed, with_line, located, taken, taken_from}

-- a directive that is taken, and those behind it
pub came : (r : Result LineTable LineTableCause) (directives : List LineDirective) (last : LineTable) → (r >>= λ next. taken_from next directives) ≡ Ok last
    → (next : LineTable) × (r ≡ Ok next) × (taken_from next directives ≡ Ok last)
came (Ok next) directives last is = (next, refl, is)
came (Err cause) directives last is = absurd (let none : ⊥ = cc in none)

pub ends : (table last : LineTable) → taken_from table [] ≡ Ok last → table ≡ last
ends table last is = cc

pub located_if : (test : Bool) (made next : LineTable) → (if test then Ok made else Err UnassignedFileNumber) ≡ Ok next → (test ≡ true) × (made ≡ next)
located_if true made next is = (refl, let same : made ≡ next = cc in same)
located_if false made next is = absurd (let none : ⊥ = cc in none)

pub taken_appended : (table next last : LineTable) (directives others : List LineDirective) → taken_from table directives ≡ Ok next → taken_from next others ≡ Ok last
    → taken_from table (directives ++ others) ≡ Ok last
taken_appended table next last [] others first later = ap (λ (t : LineTable). taken_from t others) (ends table next first) ∙ later
taken_appended table next last (directive ∷ directives) others first later =
    let one = came (taken directive table) directives next first in
    ap (λ (r : Result LineTable LineTableCause). r >>= λ t. taken_from t (directives ++ others)) one.1 ∙ taken_appended one.0 next last directives others one.2 later

-- a table says the same of the rows that follow
abbrev IsAlike : LineTable → LineTable → Type 0
IsAlike one other = (one.is_stmt ≡ other.is_stmt) × (one.isa ≡ other.isa)

file_alike : (given : Option Bool) (pos : Pos) (number : ℕ) (directory : Option (List ℕ)) (name : List ℕ) (table next : LineTable)
    → file_taken given pos number directory name table ≡ Ok next → IsAlike table next
file_alike None pos number directory name table next is =
    let same : record table { first = Some (unwrap_or table.first pos); files = with_file number directory name table.files } ≡ next = cc in
    subst (IsAlike table) same (refl, refl)
file_alike (Some true) pos number directory name table next is = let same : table ≡ next = cc in subst (IsAlike table) same (refl, refl)
file_alike (Some false) pos number directory name table next is = absurd (let none : ⊥ = cc in none)

row_appended : (test : Bool) (row : RowAt) (rows others : List RowAt) → (if test then row ∷ (rows ++ others) else (rows ++ others)) ≡ (if test then row ∷ rows else rows) ++ others
row_appended true row rows others = refl
row_appended false row rows others = refl

-- rows of a section behind others
module _ (section : ℕ) where
  abbrev pub rows_behind : LineTable → List LineDirective → List RowAt
  rows_behind table directives = rows_in section table.is_stmt table.isa directives

  alike_rows : (one other : LineTable) → IsAlike one other → (directives : List LineDirective) → rows_behind one directives ≡ rows_behind other directives
  alike_rows one other alike directives =
      ap (λ (is_stmt : Bool). rows_in section is_stmt one.isa directives) alike.0 ∙ ap (λ (isa : ℕ). rows_in section other.is_stmt isa directives) alike.1

  pub rows_appended : (table next : LineTable) (directives others : List LineDirective) → taken_from table directives ≡ Ok next
      → rows_behind table (directives ++ others) ≡ rows_behind table directives ++ rows_behind next others
  rows_appended table next [] others is = ap (λ (t : LineTable). rows_behind t others) (ends table next is)
  rows_appended table next (numbered_file pos given directory name ∷ directives) others is =
      let one = came (filed pos given directory name table) directives next is in
      let alike = file_alike (is_given given directory name table.files) pos given directory name table one.0 one.1 in
      alike_rows table one.0 alike (directives ++ others)
      ∙ rows_appended one.0 next directives others one.2
      ∙ ap (λ (rows : List RowAt). rows ++ rows_behind next others) (sym (alike_rows table one.0 alike directives))
  rows_appended table next (loc line at ∷ directives) others is =
      let row = row_with table.is_stmt table.isa line in
      let one = came (located line at table) directives next is in
      let made : with_line at row table ≡ one.0 = (located_if (is_some (file_of line.file table.files)) (with_line at row table) one.0 one.1).1 in
      ap (row_in section at row)
      (rows_appended (with_line at row table) next directives others (ap (λ (t : LineTable). taken_from t directives) made ∙ one.2))
      ∙ row_appended (at.section == section) (at.place, row) (rows_in section row.is_stmt row.isa directives) (rows_behind next others)
