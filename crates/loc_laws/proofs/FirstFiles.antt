-- Where there is a row, a `.file` with a number stands before it.
use Rattle.std.proofs.Common.{◌≡◌, ℕ, Bool, true, false, List, [], ◌∷◌, Option, None, Some, Ok, is_some, unwrap_or, refl, sym, ◌∙◌, ap}
use Rattle.std.proofs.lemmas.Bool.{false≢true}
use Rattle.std.proofs.lemmas.Option.{none-some}
use Rattle.asm_base.specs.declared.positions.Pos.{Pos}
use Rattle.line_directives.specs.Meanings.{rows_in, rows_of}
use Rattle.line_directives.specs.Rows.{row_with}
use Rattle.line_directives.specs.SourceFiles.{FileTable, no_files, file_of, is_given, with_file}
use Rattle.line_directives.specs.Taking.{LineTable, no_lines, LineDirective, numbered_file, loc, file_taken, filed, with_line, located, taken_from, table_of}
use Rattle.loc_laws.proofs.TwoParts.{came, ends, located_if}

-- once there is a first one it stays
file_first : (given : Option Bool) (pos : Pos) (number : ℕ) (directory : Option (List ℕ)) (name : List ℕ) (table next : LineTable) (at : Pos) → table.first ≡ Some at
    → file_taken given pos number directory name table ≡ Ok next → next.first ≡ Some at
file_first None pos number directory name table next at is made =
    let same : record table { first = Some (unwrap_or table.first pos); files = with_file number directory name table.files } ≡ next = cc in
    ap (λ (t : LineTable). t.first) (sym same) ∙ ap (λ (first : Option Pos). Some (unwrap_or first pos)) is
file_first (Some true) pos number directory name table next at is made = let same : table ≡ next = cc in ap (λ (t : LineTable). t.first) (sym same) ∙ is
file_first (Some false) pos number directory name table next at is made = absurd (let none : ⊥ = cc in none)

first_stays : (table : LineTable) (directives : List LineDirective) (last : LineTable) (at : Pos) → table.first ≡ Some at → taken_from table directives ≡ Ok last → last.first ≡ Some at
first_stays table [] last at is made = ap (λ (t : LineTable). t.first) (sym (ends table last made)) ∙ is
first_stays table (numbered_file pos number directory name ∷ directives) last at is made =
    let one = came (filed pos number directory name table) directives last made in
    first_stays one.0 directives last at (file_first (is_given number directory name table.files) pos number directory name table one.0 at is one.1) one.2
first_stays table (loc line place ∷ directives) last at is made =
    let one = came (located line place table) directives last made in
    let same = (located_if (is_some (file_of line.file table.files)) (with_line place (row_with table.is_stmt table.isa line) table) one.0 one.1).1 in
    first_stays one.0 directives last at (ap (λ (t : LineTable). t.first) (sym same) ∙ is) one.2

new_first : (given : Option Bool) (pos : Pos) (number : ℕ) (directory : Option (List ℕ)) (name : List ℕ) (table next : LineTable) → given ≡ None
    → file_taken given pos number directory name table ≡ Ok next → next.first ≡ Some (unwrap_or table.first pos)
new_first None pos number directory name table next is made =
    let same : record table { first = Some (unwrap_or table.first pos); files = with_file number directory name table.files } ≡ next = cc in
    ap (λ (t : LineTable). t.first) (sym same)
new_first (Some given) pos number directory name table next is made = absurd (none-some given (sym is))

-- without one there is no row
no_rows : (section : ℕ) (table : LineTable) (is_stmt : Bool) (isa : ℕ) (directives : List LineDirective) (last : LineTable) → table.files ≡ no_files
    → taken_from table directives ≡ Ok last → last.first ≡ None → rows_in section is_stmt isa directives ≡ []
no_rows section table is_stmt isa [] last files made none = refl
no_rows section table is_stmt isa (numbered_file pos number directory name ∷ directives) last files made none =
    let one = came (filed pos number directory name table) directives last made in
    let given : is_given number directory name table.files ≡ None = ap (is_given number directory name) files in
    let first = new_first (is_given number directory name table.files) pos number directory name table one.0 given one.1 in
    let stays = first_stays one.0 directives last (unwrap_or table.first pos) first one.2 in
    absurd (none-some (unwrap_or table.first pos) (sym none ∙ stays))
no_rows section table is_stmt isa (loc line at ∷ directives) last files made none =
    let one = came (located line at table) directives last made in
    let some = (located_if (is_some (file_of line.file table.files)) (with_line at (row_with table.is_stmt table.isa line) table) one.0 one.1).0 in
    absurd (false≢true (sym (ap (λ (files : FileTable). is_some (file_of line.file files)) files) ∙ some))

-- so where there is one, there is a first `.file`
pub rows_have_file : (section : ℕ) (directives : List LineDirective) (last : LineTable) → table_of directives ≡ Ok last → (rows_of section directives ≡ [] → ⊥)
    → (pos : Pos) × (last.first ≡ Some pos)
rows_have_file section directives last made some = by last.first refl
  where
    by : (first : Option Pos) → last.first ≡ first → (pos : Pos) × (last.first ≡ Some pos)
    by None none = absurd (some (no_rows section no_lines true 0 directives last refl made none))
    by (Some pos) is = (pos, is)
