-- The rows that directives mean: their numbers, and the sections in which they stand.
use Rattle.std.proofs.Common.{◌≡◌, ℕ, ◌^◌, ◌<◌, ◌==◌, Bool, true, false, List, [], ◌∷◌, Option, None, Some, unwrap_or, if◌then◌else◌, refl, subst, arith}
use Rattle.std.specs.Prelude.{All, IfSome, IsSomeAnd, slice_get}
use Rattle.std.proofs.lemmas.List.Elements.{All-nil, All-cons, All-head, All-tail}
use Rattle.asm_base.specs.declared.places.SectionPlace.{SectionPlace}
use Rattle.asm_frags.specs.Writing.{LooseSection, takes_zeros_alone}
use Rattle.line_rows.specs.declared.rows.LineRow.{LineRow}
use Rattle.line_rows.specs.Writing.{IsRow}
use Rattle.line_directives.specs.declared.loc_lines.LocLine.{LocLine}
use Rattle.line_directives.specs.Meanings.{RowAt, row_in, rows_in}
use Rattle.line_directives.specs.Order.{IsLineInRange, IsInRange}
use Rattle.line_directives.specs.Rows.{row_with}
use Rattle.line_directives.specs.Taking.{LineDirective, numbered_file, loc}
use Rattle.line_laws.specs.PlacedLines.{RowStands}

abbrev pub HasNumbers : RowAt → Type 0
HasNumbers row = IsRow row.1

isa_low : (given : Option ℕ) (isa : ℕ) → IfSome given (λ isa. isa < 2 ^ 31) → isa < 2 ^ 32 → unwrap_or given isa < 2 ^ 32
isa_low None isa range low = low
isa_low (Some given) isa range low = omega (arith, range)

row_range : (is_stmt : Bool) (isa : ℕ) (line : LocLine) → IsLineInRange line → isa < 2 ^ 32 → IsRow (row_with is_stmt isa line)
row_range is_stmt isa line range low =
    let file = range.file in
    let number = range.number in
    let column = range.column in
    let discriminator = range.discriminator in
    (omega (arith, file), omega (arith, number), omega (arith, column), isa_low line.isa isa range.isa low, omega (arith, discriminator))

row_before : (section : ℕ) (at : SectionPlace) (row : LineRow) (rows : List RowAt) → IsRow row → All HasNumbers rows → All HasNumbers (row_in section at row rows)
row_before section at row rows is all = by (at.section == section)
  where
    by : (b : Bool) → All HasNumbers (if b then (at.place, row) ∷ rows else rows)
    by true = All-cons HasNumbers (at.place, row) rows is all
    by false = all

-- their numbers are in the ranges of registers
pub rows_range : (section : ℕ) (is_stmt : Bool) (isa : ℕ) (directives : List LineDirective) → isa < 2 ^ 32 → All IsInRange directives
    → All HasNumbers (rows_in section is_stmt isa directives)
rows_range section is_stmt isa [] low ranges = All-nil HasNumbers
rows_range section is_stmt isa (numbered_file pos number directory name ∷ directives) low ranges =
    rows_range section is_stmt isa directives low (All-tail IsInRange (numbered_file pos number directory name) directives ranges)
rows_range section is_stmt isa (loc line at ∷ directives) low ranges =
    let range : IsLineInRange line = All-head IsInRange (loc line at) directives ranges in
    let row : LineRow = row_with is_stmt isa line in
    row_before section at row (rows_in section row.is_stmt row.isa directives) (row_range is_stmt isa line range low)
    (rows_range section row.is_stmt row.isa directives (isa_low line.isa isa range.isa low) (All-tail IsInRange (loc line at) directives ranges))

equal : (a b : ℕ) → (a == b) ≡ true → a ≡ b
equal a b is = grind arith

row_there : (sections : List LooseSection) (section : ℕ) (at : SectionPlace) (made : LineRow) (others : List RowAt) (row : RowAt) (rows : List RowAt)
    → IsSomeAnd (slice_get sections at.section) (λ held. takes_zeros_alone held ≡ false)
    → (others ≡ row ∷ rows → IsSomeAnd (slice_get sections section) (λ held. takes_zeros_alone held ≡ false))
    → row_in section at made others ≡ row ∷ rows → IsSomeAnd (slice_get sections section) (λ held. takes_zeros_alone held ≡ false)
row_there sections section at made others row rows stands below = by (at.section == section) refl
  where
    by : (b : Bool) → (at.section == section) ≡ b → (if b then (at.place, made) ∷ others else others) ≡ row ∷ rows
        → IsSomeAnd (slice_get sections section) (λ held. takes_zeros_alone held ≡ false)
    by true same is = subst (λ (n : ℕ). IsSomeAnd (slice_get sections n) (λ held. takes_zeros_alone held ≡ false)) (equal at.section section same) stands
    by false same is = below is

-- a section with rows is there, and takes more than zeros
pub section_there : (sections : List LooseSection) (section : ℕ) (is_stmt : Bool) (isa : ℕ) (directives : List LineDirective) (row : RowAt) (rows : List RowAt)
    → All (RowStands sections) directives → rows_in section is_stmt isa directives ≡ row ∷ rows
    → IsSomeAnd (slice_get sections section) (λ held. takes_zeros_alone held ≡ false)
section_there sections section is_stmt isa [] row rows stand is = absurd (let none : ⊥ = cc in none)
section_there sections section is_stmt isa (numbered_file pos number directory name ∷ directives) row rows stand is =
    section_there sections section is_stmt isa directives row rows (All-tail (RowStands sections) (numbered_file pos number directory name) directives stand) is
section_there sections section is_stmt isa (loc line at ∷ directives) row rows stand is =
    let made : LineRow = row_with is_stmt isa line in
    row_there sections section at made (rows_in section made.is_stmt made.isa directives) row rows (All-head (RowStands sections) (loc line at) directives stand)
    (section_there sections section made.is_stmt made.isa directives row rows (All-tail (RowStands sections) (loc line at) directives stand)) is
