-- The places of rows in their order, and the ranges of the numbers of directives.
use Rattle.std.specs.Prelude.{ℕ, ◌^◌, ◌<◌, ◌≤◌, List, [], ◌∷◌, IfSome}
use Rattle.asm_base.specs.declared.places.Place.{Place}
use Rattle.line_rows.specs.Tables.{IsPath}
use Rattle.line_directives.specs.declared.loc_lines.LocLine.{LocLine}
use Rattle.line_directives.specs.Meanings.{RowAt}
use Rattle.line_directives.specs.Taking.{LineDirective, numbered_file, loc}

-- no fewer items and plain bytes of a section stand before the second place than before the first
abbrev pub IsUpTo : Place → Place → Type 0
IsUpTo first second = (first.item ≤ second.item) × (first.offset ≤ second.offset)

-- from one place on the places of rows never fall, up to another
abbrev pub RowsRise : Place → List RowAt → Place → Type 0
RowsRise from [] to = IsUpTo from to
RowsRise from (row ∷ rows) to = IsUpTo from row.0 × RowsRise row.0 rows to

-- the numbers of a `.loc` are in their ranges
pub record IsLineInRange (line : LocLine) : Type 0 where
  pub file : line.file < 2 ^ 16
  pub number : line.line < 2 ^ 31
  pub column : line.column < 2 ^ 31
  pub isa : IfSome line.isa (λ isa. isa < 2 ^ 31)
  pub discriminator : line.discriminator < 2 ^ 31

-- the numbers of a directive are in their ranges, and its directory and its name have no zero byte
abbrev pub IsInRange : LineDirective → Type 0
IsInRange (numbered_file pos number directory name) = (number < 2 ^ 16) × IfSome directory IsPath × IsPath name
IsInRange (loc line at) = IsLineInRange line
