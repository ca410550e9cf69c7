-- The row that a `.loc` means.
use Rattle.std.specs.Prelude.{ℕ, Bool, unwrap_or}
use Rattle.line_rows.specs.declared.rows.LineRow.{LineRow}
use Rattle.line_directives.specs.declared.loc_lines.LocLine.{LocLine}

-- with these values of `is_stmt` and `isa`, where it gives no others
abbrev pub row_with : Bool → ℕ → LocLine → LineRow
row_with is_stmt isa line = record {
  file = line.file;
  line = line.line;
  column = line.column;
  is_stmt = unwrap_or line.is_stmt is_stmt;
  isa = unwrap_or line.isa isa;
  discriminator = line.discriminator;
  basic_block = line.basic_block;
  prologue_end = line.prologue_end;
  epilogue_begin = line.epilogue_begin;
}
