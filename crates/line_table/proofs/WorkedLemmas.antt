-- The worked tables compute.
use Rattle.std.proofs.Common.{refl}
use Rattle.asm_expr.specs.Forms.{plus_times, with_terms, with_term}
use Rattle.asm_frags.specs.Fields.{low_bytes}
use Rattle.asm_symbols.specs.Interning.{number_of}
use Rattle.item_bytes.specs.Leb128.{leb128_bytes}
use Rattle.leb128.specs.Digits.{uleb_bytes, sleb_bytes}
use Rattle.line_rows.specs.Tables.{entries_then}
use Rattle.line_rows.specs.Writing.{row_bytes}
use Rattle.table_pieces.specs.Ends.{end_of}
use Rattle.table_pieces.specs.Marks.{with_label}
use Rattle.line_table.specs.Placing.{placed}
use Rattle.line_table.specs.WorkedTables.{WorkedTables}

pub worked : WorkedTables
unfolding plus_times with_terms with_term low_bytes number_of leb128_bytes uleb_bytes sleb_bytes entries_then row_bytes end_of with_label placed
worked = record {
  a_file_alone = refl;
  rows_of_one_section = refl;
  a_gap_of_numbers = refl;
  directory_0 = refl;
  others_behind_it = refl;
  in_the_order_of_sections = refl;
  a_distance_of_300 = refl;
  ends_alone = refl;
  ends_behind_rows = refl;
  ends_behind_a_gap = refl;
  nothing = refl;
  of_zeros = refl;
  with_a_byte = refl;
  bytes = refl;
  offsets = refl;
  items = refl;
  made = refl;
}
