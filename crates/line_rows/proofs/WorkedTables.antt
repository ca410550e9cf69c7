-- The worked rows and bytes compute so.
use Rattle.std.proofs.Common.{refl}
use Rattle.leb128.specs.Digits.{uleb_bytes, sleb_bytes}
use Rattle.line_rows.specs.Ops.{extended, first_standard, second_standard}
use Rattle.line_rows.specs.Rows.{row_in_program}
use Rattle.line_rows.specs.Header.{behind_entries}
use Rattle.line_rows.specs.Writing.{row_bytes}
use Rattle.line_rows.specs.WorkedRows.{TableRows, ProgramRows, WrittenRows}

pub table_rows : TableRows
unfolding extended first_standard second_standard row_in_program behind_entries row_bytes uleb_bytes sleb_bytes
table_rows = record {
  first = refl;
  second = refl;
  end = refl;
  no_sequence = refl;
  text_first = refl;
  text_second = refl;
  text_end = refl;
  other = refl;
  other_end = refl;
  other_length = refl;
  other_version = refl;
  other_header_length = refl;
  other_range = refl;
  cut_short = refl;
  empty = refl;
}

pub program_rows : ProgramRows
unfolding extended first_standard second_standard row_in_program behind_entries row_bytes uleb_bytes sleb_bytes
program_rows = record {
  special = refl;
  special_back = refl;
  const_add_pc = refl;
  before_const = refl;
  fixed = refl;
  long_distance = refl;
  marks = refl;
  marks_end = refl;
  discriminator = refl;
  discriminator_ends = refl;
  file_isa = refl;
  from_an_address = refl;
  unknown_is_skipped = refl;
  greatest_line = refl;
  line_past = refl;
  line_zero = refl;
  line_below = refl;
  column_past = refl;
  address_back = refl;
  far = refl;
  no_length = refl;
  short_address = refl;
  unended = refl;
}

pub written_rows : WrittenRows
unfolding extended first_standard second_standard row_in_program behind_entries row_bytes uleb_bytes sleb_bytes
written_rows = record {
  nothing = refl;
  column_and_line = refl;
  back = refl;
  all = refl;
  greatest = refl;
  known = refl;
}
