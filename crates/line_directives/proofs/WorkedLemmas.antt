-- The worked directives compute.
use Rattle.std.proofs.Common.{refl}
use Rattle.leb128.specs.Digits.{uleb_bytes, sleb_bytes}
use Rattle.line_rows.specs.Writing.{row_bytes}
use Rattle.line_directives.specs.WorkedLines.{WorkedLines}

pub worked : WorkedLines
unfolding uleb_bytes sleb_bytes row_bytes
worked = record {
  one_row = refl;
  two_rows = refl;
  at_one_place = refl;
  line_0 = refl;
  isa_stays = refl;
  is_stmt_stays = refl;
  file_3 = refl;
  one_directory = refl;
  over_a_jump = refl;
  two_sections = refl;
  given_again = refl;
  other_name = refl;
  other_directory = refl;
  no_file = refl;
  before_its_file = refl;
}
