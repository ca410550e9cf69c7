-- The worked tables compute.
use Rattle.std.proofs.Common.{refl}
use Rattle.asm_expr.specs.Forms.{plus_times, with_terms, with_term}
use Rattle.asm_frags.specs.Fields.{low_bytes}
use Rattle.item_bytes.specs.Levels.{advance_level}
use Rattle.asm_symbols.specs.Interning.{number_of}
use Rattle.leb128.specs.Digits.{uleb_bytes, sleb_bytes}
use Rattle.item_bytes.specs.Advances.{advance_bytes}
use Rattle.table_pieces.specs.Ends.{end_of}
use Rattle.table_pieces.specs.Marks.{with_label}
use Rattle.eh_frame.specs.Placing.{placed}
use Rattle.eh_frame.specs.WorkedTables.{WorkedTables}

pub worked : WorkedTables
unfolding plus_times with_terms with_term low_bytes advance_level number_of uleb_bytes sleb_bytes advance_bytes with_label end_of placed
worked = record {
  framed_entry = refl;
  after_63 = refl;
  after_64 = refl;
  nothing = refl;
  refused = refl;
  bytes = refl;
  offsets = refl;
  items = refl;
  aligned = refl;
  made = refl;
  behind = refl;
  pointed_bytes = refl;
  pointed_offsets = refl;
  shared = refl;
  two_commons_bytes = refl;
  two_commons_back = refl;
}
