-- The worked texts are these.
use Rattle.std.proofs.Common.{refl}
use Rattle.std.specs.Fmt.{digits}
use Rattle.x86_table.specs.Rows.{the_rows}
use Rattle.x86_lookup.specs.Names.{the_att_names}
use Rattle.x86_lookup.specs.Forms.{takes_all}
use Rattle.att_insns.specs.Sizes.{size_left}
use Rattle.att_texts.specs.Numbers.{number_pieces, number_tree, place_pieces, place_tree}
use Rattle.att_texts.specs.AttOperands.{register_text}
use Rattle.att_texts.specs.AttTexts.{names_it, mnemonic_for, att_text}
use Rattle.att_texts.specs.Worked.{WorkedAtt}

pub worked_att : WorkedAtt
unfolding digits the_rows the_att_names takes_all size_left number_pieces number_tree place_pieces place_tree register_text names_it mnemonic_for att_text
worked_att = record {
  nop = refl;
  pause_is = refl;
  exchange_words = refl;
  exchange_quads = refl;
  exchange_upper = refl;
  exchange_high = refl;
  widened = refl;
  added = refl;
  wide = refl;
  counted = refl;
  counted_by = refl;
  multiplied = refl;
  called = refl;
  jumped = refl;
  jumped_through = refl;
  jumped_in = refl;
  loaded = refl;
  loaded_low = refl;
  loaded_local = refl;
  scaled = refl;
  address = refl;
  stored = refl;
  stored_quad = refl;
  converted = refl;
  converted_quad = refl;
  compared = refl;
  moved = refl;
  nothing_wide = refl;
  checked = refl;
  locked = refl;
  repeated = refl;
  no_track = refl;
}
