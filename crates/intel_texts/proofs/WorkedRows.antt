-- The worked texts are these.
use Rattle.std.proofs.Common.{refl}
use Rattle.std.specs.Fmt.{digits}
use Rattle.x86_table.specs.Rows.{the_rows}
use Rattle.x86_table.specs.Bytes.{bytes_of, rex_bits, rex_byte}
use Rattle.x86_table.specs.Fits.{fits, fields_fit}
use Rattle.x86_table.specs.Reads.{meaning}
use Rattle.x86_lookup.specs.Names.{the_intel_names}
use Rattle.x86_decode.specs.Heads.{head_of}
use Rattle.x86_decode.specs.Places.{place_in}
use Rattle.x86_decode.specs.FieldReadings.{fields_in}
use Rattle.x86_decode.specs.Admitting.{admits}
use Rattle.att_texts.specs.Numbers.{number_pieces, place_pieces}
use Rattle.att_texts.specs.AttOperands.{register_text}
use Rattle.intel_texts.specs.Mnemonics.{mnemonic_of_row}
use Rattle.intel_texts.specs.Texts.{row_pieces}
use Rattle.intel_texts.specs.WorkedTexts.{WorkedTexts}

pub worked_texts : WorkedTexts
unfolding digits the_rows bytes_of rex_bits rex_byte fits fields_fit meaning the_intel_names head_of place_in fields_in admits number_pieces place_pieces register_text mnemonic_of_row row_pieces
worked_texts = record {
  nop = refl;
  exchanged_quads = refl;
  exchanged_longs = refl;
  exchanged_bytes = refl;
  widened = refl;
  added = refl;
  pushed = refl;
  wide = refl;
  counted = refl;
  multiplied = refl;
  jumped = refl;
  looped = refl;
  untracked = refl;
  loaded = refl;
  loaded_by_frame = refl;
  loaded_from_rip = refl;
  scaled = refl;
  stored = refl;
  trapped = refl;
  locked = refl;
  scanned = refl;
  bit_set = refl;
  moved_if = refl;
  widened_from_memory = refl;
  converted = refl;
  shuffled = refl;
  moved_from_vector = refl;
  extracted = refl;
  checked = refl;
  fenced = refl;
  nothing_wide = refl;
}
