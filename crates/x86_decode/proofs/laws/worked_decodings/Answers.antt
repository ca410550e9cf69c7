use Rattle.std.proofs.Common.{refl}
use Rattle.x86_table.specs.Rows.{the_rows}
use Rattle.x86_table.specs.Bytes.{bytes_of, rex_bits, rex_byte}
use Rattle.x86_table.specs.Fits.{fits, fields_fit}
use Rattle.x86_table.specs.Reads.{meaning}
use Rattle.x86_decode.specs.Heads.{head_of}
use Rattle.x86_decode.specs.Places.{place_in}
use Rattle.x86_decode.specs.FieldReadings.{fields_in}
use Rattle.x86_decode.specs.Admitting.{admits}
use Rattle.x86_decode.specs.Decoding.{decoded}
use Rattle.x86_decode.proofs.laws.worked_decodings.Goals as goal

pub returns : goal.returns
unfolding the_rows bytes_of rex_bits rex_byte fits fields_fit meaning head_of place_in fields_in admits decoded
returns c = record {
  push_es = refl;
  rex_alone = refl;
  nothing = refl;
  sized_call = refl;
  call = refl;
  short_call = refl;
  nop = refl;
  jump = refl;
  from_rip = refl;
  zero_displacement = refl;
  idle_rex = refl;
  idle_scale = refl;
}
