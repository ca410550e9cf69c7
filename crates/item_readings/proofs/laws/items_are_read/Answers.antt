use Rattle.item_readings.proofs.Reading.{encoded, loaded_read, jumps_read}
use Rattle.item_readings.proofs.laws.items_are_read.Goals as goal

pub returns : goal.returns
returns c = record {
  encoded = encoded c.effects_are_followed.ensures.followed c.encodings_obey.ensures.encoded;
  loaded = loaded_read c.effects_are_followed.ensures.followed c.loaded_bytes_obey.ensures.obey;
  jumps = jumps_read c.effects_are_followed.ensures.followed c.jumps_obey.ensures.obey;
}
