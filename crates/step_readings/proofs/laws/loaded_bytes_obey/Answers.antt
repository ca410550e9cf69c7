use Rattle.step_readings.proofs.Loading.{loaded_filled, have_values, loaded_obey}
use Rattle.step_readings.proofs.laws.loaded_bytes_obey.Goals as goal

pub returns : goal.returns
returns c = record {
  filled = loaded_filled;
  values = have_values;
  obey = loaded_obey c.fields_stand_apart.ensures.places c.encodings_obey.ensures.encoded;
}
