use Rattle.code_laws.proofs.Encoded.{encodings_are_read_loaded}
use Rattle.code_laws.proofs.codes.encodings_are_read_loaded.Goals as goal

pub returns : goal.returns
returns c =
    encodings_are_read_loaded (record {
      stand = c.loaded_codes_stand.ensures;
      put = c.encoding_stands.ensures.put;
      places = c.fields_stand_apart.ensures.places;
      values = c.loaded_bytes_obey.ensures.values;
      read = c.items_are_read.ensures.loaded;
    })
