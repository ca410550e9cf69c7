use Rattle.loaded_laws.proofs.Bytes.{bytes_stand_beside}
use Rattle.loaded_laws.proofs.beside.bytes_stand_beside.Goals as goal

pub returns : goal.returns
returns c = bytes_stand_beside c.layouts_keep_sections.ensures c.layouts_keep_counts.ensures c.fields_stand_beside.ensures c.relocations_beside.ensures
