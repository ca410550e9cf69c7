use Rattle.code_laws.proofs.Encoded.{encodings_are_laid}
use Rattle.code_laws.proofs.codes.encodings_are_laid.Goals as goal

pub returns : goal.returns
returns c = encodings_are_laid c.encodings_are_read_loaded.ensures c.nodes_suit_items.ensures
