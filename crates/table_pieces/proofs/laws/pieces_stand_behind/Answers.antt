-- What is put extends its section, piece by piece.
use Rattle.table_pieces.proofs.ExtendLemmas.{pieces_extend, extensions}
use Rattle.table_pieces.proofs.laws.pieces_stand_behind.Goals as goal

pub returns-clause-pieces : goal.returns-clause-pieces
returns-clause-pieces c = pieces_extend

pub returns-clause-extensions : goal.returns-clause-extensions
returns-clause-extensions c = extensions
