-- By what each piece makes of its section.
use Rattle.table_pieces.proofs.FoundLemmas.{pieces_ready, pieces_found}
use Rattle.table_pieces.proofs.laws.pieces_are_found.Goals as goal

pub returns-clause-ready : goal.returns-clause-ready
returns-clause-ready c = pieces_ready c.puts_stay_within.ensures

pub returns-clause-pieces : goal.returns-clause-pieces
returns-clause-pieces c = pieces_found c.puts_stay_within.ensures
