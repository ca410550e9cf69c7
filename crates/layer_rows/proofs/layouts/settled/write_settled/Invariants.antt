-- Nothing else counts on the ledger.
use Rattle.layer_rows.proofs.layouts.settled.write_settled.Given as goal

abbrev pub ghosts-rounds_of : goal.ghosts-rounds_of
ghosts-rounds_of a = record { name = a.blank.name; parts = a.blank.parts }
