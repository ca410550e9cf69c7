-- Nothing else counts on the ledger.
use Rattle.source_ends.proofs.ending.placed_object.Given as goal

abbrev pub ghosts-settled : goal.ghosts-settled
ghosts-settled a = record { name = a.blank.name; parts = a.blank.parts }
