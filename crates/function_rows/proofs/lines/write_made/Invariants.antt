-- Nothing else counts on the ledger.
use Rattle.function_rows.proofs.lines.write_made.Given as goal

abbrev pub ghosts-write_both : goal.ghosts-write_both
ghosts-write_both a = record { name = a.blank.name; parts = a.blank.parts }
