-- Nothing else counts on the ledger.
use Rattle.asm_lines.proofs.own_counts.next_statement.Given as goal

abbrev pub ghosts-next_of : goal.ghosts-next_of
ghosts-next_of a = record { name = a.blank.name; parts = a.blank.parts }
