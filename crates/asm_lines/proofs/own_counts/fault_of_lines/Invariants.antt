-- Nothing else counts on the ledger.
use Rattle.asm_lines.proofs.own_counts.fault_of_lines.Given as goal

abbrev pub ghosts-fault_of : goal.ghosts-fault_of
ghosts-fault_of a = record { name = a.blank.name; parts = a.blank.parts }
