-- Nothing else counts on the ledger.
use Rattle.asm_calls.proofs.objects.write_laid.Given as goal

abbrev pub ghosts-settled_plan : goal.ghosts-settled_plan
ghosts-settled_plan a = record { name = a.blank.name; parts = a.blank.parts }
