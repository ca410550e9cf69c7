-- Nothing else counts on the ledger.
use Rattle.asm_macro.proofs.expanding.expand_source.Given as goal

abbrev pub ghosts-expand_alone : goal.ghosts-expand_alone
ghosts-expand_alone g a = record { name = a.blank.name; parts = a.blank.parts }
