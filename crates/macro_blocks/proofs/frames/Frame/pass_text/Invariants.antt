-- Nothing else counts on the ledger.
use Rattle.macro_blocks.proofs.frames.Frame.pass_text.Given as goal

abbrev pub ghosts-seek_alone : goal.ghosts-seek_alone
ghosts-seek_alone g a = record { name = a.blank.name; parts = a.blank.parts }
