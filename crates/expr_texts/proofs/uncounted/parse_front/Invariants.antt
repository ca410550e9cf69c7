-- Nothing else counts on the ledger.
use Rattle.expr_texts.proofs.uncounted.parse_front.Given as goal

abbrev pub ghosts-front : goal.ghosts-front
ghosts-front a = record { name = a.blank.name; parts = a.blank.parts }
