-- A fold calls its visitor once for each part.
use Rattle.expr_texts.proofs.PartLemmas.{fold_rises, fold_rises_at_most}
use Rattle.expr_texts.proofs.laws.each_part_counts_once.Goals as goal

pub returns-clause-exactly : goal.returns-clause-exactly
returns-clause-exactly g c = fold_rises _ _ _ _ _

pub returns-clause-at_most : goal.returns-clause-at_most
returns-clause-at_most g c = fold_rises_at_most _ _ _ _ _
