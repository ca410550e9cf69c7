use Rattle.line_rows.proofs.SequenceLemmas.{sequences_run}
use Rattle.line_rows.proofs.laws.sequences_read_back.Goals as goal

pub returns : goal.returns
returns c = sequences_run c.numbers_read_back.ensures
