-- By what each piece brings.
use Rattle.frame_laws.proofs.LabelSteps.{table_few}
use Rattle.frame_laws.proofs.counts.labels_are_few.Goals as goal

pub returns : goal.returns
returns c = table_few c.pieces_are_counted.ensures c.ends_are_counted.ensures.pieces c.ends_are_counted.ensures.plain
