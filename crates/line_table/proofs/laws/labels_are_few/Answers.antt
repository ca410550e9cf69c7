-- By the labels and the bytes of each piece.
use Rattle.line_table.proofs.CountLemmas.{labels_are_few}
use Rattle.line_table.proofs.laws.labels_are_few.Goals as goal

pub returns : goal.returns
returns c =
    labels_are_few c.pieces_are_counted.ensures (record { meant = c.directives_mean_rows.ensures.meant; made = c.directives_mean_rows.ensures.made })
