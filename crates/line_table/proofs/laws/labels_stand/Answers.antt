-- By the labels that each piece brings.
use Rattle.line_table.proofs.LabelPlaces.{labels_stand}
use Rattle.line_table.proofs.laws.labels_stand.Goals as goal

pub returns : goal.returns
returns c =
    labels_stand (record {
      extending = record { pieces = c.pieces_stand_behind.ensures.pieces; extensions = c.pieces_stand_behind.ensures.extensions };
      finding = record { ready = c.pieces_are_found.ensures.ready; pieces = c.pieces_are_found.ensures.pieces };
      standing = c.pieces_bring_standing_labels.ensures;
      keeping = c.sections_keep_places.ensures;
      meaning = record { meant = c.directives_mean_rows.ensures.meant; made = c.directives_mean_rows.ensures.made };
    })
