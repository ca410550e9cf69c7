-- By the labels that each piece brings.
use Rattle.eh_frame.proofs.LabelPlaces.{labels_stand}
use Rattle.eh_frame.proofs.laws.labels_stand.Goals as goal

pub returns : goal.returns
returns c =
    labels_stand (record {
      extending = record { pieces = c.pieces_stand_behind.ensures.pieces; extensions = c.pieces_stand_behind.ensures.extensions };
      finding = record { ready = c.pieces_are_found.ensures.ready; pieces = c.pieces_are_found.ensures.pieces };
      reaching = c.ends_are_counted.ensures.pieces;
      standing = c.pieces_bring_standing_labels.ensures;
      keeping = c.sections_keep_places.ensures;
    })
