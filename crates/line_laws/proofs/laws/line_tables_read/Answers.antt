-- What the lower laws say is what is known of all tables.
use Rattle.line_laws.proofs.Tables.{tables_read}
use Rattle.line_laws.proofs.laws.line_tables_read.Goals as goal

pub returns : goal.returns
returns c =
    tables_read (record {
      pieces = record {
        file = c.tables_are_in_file.ensures;
        places = c.places_rise.ensures;
        labels = record { known = c.places_are_named.ensures.known; stays = c.places_are_named.ensures.stays; pieces = c.places_are_named.ensures.pieces };
      };
      rows = record {
        numbers = c.numbers_read_back.ensures;
        sections = c.sections_are_sequences.ensures;
        written = c.places_are_distances.ensures.written;
        due = c.places_are_distances.ensures.due;
      };
      read = c.tables_read_back.ensures;
      meant = c.directives_mean_rows.ensures.meant;
      made = c.directives_mean_rows.ensures.made;
      layouts = c.layouts_keep_sections.ensures;
      keeping = c.sections_keep_places.ensures;
      found = c.tables_are_found.ensures;
      behind = c.tables_stand_behind.ensures;
      labels = c.labels_stand.ensures;
    })
