-- What the lower laws say is what is known of all tables.
use Rattle.frame_laws.proofs.Tables.{tables_read}
use Rattle.frame_laws.proofs.laws.frame_tables_read.Goals as goal

pub returns : goal.returns
returns c =
    tables_read (record {
      pieces = record {
        file = c.tables_are_in_file.ensures;
        places = c.places_rise.ensures;
        labels = record { known = c.places_are_named.ensures.known; stays = c.places_are_named.ensures.stays; pieces = c.places_are_named.ensures.pieces };
      };
      commons = record { whole = λ form pointer sized. (c.common_entries_read.ensures.whole form pointer sized).0 };
      layouts = c.layouts_keep_sections.ensures;
      keeping = c.sections_keep_places.ensures;
      read = c.entries_read.ensures.read;
      found = c.tables_are_found.ensures;
      behind = c.tables_stand_behind.ensures.table;
      few = c.labels_are_few.ensures;
      sharing = c.commons_are_shared.ensures.equal;
      first = c.commons_are_shared.ensures.first;
      reaches = c.ends_are_counted.ensures.pieces;
      plain_reaches = c.ends_are_counted.ensures.plain;
    })
