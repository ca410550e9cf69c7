-- What the lower laws say is what is known of all pieces.
use Rattle.piece_laws.proofs.PiecesInFile.{are_in_file}
use Rattle.piece_laws.proofs.PlacesAndEnds.{ends_stand}
use Rattle.piece_laws.proofs.Pointing.{pointers_point, addresses_are_held, forms_are_held}
use Rattle.piece_laws.proofs.TableSections.{PieceFacts}
use Rattle.piece_laws.proofs.laws.tables_are_in_file.Goals as goal

pub returns : goal.returns
returns c =
    let facts : PieceFacts = record {
      file = record {
        layouts = c.layouts_keep_sections.ensures;
        bytes = c.bytes_stand.ensures;
        values = c.values_stand.ensures;
        items = c.items_stand.ensures;
        one = c.fields_have_one_relocation.ensures.said;
        valueless = c.fields_have_one_relocation.ensures.valueless;
        valued = c.fields_have_one_relocation.ensures.valued;
        mean = c.relocations_mean_forms.ensures;
        addresses = c.sizes_add_up.ensures.item;
      };
      labels = record {
        named = c.places_are_named.ensures.named;
        known = c.places_are_named.ensures.known;
        stays = c.places_are_named.ensures.stays;
        pieces = c.places_are_named.ensures.pieces;
      };
      held = c.distances_are_held.ensures.held;
      expanded = c.distances_are_held.ensures.expanded;
      apart = c.distances_are_held.ensures.places;
      linked = c.distances_are_held.ensures.linked;
      room = c.settled_items_have_room.ensures;
      sized = c.bytes_are_sized.ensures;
      shift = c.sizes_add_up.ensures.shift;
    } in
    record {
      ends = ends_stand facts;
      pieces = are_in_file facts;
      pointers = pointers_point facts c.distances_have_two_terms.ensures;
      addresses = addresses_are_held facts;
      forms = forms_are_held facts;
    }
