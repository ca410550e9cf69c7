use Rattle.function_laws.proofs.FollowedJumps.{function_jumps_are_laid}
use Rattle.function_laws.proofs.jumping.function_jumps_are_laid.Goals as goal

pub returns : goal.returns
returns c =
    function_jumps_are_laid (record {
      starts = c.starts_are_addresses.ensures;
      following = c.following_is_placing.ensures.placed;
      few = c.places_stand.ensures.few;
      placed = c.items_are_placed.ensures;
      ends = c.ends_are_places.ensures;
      written = c.jumps_are_written.ensures;
      forms_begin = c.forms_name_symbols.ensures.begins;
      forms_stay = c.forms_name_symbols.ensures.stays;
      puts = record {
        named = c.places_stand.ensures.named;
        jump = c.jumps_are_put.ensures;
        code = c.encoding_stands.ensures.put;
        shown = c.encodings_are_seen.ensures;
        read = c.encodings_are_read_loaded.ensures;
        moves = c.statements_stand.ensures;
        alone = c.branches_have_targets.ensures.alone;
        seen = c.jumps_are_seen.ensures.seen;
        read_jump = c.jumps_are_read.ensures;
        read_branch = c.branches_are_read.ensures;
        room = c.jumps_have_room.ensures;
        said = c.branches_are_said.ensures;
        values = c.values_name_symbols.ensures;
        held = c.held_forms_name_symbols.ensures;
        stay = c.added_labels_change_no_target.ensures.nodes;
      };
    })
