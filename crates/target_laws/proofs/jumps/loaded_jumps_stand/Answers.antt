use Rattle.target_laws.proofs.JumpLoading.{loaded_jumps_stand}
use Rattle.target_laws.proofs.jumps.loaded_jumps_stand.Goals as goal

pub returns : goal.returns
returns c =
    loaded_jumps_stand (record {
      layouts = c.layouts_keep_sections.ensures;
      counts = c.layouts_keep_counts.ensures;
      addresses = c.places_are_addresses.ensures;
      inside = c.places_are_inside.ensures;
      moves = c.ends_move.ensures;
      relocations = c.relocations_beside.ensures;
      values = c.values_are_alone.ensures;
      items = c.items_stand.ensures;
      loaded = c.jumps_obey.ensures.loaded;
      codes = record {
        sized = c.jump_reads_back.ensures.size;
        short = c.jump_reads_back.ensures.short;
        near = c.jump_reads_back.ensures.near;
      };
    })
