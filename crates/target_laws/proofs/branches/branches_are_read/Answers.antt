use Rattle.target_laws.proofs.BranchReading.{branches_are_read}
use Rattle.target_laws.proofs.branches.branches_are_read.Goals as goal

pub returns : goal.returns
returns c =
    branches_are_read (record {
      facts = record {
        layouts = c.layouts_keep_sections.ensures;
        counts = c.layouts_keep_counts.ensures;
        keep = c.layouts_keep_items.ensures;
        runs = c.runs_move_nothing.ensures;
        addresses = c.places_are_addresses.ensures;
        stand = c.values_stand.ensures;
        beside = c.fields_stand_beside.ensures;
        relocations = c.relocations_beside.ensures;
        values = c.values_are_alone.ensures;
      };
      labels = c.targets_are_items.ensures;
      ranges = c.values_are_in_range.ensures;
      lead = c.branches_lead.ensures;
      apart = c.fields_stand_apart.ensures.places;
      alone = c.branches_have_targets.ensures.alone;
      values = c.loaded_bytes_obey.ensures.values;
      reads = c.items_are_read.ensures.loaded;
    })
