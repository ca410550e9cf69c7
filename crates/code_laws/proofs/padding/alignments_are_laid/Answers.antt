use Rattle.code_laws.proofs.Aligning.{alignments_are_laid}
use Rattle.code_laws.proofs.padding.alignments_are_laid.Goals as goal

pub returns : goal.returns
returns c =
    alignments_are_laid (record {
      layouts = c.layouts_keep_sections.ensures;
      ends = c.ends_move.ensures;
      inside = c.places_are_inside.ensures;
      counts = c.layouts_keep_counts.ensures;
      relocations = c.relocations_beside.ensures;
      addresses = c.places_are_addresses.ensures;
      stand = c.items_stand.ensures;
      sized = c.bytes_are_sized.ensures;
      nothing = c.no_operations_do_nothing.ensures;
    })
