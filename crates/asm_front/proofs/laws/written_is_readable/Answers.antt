-- The object reads back, and its numbers are few.
use Rattle.asm_front.proofs.FittingObjects.{SmallFacts, object_is_readable}
use Rattle.asm_front.proofs.HandedStatements.{handed_comes, handed_placed}
use Rattle.asm_front.proofs.laws.written_is_readable.Goals as goal

pub returns : goal.returns
returns c flags contents name source made files is so fit =
    let facts : SmallFacts = record {
      small = c.sources_are_small.ensures;
      little = c.tables_add_little.ensures;
      lines_little = c.tables_add_little-2.ensures;
      layouts = c.layouts_keep_sections.ensures;
      fit = c.objects_fit.ensures;
      found = c.source_sections_found.ensures;
      groups = c.groups_read.ensures;
      stand = c.groups_stand.ensures;
    } in
    let end = handed_comes c.handed_statements_are_placed.ensures flags contents name source made files is in
    object_is_readable facts flags _ made.object end.names _ end.f (c.written_reads_back.ensures flags contents name source made files is so) end.comes
    (handed_placed c.following_is_placing.ensures.placed flags contents name source end.f end.follows) fit
