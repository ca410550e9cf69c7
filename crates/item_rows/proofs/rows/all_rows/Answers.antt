-- The rows of a section more are there.
use Rattle.item_rows.specs.RowViews.{told_rows}
use Rattle.item_rows.proofs.RowLengths.{rows_step}
use Rattle.item_rows.proofs.rows.all_rows.Goals as goal

pub loop-section-preserved : goal.loop-section-preserved
loop-section-preserved c = record {
  rows = rows_step (told_rows c.args.rows) c.args.sections.now c.loop-section.section-index c.section-item.result c.loop-section.made.items c.push_section.new.made.items _
      c.loop-section-test.true c.section-item.is c.in_ok-push_section.ensures.rows c.loop-section.invariant.rows;
  fit = c.in_ok-push_section.ensures.fit;
}
