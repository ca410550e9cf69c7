use Rattle.place_laws.proofs.LowLayouts.{layouts_are_low}
use Rattle.place_laws.proofs.ends.layouts_are_low.Goals as goal

pub returns : goal.returns
returns c =
    layouts_are_low (record {
      layouts = c.layouts_keep_sections.ensures;
      rise = c.rows_rise.ensures.rise;
      count = c.rows_rise.ensures.count;
    })
