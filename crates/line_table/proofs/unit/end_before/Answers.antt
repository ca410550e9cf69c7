-- Other sections end where they ended.
use Rattle.std.proofs.Common.{◌∙◌}
use Rattle.line_table.proofs.SectionLemmas.{ends_stay}
use Rattle.line_table.proofs.unit.end_before.Goals as goal

pub returns-else-section-table : goal.returns-else-section-table
returns-else-section-table c first extends own =
    c.end_in.ensures ∙ ends_stay c.args.table c.args.section first c.args.sections.now extends c.if-section-table.false
