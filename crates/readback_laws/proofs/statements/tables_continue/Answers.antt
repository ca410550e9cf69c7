use Rattle.asm_values.specs.State.{nothing_placed}
use Rattle.readback_laws.proofs.CoveredFrames.{StandingFacts, are_continued}
use Rattle.readback_laws.proofs.FramedSections.{TableFacts}
use Rattle.readback_laws.proofs.StandingRows.{rows_stand}
use Rattle.readback_laws.proofs.statements.tables_continue.Goals as goal

pub returns : goal.returns
returns c no_warn worked_out handed object from ready =
    let table : TableFacts = record {
      put = c.tables_are_found.ensures;
      labels = c.labels_stand.ensures;
      others = c.others_stay.ensures;
      line_labels = c.labels_stand-2.ensures;
      rows = λ statements no_warn whole is. rows_stand no_warn whole (c.lines_follow.ensures statements (nothing_placed no_warn) whole is);
    } in
    let standing : StandingFacts = record {
      begins = c.placing_within.ensures.begins;
      within = c.placing_within.ensures.kept;
      starts = c.places_stand.ensures.begins;
      places = c.places_stand.ensures.kept;
      ordered = c.procedures_stand_in_order.ensures;
    } in
    are_continued standing no_warn worked_out handed object from ready table
