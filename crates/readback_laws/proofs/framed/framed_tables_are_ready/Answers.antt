-- What statements place with their frame table, and the layout of all.
use Rattle.asm_values.specs.State.{nothing_placed}
use Rattle.readback_laws.proofs.CoveredFrames.{StandingFacts, are_covered}
use Rattle.readback_laws.proofs.FramedSections.{TableFacts}
use Rattle.readback_laws.proofs.StandingRows.{rows_stand}
use Rattle.readback_laws.proofs.JumpsInObject.{JumpFacts}
use Rattle.readback_laws.proofs.LinedSections.{LineFacts}
use Rattle.readback_laws.proofs.PlacedFacts.{PlaceFacts}
use Rattle.readback_laws.proofs.SettledObjects.{AreSettled}
use Rattle.readback_laws.proofs.ReadyForLines.{FrameLabels, framed_ready}
use Rattle.readback_laws.proofs.framed.framed_tables_are_ready.Goals as goal

pub returns : goal.returns
returns c no_warn worked_out handed object from ready =
    let settled : AreSettled = record {
      layouts = c.layouts_keep_sections.ensures;
      placed = c.settled_is_placed.ensures.placed;
      bytes = c.bytes_stand.ensures;
      values = c.values_stand.ensures;
    } in
    let table : TableFacts = record {
      put = c.tables_are_found.ensures;
      labels = c.labels_stand.ensures;
      others = c.others_stay.ensures;
      line_labels = c.labels_stand-2.ensures;
      rows = λ statements no_warn whole is. rows_stand no_warn whole (c.lines_follow.ensures statements (nothing_placed no_warn) whole is);
    } in
    let lined : LineFacts = record { put = c.tables_are_found-2.ensures; few = c.labels_are_few.ensures } in
    let placing : PlaceFacts = record {
      begins = c.placing_within.ensures.begins;
      within = c.placing_within.ensures.kept;
      bare_stands = c.instruction_items.ensures;
      code_stands = c.encoding_items.ensures;
    } in
    let jumps : JumpFacts = record {
      placed = c.jump_items.ensures;
      stand = c.items_stand.ensures;
      addresses = c.sizes_add_up.ensures.item;
      read = c.jumps_read.ensures;
      near = c.jump_reads_back.ensures.near;
      short = c.jump_reads_back.ensures.short;
      sized = c.jump_reads_back.ensures.size;
      lead = c.distances_lead_to_labels.ensures;
      room = c.settled_items_have_room.ensures;
      low = c.layouts_are_low.ensures;
      adds = c.coefficients_add.ensures;
      starts = c.places_stand.ensures.begins;
      places = c.places_stand.ensures.kept;
      few = c.places_stand.ensures.few;
      named = c.places_stand.ensures.named;
    } in
    let standing : StandingFacts = record {
      begins = placing.begins;
      within = placing.within;
      starts = jumps.starts;
      places = jumps.places;
      ordered = c.procedures_stand_in_order.ensures;
    } in
    let labels : FrameLabels = record { known = c.places_are_named.ensures.known; gets = c.tables_get_labels.ensures } in
    framed_ready labels settled table lined placing jumps no_warn worked_out handed object from
    (are_covered standing no_warn worked_out handed object from ready)
