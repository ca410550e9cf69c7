use Rattle.std.proofs.Common.{ap, sym, subst, ◌∙◌}
use Rattle.x86_table.specs.Fields.{Fields}
use Rattle.x86_table.specs.Reads.{is_known, is_known_place}
use Rattle.x86_decode.specs.Fitting.{AreRead}
use Rattle.x86_decode.specs.Views.{shown_head}
use Rattle.x86_decode.proofs.SharedHeads.{near}
use Rattle.x86_decode.proofs.Soundness.{held_known, place_known}
use Rattle.x86_decode.proofs.ReadFields.{are_read}
use Rattle.x86_decode.proofs.fronts.front_by.Goals as goal

pub parts_in-requires : goal.parts_in-requires
parts_in-requires c = record { above = rw c.saturating_sub-above.ensures (near c.args.map (shown_head c.args.head.now) c.args.opcode c.args.tail.now c.args.found.row.now c.requires.admitted.admitted) }

pub shown_if-requires-clause-known : goal.shown_if-requires-clause-known
shown_if-requires-clause-known c =
    let same = c.parts_in.ensures c.args.opcode (sym c.saturating_sub-above.ensures) in
    record {
      held = ap (λ (p : Fields). is_known p.held) same ∙ held_known c.args.found.row.now (shown_head c.args.head.now) c.args.opcode c.args.tail.now;
      place = ap (λ (p : Fields). is_known_place p.place) same ∙ place_known c.args.found.row.now (shown_head c.args.head.now) c.args.opcode c.args.tail.now;
    }

pub shown_if-requires-clause-read : goal.shown_if-requires-clause-read
shown_if-requires-clause-read c =
    let same = c.parts_in.ensures c.args.opcode (sym c.saturating_sub-above.ensures) in
    subst (AreRead c.args.found.row.now) (sym same)
    (are_read c.args.map (shown_head c.args.head.now) c.args.opcode c.args.tail.now c.args.found.row.now c.requires.admitted.admitted (λ i. (c.type_inv.tail i).fits))
