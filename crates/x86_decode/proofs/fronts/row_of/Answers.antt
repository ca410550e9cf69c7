use Rattle.std.proofs.Common.{ap, ◌∙◌}
use Rattle.x86_decode.specs.Admitting.{admits}
use Rattle.x86_decode.specs.Slots.{first_number}
use Rattle.x86_decode.specs.Views.{shown_head}
use Rattle.x86_decode.proofs.SlotRows.{slot_row}
use Rattle.x86_decode.proofs.RowsTaken.{taken}
use Rattle.x86_decode.proofs.fronts.row_of.Goals as goal

pub returns-clause-row : goal.returns-clause-row
returns-clause-row c = c.first_of.ensures.row ∙ ap (first_number (admits c.args.map (shown_head c.args.head.now) c.args.opcode c.args.tail.now)) c.opcode_rows.ensures
    ∙ slot_row c.heads_tell_rows.ensures c.args.map (shown_head c.args.head.now) c.args.opcode c.args.tail.now

pub returns-clause-admitted : goal.returns-clause-admitted
returns-clause-admitted c = taken c.args.map (shown_head c.args.head.now) c.args.opcode c.args.tail.now c.first_of.result (returns-clause-row c)
