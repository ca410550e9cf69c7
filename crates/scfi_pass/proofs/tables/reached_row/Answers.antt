use Rattle.scfi_pass.specs.Looking.{seen}
use Rattle.scfi_pass.specs.Tables.{row_by}
use Rattle.scfi_pass.specs.Synthesis.{analyzed}
use Rattle.scfi_pass.proofs.RowLemmas.{rules_clear}
use Rattle.scfi_pass.proofs.TableLemmas.{sound_at, held_rules, own_row}
use Rattle.scfi_pass.proofs.tables.reached_row.Goals as goal

pub checked-requires : goal.checked-requires
checked-requires c = λ t.
    let l = c.look-looked.result in
    let e = c.look-looked.ensures in
    rules_clear (seen l) c.args.row.now (held_rules (analyzed c.args.walked.now) c.args.last c.args.place l.item l.node (seen l) c.args.row.now e.seen c.requires.held (c.is_held-held.ensures t))

pub other_row-requires-clause-held : goal.other_row-requires-clause-held
other_row-requires-clause-held c = λ t.
    let l = c.look-looked.result in
    let e = c.look-looked.ensures in
    held_rules (analyzed c.args.walked.now) c.args.last c.args.place l.item l.node (seen l) c.args.row.now e.seen c.requires.held (c.is_held-held.ensures t)

pub returns-in-Ok-clause-sound : goal.returns-in-Ok-clause-sound
returns-in-Ok-clause-sound c =
    let l = c.look-looked.result in
    let e = c.look-looked.ensures in
    sound_at (analyzed c.args.walked.now) c.args.place l.item l.node (seen l) e.item e.node e.seen c.in-Ok.ensures.sound

pub returns-in-Ok-clause-row : goal.returns-in-Ok-clause-row
returns-in-Ok-clause-row c =
    let l = c.look-looked.result in
    let e = c.look-looked.ensures in
    own_row (analyzed c.args.walked.now) c.args.place l.item l.node (seen l) (row_by c.args.row.now c.other_row.result) c.in-Ok.cfa e.seen c.in-Ok.ensures.frame c.other_row.ensures.cfa c.other_row.ensures.rules
