use Rattle.scfi_pass.specs.Looking.{seen}
use Rattle.cfi_checks.specs.Places.{analyzed}
use Rattle.cfi_checks.proofs.CheckLemmas.{held_rules, shown_at, held_at, fault_there}
use Rattle.cfi_checks.proofs.checking.check_reached.Goals as goal

pub check_item-requires : goal.check_item-requires
check_item-requires c = λ t.
    let l = c.look-looked.result in
    let e = c.look-looked.ensures in
    held_rules (analyzed c.args.checked.now) c.args.last c.args.place l.item l.node (seen l) c.args.row.now e.seen c.requires.held (c.is_held-held.ensures t)

pub returns-in-Ok-clause-shown : goal.returns-in-Ok-clause-shown
returns-in-Ok-clause-shown c =
    let l = c.look-looked.result in
    let e = c.look-looked.ensures in
    shown_at (analyzed c.args.checked.now) c.args.checked.now.rows.now c.args.place l.item l.node (seen l) c.args.row.now e.item e.node e.seen c.requires.row c.in-Ok.ensures.shown

pub returns-in-Ok-clause-held : goal.returns-in-Ok-clause-held
returns-in-Ok-clause-held c =
    let l = c.look-looked.result in
    let e = c.look-looked.ensures in
    held_at (analyzed c.args.checked.now) c.args.place l.item l.node (seen l) c.args.row.now e.seen c.in-Ok.ensures.shown

pub returns-in-Err-clause-fault : goal.returns-in-Err-clause-fault
returns-in-Err-clause-fault c =
    let l = c.look-looked.result in
    let e = c.look-looked.ensures in
    fault_there (analyzed c.args.checked.now) c.args.checked.now.rows.now c.args.place l.item l.node (seen l) c.args.row.now c.in-Err.fault c.requires.reached e.item e.node e.seen c.requires.row c.in-Err.ensures.first
