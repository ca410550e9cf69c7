use Rattle.std.proofs.Common.{refl}
use Rattle.scfi_pass.specs.Looking.{seen}
use Rattle.scfi_pass.specs.Synthesis.{analyzed}
use Rattle.scfi_pass.proofs.TableLemmas.{sound_at, held_rules}
use Rattle.scfi_pass.proofs.tables.stays.Goals as goal

pub keeps_row-requires : goal.keeps_row-requires
keeps_row-requires c =
    let l = c.look-looked.result in
    let e = c.look-looked.ensures in
    held_rules (analyzed c.args.walked.now) c.args.last c.args.place l.item l.node (seen l) c.args.row.now e.seen c.requires.held (c.if-not-is_held.ensures refl)

pub returns-clause-sound : goal.returns-clause-sound
returns-clause-sound c = λ t.
    let l = c.look-looked.result in
    let e = c.look-looked.ensures in
    sound_at (analyzed c.args.walked.now) c.args.place l.item l.node (seen l) e.item e.node e.seen (c.keeps_row.ensures.sound t)
