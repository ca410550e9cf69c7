use Rattle.std.proofs.Common.{arith}
use Rattle.scfi_pass.specs.Synthesis.{analyzed}
use Rattle.scfi_pass.proofs.TableLemmas.{sounds_on, leads_step, leads_end}
use Rattle.scfi_pass.proofs.tables.frame_table.Goals as goal

pub loop-place-preserved : goal.loop-place-preserved
loop-place-preserved c =
    let a = analyzed c.args.walked.now in
    let i = c.loop-place.invariant in
    let t = c.in-Ok.ensures in
    record {
      sound = sounds_on a c.loop-place.place i.sound t.sound;
      held = t.held;
      leads = leads_step a c.loop-place.place c.loop-place.row c.take.new.row c.loop-place.ops.items c.take.new.ops.items i.leads t.row t.ops;
    }

pub returns-clause-table : goal.returns-clause-table
returns-clause-table c =
    let a = analyzed c.args.walked.now in
    let i = c.loop-place.invariant in
    let e = c.loop-place.auto.place-end in
    let t = c.loop-place-test.false in
    leads_end a c.loop-place.place c.loop-place.row c.loop-place.ops.items (omega arith) i.sound i.leads
