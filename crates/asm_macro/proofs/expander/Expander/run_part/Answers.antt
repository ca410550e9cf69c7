-- One text behind another.
use Rattle.std.proofs.Common.{rules, Ok, Err, inl, refl, subst, arith, Option}
use Rattle.asm_base.specs.Inputs.{Contents}
use Rattle.macro_blocks.specs.Frames.{level_of}
use Rattle.asm_macro.specs.declared.turned.Turned.{Turned}
use Rattle.asm_macro.specs.declared.turned.Turned.TheVariants as turned
use Rattle.asm_macro.specs.Expansion.{under}
use Rattle.asm_macro.specs.Readings.{input_by}
use Rattle.asm_macro.specs.Running.{RunsFrom}
use Rattle.asm_macro.specs.declared.faults.ExpandFault.{ExpandFault}
use Rattle.asm_macro.specs.Turning.{KeepsFew, state_of}
use Rattle.asm_macro.proofs.Parts.{part_more, part_without}
use Rattle.asm_macro.proofs.Runs.{steps_none}
use Rattle.asm_macro.proofs.Wholes.{read_none}
use Rattle.asm_macro.proofs.expander.Expander.run_part.Goals as goal

pub copies-init : goal.copies-init
copies-init g c = record { done = (0, inl (steps_none g.P.Placer.placed g.P.KnowingPlacer.told (g.I.Inputs.contents c.args.ins.now) _ _)); read = read_none c.args.self.now.files _; given = refl; turns = omega arith; parts = omega arith; shallow = λ few. few }

pub returns-then-self-given-clause-run : goal.returns-then-self-given-clause-run
returns-then-self-given-clause-run g c =
    let Later : Option Contents → Type 0 = λ told. RunsFrom {F = g.row.P-Fault.Denot} g.P.Placer.placed g.P.KnowingPlacer.told told (under (level_of c.copies.frame) (state_of c.copies.self)) c.copies.placer (Ok turned.Stays) (level_of c.run_text.new.frame) (state_of c.run_text.new.self) c.run_text.new.placer (input_by g.I.Inputs.contents g.I.Inputs.rest g.I.Inputs.faults g.I.Inputs.missing g.I.Inputs.taken g.I.Inputs.history c.copies.ins) (input_by g.I.Inputs.contents g.I.Inputs.rest g.I.Inputs.faults g.I.Inputs.missing g.I.Inputs.taken g.I.Inputs.history c.run_text.new.ins) in
    let Given : Turned → Type 0 = λ turned. RunsFrom {F = g.row.P-Fault.Denot} g.P.Placer.placed g.P.KnowingPlacer.told (g.I.Inputs.contents c.copies.ins) (under (level_of c.copies.frame) (state_of c.copies.self)) c.copies.placer (Ok turned) (level_of c.run_text.new.frame) (state_of c.run_text.new.self) c.run_text.new.placer (input_by g.I.Inputs.contents g.I.Inputs.rest g.I.Inputs.faults g.I.Inputs.missing g.I.Inputs.taken g.I.Inputs.history c.copies.ins) (input_by g.I.Inputs.contents g.I.Inputs.rest g.I.Inputs.faults g.I.Inputs.missing g.I.Inputs.taken g.I.Inputs.history c.run_text.new.ins) in
    let later = subst Given c.in-Ok-Stays.field-0-is c.in-Ok-Stays.ensures.run in
    part_more g.P.Placer.placed g.P.KnowingPlacer.told (g.I.Inputs.contents c.args.ins.now) (under (level_of c.args.frame.now) (state_of c.args.self.now)) c.args.placer.now c.copies.invariant.done.0 (under (level_of c.copies.frame) (state_of c.copies.self)) (state_of c.run_text.new.self) c.copies.placer c.run_text.new.placer (level_of c.run_text.new.frame) (Ok turned.Stays) (input_by g.I.Inputs.contents g.I.Inputs.rest g.I.Inputs.faults g.I.Inputs.missing g.I.Inputs.taken g.I.Inputs.history c.args.ins.now) (input_by g.I.Inputs.contents g.I.Inputs.rest g.I.Inputs.faults g.I.Inputs.missing g.I.Inputs.taken g.I.Inputs.history c.copies.ins) (input_by g.I.Inputs.contents g.I.Inputs.rest g.I.Inputs.faults g.I.Inputs.missing g.I.Inputs.taken g.I.Inputs.history c.run_text.new.ins)
    c.copies.invariant.done.1 c.copies.invariant.read (subst Later c.copies.invariant.read.contents later)

pub returns-in-Ok-Enters-clause-run : goal.returns-in-Ok-Enters-clause-run
returns-in-Ok-Enters-clause-run g c =
    let Later : Option Contents → Type 0 = λ told. RunsFrom {F = g.row.P-Fault.Denot} g.P.Placer.placed g.P.KnowingPlacer.told told (under (level_of c.copies.frame) (state_of c.copies.self)) c.copies.placer (Ok (turned.Enters c.in-Ok-Enters.inner)) (level_of c.run_text.new.frame) (state_of c.run_text.new.self) c.run_text.new.placer (input_by g.I.Inputs.contents g.I.Inputs.rest g.I.Inputs.faults g.I.Inputs.missing g.I.Inputs.taken g.I.Inputs.history c.copies.ins) (input_by g.I.Inputs.contents g.I.Inputs.rest g.I.Inputs.faults g.I.Inputs.missing g.I.Inputs.taken g.I.Inputs.history c.run_text.new.ins) in
    let Given : Turned → Type 0 = λ turned. RunsFrom {F = g.row.P-Fault.Denot} g.P.Placer.placed g.P.KnowingPlacer.told (g.I.Inputs.contents c.copies.ins) (under (level_of c.copies.frame) (state_of c.copies.self)) c.copies.placer (Ok turned) (level_of c.run_text.new.frame) (state_of c.run_text.new.self) c.run_text.new.placer (input_by g.I.Inputs.contents g.I.Inputs.rest g.I.Inputs.faults g.I.Inputs.missing g.I.Inputs.taken g.I.Inputs.history c.copies.ins) (input_by g.I.Inputs.contents g.I.Inputs.rest g.I.Inputs.faults g.I.Inputs.missing g.I.Inputs.taken g.I.Inputs.history c.run_text.new.ins) in
    let later = subst Given c.in-Ok-Enters.field-0-is c.in-Ok-Enters.ensures.run in
    part_more g.P.Placer.placed g.P.KnowingPlacer.told (g.I.Inputs.contents c.args.ins.now) (under (level_of c.args.frame.now) (state_of c.args.self.now)) c.args.placer.now c.copies.invariant.done.0 (under (level_of c.copies.frame) (state_of c.copies.self)) (state_of c.run_text.new.self) c.copies.placer c.run_text.new.placer (level_of c.run_text.new.frame) (Ok (turned.Enters c.in-Ok-Enters.inner)) (input_by g.I.Inputs.contents g.I.Inputs.rest g.I.Inputs.faults g.I.Inputs.missing g.I.Inputs.taken g.I.Inputs.history c.args.ins.now) (input_by g.I.Inputs.contents g.I.Inputs.rest g.I.Inputs.faults g.I.Inputs.missing g.I.Inputs.taken g.I.Inputs.history c.copies.ins) (input_by g.I.Inputs.contents g.I.Inputs.rest g.I.Inputs.faults g.I.Inputs.missing g.I.Inputs.taken g.I.Inputs.history c.run_text.new.ins)
    c.copies.invariant.done.1 c.copies.invariant.read (subst Later c.copies.invariant.read.contents later)

pub returns-in-Ok-Leaves-clause-run : goal.returns-in-Ok-Leaves-clause-run
returns-in-Ok-Leaves-clause-run g c =
    let Later : Option Contents → Type 0 = λ told. RunsFrom {F = g.row.P-Fault.Denot} g.P.Placer.placed g.P.KnowingPlacer.told told (under (level_of c.copies.frame) (state_of c.copies.self)) c.copies.placer (Ok turned.Leaves) (level_of c.run_text.new.frame) (state_of c.run_text.new.self) c.run_text.new.placer (input_by g.I.Inputs.contents g.I.Inputs.rest g.I.Inputs.faults g.I.Inputs.missing g.I.Inputs.taken g.I.Inputs.history c.copies.ins) (input_by g.I.Inputs.contents g.I.Inputs.rest g.I.Inputs.faults g.I.Inputs.missing g.I.Inputs.taken g.I.Inputs.history c.run_text.new.ins) in
    let Given : Turned → Type 0 = λ turned. RunsFrom {F = g.row.P-Fault.Denot} g.P.Placer.placed g.P.KnowingPlacer.told (g.I.Inputs.contents c.copies.ins) (under (level_of c.copies.frame) (state_of c.copies.self)) c.copies.placer (Ok turned) (level_of c.run_text.new.frame) (state_of c.run_text.new.self) c.run_text.new.placer (input_by g.I.Inputs.contents g.I.Inputs.rest g.I.Inputs.faults g.I.Inputs.missing g.I.Inputs.taken g.I.Inputs.history c.copies.ins) (input_by g.I.Inputs.contents g.I.Inputs.rest g.I.Inputs.faults g.I.Inputs.missing g.I.Inputs.taken g.I.Inputs.history c.run_text.new.ins) in
    let later = subst Given c.in-Ok-Leaves.field-0-is c.in-Ok-Leaves.ensures.run in
    part_more g.P.Placer.placed g.P.KnowingPlacer.told (g.I.Inputs.contents c.args.ins.now) (under (level_of c.args.frame.now) (state_of c.args.self.now)) c.args.placer.now c.copies.invariant.done.0 (under (level_of c.copies.frame) (state_of c.copies.self)) (state_of c.run_text.new.self) c.copies.placer c.run_text.new.placer (level_of c.run_text.new.frame) (Ok turned.Leaves) (input_by g.I.Inputs.contents g.I.Inputs.rest g.I.Inputs.faults g.I.Inputs.missing g.I.Inputs.taken g.I.Inputs.history c.args.ins.now) (input_by g.I.Inputs.contents g.I.Inputs.rest g.I.Inputs.faults g.I.Inputs.missing g.I.Inputs.taken g.I.Inputs.history c.copies.ins) (input_by g.I.Inputs.contents g.I.Inputs.rest g.I.Inputs.faults g.I.Inputs.missing g.I.Inputs.taken g.I.Inputs.history c.run_text.new.ins)
    c.copies.invariant.done.1 c.copies.invariant.read (subst Later c.copies.invariant.read.contents later)

pub returns-in-Err-run_text-clause-run : goal.returns-in-Err-run_text-clause-run
returns-in-Err-run_text-clause-run g c =
    let Later : Option Contents → Type 0 = λ told. RunsFrom {F = g.row.P-Fault.Denot} g.P.Placer.placed g.P.KnowingPlacer.told told (under (level_of c.copies.frame) (state_of c.copies.self)) c.copies.placer (Err c.in-Err-run_text.fault) (level_of c.run_text.new.frame) (state_of c.run_text.new.self) c.run_text.new.placer (input_by g.I.Inputs.contents g.I.Inputs.rest g.I.Inputs.faults g.I.Inputs.missing g.I.Inputs.taken g.I.Inputs.history c.copies.ins) (input_by g.I.Inputs.contents g.I.Inputs.rest g.I.Inputs.faults g.I.Inputs.missing g.I.Inputs.taken g.I.Inputs.history c.run_text.new.ins) in
    let later = c.in-Err-run_text.ensures.run in
    part_more g.P.Placer.placed g.P.KnowingPlacer.told (g.I.Inputs.contents c.args.ins.now) (under (level_of c.args.frame.now) (state_of c.args.self.now)) c.args.placer.now c.copies.invariant.done.0 (under (level_of c.copies.frame) (state_of c.copies.self)) (state_of c.run_text.new.self) c.copies.placer c.run_text.new.placer (level_of c.run_text.new.frame) (Err c.in-Err-run_text.fault) (input_by g.I.Inputs.contents g.I.Inputs.rest g.I.Inputs.faults g.I.Inputs.missing g.I.Inputs.taken g.I.Inputs.history c.args.ins.now) (input_by g.I.Inputs.contents g.I.Inputs.rest g.I.Inputs.faults g.I.Inputs.missing g.I.Inputs.taken g.I.Inputs.history c.copies.ins) (input_by g.I.Inputs.contents g.I.Inputs.rest g.I.Inputs.faults g.I.Inputs.missing g.I.Inputs.taken g.I.Inputs.history c.run_text.new.ins)
    c.copies.invariant.done.1 c.copies.invariant.read (subst Later c.copies.invariant.read.contents later)

pub copies-preserved : goal.copies-preserved
copies-preserved g c =
    let Later : Option Contents → Type 0 = λ told. RunsFrom {F = g.row.P-Fault.Denot} g.P.Placer.placed g.P.KnowingPlacer.told told (under (level_of c.copies.frame) (state_of c.copies.self)) c.copies.placer (Ok turned.Stays) (level_of c.run_text.new.frame) (state_of c.run_text.new.self) c.run_text.new.placer (input_by g.I.Inputs.contents g.I.Inputs.rest g.I.Inputs.faults g.I.Inputs.missing g.I.Inputs.taken g.I.Inputs.history c.copies.ins) (input_by g.I.Inputs.contents g.I.Inputs.rest g.I.Inputs.faults g.I.Inputs.missing g.I.Inputs.taken g.I.Inputs.history c.run_text.new.ins) in
    let Given : Turned → Type 0 = λ turned. RunsFrom {F = g.row.P-Fault.Denot} g.P.Placer.placed g.P.KnowingPlacer.told (g.I.Inputs.contents c.copies.ins) (under (level_of c.copies.frame) (state_of c.copies.self)) c.copies.placer (Ok turned) (level_of c.run_text.new.frame) (state_of c.run_text.new.self) c.run_text.new.placer (input_by g.I.Inputs.contents g.I.Inputs.rest g.I.Inputs.faults g.I.Inputs.missing g.I.Inputs.taken g.I.Inputs.history c.copies.ins) (input_by g.I.Inputs.contents g.I.Inputs.rest g.I.Inputs.faults g.I.Inputs.missing g.I.Inputs.taken g.I.Inputs.history c.run_text.new.ins) in
    let later = subst Given c.in-Ok-Stays.field-0-is c.in-Ok-Stays.ensures.run in
    let made = part_more g.P.Placer.placed g.P.KnowingPlacer.told (g.I.Inputs.contents c.args.ins.now) (under (level_of c.args.frame.now) (state_of c.args.self.now)) c.args.placer.now c.copies.invariant.done.0 (under (level_of c.copies.frame) (state_of c.copies.self)) (state_of c.run_text.new.self) c.copies.placer c.run_text.new.placer (level_of c.run_text.new.frame) (Ok turned.Stays) (input_by g.I.Inputs.contents g.I.Inputs.rest g.I.Inputs.faults g.I.Inputs.missing g.I.Inputs.taken g.I.Inputs.history c.args.ins.now) (input_by g.I.Inputs.contents g.I.Inputs.rest g.I.Inputs.faults g.I.Inputs.missing g.I.Inputs.taken g.I.Inputs.history c.copies.ins) (input_by g.I.Inputs.contents g.I.Inputs.rest g.I.Inputs.faults g.I.Inputs.missing g.I.Inputs.taken g.I.Inputs.history c.run_text.new.ins)
    c.copies.invariant.done.1 c.copies.invariant.read (subst Later c.copies.invariant.read.contents later) in
    let Leaves : Turned → Type 0 = λ turned. KeepsFew {E = ExpandFault g.row.P-Fault.Denot} (level_of c.copies.frame) (state_of c.copies.self) (Ok turned) (level_of c.run_text.new.frame) (state_of c.run_text.new.self) in
    let fewer = c.copies.invariant.parts in
    let parts = c.run_text.ensures.parts in
    record { done = (made.0, made.1.comes); read = made.1.uses; given = search rules; turns = search rules; parts = omega (arith, fewer, parts); shallow = λ few. subst Leaves c.in-Ok-Stays.field-0-is c.in-Ok-Stays.ensures.few (c.copies.invariant.shallow few) }

pub returns-then-self-given-clause-few : goal.returns-then-self-given-clause-few
returns-then-self-given-clause-few g c = λ few.
    let Leaves : Turned → Type 0 = λ turned. KeepsFew {E = ExpandFault g.row.P-Fault.Denot} (level_of c.copies.frame) (state_of c.copies.self) (Ok turned) (level_of c.run_text.new.frame) (state_of c.run_text.new.self) in
    subst Leaves c.in-Ok-Stays.field-0-is c.in-Ok-Stays.ensures.few (c.copies.invariant.shallow few)

pub returns-in-Ok-Enters-clause-few : goal.returns-in-Ok-Enters-clause-few
returns-in-Ok-Enters-clause-few g c = λ few.
    let Leaves : Turned → Type 0 = λ turned. KeepsFew {E = ExpandFault g.row.P-Fault.Denot} (level_of c.copies.frame) (state_of c.copies.self) (Ok turned) (level_of c.run_text.new.frame) (state_of c.run_text.new.self) in
    subst Leaves c.in-Ok-Enters.field-0-is c.in-Ok-Enters.ensures.few (c.copies.invariant.shallow few)

pub returns-in-Ok-Leaves-clause-few : goal.returns-in-Ok-Leaves-clause-few
returns-in-Ok-Leaves-clause-few g c = λ few.
    let Leaves : Turned → Type 0 = λ turned. KeepsFew {E = ExpandFault g.row.P-Fault.Denot} (level_of c.copies.frame) (state_of c.copies.self) (Ok turned) (level_of c.run_text.new.frame) (state_of c.run_text.new.self) in
    subst Leaves c.in-Ok-Leaves.field-0-is c.in-Ok-Leaves.ensures.few (c.copies.invariant.shallow few)

pub returns-in-Err-clause-run : goal.returns-in-Err-clause-run
returns-in-Err-clause-run g c =
    part_without g.P.Placer.placed g.P.KnowingPlacer.told (g.I.Inputs.contents c.args.ins.now) (under (level_of c.args.frame.now) (state_of c.args.self.now)) c.args.placer.now c.copies.invariant.done.0 (under (level_of c.copies.frame) (state_of c.copies.self)) (state_of c.copies.self) c.copies.placer c.copies.placer (level_of c.copies.frame) (input_by g.I.Inputs.contents g.I.Inputs.rest g.I.Inputs.faults g.I.Inputs.missing g.I.Inputs.taken g.I.Inputs.history c.args.ins.now) (input_by g.I.Inputs.contents g.I.Inputs.rest g.I.Inputs.faults g.I.Inputs.missing g.I.Inputs.taken g.I.Inputs.history c.copies.ins)
    c.copies.invariant.done.1 c.copies.invariant.read refl
