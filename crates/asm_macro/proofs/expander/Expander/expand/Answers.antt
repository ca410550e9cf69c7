-- One part behind another.
use Rattle.std.proofs.Common.{arith, rules, ℕ, List, ◌∷◌, Option, Ok, Err, inl, refl, sym, ap, subst, ◌∙◌}
use Rattle.asm_base.specs.Inputs.{Contents}
use Rattle.macro_blocks.specs.Frames.{level_of}
use Rattle.asm_macro.specs.declared.turned.Turned.{Turned}
use Rattle.asm_macro.specs.declared.turned.Turned.TheVariants as turned
use Rattle.asm_macro.specs.Expansion.{State, under}
use Rattle.asm_macro.specs.Placing.{goes, steps}
use Rattle.asm_macro.specs.Expanding.{Comes}
use Rattle.asm_macro.specs.Readings.{HasRead, input_by}
use Rattle.asm_macro.specs.Running.{Expands, RunsFrom}
use Rattle.asm_macro.specs.declared.faults.ExpandFault.{ExpandFault}
use Rattle.asm_macro.specs.OpenParts.{AreFew}
use Rattle.asm_macro.specs.Turning.{KeepsFew, state_of}
use Rattle.asm_macro.proofs.Parts.{part_more, expand_fails, expand_ends, expand_without}
use Rattle.asm_macro.proofs.Runs.{steps_none}
use Rattle.asm_macro.proofs.Wholes.{read_none}
use Rattle.asm_macro.proofs.expander.Expander.expand.Goals as goal

pub parts-init : goal.parts-init
parts-init g c = record { done = (0, inl (steps_none g.P.Placer.placed g.P.KnowingPlacer.told (g.I.Inputs.contents c.args.ins.now) _ _)); turns = omega arith; read = read_none c.args.self.now.files _ }

pub parts-preserved-in_default-put_part : goal.parts-preserved-in_default-put_part
parts-preserved-in_default-put_part g c =
    let start = c.in-Some.ensures.part ∙ ap (λ frame. under (level_of frame) (state_of c.take_part.new.self)) (sym (c.deref_mut.ensures.value ∙ c.into_frame-frame.ensures)) in
    let Start : State → Type 0 = λ s. RunsFrom {F = g.row.P-Fault.Denot} g.P.Placer.placed g.P.KnowingPlacer.told (g.I.Inputs.contents c.parts.ins) s c.parts.placer (Ok turned.Stays) (level_of c.run_part.new.frame) (state_of c.run_part.new.self) c.run_part.new.placer (input_by g.I.Inputs.contents g.I.Inputs.rest g.I.Inputs.faults g.I.Inputs.missing g.I.Inputs.taken g.I.Inputs.history c.parts.ins) (input_by g.I.Inputs.contents g.I.Inputs.rest g.I.Inputs.faults g.I.Inputs.missing g.I.Inputs.taken g.I.Inputs.history c.run_part.new.ins) in
    let Later : Option Contents → Type 0 = λ told. RunsFrom {F = g.row.P-Fault.Denot} g.P.Placer.placed g.P.KnowingPlacer.told told (state_of c.parts.self) c.parts.placer (Ok turned.Stays) (level_of c.run_part.new.frame) (state_of c.run_part.new.self) c.run_part.new.placer (input_by g.I.Inputs.contents g.I.Inputs.rest g.I.Inputs.faults g.I.Inputs.missing g.I.Inputs.taken g.I.Inputs.history c.parts.ins) (input_by g.I.Inputs.contents g.I.Inputs.rest g.I.Inputs.faults g.I.Inputs.missing g.I.Inputs.taken g.I.Inputs.history c.run_part.new.ins) in
    let Given : Turned → Type 0 = λ turned. RunsFrom {F = g.row.P-Fault.Denot} g.P.Placer.placed g.P.KnowingPlacer.told (g.I.Inputs.contents c.parts.ins) (under (level_of c.deref_mut.result.now) (state_of c.take_part.new.self)) c.parts.placer (Ok turned) (level_of c.run_part.new.frame) (state_of c.run_part.new.self) c.run_part.new.placer (input_by g.I.Inputs.contents g.I.Inputs.rest g.I.Inputs.faults g.I.Inputs.missing g.I.Inputs.taken g.I.Inputs.history c.parts.ins) (input_by g.I.Inputs.contents g.I.Inputs.rest g.I.Inputs.faults g.I.Inputs.missing g.I.Inputs.taken g.I.Inputs.history c.run_part.new.ins) in
    let run = subst Given c.in-Ok-Stays.field-0-is c.in-Ok-Stays.ensures.run in
    let made = part_more g.P.Placer.placed g.P.KnowingPlacer.told (g.I.Inputs.contents c.args.ins.now) (state_of c.args.self.now) c.args.placer.now c.parts.invariant.done.0 (state_of c.parts.self) (state_of c.run_part.new.self) c.parts.placer c.run_part.new.placer (level_of c.run_part.new.frame) (Ok turned.Stays) (input_by g.I.Inputs.contents g.I.Inputs.rest g.I.Inputs.faults g.I.Inputs.missing g.I.Inputs.taken g.I.Inputs.history c.args.ins.now) (input_by g.I.Inputs.contents g.I.Inputs.rest g.I.Inputs.faults g.I.Inputs.missing g.I.Inputs.taken g.I.Inputs.history c.parts.ins) (input_by g.I.Inputs.contents g.I.Inputs.rest g.I.Inputs.faults g.I.Inputs.missing g.I.Inputs.taken g.I.Inputs.history c.run_part.new.ins)
    c.parts.invariant.done.1 c.parts.invariant.read (subst Later c.parts.invariant.read.contents (subst Start (sym start) run)) in
    let At : State → Type 0 = λ s. Comes (steps g.P.Placer.placed g.P.KnowingPlacer.told (g.I.Inputs.contents c.args.ins.now) made.0 (state_of c.args.self.now) c.args.placer.now) (goes s c.run_part.new.placer) in
    let Names : List (List ℕ) → Type 0 = λ names. HasRead c.args.self.now.files names (input_by g.I.Inputs.contents g.I.Inputs.rest g.I.Inputs.faults g.I.Inputs.missing g.I.Inputs.taken g.I.Inputs.history c.args.ins.now) (input_by g.I.Inputs.contents g.I.Inputs.rest g.I.Inputs.faults g.I.Inputs.missing g.I.Inputs.taken g.I.Inputs.history c.run_part.new.ins) in
    record { done = (made.0, subst At (sym (c.in_default-put_part.ensures.part ∙ ap (λ frame. under (level_of frame) (state_of c.run_part.new.self)) c.with_frame.ensures)) made.1.comes); turns = search rules; read = subst Names (sym c.put_part.ensures.files) made.1.uses }

pub parts-preserved-in_default-enter : goal.parts-preserved-in_default-enter
parts-preserved-in_default-enter g c =
    let start = c.in-Some.ensures.part ∙ ap (λ frame. under (level_of frame) (state_of c.take_part.new.self)) (sym (c.deref_mut.ensures.value ∙ c.into_frame-frame.ensures)) in
    let Start : State → Type 0 = λ s. RunsFrom {F = g.row.P-Fault.Denot} g.P.Placer.placed g.P.KnowingPlacer.told (g.I.Inputs.contents c.parts.ins) s c.parts.placer (Ok (turned.Enters c.in-Ok-Enters.inner)) (level_of c.run_part.new.frame) (state_of c.run_part.new.self) c.run_part.new.placer (input_by g.I.Inputs.contents g.I.Inputs.rest g.I.Inputs.faults g.I.Inputs.missing g.I.Inputs.taken g.I.Inputs.history c.parts.ins) (input_by g.I.Inputs.contents g.I.Inputs.rest g.I.Inputs.faults g.I.Inputs.missing g.I.Inputs.taken g.I.Inputs.history c.run_part.new.ins) in
    let Later : Option Contents → Type 0 = λ told. RunsFrom {F = g.row.P-Fault.Denot} g.P.Placer.placed g.P.KnowingPlacer.told told (state_of c.parts.self) c.parts.placer (Ok (turned.Enters c.in-Ok-Enters.inner)) (level_of c.run_part.new.frame) (state_of c.run_part.new.self) c.run_part.new.placer (input_by g.I.Inputs.contents g.I.Inputs.rest g.I.Inputs.faults g.I.Inputs.missing g.I.Inputs.taken g.I.Inputs.history c.parts.ins) (input_by g.I.Inputs.contents g.I.Inputs.rest g.I.Inputs.faults g.I.Inputs.missing g.I.Inputs.taken g.I.Inputs.history c.run_part.new.ins) in
    let Given : Turned → Type 0 = λ turned. RunsFrom {F = g.row.P-Fault.Denot} g.P.Placer.placed g.P.KnowingPlacer.told (g.I.Inputs.contents c.parts.ins) (under (level_of c.deref_mut.result.now) (state_of c.take_part.new.self)) c.parts.placer (Ok turned) (level_of c.run_part.new.frame) (state_of c.run_part.new.self) c.run_part.new.placer (input_by g.I.Inputs.contents g.I.Inputs.rest g.I.Inputs.faults g.I.Inputs.missing g.I.Inputs.taken g.I.Inputs.history c.parts.ins) (input_by g.I.Inputs.contents g.I.Inputs.rest g.I.Inputs.faults g.I.Inputs.missing g.I.Inputs.taken g.I.Inputs.history c.run_part.new.ins) in
    let run = subst Given c.in-Ok-Enters.field-0-is c.in-Ok-Enters.ensures.run in
    let made = part_more g.P.Placer.placed g.P.KnowingPlacer.told (g.I.Inputs.contents c.args.ins.now) (state_of c.args.self.now) c.args.placer.now c.parts.invariant.done.0 (state_of c.parts.self) (state_of c.run_part.new.self) c.parts.placer c.run_part.new.placer (level_of c.run_part.new.frame) (Ok (turned.Enters c.in-Ok-Enters.inner)) (input_by g.I.Inputs.contents g.I.Inputs.rest g.I.Inputs.faults g.I.Inputs.missing g.I.Inputs.taken g.I.Inputs.history c.args.ins.now) (input_by g.I.Inputs.contents g.I.Inputs.rest g.I.Inputs.faults g.I.Inputs.missing g.I.Inputs.taken g.I.Inputs.history c.parts.ins) (input_by g.I.Inputs.contents g.I.Inputs.rest g.I.Inputs.faults g.I.Inputs.missing g.I.Inputs.taken g.I.Inputs.history c.run_part.new.ins)
    c.parts.invariant.done.1 c.parts.invariant.read (subst Later c.parts.invariant.read.contents (subst Start (sym start) run)) in
    let At : State → Type 0 = λ s. Comes (steps g.P.Placer.placed g.P.KnowingPlacer.told (g.I.Inputs.contents c.args.ins.now) made.0 (state_of c.args.self.now) c.args.placer.now) (goes s c.run_part.new.placer) in
    let Names : List (List ℕ) → Type 0 = λ names. HasRead c.args.self.now.files names (input_by g.I.Inputs.contents g.I.Inputs.rest g.I.Inputs.faults g.I.Inputs.missing g.I.Inputs.taken g.I.Inputs.history c.args.ins.now) (input_by g.I.Inputs.contents g.I.Inputs.rest g.I.Inputs.faults g.I.Inputs.missing g.I.Inputs.taken g.I.Inputs.history c.run_part.new.ins) in
    record { done = (made.0, subst At (sym (c.in_default-enter.ensures.part ∙ ap (λ frame. under (level_of c.in-Ok-Enters.inner) (under (level_of frame) (state_of c.run_part.new.self))) c.with_frame-in-Ok-Enters.ensures)) made.1.comes); turns = search rules; read = subst Names (sym c.enter.ensures.files) made.1.uses }

pub parts-preserved : goal.parts-preserved
parts-preserved g c =
    let start = c.in-Some.ensures.part ∙ ap (λ frame. under (level_of frame) (state_of c.take_part.new.self)) (sym (c.deref_mut.ensures.value ∙ c.into_frame-frame.ensures)) in
    let Start : State → Type 0 = λ s. RunsFrom {F = g.row.P-Fault.Denot} g.P.Placer.placed g.P.KnowingPlacer.told (g.I.Inputs.contents c.parts.ins) s c.parts.placer (Ok turned.Leaves) (level_of c.run_part.new.frame) (state_of c.run_part.new.self) c.run_part.new.placer (input_by g.I.Inputs.contents g.I.Inputs.rest g.I.Inputs.faults g.I.Inputs.missing g.I.Inputs.taken g.I.Inputs.history c.parts.ins) (input_by g.I.Inputs.contents g.I.Inputs.rest g.I.Inputs.faults g.I.Inputs.missing g.I.Inputs.taken g.I.Inputs.history c.run_part.new.ins) in
    let Later : Option Contents → Type 0 = λ told. RunsFrom {F = g.row.P-Fault.Denot} g.P.Placer.placed g.P.KnowingPlacer.told told (state_of c.parts.self) c.parts.placer (Ok turned.Leaves) (level_of c.run_part.new.frame) (state_of c.run_part.new.self) c.run_part.new.placer (input_by g.I.Inputs.contents g.I.Inputs.rest g.I.Inputs.faults g.I.Inputs.missing g.I.Inputs.taken g.I.Inputs.history c.parts.ins) (input_by g.I.Inputs.contents g.I.Inputs.rest g.I.Inputs.faults g.I.Inputs.missing g.I.Inputs.taken g.I.Inputs.history c.run_part.new.ins) in
    let Given : Turned → Type 0 = λ turned. RunsFrom {F = g.row.P-Fault.Denot} g.P.Placer.placed g.P.KnowingPlacer.told (g.I.Inputs.contents c.parts.ins) (under (level_of c.deref_mut.result.now) (state_of c.take_part.new.self)) c.parts.placer (Ok turned) (level_of c.run_part.new.frame) (state_of c.run_part.new.self) c.run_part.new.placer (input_by g.I.Inputs.contents g.I.Inputs.rest g.I.Inputs.faults g.I.Inputs.missing g.I.Inputs.taken g.I.Inputs.history c.parts.ins) (input_by g.I.Inputs.contents g.I.Inputs.rest g.I.Inputs.faults g.I.Inputs.missing g.I.Inputs.taken g.I.Inputs.history c.run_part.new.ins) in
    let run = subst Given c.in-Ok-Leaves.field-0-is c.in-Ok-Leaves.ensures.run in
    let made = part_more g.P.Placer.placed g.P.KnowingPlacer.told (g.I.Inputs.contents c.args.ins.now) (state_of c.args.self.now) c.args.placer.now c.parts.invariant.done.0 (state_of c.parts.self) (state_of c.run_part.new.self) c.parts.placer c.run_part.new.placer (level_of c.run_part.new.frame) (Ok turned.Leaves) (input_by g.I.Inputs.contents g.I.Inputs.rest g.I.Inputs.faults g.I.Inputs.missing g.I.Inputs.taken g.I.Inputs.history c.args.ins.now) (input_by g.I.Inputs.contents g.I.Inputs.rest g.I.Inputs.faults g.I.Inputs.missing g.I.Inputs.taken g.I.Inputs.history c.parts.ins) (input_by g.I.Inputs.contents g.I.Inputs.rest g.I.Inputs.faults g.I.Inputs.missing g.I.Inputs.taken g.I.Inputs.history c.run_part.new.ins)
    c.parts.invariant.done.1 c.parts.invariant.read (subst Later c.parts.invariant.read.contents (subst Start (sym start) run)) in
    let At : State → Type 0 = λ s. Comes (steps g.P.Placer.placed g.P.KnowingPlacer.told (g.I.Inputs.contents c.args.ins.now) made.0 (state_of c.args.self.now) c.args.placer.now) (goes s c.run_part.new.placer) in
    let Names : List (List ℕ) → Type 0 = λ names. HasRead c.args.self.now.files names (input_by g.I.Inputs.contents g.I.Inputs.rest g.I.Inputs.faults g.I.Inputs.missing g.I.Inputs.taken g.I.Inputs.history c.args.ins.now) (input_by g.I.Inputs.contents g.I.Inputs.rest g.I.Inputs.faults g.I.Inputs.missing g.I.Inputs.taken g.I.Inputs.history c.run_part.new.ins) in
    record { done = (made.0, subst At refl made.1.comes); turns = search rules; read = subst Names refl made.1.uses }

pub returns-in-Err-clause-expands : goal.returns-in-Err-clause-expands
returns-in-Err-clause-expands g c =
    let start = c.in-Some.ensures.part ∙ ap (λ frame. under (level_of frame) (state_of c.take_part.new.self)) (sym (c.deref_mut.ensures.value ∙ c.into_frame-frame.ensures)) in
    let Start : State → Type 0 = λ s. RunsFrom {F = g.row.P-Fault.Denot} g.P.Placer.placed g.P.KnowingPlacer.told (g.I.Inputs.contents c.parts.ins) s c.parts.placer (Err c.in-Err.fault) (level_of c.run_part.new.frame) (state_of c.run_part.new.self) c.run_part.new.placer (input_by g.I.Inputs.contents g.I.Inputs.rest g.I.Inputs.faults g.I.Inputs.missing g.I.Inputs.taken g.I.Inputs.history c.parts.ins) (input_by g.I.Inputs.contents g.I.Inputs.rest g.I.Inputs.faults g.I.Inputs.missing g.I.Inputs.taken g.I.Inputs.history c.run_part.new.ins) in
    let Later : Option Contents → Type 0 = λ told. RunsFrom {F = g.row.P-Fault.Denot} g.P.Placer.placed g.P.KnowingPlacer.told told (state_of c.parts.self) c.parts.placer (Err c.in-Err.fault) (level_of c.run_part.new.frame) (state_of c.run_part.new.self) c.run_part.new.placer (input_by g.I.Inputs.contents g.I.Inputs.rest g.I.Inputs.faults g.I.Inputs.missing g.I.Inputs.taken g.I.Inputs.history c.parts.ins) (input_by g.I.Inputs.contents g.I.Inputs.rest g.I.Inputs.faults g.I.Inputs.missing g.I.Inputs.taken g.I.Inputs.history c.run_part.new.ins) in
    let run = c.in-Err.ensures.run in
    let made = part_more g.P.Placer.placed g.P.KnowingPlacer.told (g.I.Inputs.contents c.args.ins.now) (state_of c.args.self.now) c.args.placer.now c.parts.invariant.done.0 (state_of c.parts.self) (state_of c.run_part.new.self) c.parts.placer c.run_part.new.placer (level_of c.run_part.new.frame) (Err c.in-Err.fault) (input_by g.I.Inputs.contents g.I.Inputs.rest g.I.Inputs.faults g.I.Inputs.missing g.I.Inputs.taken g.I.Inputs.history c.args.ins.now) (input_by g.I.Inputs.contents g.I.Inputs.rest g.I.Inputs.faults g.I.Inputs.missing g.I.Inputs.taken g.I.Inputs.history c.parts.ins) (input_by g.I.Inputs.contents g.I.Inputs.rest g.I.Inputs.faults g.I.Inputs.missing g.I.Inputs.taken g.I.Inputs.history c.run_part.new.ins)
    c.parts.invariant.done.1 c.parts.invariant.read (subst Later c.parts.invariant.read.contents (subst Start (sym start) run)) in
    expand_fails g.P.Placer.placed g.P.KnowingPlacer.told (g.I.Inputs.contents c.args.ins.now) (state_of c.args.self.now) c.args.placer.now c.in-Err.fault (level_of c.run_part.new.frame) (state_of c.run_part.new.self) c.run_part.new.placer (input_by g.I.Inputs.contents g.I.Inputs.rest g.I.Inputs.faults g.I.Inputs.missing g.I.Inputs.taken g.I.Inputs.history c.args.ins.now) (input_by g.I.Inputs.contents g.I.Inputs.rest g.I.Inputs.faults g.I.Inputs.missing g.I.Inputs.taken g.I.Inputs.history c.run_part.new.ins) made

pub returns-clause-expands : goal.returns-clause-expands
returns-clause-expands g c =
    let Names : List (List ℕ) → Type 0 = λ names. Expands {F = g.row.P-Fault.Denot} g.P.Placer.placed g.P.KnowingPlacer.told (g.I.Inputs.contents c.args.ins.now) (state_of c.args.self.now) c.args.placer.now (Ok tt) names c.parts.placer (input_by g.I.Inputs.contents g.I.Inputs.rest g.I.Inputs.faults g.I.Inputs.missing g.I.Inputs.taken g.I.Inputs.history c.args.ins.now) (input_by g.I.Inputs.contents g.I.Inputs.rest g.I.Inputs.faults g.I.Inputs.missing g.I.Inputs.taken g.I.Inputs.history c.parts.ins) in
    subst Names (sym (ap (λ s. s.files) c.in_default.ensures.part.1))
    (expand_ends g.P.Placer.placed g.P.KnowingPlacer.told (g.I.Inputs.contents c.args.ins.now) (state_of c.args.self.now) c.args.placer.now c.parts.invariant.done.0 (state_of c.parts.self) c.parts.placer (input_by g.I.Inputs.contents g.I.Inputs.rest g.I.Inputs.faults g.I.Inputs.missing g.I.Inputs.taken g.I.Inputs.history c.args.ins.now) (input_by g.I.Inputs.contents g.I.Inputs.rest g.I.Inputs.faults g.I.Inputs.missing g.I.Inputs.taken g.I.Inputs.history c.parts.ins) c.parts.invariant.done.1 c.parts.invariant.read c.in_default.ensures.part.0)

pub put_part-requires : goal.put_part-requires
put_part-requires g c =
    let frame = c.deref_mut.ensures.value ∙ c.into_frame-frame.ensures in
    let Leaves : Turned → Type 0 = λ turned. KeepsFew {E = ExpandFault g.row.P-Fault.Denot} (level_of c.deref_mut.result.now) (state_of c.take_part.new.self) (Ok turned) (level_of c.run_part.new.frame) (state_of c.run_part.new.self) in
    let before = subst (λ part. AreFew (level_of part ∷ (state_of c.take_part.new.self).levels)) (sym frame) c.in-Some.ensures.few in
    let after = subst Leaves c.in-Ok-Stays.field-0-is c.in-Ok-Stays.ensures.few before in
    subst (λ part. AreFew (level_of part ∷ (state_of c.run_part.new.self).levels)) (sym c.with_frame.ensures) after

pub enter-requires : goal.enter-requires
enter-requires g c =
    let frame = c.deref_mut.ensures.value ∙ c.into_frame-frame.ensures in
    let Leaves : Turned → Type 0 = λ turned. KeepsFew {E = ExpandFault g.row.P-Fault.Denot} (level_of c.deref_mut.result.now) (state_of c.take_part.new.self) (Ok turned) (level_of c.run_part.new.frame) (state_of c.run_part.new.self) in
    let before = subst (λ part. AreFew (level_of part ∷ (state_of c.take_part.new.self).levels)) (sym frame) c.in-Some.ensures.few in
    let after = subst Leaves c.in-Ok-Enters.field-0-is c.in-Ok-Enters.ensures.few before in
    subst (λ part. AreFew (level_of c.in-Ok-Enters.inner ∷ level_of part ∷ (state_of c.run_part.new.self).levels)) (sym c.with_frame-in-Ok-Enters.ensures) after

pub returns-in-Err-put_part-clause-expands : goal.returns-in-Err-put_part-clause-expands
returns-in-Err-put_part-clause-expands g c =
    let start = c.in-Some.ensures.part ∙ ap (λ frame. under (level_of frame) (state_of c.take_part.new.self)) (sym (c.deref_mut.ensures.value ∙ c.into_frame-frame.ensures)) in
    let Start : State → Type 0 = λ s. RunsFrom {F = g.row.P-Fault.Denot} g.P.Placer.placed g.P.KnowingPlacer.told (g.I.Inputs.contents c.parts.ins) s c.parts.placer (Ok turned.Stays) (level_of c.run_part.new.frame) (state_of c.run_part.new.self) c.run_part.new.placer (input_by g.I.Inputs.contents g.I.Inputs.rest g.I.Inputs.faults g.I.Inputs.missing g.I.Inputs.taken g.I.Inputs.history c.parts.ins) (input_by g.I.Inputs.contents g.I.Inputs.rest g.I.Inputs.faults g.I.Inputs.missing g.I.Inputs.taken g.I.Inputs.history c.run_part.new.ins) in
    let Later : Option Contents → Type 0 = λ told. RunsFrom {F = g.row.P-Fault.Denot} g.P.Placer.placed g.P.KnowingPlacer.told told (state_of c.parts.self) c.parts.placer (Ok turned.Stays) (level_of c.run_part.new.frame) (state_of c.run_part.new.self) c.run_part.new.placer (input_by g.I.Inputs.contents g.I.Inputs.rest g.I.Inputs.faults g.I.Inputs.missing g.I.Inputs.taken g.I.Inputs.history c.parts.ins) (input_by g.I.Inputs.contents g.I.Inputs.rest g.I.Inputs.faults g.I.Inputs.missing g.I.Inputs.taken g.I.Inputs.history c.run_part.new.ins) in
    let Given : Turned → Type 0 = λ turned. RunsFrom {F = g.row.P-Fault.Denot} g.P.Placer.placed g.P.KnowingPlacer.told (g.I.Inputs.contents c.parts.ins) (under (level_of c.deref_mut.result.now) (state_of c.take_part.new.self)) c.parts.placer (Ok turned) (level_of c.run_part.new.frame) (state_of c.run_part.new.self) c.run_part.new.placer (input_by g.I.Inputs.contents g.I.Inputs.rest g.I.Inputs.faults g.I.Inputs.missing g.I.Inputs.taken g.I.Inputs.history c.parts.ins) (input_by g.I.Inputs.contents g.I.Inputs.rest g.I.Inputs.faults g.I.Inputs.missing g.I.Inputs.taken g.I.Inputs.history c.run_part.new.ins) in
    let run = subst Given c.in-Ok-Stays.field-0-is c.in-Ok-Stays.ensures.run in
    let made = part_more g.P.Placer.placed g.P.KnowingPlacer.told (g.I.Inputs.contents c.args.ins.now) (state_of c.args.self.now) c.args.placer.now c.parts.invariant.done.0 (state_of c.parts.self) (state_of c.run_part.new.self) c.parts.placer c.run_part.new.placer (level_of c.run_part.new.frame) (Ok turned.Stays) (input_by g.I.Inputs.contents g.I.Inputs.rest g.I.Inputs.faults g.I.Inputs.missing g.I.Inputs.taken g.I.Inputs.history c.args.ins.now) (input_by g.I.Inputs.contents g.I.Inputs.rest g.I.Inputs.faults g.I.Inputs.missing g.I.Inputs.taken g.I.Inputs.history c.parts.ins) (input_by g.I.Inputs.contents g.I.Inputs.rest g.I.Inputs.faults g.I.Inputs.missing g.I.Inputs.taken g.I.Inputs.history c.run_part.new.ins)
    c.parts.invariant.done.1 c.parts.invariant.read (subst Later c.parts.invariant.read.contents (subst Start (sym start) run)) in
    expand_without g.P.Placer.placed g.P.KnowingPlacer.told (g.I.Inputs.contents c.args.ins.now) (state_of c.args.self.now) c.args.placer.now made.0 (under (level_of c.run_part.new.frame) (state_of c.run_part.new.self)) c.put_part.new.self.files c.run_part.new.placer c.run_part.new.placer (input_by g.I.Inputs.contents g.I.Inputs.rest g.I.Inputs.faults g.I.Inputs.missing g.I.Inputs.taken g.I.Inputs.history c.args.ins.now) (input_by g.I.Inputs.contents g.I.Inputs.rest g.I.Inputs.faults g.I.Inputs.missing g.I.Inputs.taken g.I.Inputs.history c.run_part.new.ins)
    made.1.comes made.1.uses c.put_part.ensures.files

pub returns-in-Err-enter-clause-expands : goal.returns-in-Err-enter-clause-expands
returns-in-Err-enter-clause-expands g c =
    let start = c.in-Some.ensures.part ∙ ap (λ frame. under (level_of frame) (state_of c.take_part.new.self)) (sym (c.deref_mut.ensures.value ∙ c.into_frame-frame.ensures)) in
    let Start : State → Type 0 = λ s. RunsFrom {F = g.row.P-Fault.Denot} g.P.Placer.placed g.P.KnowingPlacer.told (g.I.Inputs.contents c.parts.ins) s c.parts.placer (Ok (turned.Enters c.in-Ok-Enters.inner)) (level_of c.run_part.new.frame) (state_of c.run_part.new.self) c.run_part.new.placer (input_by g.I.Inputs.contents g.I.Inputs.rest g.I.Inputs.faults g.I.Inputs.missing g.I.Inputs.taken g.I.Inputs.history c.parts.ins) (input_by g.I.Inputs.contents g.I.Inputs.rest g.I.Inputs.faults g.I.Inputs.missing g.I.Inputs.taken g.I.Inputs.history c.run_part.new.ins) in
    let Later : Option Contents → Type 0 = λ told. RunsFrom {F = g.row.P-Fault.Denot} g.P.Placer.placed g.P.KnowingPlacer.told told (state_of c.parts.self) c.parts.placer (Ok (turned.Enters c.in-Ok-Enters.inner)) (level_of c.run_part.new.frame) (state_of c.run_part.new.self) c.run_part.new.placer (input_by g.I.Inputs.contents g.I.Inputs.rest g.I.Inputs.faults g.I.Inputs.missing g.I.Inputs.taken g.I.Inputs.history c.parts.ins) (input_by g.I.Inputs.contents g.I.Inputs.rest g.I.Inputs.faults g.I.Inputs.missing g.I.Inputs.taken g.I.Inputs.history c.run_part.new.ins) in
    let Given : Turned → Type 0 = λ turned. RunsFrom {F = g.row.P-Fault.Denot} g.P.Placer.placed g.P.KnowingPlacer.told (g.I.Inputs.contents c.parts.ins) (under (level_of c.deref_mut.result.now) (state_of c.take_part.new.self)) c.parts.placer (Ok turned) (level_of c.run_part.new.frame) (state_of c.run_part.new.self) c.run_part.new.placer (input_by g.I.Inputs.contents g.I.Inputs.rest g.I.Inputs.faults g.I.Inputs.missing g.I.Inputs.taken g.I.Inputs.history c.parts.ins) (input_by g.I.Inputs.contents g.I.Inputs.rest g.I.Inputs.faults g.I.Inputs.missing g.I.Inputs.taken g.I.Inputs.history c.run_part.new.ins) in
    let run = subst Given c.in-Ok-Enters.field-0-is c.in-Ok-Enters.ensures.run in
    let made = part_more g.P.Placer.placed g.P.KnowingPlacer.told (g.I.Inputs.contents c.args.ins.now) (state_of c.args.self.now) c.args.placer.now c.parts.invariant.done.0 (state_of c.parts.self) (state_of c.run_part.new.self) c.parts.placer c.run_part.new.placer (level_of c.run_part.new.frame) (Ok (turned.Enters c.in-Ok-Enters.inner)) (input_by g.I.Inputs.contents g.I.Inputs.rest g.I.Inputs.faults g.I.Inputs.missing g.I.Inputs.taken g.I.Inputs.history c.args.ins.now) (input_by g.I.Inputs.contents g.I.Inputs.rest g.I.Inputs.faults g.I.Inputs.missing g.I.Inputs.taken g.I.Inputs.history c.parts.ins) (input_by g.I.Inputs.contents g.I.Inputs.rest g.I.Inputs.faults g.I.Inputs.missing g.I.Inputs.taken g.I.Inputs.history c.run_part.new.ins)
    c.parts.invariant.done.1 c.parts.invariant.read (subst Later c.parts.invariant.read.contents (subst Start (sym start) run)) in
    expand_without g.P.Placer.placed g.P.KnowingPlacer.told (g.I.Inputs.contents c.args.ins.now) (state_of c.args.self.now) c.args.placer.now made.0 (under (level_of c.in-Ok-Enters.inner) (under (level_of c.run_part.new.frame) (state_of c.run_part.new.self))) c.enter.new.self.files c.run_part.new.placer c.run_part.new.placer (input_by g.I.Inputs.contents g.I.Inputs.rest g.I.Inputs.faults g.I.Inputs.missing g.I.Inputs.taken g.I.Inputs.history c.args.ins.now) (input_by g.I.Inputs.contents g.I.Inputs.rest g.I.Inputs.faults g.I.Inputs.missing g.I.Inputs.taken g.I.Inputs.history c.run_part.new.ins)
    made.1.comes made.1.uses c.enter.ensures.files
