-- By where placing the front stopped.
use Rattle.std.proofs.Common.{ℕ, List, length, nat_lt, sym, ap, subst, ◌∙◌}
use Rattle.asm_base.specs.declared.refusals.Refusal.{Refusal}
use Rattle.asm_base.specs.declared.refusals.Refusal.TheVariants as refusal
use Rattle.asm_lines.specs.Faults.{nul_offset}
use Rattle.asm_macro.specs.declared.fronts.Stop.TheVariants as stop
use Rattle.asm_macro.specs.Fronts.{StopsAt}
use Rattle.asm_macro.specs.Readings.{input_by}
use Rattle.asm_macro.proofs.SourceSteps.{checked_fault, checked_source, source_ends, source_long, source_refused, source_rest, without_memory}
use Rattle.asm_macro.proofs.sources.expand_text.Goals as goal

pub returns-then-has_nul-clause-expanded : goal.returns-then-has_nul-clause-expanded
returns-then-has_nul-clause-expanded g c =
    let inside = ap (λ source. nat_lt (nul_offset source) (length source)) (sym c.as_bytes.ensures) ∙ sym c.has_nul.ensures ∙ c.if-has_nul.true in
    checked_source g.P.Placer.placed g.P.KnowingPlacer.told (g.I.Inputs.contents c.args.ins.now) c.args.text c.args.files.now c.args.placer.now c.check_lines.result c.args.placer.now (input_by g.I.Inputs.contents g.I.Inputs.rest g.I.Inputs.faults g.I.Inputs.missing g.I.Inputs.taken g.I.Inputs.history c.args.ins.now) (c.line_faults_are_found.ensures.nul 0 c.args.text inside) c.check_lines.ensures

pub returns-in-End-clause-expanded : goal.returns-in-End-clause-expanded
returns-in-End-clause-expanded g c =
    let none = ap (λ source. nat_lt (nul_offset source) (length source)) (sym c.as_bytes.ensures) ∙ sym c.has_nul.ensures ∙ c.if-has_nul.false in
    let Stops : List ℕ → Type 0 = λ source. StopsAt g.P.Placer.placed g.P.KnowingPlacer.told source c.args.placer.now c.place_front.new.placer stop.End in
    let stopped = subst Stops c.as_bytes-2.ensures c.in-End.ensures.stops in
    source_ends g.P.Placer.placed g.P.KnowingPlacer.told (g.I.Inputs.contents c.args.ins.now) c.args.text c.args.files.now c.args.placer.now stopped.0 c.place_front.new.placer (input_by g.I.Inputs.contents g.I.Inputs.rest g.I.Inputs.faults g.I.Inputs.missing g.I.Inputs.taken g.I.Inputs.history c.args.ins.now) (c.line_faults_are_found.ensures.clean 0 c.args.text none stopped.2) stopped.1

pub returns-in-Ok-clause-expanded : goal.returns-in-Ok-clause-expanded
returns-in-Ok-clause-expanded g c =
    let Refused : Refusal g.row.P-Fault.Denot → Type 0 = λ it. StopsAt g.P.Placer.placed g.P.KnowingPlacer.told c.as_bytes-2.result.now c.args.placer.now c.place_front.new.placer (stop.Refused it) in
    let Stops : List ℕ → Type 0 = λ source. StopsAt g.P.Placer.placed g.P.KnowingPlacer.told source c.args.placer.now c.place_front.new.placer (stop.Refused (refusal.Fault c.in-Refused-Fault.fault)) in
    let stopped = subst Stops c.as_bytes-2.ensures (subst Refused c.in-Refused-Fault.field-0-is c.in-Refused-Fault.ensures.stops) in
    source_refused g.P.Placer.placed g.P.KnowingPlacer.told (g.I.Inputs.contents c.args.ins.now) c.args.text c.args.files.now c.args.placer.now stopped.0 c.in-Refused-Fault.fault c.place_front.new.placer (input_by g.I.Inputs.contents g.I.Inputs.rest g.I.Inputs.faults g.I.Inputs.missing g.I.Inputs.taken g.I.Inputs.history c.args.ins.now) c.in-Ok.ensures stopped.1

pub returns-in-Ok-check_lines-clause-expanded : goal.returns-in-Ok-check_lines-clause-expanded
returns-in-Ok-check_lines-clause-expanded g c =
    let Stops : List ℕ → Type 0 = λ source. StopsAt g.P.Placer.placed g.P.KnowingPlacer.told source c.args.placer.now c.place_front.new.placer (stop.TooLong c.in-TooLong.line) in
    let stopped = subst Stops c.as_bytes-2.ensures c.in-TooLong.ensures.stops in
    source_long g.P.Placer.placed g.P.KnowingPlacer.told (g.I.Inputs.contents c.args.ins.now) c.args.text c.args.files.now c.args.placer.now stopped.0 c.in-TooLong.line c.place_front.new.placer (input_by g.I.Inputs.contents g.I.Inputs.rest g.I.Inputs.faults g.I.Inputs.missing g.I.Inputs.taken g.I.Inputs.history c.args.ins.now) c.in-Ok-check_lines.ensures stopped.1

pub returns-in-Ok-check_lines-2-clause-expanded : goal.returns-in-Ok-check_lines-2-clause-expanded
returns-in-Ok-check_lines-2-clause-expanded g c =
    let Stops : List ℕ → Type 0 = λ source. StopsAt g.P.Placer.placed g.P.KnowingPlacer.told source c.args.placer.now c.place_front.new.placer (stop.Word c.in-Word.at c.in-Word.line c.in-Word.given) in
    let stopped = subst Stops c.as_bytes-2.ensures c.in-Word.ensures.stops in
    source_rest g.P.Placer.placed g.P.KnowingPlacer.told (g.I.Inputs.contents c.args.ins.now) c.args.text c.args.files.now c.args.placer.now c.in-Word.at c.in-Word.line c.in-Word.given c.place_front.new.placer c.expand_rest.new.placer c.expand_rest.result c.expand_rest.new.files (input_by g.I.Inputs.contents g.I.Inputs.rest g.I.Inputs.faults g.I.Inputs.missing g.I.Inputs.taken g.I.Inputs.history c.args.ins.now) (input_by g.I.Inputs.contents g.I.Inputs.rest g.I.Inputs.faults g.I.Inputs.missing g.I.Inputs.taken g.I.Inputs.history c.expand_rest.new.ins) c.in-Ok-check_lines-2.ensures stopped c.expand_rest.ensures.expands

pub returns-in-Refused-Fault-clause-expanded : goal.returns-in-Refused-Fault-clause-expanded
returns-in-Refused-Fault-clause-expanded g c =
    checked_fault g.P.Placer.placed g.P.KnowingPlacer.told (g.I.Inputs.contents c.args.ins.now) c.args.text c.args.files.now c.args.placer.now c.in-Err.fault c.place_front.new.placer (input_by g.I.Inputs.contents g.I.Inputs.rest g.I.Inputs.faults g.I.Inputs.missing g.I.Inputs.taken g.I.Inputs.history c.args.ins.now) c.in-Err.ensures

pub returns-in-Faulty-clause-expanded : goal.returns-in-Faulty-clause-expanded
returns-in-Faulty-clause-expanded g c =
    let Stops : List ℕ → Type 0 = λ source. StopsAt g.P.Placer.placed g.P.KnowingPlacer.told source c.args.placer.now c.place_front.new.placer stop.Faulty in
    let faulty = subst Stops c.as_bytes-2.ensures c.in-Faulty.ensures.stops in
    checked_source g.P.Placer.placed g.P.KnowingPlacer.told (g.I.Inputs.contents c.args.ins.now) c.args.text c.args.files.now c.args.placer.now c.check_lines-in-Faulty.result c.place_front.new.placer (input_by g.I.Inputs.contents g.I.Inputs.rest g.I.Inputs.faults g.I.Inputs.missing g.I.Inputs.taken g.I.Inputs.history c.args.ins.now) (λ clean. faulty clean.faults) c.check_lines-in-Faulty.ensures

pub returns-in-TooLong-clause-expanded : goal.returns-in-TooLong-clause-expanded
returns-in-TooLong-clause-expanded g c =
    checked_fault g.P.Placer.placed g.P.KnowingPlacer.told (g.I.Inputs.contents c.args.ins.now) c.args.text c.args.files.now c.args.placer.now c.in-Err-check_lines.fault c.place_front.new.placer (input_by g.I.Inputs.contents g.I.Inputs.rest g.I.Inputs.faults g.I.Inputs.missing g.I.Inputs.taken g.I.Inputs.history c.args.ins.now) c.in-Err-check_lines.ensures

pub returns-in-NoMemory-clause-expanded : goal.returns-in-NoMemory-clause-expanded
returns-in-NoMemory-clause-expanded g c =
    without_memory g.P.Placer.placed g.P.KnowingPlacer.told (g.I.Inputs.contents c.args.ins.now) c.args.text c.args.files.now c.args.placer.now c.place_front.new.placer (input_by g.I.Inputs.contents g.I.Inputs.rest g.I.Inputs.faults g.I.Inputs.missing g.I.Inputs.taken g.I.Inputs.history c.args.ins.now)

pub returns-clause-expanded : goal.returns-clause-expanded
returns-clause-expanded g c =
    checked_fault g.P.Placer.placed g.P.KnowingPlacer.told (g.I.Inputs.contents c.args.ins.now) c.args.text c.args.files.now c.args.placer.now c.in-Err-check_lines-2.fault c.place_front.new.placer (input_by g.I.Inputs.contents g.I.Inputs.rest g.I.Inputs.faults g.I.Inputs.missing g.I.Inputs.taken g.I.Inputs.history c.args.ins.now) c.in-Err-check_lines-2.ensures
