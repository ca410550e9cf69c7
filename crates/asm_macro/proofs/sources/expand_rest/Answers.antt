-- Memory was refused before the list was looked at.
use Rattle.std.proofs.Common.{inl, refl, sym, ap, subst}
use Rattle.macro_blocks.specs.Frames.{level_of}
use Rattle.asm_macro.specs.Fronts.{plain, rest_at}
use Rattle.asm_macro.specs.OpenParts.{AreFew, levels_of}
use Rattle.asm_macro.proofs.ShallowLists.{one_file}
use Rattle.asm_macro.specs.Readings.{input_by}
use Rattle.asm_macro.proofs.Parts.{expand_without}
use Rattle.asm_macro.proofs.Runs.{steps_none}
use Rattle.asm_macro.proofs.Wholes.{read_none}
use Rattle.asm_macro.proofs.sources.expand_rest.Goals as goal

pub returns-in_default-clause-expands : goal.returns-in_default-clause-expands
returns-in_default-clause-expands g c =
    expand_without g.P.Placer.placed g.P.KnowingPlacer.told (g.I.Inputs.contents c.args.ins.now) (plain c.args.files.now c.args.given (rest_at c.args.text c.args.at)) c.args.placer.now 0 (plain c.args.files.now c.args.given (rest_at c.args.text c.args.at)) c.args.files.now c.args.placer.now c.args.placer.now (input_by g.I.Inputs.contents g.I.Inputs.rest g.I.Inputs.faults g.I.Inputs.missing g.I.Inputs.taken g.I.Inputs.history c.args.ins.now) (input_by g.I.Inputs.contents g.I.Inputs.rest g.I.Inputs.faults g.I.Inputs.missing g.I.Inputs.taken g.I.Inputs.history c.args.ins.now)
    (inl (steps_none g.P.Placer.placed g.P.KnowingPlacer.told (g.I.Inputs.contents c.args.ins.now) _ _)) (read_none c.args.files.now (input_by g.I.Inputs.contents g.I.Inputs.rest g.I.Inputs.faults g.I.Inputs.missing g.I.Inputs.taken g.I.Inputs.history c.args.ins.now)) refl

pub returns-in_default-alone-clause-expands : goal.returns-in_default-alone-clause-expands
returns-in_default-alone-clause-expands g c =
    expand_without g.P.Placer.placed g.P.KnowingPlacer.told (g.I.Inputs.contents c.args.ins.now) (plain c.args.files.now c.args.given (rest_at c.args.text c.args.at)) c.args.placer.now 0 (plain c.args.files.now c.args.given (rest_at c.args.text c.args.at)) c.args.files.now c.args.placer.now c.args.placer.now (input_by g.I.Inputs.contents g.I.Inputs.rest g.I.Inputs.faults g.I.Inputs.missing g.I.Inputs.taken g.I.Inputs.history c.args.ins.now) (input_by g.I.Inputs.contents g.I.Inputs.rest g.I.Inputs.faults g.I.Inputs.missing g.I.Inputs.taken g.I.Inputs.history c.args.ins.now)
    (inl (steps_none g.P.Placer.placed g.P.KnowingPlacer.told (g.I.Inputs.contents c.args.ins.now) _ _)) (read_none c.args.files.now (input_by g.I.Inputs.contents g.I.Inputs.rest g.I.Inputs.faults g.I.Inputs.missing g.I.Inputs.taken g.I.Inputs.history c.args.ins.now)) refl

pub invariant_of-expander-clause-few_parts : goal.invariant_of-expander-clause-few_parts
invariant_of-expander-clause-few_parts g c =
    let one = ap (λ frames. levels_of frames) c.in-Ok-alone.ensures in
    subst AreFew (sym one) (one_file (level_of c.file-file.result) (ap (λ level. level.ends) c.file-file.ensures.level))
