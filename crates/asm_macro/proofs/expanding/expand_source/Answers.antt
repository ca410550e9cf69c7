-- Clause by clause.
use Rattle.asm_macro.specs.Readings.{input_by}
use Rattle.asm_macro.proofs.SourceLemmas.{outcome_clause, cause_clause, missing_clause, found_clause, contents_clause, history_clause, taken_clause, starts_clause, too_large_clause, whole_clause, started_clause}
use Rattle.asm_macro.proofs.expanding.expand_source.Goals as goal

pub returns-clause-outcome : goal.returns-clause-outcome
returns-clause-outcome g c = outcome_clause g.P.Placer.placed g.P.KnowingPlacer.told (g.I.Inputs.contents c.args.ins.now) c.args.text c.args.files.now c.args.placer.now c.expand_alone.result c.expand_alone.new.files c.expand_alone.new.placer (input_by g.I.Inputs.contents g.I.Inputs.rest g.I.Inputs.faults g.I.Inputs.missing g.I.Inputs.taken g.I.Inputs.history c.args.ins.now) (input_by g.I.Inputs.contents g.I.Inputs.rest g.I.Inputs.faults g.I.Inputs.missing g.I.Inputs.taken g.I.Inputs.history c.expand_alone.new.ins) c.expand_alone.ensures

pub returns-clause-cause : goal.returns-clause-cause
returns-clause-cause g c = cause_clause g.P.Placer.placed g.P.KnowingPlacer.told (g.I.Inputs.contents c.args.ins.now) c.args.text c.args.files.now c.args.placer.now c.expand_alone.result c.expand_alone.new.files c.expand_alone.new.placer (input_by g.I.Inputs.contents g.I.Inputs.rest g.I.Inputs.faults g.I.Inputs.missing g.I.Inputs.taken g.I.Inputs.history c.args.ins.now) (input_by g.I.Inputs.contents g.I.Inputs.rest g.I.Inputs.faults g.I.Inputs.missing g.I.Inputs.taken g.I.Inputs.history c.expand_alone.new.ins) c.expand_alone.ensures

pub returns-clause-missing : goal.returns-clause-missing
returns-clause-missing g c = missing_clause g.P.Placer.placed g.P.KnowingPlacer.told (g.I.Inputs.contents c.args.ins.now) c.args.text c.args.files.now c.args.placer.now c.expand_alone.result c.expand_alone.new.files c.expand_alone.new.placer (input_by g.I.Inputs.contents g.I.Inputs.rest g.I.Inputs.faults g.I.Inputs.missing g.I.Inputs.taken g.I.Inputs.history c.args.ins.now) (input_by g.I.Inputs.contents g.I.Inputs.rest g.I.Inputs.faults g.I.Inputs.missing g.I.Inputs.taken g.I.Inputs.history c.expand_alone.new.ins) c.expand_alone.ensures

pub returns-clause-found : goal.returns-clause-found
returns-clause-found g c = found_clause g.P.Placer.placed g.P.KnowingPlacer.told (g.I.Inputs.contents c.args.ins.now) c.args.text c.args.files.now c.args.placer.now c.expand_alone.result c.expand_alone.new.files c.expand_alone.new.placer (input_by g.I.Inputs.contents g.I.Inputs.rest g.I.Inputs.faults g.I.Inputs.missing g.I.Inputs.taken g.I.Inputs.history c.args.ins.now) (input_by g.I.Inputs.contents g.I.Inputs.rest g.I.Inputs.faults g.I.Inputs.missing g.I.Inputs.taken g.I.Inputs.history c.expand_alone.new.ins) c.expand_alone.ensures

pub returns-clause-contents : goal.returns-clause-contents
returns-clause-contents g c = contents_clause g.P.Placer.placed g.P.KnowingPlacer.told (g.I.Inputs.contents c.args.ins.now) c.args.text c.args.files.now c.args.placer.now c.expand_alone.result c.expand_alone.new.files c.expand_alone.new.placer (input_by g.I.Inputs.contents g.I.Inputs.rest g.I.Inputs.faults g.I.Inputs.missing g.I.Inputs.taken g.I.Inputs.history c.args.ins.now) (input_by g.I.Inputs.contents g.I.Inputs.rest g.I.Inputs.faults g.I.Inputs.missing g.I.Inputs.taken g.I.Inputs.history c.expand_alone.new.ins) c.expand_alone.ensures

pub returns-clause-history : goal.returns-clause-history
returns-clause-history g c = history_clause g.P.Placer.placed g.P.KnowingPlacer.told (g.I.Inputs.contents c.args.ins.now) c.args.text c.args.files.now c.args.placer.now c.expand_alone.result c.expand_alone.new.files c.expand_alone.new.placer (input_by g.I.Inputs.contents g.I.Inputs.rest g.I.Inputs.faults g.I.Inputs.missing g.I.Inputs.taken g.I.Inputs.history c.args.ins.now) (input_by g.I.Inputs.contents g.I.Inputs.rest g.I.Inputs.faults g.I.Inputs.missing g.I.Inputs.taken g.I.Inputs.history c.expand_alone.new.ins) c.requires c.expand_alone.ensures

pub returns-clause-taken : goal.returns-clause-taken
returns-clause-taken g c = taken_clause g.P.Placer.placed g.P.KnowingPlacer.told (g.I.Inputs.contents c.args.ins.now) c.args.text c.args.files.now c.args.placer.now c.expand_alone.result c.expand_alone.new.files c.expand_alone.new.placer (input_by g.I.Inputs.contents g.I.Inputs.rest g.I.Inputs.faults g.I.Inputs.missing g.I.Inputs.taken g.I.Inputs.history c.args.ins.now) (input_by g.I.Inputs.contents g.I.Inputs.rest g.I.Inputs.faults g.I.Inputs.missing g.I.Inputs.taken g.I.Inputs.history c.expand_alone.new.ins) c.requires c.expand_alone.ensures

pub returns-clause-starts : goal.returns-clause-starts
returns-clause-starts g c = starts_clause g.P.Placer.placed g.P.KnowingPlacer.told (g.I.Inputs.contents c.args.ins.now) c.args.text c.args.files.now c.args.placer.now c.expand_alone.result c.expand_alone.new.files c.expand_alone.new.placer (input_by g.I.Inputs.contents g.I.Inputs.rest g.I.Inputs.faults g.I.Inputs.missing g.I.Inputs.taken g.I.Inputs.history c.args.ins.now) (input_by g.I.Inputs.contents g.I.Inputs.rest g.I.Inputs.faults g.I.Inputs.missing g.I.Inputs.taken g.I.Inputs.history c.expand_alone.new.ins) c.requires c.expand_alone.ensures

pub returns-clause-too_large : goal.returns-clause-too_large
returns-clause-too_large g c = too_large_clause g.P.Placer.placed g.P.KnowingPlacer.told (g.I.Inputs.contents c.args.ins.now) c.args.text c.args.files.now c.args.placer.now c.expand_alone.result c.expand_alone.new.files c.expand_alone.new.placer (input_by g.I.Inputs.contents g.I.Inputs.rest g.I.Inputs.faults g.I.Inputs.missing g.I.Inputs.taken g.I.Inputs.history c.args.ins.now) (input_by g.I.Inputs.contents g.I.Inputs.rest g.I.Inputs.faults g.I.Inputs.missing g.I.Inputs.taken g.I.Inputs.history c.expand_alone.new.ins) c.expand_alone.ensures

pub returns-clause-whole : goal.returns-clause-whole
returns-clause-whole g c = whole_clause g.P.Placer.placed g.P.KnowingPlacer.told (g.I.Inputs.contents c.args.ins.now) c.args.text c.args.files.now c.args.placer.now c.expand_alone.result c.expand_alone.new.files c.expand_alone.new.placer (input_by g.I.Inputs.contents g.I.Inputs.rest g.I.Inputs.faults g.I.Inputs.missing g.I.Inputs.taken g.I.Inputs.history c.args.ins.now) (input_by g.I.Inputs.contents g.I.Inputs.rest g.I.Inputs.faults g.I.Inputs.missing g.I.Inputs.taken g.I.Inputs.history c.expand_alone.new.ins) c.expand_alone.ensures

pub returns-clause-started : goal.returns-clause-started
returns-clause-started g c = started_clause g.P.Placer.placed g.P.KnowingPlacer.told (g.I.Inputs.contents c.args.ins.now) c.args.text c.args.files.now c.args.placer.now c.expand_alone.result c.expand_alone.new.files c.expand_alone.new.placer (input_by g.I.Inputs.contents g.I.Inputs.rest g.I.Inputs.faults g.I.Inputs.missing g.I.Inputs.taken g.I.Inputs.history c.args.ins.now) (input_by g.I.Inputs.contents g.I.Inputs.rest g.I.Inputs.faults g.I.Inputs.missing g.I.Inputs.taken g.I.Inputs.history c.expand_alone.new.ins) c.requires c.expand_alone.ensures
