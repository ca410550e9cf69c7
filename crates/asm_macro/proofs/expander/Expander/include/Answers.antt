-- The line has no name of a file.
use Rattle.std.proofs.Common.{◌<◌, ◌∷◌, Err, map, refl, arith}
use Rattle.asm_base.specs.Tokens.{spelled}
use Rattle.std.specs.List.{count_by}
use Rattle.std.proofs.lemmas.Bool.Decides.{nat_tests}
use Rattle.macro_blocks.specs.Frames.{level_of}
use Rattle.macro_words.specs.declared.causes.MacroCause.TheVariants.{NestedTooDeeply}
use Rattle.asm_macro.specs.Expansion.{is_file_part}
use Rattle.asm_macro.specs.Turning.{state_of}
use Rattle.asm_macro.proofs.FilesGrow.{include_starts}
use Rattle.asm_macro.proofs.ShallowLists.{file_more_parts, refused_few}
use Rattle.asm_macro.specs.Readings.{input_by}
use Rattle.asm_macro.proofs.Wholes.{stopped_by, uses_none}
use Rattle.asm_macro.proofs.expander.Expander.include.Goals as goal

pub returns-in-Err-clause-input : goal.returns-in-Err-clause-input
returns-in-Err-clause-input g c =
    uses_none (Err c.standing.result) c.whole.result _ c.args.self.now.files c.args.self.now.files _ c.whole.ensures refl
    (include_starts (g.I.Inputs.contents c.args.ins.now) c.args.pos (map spelled c.args.operands.now) (level_of c.args.frame.now) (state_of c.args.self.now))

pub returns-in-Err-clause-few : goal.returns-in-Err-clause-few
returns-in-Err-clause-few g c = λ few. refused_few c.standing.result c.whole.result (level_of c.args.frame.now) _ c.whole.ensures

pub returns-clause-few : goal.returns-clause-few
returns-clause-few g c = λ few.
    let less : count_by is_file_part (level_of c.args.frame.now ∷ (state_of c.args.self.now).levels) < 32 = grind (arith, nat_tests) in
    file_more_parts c.read_file.result (level_of c.args.frame.now) (state_of c.args.self.now).levels (state_of c.read_file.new.self).levels c.read_file.ensures.file c.read_file.ensures.levels less few

pub returns-then-has_most_files-clause-input : goal.returns-then-has_most_files-clause-input
returns-then-has_most_files-clause-input g c =
    stopped_by NestedTooDeeply c.args.pos _ c.args.self.now.files (input_by g.I.Inputs.contents g.I.Inputs.rest g.I.Inputs.faults g.I.Inputs.missing g.I.Inputs.taken g.I.Inputs.history c.args.ins.now)
    (include_starts (g.I.Inputs.contents c.args.ins.now) c.args.pos (map spelled c.args.operands.now) (level_of c.args.frame.now) (state_of c.args.self.now))
    (λ large. absurd cc)
