-- Few parts are open behind a word, as behind its definition.
use Rattle.std.proofs.Common.{map, Err, refl}
use Rattle.asm_base.specs.Tokens.{spelled}
use Rattle.macro_blocks.specs.Frames.{level_of}
use Rattle.macro_words.specs.declared.words.Word.TheVariants as word
use Rattle.asm_macro.specs.Turning.{state_of}
use Rattle.asm_macro.proofs.FilesGrow.{word_starts}
use Rattle.asm_macro.proofs.ShallowLists.{refused_few, word_few}
use Rattle.asm_macro.proofs.Wholes.{uses_none}
use Rattle.asm_macro.proofs.expander.Expander.rewrite_word.Goals as goal

pub returns-in-If-clause-few : goal.returns-in-If-clause-few
returns-in-If-clause-few g c =
    word_few (g.P.KnowingPlacer.told c.args.known.now) (g.I.Inputs.contents c.args.ins.now) (word.If c.in-If.condition) c.args.pos (map spelled c.args.operands.now) (level_of c.args.frame.now) _ (state_of c.args.self.now) _ _ _ c.whole.ensures c.conditional.ensures

pub returns-in-ElseIf-clause-few : goal.returns-in-ElseIf-clause-few
returns-in-ElseIf-clause-few g c =
    word_few (g.P.KnowingPlacer.told c.args.known.now) (g.I.Inputs.contents c.args.ins.now) word.Else c.args.pos (map spelled c.args.operands.now) (level_of c.args.frame.now) _ (state_of c.args.self.now) _ _ _ c.whole-in-ElseIf.ensures c.branch_end.ensures

pub returns-in-EndIf-clause-few : goal.returns-in-EndIf-clause-few
returns-in-EndIf-clause-few g c =
    word_few (g.P.KnowingPlacer.told c.args.known.now) (g.I.Inputs.contents c.args.ins.now) word.EndIf c.args.pos (map spelled c.args.operands.now) (level_of c.args.frame.now) _ (state_of c.args.self.now) _ _ _ c.whole-in-EndIf.ensures c.conditional_end.ensures

pub returns-in-Repeat-clause-few : goal.returns-in-Repeat-clause-few
returns-in-Repeat-clause-few g c =
    word_few (g.P.KnowingPlacer.told c.args.known.now) (g.I.Inputs.contents c.args.ins.now) word.Repeat c.args.pos (map spelled c.args.operands.now) (level_of c.args.frame.now) _ (state_of c.args.self.now) _ _ _ c.whole-in-Repeat.ensures c.repeat.ensures

pub returns-in-EachValue-clause-few : goal.returns-in-EachValue-clause-few
returns-in-EachValue-clause-few g c =
    word_few (g.P.KnowingPlacer.told c.args.known.now) (g.I.Inputs.contents c.args.ins.now) word.EachValue c.args.pos (map spelled c.args.operands.now) (level_of c.args.frame.now) _ (state_of c.args.self.now) _ _ _ c.whole-in-EachValue.ensures c.each_value.ensures

pub returns-in-EachCharacter-clause-few : goal.returns-in-EachCharacter-clause-few
returns-in-EachCharacter-clause-few g c =
    word_few (g.P.KnowingPlacer.told c.args.known.now) (g.I.Inputs.contents c.args.ins.now) word.EachCharacter c.args.pos (map spelled c.args.operands.now) (level_of c.args.frame.now) _ (state_of c.args.self.now) _ _ _ c.whole-in-EachCharacter.ensures c.each_character.ensures

pub returns-in-Macro-clause-few : goal.returns-in-Macro-clause-few
returns-in-Macro-clause-few g c =
    word_few (g.P.KnowingPlacer.told c.args.known.now) (g.I.Inputs.contents c.args.ins.now) word.Macro c.args.pos (map spelled c.args.operands.now) (level_of c.args.frame.now) _ (state_of c.args.self.now) _ _ _ c.whole-in-Macro.ensures c.define.ensures.turn

pub returns-in-ExitMacro-clause-few : goal.returns-in-ExitMacro-clause-few
returns-in-ExitMacro-clause-few g c =
    word_few (g.P.KnowingPlacer.told c.args.known.now) (g.I.Inputs.contents c.args.ins.now) word.ExitMacro c.args.pos (map spelled c.args.operands.now) (level_of c.args.frame.now) _ (state_of c.args.self.now) _ _ _ c.whole-in-ExitMacro.ensures c.exit.ensures.turn

pub returns-in-Purge-clause-few : goal.returns-in-Purge-clause-few
returns-in-Purge-clause-few g c =
    word_few (g.P.KnowingPlacer.told c.args.known.now) (g.I.Inputs.contents c.args.ins.now) word.Purge c.args.pos (map spelled c.args.operands.now) (level_of c.args.frame.now) _ (state_of c.args.self.now) _ _ _ c.whole-in-Purge.ensures c.purge.ensures.turn

pub returns-in-EndRepeat-clause-few : goal.returns-in-EndRepeat-clause-few
returns-in-EndRepeat-clause-few g c = λ few. refused_few c.fault_at.result c.whole-in-EndRepeat.result (level_of c.args.frame.now) _ c.whole-in-EndRepeat.ensures

pub returns-in-If-clause-input : goal.returns-in-If-clause-input
returns-in-If-clause-input g c =
    uses_none c.conditional.result c.whole.result _ c.args.self.now.files _ _ c.whole.ensures refl
    (word_starts (g.P.KnowingPlacer.told c.args.known.now) (g.I.Inputs.contents c.args.ins.now) c.args.word c.args.pos (map spelled c.args.operands.now) (level_of c.args.frame.now) (state_of c.args.self.now))

pub returns-in-ElseIf-clause-input : goal.returns-in-ElseIf-clause-input
returns-in-ElseIf-clause-input g c =
    uses_none c.branch_end.result c.whole-in-ElseIf.result _ c.args.self.now.files _ _ c.whole-in-ElseIf.ensures refl
    (word_starts (g.P.KnowingPlacer.told c.args.known.now) (g.I.Inputs.contents c.args.ins.now) c.args.word c.args.pos (map spelled c.args.operands.now) (level_of c.args.frame.now) (state_of c.args.self.now))

pub returns-in-EndIf-clause-input : goal.returns-in-EndIf-clause-input
returns-in-EndIf-clause-input g c =
    uses_none c.conditional_end.result c.whole-in-EndIf.result _ c.args.self.now.files _ _ c.whole-in-EndIf.ensures refl
    (word_starts (g.P.KnowingPlacer.told c.args.known.now) (g.I.Inputs.contents c.args.ins.now) c.args.word c.args.pos (map spelled c.args.operands.now) (level_of c.args.frame.now) (state_of c.args.self.now))

pub returns-in-Repeat-clause-input : goal.returns-in-Repeat-clause-input
returns-in-Repeat-clause-input g c =
    uses_none c.repeat.result c.whole-in-Repeat.result _ c.args.self.now.files _ _ c.whole-in-Repeat.ensures refl
    (word_starts (g.P.KnowingPlacer.told c.args.known.now) (g.I.Inputs.contents c.args.ins.now) c.args.word c.args.pos (map spelled c.args.operands.now) (level_of c.args.frame.now) (state_of c.args.self.now))

pub returns-in-EachValue-clause-input : goal.returns-in-EachValue-clause-input
returns-in-EachValue-clause-input g c =
    uses_none c.each_value.result c.whole-in-EachValue.result _ c.args.self.now.files _ _ c.whole-in-EachValue.ensures refl
    (word_starts (g.P.KnowingPlacer.told c.args.known.now) (g.I.Inputs.contents c.args.ins.now) c.args.word c.args.pos (map spelled c.args.operands.now) (level_of c.args.frame.now) (state_of c.args.self.now))

pub returns-in-EachCharacter-clause-input : goal.returns-in-EachCharacter-clause-input
returns-in-EachCharacter-clause-input g c =
    uses_none c.each_character.result c.whole-in-EachCharacter.result _ c.args.self.now.files _ _ c.whole-in-EachCharacter.ensures refl
    (word_starts (g.P.KnowingPlacer.told c.args.known.now) (g.I.Inputs.contents c.args.ins.now) c.args.word c.args.pos (map spelled c.args.operands.now) (level_of c.args.frame.now) (state_of c.args.self.now))

pub returns-in-Macro-clause-input : goal.returns-in-Macro-clause-input
returns-in-Macro-clause-input g c =
    uses_none c.define.result c.whole-in-Macro.result _ c.args.self.now.files _ _ c.whole-in-Macro.ensures c.define.ensures.counts.files
    (word_starts (g.P.KnowingPlacer.told c.args.known.now) (g.I.Inputs.contents c.args.ins.now) c.args.word c.args.pos (map spelled c.args.operands.now) (level_of c.args.frame.now) (state_of c.args.self.now))

pub returns-in-ExitMacro-clause-input : goal.returns-in-ExitMacro-clause-input
returns-in-ExitMacro-clause-input g c =
    uses_none c.exit.result c.whole-in-ExitMacro.result _ c.args.self.now.files _ _ c.whole-in-ExitMacro.ensures c.exit.ensures.counts.files
    (word_starts (g.P.KnowingPlacer.told c.args.known.now) (g.I.Inputs.contents c.args.ins.now) c.args.word c.args.pos (map spelled c.args.operands.now) (level_of c.args.frame.now) (state_of c.args.self.now))

pub returns-in-Purge-clause-input : goal.returns-in-Purge-clause-input
returns-in-Purge-clause-input g c =
    uses_none c.purge.result c.whole-in-Purge.result _ c.args.self.now.files _ _ c.whole-in-Purge.ensures c.purge.ensures.counts.files
    (word_starts (g.P.KnowingPlacer.told c.args.known.now) (g.I.Inputs.contents c.args.ins.now) c.args.word c.args.pos (map spelled c.args.operands.now) (level_of c.args.frame.now) (state_of c.args.self.now))

pub returns-in-EndRepeat-clause-input : goal.returns-in-EndRepeat-clause-input
returns-in-EndRepeat-clause-input g c =
    uses_none (Err c.fault_at.result) c.whole-in-EndRepeat.result _ c.args.self.now.files _ _ c.whole-in-EndRepeat.ensures refl
    (word_starts (g.P.KnowingPlacer.told c.args.known.now) (g.I.Inputs.contents c.args.ins.now) c.args.word c.args.pos (map spelled c.args.operands.now) (level_of c.args.frame.now) (state_of c.args.self.now))
