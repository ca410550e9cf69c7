-- Few parts are open behind a call, as behind its definition.
use Rattle.std.proofs.Common.{map, Err, refl}
use Rattle.asm_base.specs.Tokens.{spelled}
use Rattle.macro_blocks.specs.Frames.{level_of}
use Rattle.asm_macro.specs.Turning.{state_of}
use Rattle.asm_macro.proofs.FilesGrow.{head_starts}
use Rattle.asm_macro.proofs.ShallowLists.{call_few, refused_few}
use Rattle.asm_macro.proofs.Wholes.{uses_none}
use Rattle.asm_macro.proofs.expander.Expander.rewrite.Goals as goal

pub returns-then-self-ge-MOST_GIVEN-clause-few : goal.returns-then-self-ge-MOST_GIVEN-clause-few
returns-then-self-ge-MOST_GIVEN-clause-few g c = λ few. refused_few _ _ (level_of c.args.frame.now) _ c.whole.ensures

pub returns-in-Call-clause-few : goal.returns-in-Call-clause-few
returns-in-Call-clause-few g c =
    call_few _ c.args.pos (map spelled c.in-Call.operands.now) (level_of c.args.frame.now) (level_of c.args.frame.now) _ _ _ _ c.whole-in-Call.ensures c.call.ensures.turn

pub returns-then-self-ge-MOST_GIVEN-clause-input : goal.returns-then-self-ge-MOST_GIVEN-clause-input
returns-then-self-ge-MOST_GIVEN-clause-input g c =
    uses_none (Err c.fault_at.result) c.whole.result _ c.args.self.now.files _ _ c.whole.ensures refl
    (head_starts (g.P.KnowingPlacer.told c.args.known.now) (g.I.Inputs.contents c.args.ins.now) c.args.head.now c.args.pos (level_of c.args.frame.now) (state_of c.args.self.now))

pub returns-in-Call-clause-input : goal.returns-in-Call-clause-input
returns-in-Call-clause-input g c =
    uses_none c.call.result c.whole-in-Call.result _ c.args.self.now.files _ _ c.whole-in-Call.ensures c.call.ensures.counts.files
    (head_starts (g.P.KnowingPlacer.told c.args.known.now) (g.I.Inputs.contents c.args.ins.now) c.args.head.now c.args.pos (level_of c.args.frame.now) (state_of c.args.self.now))
