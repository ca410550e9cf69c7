-- The text from its beginning on, and nothing behind it.
use Rattle.std.proofs.Common.{subst}
use Rattle.asm_lines.specs.NextStatements.{HasNoLineFault}
use Rattle.macro_blocks.specs.Frames.{level_of}
use Rattle.macro_blocks.proofs.MadeFrames.{made_call}
use Rattle.macro_blocks.proofs.frames.Frame.call.Goals as goal

pub returns : goal.returns
returns c =
    made_call c.args.pos c.args.text.value c.args.number c.none-each.result (level_of c.made.result) (subst (HasNoLineFault 0) c.deref.ensures c.in_ok-check_text.ensures) c.none-each.ensures.values c.none-each.ensures.next c.made.ensures
