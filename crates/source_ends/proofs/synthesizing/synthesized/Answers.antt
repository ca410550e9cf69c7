-- Functions that have ended are ready as before.
use Rattle.std.proofs.Common.{All, sym, subst}
use Rattle.asm_functions.specs.Following.{end_of}
use Rattle.source_ends.specs.Synthesis.{IsReady}
use Rattle.source_ends.proofs.FrameAnswers.{all_closed_ready}
use Rattle.source_ends.proofs.synthesizing.synthesized.Goals as goal

pub frames_of-requires : goal.frames_of-requires
frames_of-requires c =
    subst (All (IsReady c.args.sections.now)) (sym c.end_all.ensures)
    (all_closed_ready c.args.sections.now (end_of c.args.sections.now) c.args.functions c.requires)
