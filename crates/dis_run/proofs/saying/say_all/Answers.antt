-- What was said before and the piece are a front of the text.
use Rattle.std.proofs.Common.{arith}
use Rattle.std.proofs.lemmas.Grind.{common_steps}
use Rattle.dis_run.proofs.SaidPieces.{said_on}
use Rattle.dis_run.proofs.saying.say_all.Goals as goal

pub pieces-preserved : goal.pieces-preserved
pieces-preserved g c = record {
  within = grind (arith, common_steps);
  said = said_on c.args.to c.args.text.now _ c.pieces.at c.in_ok-at.field-0 _ _ _ c.pieces.invariant.said c.in_ok-at.ensures.ok (grind (arith, common_steps));
  faults = grind (arith, common_steps);
}
