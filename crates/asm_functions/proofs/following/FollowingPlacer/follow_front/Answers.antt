use Rattle.std.proofs.Common.{arith}
use Rattle.asm_functions.proofs.FrontLemmas.{no_labels}
use Rattle.asm_functions.proofs.following.FollowingPlacer.follow_front.Goals as goal

pub returns-then-tokens-eq0 : goal.returns-then-tokens-eq0
returns-then-tokens-eq0 c = let t = c.if-tokens-eq0.true in no_labels c.args.pos c.args.tokens.now c.args.self.now (omega arith)
