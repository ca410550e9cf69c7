use Rattle.std.proofs.Common.{◌∙◌, sym, arith}
use Rattle.x86_encode.proofs.Comparing.{other_ends}
use Rattle.x86_encode.proofs.making.at_most.Goals as goal

pub returns-then-i-other : goal.returns-then-i-other
returns-then-i-other c = sym (c.loop-i.invariant ∙ other_ends c.args.one.now c.args.other.now c.loop-i.i (omega arith) (omega arith))
