use Rattle.std.proofs.Common.{◌≡◌, drop}
use Rattle.x86_encode.specs.Exchanges.{at_most}
use Rattle.x86_encode.proofs.making.at_most.Given as goal

abbrev pub invariant-loop-i : goal.invariant-loop-i
invariant-loop-i l = at_most l.fn.one l.fn.other ≡ at_most (drop l.i l.fn.one) (drop l.i l.fn.other)
