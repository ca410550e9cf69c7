use Rattle.std.proofs.Common.{◌≡◌, drop}
use Rattle.eh_frame.specs.Commons.{same_terms}
use Rattle.eh_frame.proofs.commons.same_terms.Given as goal

abbrev pub invariant-loop-i : goal.invariant-loop-i
invariant-loop-i l = same_terms l.fn.one l.fn.other ≡ same_terms (drop l.i l.fn.one) (drop l.i l.fn.other)
