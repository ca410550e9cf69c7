-- The functions up to here have ended.
use Rattle.std.proofs.Common.{◌≡◌}
use Rattle.code_functions.proofs.EndingLemmas.{closed_up_to}
use Rattle.code_functions.proofs.recording.Functions.end_all.Given as goal

abbrev pub invariant-loop-number : goal.invariant-loop-number
invariant-loop-number g l = l.self ≡ closed_up_to (g.E.SectionEnds.ends l.ends) l.number l.fn.self
