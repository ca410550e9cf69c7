-- The first is among the rest.
use Rattle.std.proofs.Common.{◌≡◌, drop}
use Rattle.eh_frame.specs.Placing.{place_of}
use Rattle.eh_frame.specs.Progress.{commons_in}
use Rattle.eh_frame.proofs.placing.place_of.Given as goal

abbrev pub invariant-loop-common : goal.invariant-loop-common
invariant-loop-common l = place_of l.frame (commons_in l.commons) ≡ place_of l.frame (commons_in (drop l.common-index l.commons))
