use Rattle.std.proofs.Common.{refl}
use Rattle.stack_facts.specs.Places.{overlaps}
use Rattle.scfi_pass.specs.Worked.{AreWorkedDistances, AreWorkedFacts, AreWorkedRows}

-- the distances of the function that was worked out by hand
pub worked_distances : AreWorkedDistances
worked_distances = (refl, refl, refl, refl, refl, refl, refl, refl)

-- its facts
pub worked_facts : AreWorkedFacts
unfolding overlaps
worked_facts = (refl, refl, refl, refl, refl, refl)

-- its rows
pub worked_rows : AreWorkedRows
worked_rows = (refl, refl, refl, refl)
