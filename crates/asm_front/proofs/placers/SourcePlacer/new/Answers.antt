use Rattle.std.proofs.Common.{sym, subst}
use Rattle.asm_front.specs.PlacerStates.{IsOrdered}
use Rattle.asm_front.proofs.OrderedStates.{first_ordered}
use Rattle.asm_front.proofs.placers.SourcePlacer.new.Goals as goal

pub invariant_of-result : goal.invariant_of-result
invariant_of-result c = subst IsOrdered (sym c.in-Ok.ensures) (first_ordered c.args.no_warn c.args.asked)
