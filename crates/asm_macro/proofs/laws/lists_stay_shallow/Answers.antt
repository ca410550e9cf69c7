-- Each turn keeps the parts few.
use Rattle.asm_macro.proofs.ShallowLists.{stay_shallow}
use Rattle.asm_macro.proofs.laws.lists_stay_shallow.Goals as goal

pub returns : goal.returns
returns g c known files statements contents placer = stay_shallow g.P.Placer.placed known contents files statements placer
