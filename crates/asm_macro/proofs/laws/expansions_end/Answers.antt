-- By the measure.
use Rattle.asm_macro.proofs.Measures.{all_end}
use Rattle.asm_macro.proofs.laws.expansions_end.Goals as goal

pub returns : goal.returns
returns g c known files statements contents placer = all_end g.P.Placer.placed known contents files statements placer
