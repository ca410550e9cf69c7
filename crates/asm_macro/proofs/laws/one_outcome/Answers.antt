-- By the turns.
use Rattle.asm_macro.specs.Expansion.{started}
use Rattle.asm_macro.proofs.Turns.{one_result}
use Rattle.asm_macro.proofs.laws.one_outcome.Goals as goal

pub returns : goal.returns
returns g c known files statements contents placer n m = one_result g.P.Placer.placed known contents n m (started files statements) placer
