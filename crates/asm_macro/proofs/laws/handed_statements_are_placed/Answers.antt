-- Turn by turn.
use Rattle.asm_macro.specs.Expansion.{started}
use Rattle.asm_macro.proofs.Handed.{handed_are_placed}
use Rattle.asm_macro.proofs.laws.handed_statements_are_placed.Goals as goal

pub returns : goal.returns
returns g c known files statements contents placer n names whole is = handed_are_placed g.P.Placer.placed known contents n (started files statements) placer names whole is
