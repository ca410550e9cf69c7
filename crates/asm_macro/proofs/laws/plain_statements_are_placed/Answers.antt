-- Statement by statement.
use Rattle.std.proofs.Common.{arith}
use Rattle.asm_lines.specs.Placing.{placed_in_order}
use Rattle.asm_macro.proofs.Turns.{plain_steps}
use Rattle.asm_macro.proofs.laws.plain_statements_are_placed.Goals as goal

pub returns : goal.returns
unfolding placed_in_order
returns g c known files statements contents placer all few = plain_steps g.P.Placer.placed known contents files statements 0 placer all (omega (arith, few))
