-- A row at its top needs no more.
use Rattle.std.proofs.Common.{arith}
use Rattle.asm_levels.proofs.TopLemmas.{needed-le}
use Rattle.asm_levels.proofs.rounds.level_taken.Goals as goal

pub returns-then-level-top-clause-level : goal.returns-then-level-top-clause-level
returns-then-level-top-clause-level g c = let within = needed-le c.args.shifts.now c.args.row.now.size in omega arith
