-- A number that was found is that of the operand.
use Rattle.std.proofs.Common.{map}
use Rattle.asm_base.specs.Tokens.{spelled}
use Rattle.asm_values.specs.PlacedBy.{placed_by}
use Rattle.asm_values.specs.State.{known_here}
use Rattle.asm_frames.proofs.RegisterLemmas.{number_found}
use Rattle.asm_frames.proofs.operands.number_in.Goals as goal

pub returns-in-Some : goal.returns-in-Some
returns-in-Some c = number_found (known_here (placed_by c.args.assembler.now)) (map spelled c.args.operand.now) _ c.in-Some.ensures
