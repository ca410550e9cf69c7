-- The numbers that were found are the operands.
use Rattle.std.proofs.Common.{subst, map}
use Rattle.asm_base.specs.Tokens.{spelled}
use Rattle.asm_base.specs.Refusals.{Gives}
use Rattle.asm_values.specs.PlacedBy.{placed_by}
use Rattle.asm_values.proofs.ConstantOperandsLemmas.{skip_so}
use Rattle.asm_values.proofs.assemblers.Assembler.place_skip.Goals as goal

pub returns-in-Some-clause-placed : goal.returns-in-Some-clause-placed
returns-in-Some-clause-placed c =
    subst (Gives (placed_by c.put_space.new.self) c.put_space.result)
    (skip_so c.args.pos (map spelled c.args.tokens.now) _ c.in-Some.values (placed_by c.args.self.now) c.new.ensures _ c.unwrap_or.ensures c.in-Some.ensures)
    c.put_space.ensures.placed
