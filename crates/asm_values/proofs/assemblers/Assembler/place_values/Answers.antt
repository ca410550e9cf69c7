-- The number that was found is the one operand.
use Rattle.std.proofs.Common.{subst, map}
use Rattle.asm_base.specs.Tokens.{spelled}
use Rattle.asm_base.specs.Refusals.{Gives}
use Rattle.asm_values.specs.PlacedBy.{placed_by}
use Rattle.asm_values.proofs.ConstantDataLemmas.{lone_places}
use Rattle.asm_values.proofs.assemblers.Assembler.place_values.Goals as goal

pub returns-in-Some-clause-placed : goal.returns-in-Some-clause-placed
returns-in-Some-clause-placed c =
    subst (Gives (placed_by c.put_lone.new.self) c.put_lone.result)
    (lone_places c.args.pos c.args.size c.in-Some.value (map spelled c.args.tokens.now) (placed_by c.args.self.now) c.in-Some.ensures)
    c.put_lone.ensures.placed
