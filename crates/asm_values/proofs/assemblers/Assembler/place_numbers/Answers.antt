-- The data that was found is what the operands make.
use Rattle.std.proofs.Common.{map, sym, subst}
use Rattle.asm_base.specs.Tokens.{spelled}
use Rattle.asm_base.specs.Refusals.{Gives}
use Rattle.asm_values.specs.ConstantData.{FindsData}
use Rattle.asm_values.specs.PlacedBy.{placed_by}
use Rattle.asm_values.proofs.ConstantDataLemmas.{constants_place}
use Rattle.asm_values.proofs.assemblers.Assembler.place_numbers.Goals as goal

pub returns-in-Some-clause-placed : goal.returns-in-Some-clause-placed
returns-in-Some-clause-placed c =
    subst (Gives (placed_by c.put_constants.new.self) c.put_constants.result)
    (sym (constants_place c.args.pos c.args.size c.constant_data.new.out.items c.in-Some.cut (map spelled c.args.tokens.now) (placed_by c.args.self.now)
    (subst (FindsData c.args.size (map spelled c.args.tokens.now) c.constant_data.new.out.items) c.in-Some.is c.in_ok-cut.ensures (placed_by c.args.self.now))))
    c.put_constants.ensures.placed
