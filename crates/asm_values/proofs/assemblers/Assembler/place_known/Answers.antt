-- The data that is known is what the operands make.
use Rattle.std.proofs.Common.{map, refl, sym, subst}
use Rattle.asm_base.specs.Tokens.{spelled}
use Rattle.asm_base.specs.Refusals.{Gives}
use Rattle.asm_values.specs.ConstantData.{FindsKnownData}
use Rattle.asm_values.specs.PlacedBy.{placed_by}
use Rattle.asm_values.proofs.ConstantDataLemmas.{constants_place}
use Rattle.asm_values.proofs.assemblers.Assembler.place_known.Goals as goal

pub returns-in-Some-clause-placed : goal.returns-in-Some-clause-placed
returns-in-Some-clause-placed c =
    subst (Gives (placed_by c.put_constants.new.self) c.put_constants.result)
    (sym (constants_place c.args.pos c.args.size c.known_data.new.out.items c.in-Some.cut (map spelled c.args.tokens.now) (placed_by c.args.self.now)
    (subst (FindsKnownData c.view_of-view.result c.args.size (map spelled c.args.tokens.now) c.known_data.new.out.items) c.in-Some.is c.in_ok-cut.ensures (placed_by c.args.self.now)
    (record { symbols = c.view_of-view.ensures.symbols; known = c.view_of-view.ensures.known }))))
    c.put_constants.ensures.placed
