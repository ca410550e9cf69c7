-- The symbol of the name stands for the number.
use Rattle.std.proofs.Common.{map, sym, subst}
use Rattle.asm_base.specs.Tokens.{spelled}
use Rattle.asm_base.specs.Refusals.{Gives}
use Rattle.asm_values.specs.PlacedBy.{placed_by}
use Rattle.asm_values.proofs.NamedNumberLemmas.{set_so}
use Rattle.asm_values.proofs.assemblers.Assembler.place_number_set.Goals as goal

pub returns-in-Some-clause-placed : goal.returns-in-Some-clause-placed
returns-in-Some-clause-placed c =
    subst (Gives (placed_by c.assign_number.new.self) c.assign_number.result)
    (sym (set_so c.args.pos c.args.once (map spelled c.args.tokens.now) _ _ (placed_by c.args.self.now) c.in-Some.ensures))
    c.assign_number.ensures.placed
