-- The number is the size of the symbol of the name.
use Rattle.std.proofs.Common.{map, sym, subst}
use Rattle.asm_base.specs.Tokens.{spelled}
use Rattle.asm_base.specs.Refusals.{Gives}
use Rattle.asm_values.specs.PlacedBy.{placed_by}
use Rattle.asm_values.proofs.NamedNumberLemmas.{size_is}
use Rattle.asm_values.proofs.assemblers.Assembler.place_number_size.Goals as goal

pub returns-in-Some-clause-placed : goal.returns-in-Some-clause-placed
returns-in-Some-clause-placed c =
    subst (Gives (placed_by c.size_number.new.self) c.size_number.result)
    (sym (size_is c.args.pos _ (map spelled c.args.tokens.now) _ _ (placed_by c.args.self.now) c.in-Some.ensures c.begins_with_place.ensures))
    c.size_number.ensures.placed
