-- The bytes of the only number are what the statement places.
use Rattle.std.proofs.Common.{map, subst}
use Rattle.asm_base.specs.Refusals.{Gives}
use Rattle.asm_base.specs.Tokens.{spelled}
use Rattle.asm_values.specs.PlacedBy.{placed_by}
use Rattle.asm_items.proofs.ReadNumbers.{number_placed}
use Rattle.asm_items.proofs.leb128_numbers.place_leb128.Goals as goal

pub returns-in-Some-clause-placed : goal.returns-in-Some-clause-placed
returns-in-Some-clause-placed c =
    subst (Gives (placed_by c.put_constant.new.assembler) c.put_constant.result)
    (number_placed c.no_name_is_allowed.ensures c.args.pos c.args.signed (map spelled c.args.tokens.now) c.in-Some.value (placed_by c.args.assembler.now) c.in-Some.ensures)
    c.put_constant.ensures.placed
