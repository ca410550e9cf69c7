-- What is said of the name that was found is said of the only operand.
use Rattle.std.proofs.Common.{subst, map}
use Rattle.asm_base.specs.Tokens.{spelled}
use Rattle.asm_base.specs.Refusals.{Gives}
use Rattle.asm_values.specs.PlacedBy.{placed_by}
use Rattle.asm_declarations.proofs.BareLemmas.{said_alone}
use Rattle.asm_declarations.proofs.symbol_words.place_said.Goals as goal

pub returns-in-Some-clause-placed : goal.returns-in-Some-clause-placed
returns-in-Some-clause-placed c =
    subst (Gives (placed_by c.say_name.new.assembler) c.say_name.result)
    (said_alone c.args.pos c.args.attribute (map spelled c.args.tokens.now) c.in-Some.name.now c.has_dot.result (placed_by c.args.assembler.now) c.in-Some.ensures c.has_dot.ensures)
    c.say_name.ensures.placed
