-- The names of the sums are symbols, and none of them is the place.
use Rattle.asm_values.specs.PlacedBy.{placed_by}
use Rattle.asm_values.specs.State.{here}
use Rattle.asm_values.proofs.PlainLemmas.{named_elsewhere}
use Rattle.asm_values.proofs.assemblers.Assembler.place_two_long.Goals as goal

pub put_two_long-requires-clause-one : goal.put_two_long-requires-clause-one
put_two_long-requires-clause-one c =
    named_elsewhere c.intern_two_long.new.self.symbols (here (placed_by c.args.self.now)) c.args.sum.now.front c.in_ok-naming.one.front c.in_ok-naming.ensures.one.front

pub put_two_long-requires-clause-other : goal.put_two_long-requires-clause-other
put_two_long-requires-clause-other c =
    named_elsewhere c.intern_two_long.new.self.symbols (here (placed_by c.args.self.now)) c.args.other.now.front c.in_ok-naming.another.front c.in_ok-naming.ensures.other.front
