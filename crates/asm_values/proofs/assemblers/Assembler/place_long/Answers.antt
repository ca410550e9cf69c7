-- The names of the sum are symbols, and none of them is the place.
use Rattle.asm_values.specs.PlacedBy.{placed_by}
use Rattle.asm_values.specs.State.{here}
use Rattle.asm_values.proofs.PlainLemmas.{named_elsewhere}
use Rattle.asm_values.proofs.assemblers.Assembler.place_long.Goals as goal

pub put_long-requires : goal.put_long-requires
put_long-requires c =
    named_elsewhere c.intern_one_long.new.self.symbols (here (placed_by c.args.self.now)) c.args.sum.now.front c.in_ok-naming.named.front c.in_ok-naming.ensures.named.front
