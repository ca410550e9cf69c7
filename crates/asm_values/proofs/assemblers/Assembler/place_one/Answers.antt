-- The names of the sum are symbols, and none of them is the place.
use Rattle.asm_values.specs.PlacedBy.{placed_by}
use Rattle.asm_values.specs.State.{here}
use Rattle.asm_values.proofs.PlainLemmas.{named_elsewhere}
use Rattle.asm_values.proofs.assemblers.Assembler.place_one.Goals as goal

pub put_sum-requires : goal.put_sum-requires
put_sum-requires c =
    named_elsewhere c.intern_one.new.self.symbols (here (placed_by c.args.self.now)) c.args.sum.now c.in_ok-naming.named c.in_ok-naming.ensures.named
