-- A form that is found does not keep the place.
use Rattle.asm_values.specs.PlacedBy.{placed_by}
use Rattle.asm_values.specs.State.{known_here}
use Rattle.asm_values.proofs.LongSumLemmas.{made_free}
use Rattle.asm_values.proofs.assemblers.Assembler.put_long.Goals as goal

pub put_free-requires : goal.put_free-requires
put_free-requires c =
    made_free c.args.self.now.table.symbols c.symbols-symbols.result.now (known_here (placed_by c.args.self.now)) c.args.named.now c.in-Some.plain _ c.symbols-symbols.ensures c.requires
    c.in-Some.ensures c.in_ok-form-in-Some.ensures
