-- Forms that are found do not keep the place.
use Rattle.asm_values.specs.PlacedBy.{placed_by}
use Rattle.asm_values.specs.State.{known_here}
use Rattle.asm_values.proofs.LongSumLemmas.{made_free}
use Rattle.asm_values.proofs.assemblers.Assembler.put_two_long.Goals as goal

pub put_two_free-requires-clause-one : goal.put_two_free-requires-clause-one
put_two_free-requires-clause-one c =
    made_free c.args.self.now.table.symbols c.symbols-symbols.result.now (known_here (placed_by c.args.self.now)) c.args.named.now c.in-Some-Some.plain _ c.symbols-symbols.ensures c.requires.one
    c.in-Some-Some.ensures c.in_ok-first-in-Some-Some.ensures

pub put_two_free-requires-clause-other : goal.put_two_free-requires-clause-other
put_two_free-requires-clause-other c =
    made_free c.args.self.now.table.symbols c.symbols-symbols.result.now (known_here (placed_by c.args.self.now)) c.args.another.now c.in-Some-Some.other _ c.symbols-symbols.ensures c.requires.other
    c.in-Some-Some.ensures' c.in_ok-second-in-Some-Some.ensures
