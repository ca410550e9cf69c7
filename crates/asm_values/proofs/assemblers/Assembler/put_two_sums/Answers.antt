-- Plain forms do not keep the place.
use Rattle.std.proofs.Common.{subst}
use Rattle.asm_uses.specs.PlainSums.{IsPlain}
use Rattle.asm_values.specs.PlacedBy.{placed_by}
use Rattle.asm_values.specs.State.{known_here}
use Rattle.asm_values.proofs.PlainLemmas.{plain_free}
use Rattle.asm_values.proofs.assemblers.Assembler.put_two_sums.Goals as goal

pub put_plain_two-requires-clause-one : goal.put_plain_two-requires-clause-one
put_plain_two-requires-clause-one c =
    plain_free c.args.self.now.table.symbols (known_here (placed_by c.args.self.now)) c.args.named.now c.requires.one c.in-Some-Some.plain
    (subst (λ map. IsPlain map c.args.named.now.first c.args.named.now.second c.in-Some-Some.plain) c.symbols-symbols.ensures c.in-Some-Some.ensures)

pub put_plain_two-requires-clause-other : goal.put_plain_two-requires-clause-other
put_plain_two-requires-clause-other c =
    plain_free c.args.self.now.table.symbols (known_here (placed_by c.args.self.now)) c.args.another.now c.requires.other c.in-Some-Some.other
    (subst (λ map. IsPlain map c.args.another.now.first c.args.another.now.second c.in-Some-Some.other) c.symbols-symbols.ensures c.in-Some-Some.ensures')
