-- A plain form does not keep the place.
use Rattle.std.proofs.Common.{subst}
use Rattle.asm_uses.specs.PlainSums.{IsPlain}
use Rattle.asm_values.specs.PlacedBy.{placed_by}
use Rattle.asm_values.specs.State.{known_here}
use Rattle.asm_values.proofs.PlainLemmas.{plain_free}
use Rattle.asm_values.proofs.assemblers.Assembler.put_sum.Goals as goal

pub put_plain-requires : goal.put_plain-requires
put_plain-requires c =
    plain_free c.args.self.now.table.symbols (known_here (placed_by c.args.self.now)) c.args.named.now c.requires c.in-Some.plain
    (subst (λ map. IsPlain map c.args.named.now.first c.args.named.now.second c.in-Some.plain) c.symbols.ensures c.in-Some.ensures)
