-- No tokens make nothing.
use Rattle.std.proofs.Common.{arith}
use Rattle.std.proofs.lemmas.Bool.Decides.{nat_tests}
use Rattle.asm_values.proofs.ConstantDataLemmas.{nothing_made}
use Rattle.asm_values.proofs.constant_data.constant_data.Goals as goal

pub returns-then-is_empty : goal.returns-then-is_empty
returns-then-is_empty c = nothing_made c.args.size c.args.tokens.now _ (grind (arith, nat_tests, c.if-is_empty.ensures)) c.clear.ensures.items
