use Rattle.std.proofs.Common.{◌≡◌, ◌≢◌, arith, w64}
use Rattle.std.specs.Prelude.{bit_and}
use Rattle.std.specs.Int.{bit_not}
use Rattle.std.proofs.lemmas.Bool.Decides.{nat_tests}
use Rattle.number_sets.proofs.BitLemmas.{last_none, last_some}
use Rattle.number_sets.proofs.words.Word.last.Goals as goal

pub returns-then-kept-eq0 : goal.returns-then-kept-eq0
returns-then-kept-eq0 c =
    let none : bit_and (bit_and c.self.inside.bits c.ones_below.result) (bit_not w64 c.ones_below-2.result) ≡ 0 = grind (arith, nat_tests) in
    rw (← c.self.view_is) (last_none c.self.inside.bits c.ones_below-2.result c.ones_below.result c.args.from c.args.to (omega arith) c.ones_below-2.ensures c.ones_below.ensures none)

pub returns : goal.returns
returns c =
    let some : bit_and (bit_and c.self.inside.bits c.ones_below.result) (bit_not w64 c.ones_below-2.result) ≢ 0 = grind (arith, nat_tests) in
    rw (← c.self.view_is) (last_some c.self.inside.bits c.ones_below-2.result c.ones_below.result c.args.from c.args.to (omega arith) (omega arith) c.ones_below-2.ensures c.ones_below.ensures some)
