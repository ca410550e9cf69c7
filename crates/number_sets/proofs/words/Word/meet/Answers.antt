use Rattle.std.proofs.Common.{◌≡◌, ◌≢◌, arith}
use Rattle.std.specs.Prelude.{bit_and}
use Rattle.std.proofs.lemmas.Bool.Decides.{nat_tests}
use Rattle.number_sets.proofs.BitLemmas.{met_word, met_less, within_word_alone}
use Rattle.number_sets.proofs.words.Word.meet.Goals as goal

pub returns-then-left-self-clause-both : goal.returns-then-left-self-clause-both
returns-then-left-self-clause-both c = λ k.
    let one = c.self.inside in
    let other = c.other.inside in
    let all : bit_and one.bits other.bits ≡ one.bits = grind (arith, nat_tests) in
    rw (← c.self.view_is, ← c.other.view_is) (within_word_alone one.bits other.bits k all)

pub returns-clause-both : goal.returns-clause-both
returns-clause-both c = λ k. rw (← c.self.view_is, ← c.other.view_is) (met_word c.self.inside.bits c.other.inside.bits k)

pub returns-clause-less : goal.returns-clause-less
returns-clause-less c = λ _.
    let one = c.self.inside in
    let other = c.other.inside in
    let ne : bit_and one.bits other.bits ≢ one.bits = grind (arith, nat_tests) in
    rw (← c.self.view_is) (met_less one.bits other.bits (omega arith) ne)
