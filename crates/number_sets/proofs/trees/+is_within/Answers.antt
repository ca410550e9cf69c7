use Rattle.std.proofs.Common.{◌/◌, ◌-◌, ◌<◌, arith}
use Rattle.number_sets.specs.Trees.{has_in}
use Rattle.number_sets.proofs.TreeLemmas.{beyond_low, beyond_high, beyond_words, seen_word}
use Rattle.number_sets.proofs.trees.+is_within.Goals as goal

pub returns-then-is_within-clause-beyond : goal.returns-then-is_within-clause-beyond
returns-then-is_within-clause-beyond t c = λ e.
    let w = c.args.width in
    let one = c.args.one.now.value in
    let other = c.args.other.now.value in
    let big : 64 < w = omega arith in
    beyond_high (has_in one w) (has_in other w) (has_in c.high_of.result.now.value (w - w / 2)) (has_in c.high_of-then-is_within.result.now.value (w - w / 2)) (w / 2) w (omega arith)
    (λ k l. c.high_of.ensures.each w k c.requires.one big l) (λ k l. c.high_of-then-is_within.ensures.each w k c.requires.other big l) (c.is_within-then-is_within.ensures.beyond e)

pub returns-else-is_within-clause-beyond : goal.returns-else-is_within-clause-beyond
returns-else-is_within-clause-beyond t c = λ e.
    let w = c.args.width in
    let one = c.args.one.now.value in
    let other = c.args.other.now.value in
    let big : 64 < w = omega arith in
    beyond_low (has_in one w) (has_in other w) (has_in c.low_of.result.now.value (w / 2)) (has_in c.low_of-2.result.now.value (w / 2)) (w / 2) w (omega arith)
    (λ k l. c.low_of.ensures.each w k c.requires.one big l) (λ k l. c.low_of-2.ensures.each w k c.requires.other big l) (c.is_within-2.ensures.beyond e)

pub returns-then-width-le64-clause-beyond : goal.returns-then-width-le64-clause-beyond
returns-then-width-le64-clause-beyond t c = λ e.
    let w = c.args.width in
    let one = c.args.one.now.value in
    let other = c.args.other.now.value in
    let small = c.if-width-le64.true in
    beyond_words one other w c.word_of.result c.word_of-then-width-le64.result c.requires.one small
    (seen_word one c.deref-then-width-le64.result.now w c.word_of.result c.deref-then-width-le64.ensures c.requires.one small c.word_of.ensures)
    (seen_word other c.deref-then-width-le64-2.result.now w c.word_of-then-width-le64.result c.deref-then-width-le64-2.ensures c.requires.other small c.word_of-then-width-le64.ensures)
    (c.is_within.ensures.beyond e)
