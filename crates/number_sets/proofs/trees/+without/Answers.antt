use Rattle.std.proofs.Common.{◌&&◌, not, nat_le, nat_lt}
use Rattle.std.proofs.lemmas.Result.{IfOk-weaker}
use Rattle.number_sets.specs.Trees.{IsShaped}
use Rattle.number_sets.proofs.TreeLemmas.{leaf_without, seen_word}
use Rattle.number_sets.proofs.trees.+without.Goals as goal

pub returns-then-width-le64-clause-shape : goal.returns-then-width-le64-clause-shape
returns-then-width-le64-clause-shape t c =
    let tree = c.args.tree.now.value in
    let width = c.args.width in
    let small = c.if-width-le64.true in
    IfOk-weaker c.leaf.result _ (λ x. IsShaped x.value width)
    (λ x h. h width small (leaf_without tree width c.word_of.result c.without_range.result (λ k. not (nat_le c.args.from k && nat_lt k c.args.to)) c.requires.shape small
    (seen_word tree c.deref-then-width-le64.result.now width c.word_of.result c.deref-then-width-le64.ensures c.requires.shape small c.word_of.ensures) c.without_range.ensures))
    c.leaf.ensures.shape
