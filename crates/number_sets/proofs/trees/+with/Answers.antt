use Rattle.std.proofs.lemmas.Result.{IfOk-weaker}
use Rattle.number_sets.specs.Trees.{IsShaped}
use Rattle.number_sets.proofs.TreeLemmas.{leaf_with, seen_word}
use Rattle.number_sets.proofs.trees.+with.Goals as goal

pub returns-then-width-le64-clause-shape : goal.returns-then-width-le64-clause-shape
returns-then-width-le64-clause-shape t c =
    let tree = c.args.tree.now.value in
    let width = c.args.width in
    let small = c.if-width-le64.true in
    IfOk-weaker c.leaf.result _ (λ x. IsShaped x.value width)
    (λ x h. h width small (leaf_with tree width c.args.k c.word_of.result c.with.result c.requires.shape small c.requires.within
    (seen_word tree c.deref.result.now width c.word_of.result c.deref.ensures c.requires.shape small c.word_of.ensures) c.with.ensures.others))
    c.leaf.ensures.shape
