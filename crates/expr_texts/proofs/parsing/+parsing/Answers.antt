-- An operand and what follows it, each by the reading of the tokens from its index on.
use Rattle.std.proofs.Common.{◌+◌, get_or, Ok, refl, sym, ap, ◌∙◌, arith}
use Rattle.std.proofs.lemmas.Result.{err_from_is_err_and}
use Rattle.asm_base.specs.Tokens.{spelled}
use Rattle.asm_expr.specs.Trees.{tree_of, unary, binary}
use Rattle.asm_base.specs.Refusals.{◌>>=◌}
use Rattle.expr_texts.specs.Operators.{level_of}
use Rattle.expr_texts.specs.Leaves.{leaf_of}
use Rattle.expr_texts.specs.Reading.{Read, read, whole, closed, reading, reading_more}
use Rattle.expr_texts.specs.Found.{spelled_from, operand_in}
use Rattle.expr_texts.proofs.Fuel.{right_of}
use Rattle.expr_texts.proofs.LeafLemmas.{leaf_height}
use Rattle.expr_texts.proofs.Steps.{fails_after}
use Rattle.expr_texts.proofs.ParsingLemmas.{node_fails, node_done, reading_is, more_end, more_at, operand_end, opened_at, opened_deep, prefix_at, prefix_deep, leaf_at, finds_after, finds_node}
use Rattle.expr_texts.proofs.parsing.+parsing.Goals as goal

pub read_at-returns-in_err-left-clause-value : goal.read_at-returns-in_err-left-clause-value
read_at-returns-in_err-left-clause-value g t c =
    let p = err_from_is_err_and c.from_residual.result c.from_residual.ensures.1 in
    let tokens = spelled_from c.args.tokens.now c.args.at in
    rw (p.1, p.2)
    (fails_after c.in_err-left.field-0.0 (operand_in c.args.depth tokens) (λ left. reading_more c.args.level c.args.depth left.tree left.rest) (reading c.args.level c.args.depth tokens)
    (reading_is c.args.level c.args.depth tokens) c.in_err-left.ensures.value)

pub read_at-loop-op-init : goal.read_at-loop-op-init
read_at-loop-op-init g t c =
    let found = c.in_ok-left.ensures.value in
    let tokens = spelled_from c.args.tokens.now c.args.at in
    record {
      value = reading_is c.args.level c.args.depth tokens ∙ ap (λ (r : Read). r >>= (λ left. reading_more c.args.level c.args.depth left.tree left.rest)) found.value;
      low = found.low;
      later = found.later;
      within = found.within;
      by_tokens = c.in_ok-left.ensures.by_tokens;
    }

pub read_at-returns-in_err-right-clause-value : goal.read_at-returns-in_err-right-clause-value
read_at-returns-in_err-right-clause-value g t c =
    let p = err_from_is_err_and c.from_residual-in_err-right.result c.from_residual-in_err-right.ensures.1 in
    let level = c.level_of.ensures.value in
    let fails = rw level at c.in_err-right.ensures.value in
    let rest = spelled_from c.args.tokens.now (c.loop-op.left.next + 1) in
    let left = tree_of c.loop-op.left.expr in
    let step =
    c.loop-op.invariant.value
    ∙ more_at c.args.tokens.now c.loop-op.left.next c.args.level c.args.depth left c.in-Some.op (c.in-Some.ensures.within refl) c.in-Some.ensures.value in
    rw (p.1, p.2)
    (fails_after c.in_err-right.field-0.0 (right_of reading c.args.depth left rest c.in-Some.op) (λ joined. reading_more c.args.level c.args.depth joined.tree joined.rest)
    (reading c.args.level c.args.depth (spelled_from c.args.tokens.now c.args.at)) step
    (fails_after c.in_err-right.field-0.0 (reading (level_of c.in-Some.op + 1) c.args.depth rest) (λ right. whole (binary c.in-Some.op left right.tree) right.rest)
    (right_of reading c.args.depth left rest c.in-Some.op) refl fails))

pub read_at-returns-in_err-left-2-clause-value : goal.read_at-returns-in_err-left-2-clause-value
read_at-returns-in_err-left-2-clause-value g t c =
    let p = err_from_is_err_and c.from_residual-in_err-left-2.result c.from_residual-in_err-left-2.ensures.1 in
    let level = c.level_of.ensures.value in
    let found = rw level at c.in_ok-right.ensures.value in
    let rest = spelled_from c.args.tokens.now (c.loop-op.left.next + 1) in
    let left = tree_of c.loop-op.left.expr in
    let right = tree_of c.in_ok-right.right.expr in
    let behind = spelled_from c.args.tokens.now c.in_ok-right.right.next in
    let step =
    c.loop-op.invariant.value
    ∙ more_at c.args.tokens.now c.loop-op.left.next c.args.level c.args.depth left c.in-Some.op (c.in-Some.ensures.within refl) c.in-Some.ensures.value
    ∙ ap (λ (r : Read). r >>= (λ right. whole (binary c.in-Some.op left right.tree) right.rest) >>= (λ joined. reading_more c.args.level c.args.depth joined.tree joined.rest)) found.value in
    rw (p.1, p.2)
    (fails_after c.in_err-left-2.field-0.0 (whole (binary c.in-Some.op left right) behind) (λ joined. reading_more c.args.level c.args.depth joined.tree joined.rest)
    (reading c.args.level c.args.depth (spelled_from c.args.tokens.now c.args.at)) step
    (node_fails (binary c.in-Some.op left right) c.in_ok-right.right.next c.in_err-left-2.field-0.0 behind c.in_err-left-2.ensures))

pub read_at-loop-op-preserved : goal.read_at-loop-op-preserved
read_at-loop-op-preserved g t c =
    let level = c.level_of.ensures.value in
    let found = rw level at c.in_ok-right.ensures.value in
    let made = c.in_ok-left-2.ensures in
    let behind = made.next in
    let rest = spelled_from c.args.tokens.now (c.loop-op.left.next + 1) in
    let left = tree_of c.loop-op.left.expr in
    let later = found.later in
    let before = c.loop-op.invariant.later in
    let within = found.within in
    let paid = c.loop-op.invariant.by_tokens in
    let look = c.in-Some.ensures.one in
    let more = c.in_ok-right.ensures.by_tokens in
    record {
      value =
          c.loop-op.invariant.value
          ∙ more_at c.args.tokens.now c.loop-op.left.next c.args.level c.args.depth left c.in-Some.op (c.in-Some.ensures.within refl) c.in-Some.ensures.value
          ∙ ap (λ (r : Read). r >>= (λ right. whole (binary c.in-Some.op left right.tree) right.rest) >>= (λ joined. reading_more c.args.level c.args.depth joined.tree joined.rest)) found.value
          ∙ ap (λ (r : Read). r >>= (λ joined. reading_more c.args.level c.args.depth joined.tree joined.rest))
          (node_done c.args.tokens.now (binary c.in-Some.op left (tree_of c.in_ok-right.right.expr)) c.in_ok-right.right.next c.in_ok-left-2.left made);
      low = made.low;
      later = omega arith;
      within = omega arith;
      by_tokens = omega arith;
    }

pub read_at-returns-clause-value : goal.read_at-returns-clause-value
read_at-returns-clause-value g t c = record {
  value = c.loop-op.invariant.value ∙ more_end c.args.tokens.now c.loop-op.left.next c.args.level c.args.depth (tree_of c.loop-op.left.expr) c.in_default.ensures.value;
  low = c.loop-op.invariant.low;
  later = c.loop-op.invariant.later;
  within = c.loop-op.invariant.within;
}

pub read_operand-returns-then-at-tokens-clause-value : goal.read_operand-returns-then-at-tokens-clause-value
read_operand-returns-then-at-tokens-clause-value g t c = operand_end c.args.tokens.now c.args.at c.args.depth c.if-at-tokens.true

pub read_operand-returns-then-depth-ge-MOST_OPEN-clause-value : goal.read_operand-returns-then-depth-ge-MOST_OPEN-clause-value
read_operand-returns-then-depth-ge-MOST_OPEN-clause-value g t c = opened_deep c.args.tokens.now c.args.at c.args.depth _ c.if-at-tokens.false c.if-opens.ensures c.if-depth-ge-MOST_OPEN.true

pub read_operand-returns-in_err-inner-clause-value : goal.read_operand-returns-in_err-inner-clause-value
read_operand-returns-in_err-inner-clause-value g t c =
    let p = err_from_is_err_and c.from_residual.result c.from_residual.ensures.1 in
    let rest = spelled_from c.args.tokens.now (c.args.at + 1) in
    rw (p.1, p.2)
    (fails_after c.in_err-inner.field-0.0 (reading 1 (c.args.depth + 1) rest) closed (operand_in c.args.depth (spelled_from c.args.tokens.now c.args.at))
    (opened_at c.args.tokens.now c.args.at c.args.depth _ c.if-at-tokens.false c.if-opens.ensures c.if-depth-ge-MOST_OPEN.false) c.in_err-inner.ensures.value)

pub read_operand-returns-then-opens-clause-value : goal.read_operand-returns-then-opens-clause-value
read_operand-returns-then-opens-clause-value g t c =
    let found = c.in_ok-inner.ensures.value in
    let later = found.later in
    finds_after c.args.tokens.now c.args.at c.in_ok-inner.inner.next (operand_in c.args.depth (spelled_from c.args.tokens.now c.args.at))
    (closed (read (tree_of c.in_ok-inner.inner.expr) (spelled_from c.args.tokens.now c.in_ok-inner.inner.next))) c.closed.result
    (opened_at c.args.tokens.now c.args.at c.args.depth _ c.if-at-tokens.false c.if-opens.ensures c.if-depth-ge-MOST_OPEN.false
    ∙ ap (λ (r : Read). r >>= closed) found.value)
    (omega arith) c.closed.ensures.value

pub read_operand-returns-then-depth-ge-MOST_OPEN-2-clause-value : goal.read_operand-returns-then-depth-ge-MOST_OPEN-2-clause-value
read_operand-returns-then-depth-ge-MOST_OPEN-2-clause-value g t c =
    prefix_deep c.args.tokens.now c.args.at c.args.depth _ c.in-Some.op c.if-at-tokens.false c.if-opens.ensures c.in-Some.ensures c.if-depth-ge-MOST_OPEN-2.true

pub read_operand-returns-in_err-operand-in-Some-clause-value : goal.read_operand-returns-in_err-operand-in-Some-clause-value
read_operand-returns-in_err-operand-in-Some-clause-value g t c =
    let p = err_from_is_err_and c.from_residual-in_err-operand-in-Some.result c.from_residual-in_err-operand-in-Some.ensures.1 in
    let rest = spelled_from c.args.tokens.now (c.args.at + 1) in
    rw (p.1, p.2)
    (fails_after c.in_err-operand-in-Some.field-0.0 (reading 7 (c.args.depth + 1) rest) (λ operand. whole (unary c.in-Some.op operand.tree) operand.rest)
    (operand_in c.args.depth (spelled_from c.args.tokens.now c.args.at))
    (prefix_at c.args.tokens.now c.args.at c.args.depth _ c.in-Some.op c.if-at-tokens.false c.if-opens.ensures c.in-Some.ensures c.if-depth-ge-MOST_OPEN-2.false)
    c.in_err-operand-in-Some.ensures.value)

pub read_operand-returns-in_ok-operand-in-Some-clause-value : goal.read_operand-returns-in_ok-operand-in-Some-clause-value
read_operand-returns-in_ok-operand-in-Some-clause-value g t c =
    let found = c.in_ok-operand-in-Some.ensures.value in
    let later = found.later in
    let node = unary c.in-Some.op (tree_of c.in_ok-operand-in-Some.operand.expr) in
    finds_node c.args.tokens.now c.args.at c.in_ok-operand-in-Some.operand.next node (operand_in c.args.depth (spelled_from c.args.tokens.now c.args.at)) c.unary_node.result
    (prefix_at c.args.tokens.now c.args.at c.args.depth _ c.in-Some.op c.if-at-tokens.false c.if-opens.ensures c.in-Some.ensures c.if-depth-ge-MOST_OPEN-2.false
    ∙ ap (λ (r : Read). r >>= (λ operand. whole (unary c.in-Some.op operand.tree) operand.rest)) found.value)
    (omega arith) found.within c.unary_node.ensures

pub read_operand-returns-in_err-leaf_of-in-None-clause-value : goal.read_operand-returns-in_err-leaf_of-in-None-clause-value
read_operand-returns-in_err-leaf_of-in-None-clause-value g t c =
    let p = err_from_is_err_and c.from_residual-in_err-leaf_of-in-None.result c.from_residual-in_err-leaf_of-in-None.ensures.1 in
    let rest = spelled_from c.args.tokens.now (c.args.at + 1) in
    rw (p.1, p.2)
    (fails_after c.in_err-leaf_of-in-None.field-0.0 (leaf_of (spelled (get_or c.args.tokens.now c.args.at _))) (λ tree. Ok (read tree rest))
    (operand_in c.args.depth (spelled_from c.args.tokens.now c.args.at))
    (leaf_at c.args.tokens.now c.args.at c.args.depth _ c.if-at-tokens.false c.if-opens.ensures c.in-None.ensures) c.in_err-leaf_of-in-None.ensures)

pub read_operand-returns-in_ok-leaf_of-in-None-clause-value : goal.read_operand-returns-in_ok-leaf_of-in-None-clause-value
read_operand-returns-in_ok-leaf_of-in-None-clause-value g t c =
    let found = c.in_ok-leaf_of-in-None.ensures in
    let rest = spelled_from c.args.tokens.now (c.args.at + 1) in
    let low = leaf_height _ _ found in
    record {
      value =
          leaf_at c.args.tokens.now c.args.at c.args.depth _ c.if-at-tokens.false c.if-opens.ensures c.in-None.ensures
          ∙ ap (λ r. r >>= (λ tree. Ok (read tree rest))) found;
      low = record { height = sym low; low = omega arith };
      later = omega arith;
      within = let inside = c.if-at-tokens.false in omega arith;
    }
