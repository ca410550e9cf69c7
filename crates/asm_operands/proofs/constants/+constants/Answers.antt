-- What is counted, step by step.
use Rattle.std.proofs.Common.{arith}
use Rattle.asm_operands.proofs.CutLemmas.{tight_finds, opened_counted, prefix_counted, left_begins, left_goes_on, expression_ends, still_byte}
use Rattle.asm_operands.proofs.constants.+constants.Goals as goal

pub operand-returns-then-ne : goal.operand-returns-then-ne
operand-returns-then-ne g t c = c.number_operand.ensures c.args.depth

pub tight_operand-returns-then-ne : goal.tight_operand-returns-then-ne
tight_operand-returns-then-ne g t c = c.lone_number.ensures c.args.depth

pub tight_operand-returns-then-opens : goal.tight_operand-returns-then-opens
tight_operand-returns-then-opens g t c = tight_finds (g.L.Leaves.worth c.args.leaves.now) c.args.tokens.now c.args.at c.args.depth _ c.closed_operand.ensures

pub closed_operand-returns : goal.closed_operand-returns
closed_operand-returns g t c =
    opened_counted (g.L.Leaves.worth c.args.leaves.now) c.args.tokens.now c.args.at c.expression.new.at c.args.depth c.in_ok-value.value c.level_at-level.result _ _ c.if-at-tokens.false c.if-not-opens.ensures
    (let low = c.if-depth-ge-MOST_OPEN.false in omega arith)
    c.in_ok-value.ensures.counted c.if-end-tokens.false c.if-not-closes.ensures c.level_at-level.ensures

pub turned_operand-returns : goal.turned_operand-returns
turned_operand-returns g t c =
    prefix_counted (g.L.Leaves.worth c.args.leaves.now) c.args.tokens.now c.args.at c.args.depth c.in_ok-op.op c.in_ok-inner.inner c.in_ok-value.value _ c.requires.tokens c.if-at-tokens.false c.in_ok-op.ensures
    (let low = c.if-depth-ge-MOST_OPEN.false in omega arith) c.in_ok-inner.ensures c.in_ok-value.ensures

pub expression-loop-left-init : goal.expression-loop-left-init
expression-loop-left-init g t c = left_begins (g.L.Leaves.worth c.args.leaves.now) c.args.tokens.now c.args.at.now c.args.level c.args.depth c.in_ok-left.left c.in_ok-left.ensures

pub expression-overflow_add-left-in-loop-left : goal.expression-overflow_add-left-in-loop-left
expression-overflow_add-left-in-loop-left g t c =
    let few = still_byte (g.L.Leaves.worth c.args.leaves.now) c.args.tokens.now c.args.at.now c.args.level c.args.depth c.loop-left.left c.loop-left.invariant in omega arith

pub expression-loop-left-preserved : goal.expression-loop-left-preserved
expression-loop-left-preserved g t c =
    left_goes_on (g.L.Leaves.worth c.args.leaves.now) c.args.tokens.now c.args.at.now c.args.level c.args.depth c.in_ok-value.value _ c.loop-left.left c.in_ok-right.right c.requires.tokens c.requires.level c.loop-left-test.true
    c.in_ok-value.ensures c.in_ok-right.ensures c.loop-left.invariant

pub expression-returns : goal.expression-returns
expression-returns g t c = expression_ends (g.L.Leaves.worth c.args.leaves.now) c.args.tokens.now c.args.at.now c.args.level c.args.depth c.loop-left.left c.loop-left-test.false c.loop-left.invariant
