-- The visitors and answers between the operands and the operator.
use Rattle.asm_expr.proofs.folding.+fold.Goals as goal

pub returns-in-Binary : goal.returns-in-Binary
returns-in-Binary g t c =
    let before = rw c.deref-in-Binary.ensures at c.fold-before.ensures in
    let behind = rw c.deref-in-Binary-2.ensures at c.fold-behind.ensures in
    rw c.in-Binary.is
    (c.fold-before.new.visitor, c.fold-behind.new.visitor, c.fold-before.result, c.fold-behind.result, before, behind, c.binary.ensures)
