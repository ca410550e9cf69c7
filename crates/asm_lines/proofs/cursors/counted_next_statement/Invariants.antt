-- The statement is read up to an offset, and there is more room for tokens each time, and never as much as there are bytes.
use Rattle.std.proofs.Common.{◌≤◌, ◌+◌, ◌-◌, length}
use Rattle.asm_lines.specs.StatementTokens.{IsReadTo}
use Rattle.asm_lines.proofs.cursors.counted_next_statement.Given as goal

abbrev pub invariant-loop-next : goal.invariant-loop-next
invariant-loop-next g l = record {
  read : IsReadTo l.source l.begin l.tokens.items l.count l.at l.line;
  looks : l.fn.from + l.steps ≤ l.fn.steps + l.at + 1;
}

abbrev pub decreases-loop-next : goal.decreases-loop-next
decreases-loop-next g l = length l.source - length l.tokens.items
