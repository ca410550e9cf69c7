-- How long it is so far, with what is left of the statement, is how long the statement is.
use Rattle.std.proofs.Common.{◌≡◌, ◌≤◌, ◌+◌, ◌-◌, length}
use Rattle.asm_lines.specs.Intervals.{without_space_after}
use Rattle.asm_lines.specs.LineNumbers.{line_of}
use Rattle.asm_lines.specs.Scan.{pieces_at, first_interval, later_pieces}
use Rattle.asm_lines.specs.StatementTokens.{all_close, own_behind}
use Rattle.asm_lines.proofs.passing.pass_statement.Given as goal

abbrev pub invariant-loop-at : goal.invariant-loop-at
invariant-loop-at g l = record {
  within : l.at ≤ length l.source;
  begins : l.begin + l.comments ≤ l.at;
  looks : l.begin + l.steps ≤ l.fn.steps + l.at;
  line : l.line ≡ line_of l.source l.at;
  later : later_pieces (pieces_at l.source l.at) ≡ later_pieces (pieces_at l.source l.begin);
  closed : all_close (first_interval (pieces_at l.source l.at)) ≡ all_close (first_interval (pieces_at l.source l.begin));
  owns : own_behind l.own (l.at - l.begin - l.comments) (without_space_after (first_interval (pieces_at l.source l.at))) ≡ own_behind 0 0 (without_space_after (first_interval (pieces_at l.source l.begin)));
}

abbrev pub decreases-loop-at : goal.decreases-loop-at
decreases-loop-at g l = length l.source - l.at
