-- What is read so far, with what is left of the statement, is the statement.
use Rattle.std.proofs.Common.{◌≡◌, ◌≤◌, ◌+◌, ◌-◌, ◌++◌, length, map, take, drop}
use Rattle.asm_base.specs.Tokens.{spelled}
use Rattle.asm_lines.specs.Intervals.{own_length, without_space_after}
use Rattle.asm_lines.specs.LineNumbers.{line_of}
use Rattle.asm_lines.specs.Scan.{pieces_at, first_interval, later_pieces}
use Rattle.asm_lines.specs.StatementTokens.{all_close, first_tokens_from}
use Rattle.asm_lines.proofs.statement_tokens.read_tokens.Given as goal

abbrev pub invariant-loop-at : goal.invariant-loop-at
invariant-loop-at g l = record {
  within : l.at ≤ length l.source;
  begins : l.begin + l.count ≤ l.at;
  room : l.count ≤ length l.slots;
  len : length l.slots ≡ length l.fn.slots;
  looks : l.fn.from + l.steps ≤ l.fn.steps + l.at;
  line : l.line ≡ line_of l.source l.at;
  tokens : map spelled (take l.count l.slots) ++ first_tokens_from 0 (l.at - l.begin) (drop l.at l.source) ≡ first_tokens_from 0 0 (drop l.begin l.source);
  later : later_pieces (pieces_at l.source l.at) ≡ later_pieces (pieces_at l.source l.begin);
  closed : all_close (first_interval (pieces_at l.source l.at)) ≡ all_close (first_interval (pieces_at l.source l.begin));
  short : l.begin + own_length (without_space_after (first_interval (pieces_at l.source l.begin))) ≤ l.at + own_length (without_space_after (first_interval (pieces_at l.source l.at)));
}

abbrev pub decreases-loop-at : goal.decreases-loop-at
decreases-loop-at g l = length l.source - l.at
