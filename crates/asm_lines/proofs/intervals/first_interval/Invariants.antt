-- What is known so far, with the pieces that are left of the interval, is all that is known of it.
use Rattle.std.proofs.Common.{◌≡◌, ◌≤◌, ◌+◌, ◌-◌, length}
use Rattle.asm_lines.specs.LineNumbers.{line_of}
use Rattle.asm_lines.specs.Scan.{EndsBy, pieces_at, first_interval, later_pieces, scan_of, nothing_scanned}
use Rattle.asm_lines.proofs.intervals.first_interval.Given as goal

abbrev pub invariant-loop-first : goal.invariant-loop-first
invariant-loop-first g l = record {
  within : l.at ≤ length l.source;
  line : l.line ≡ line_of l.source l.at;
  scan : scan_of l.source l.scan (first_interval (pieces_at l.source l.at)) ≡ scan_of l.source nothing_scanned (first_interval (pieces_at l.source l.fn.from));
  later : later_pieces (pieces_at l.source l.at) ≡ later_pieces (pieces_at l.source l.fn.from);
  ends : EndsBy l.at l.scan.span;
  begins : l.fn.from ≤ l.at;
  looks : l.fn.from + l.steps ≤ l.fn.steps + l.at;
}

abbrev pub decreases-loop-first : goal.decreases-loop-first
decreases-loop-first g l = length l.initial.source - l.at
