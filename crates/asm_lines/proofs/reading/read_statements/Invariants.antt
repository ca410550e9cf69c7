-- The statements done, and then those of what is left, are those of the source, whose first fault is that of what is left.
use Rattle.std.proofs.Common.{◌≡◌, ◌≤◌, ◌+◌, ◌-◌, ◌++◌, length, map}
use Rattle.std.specs.List.{filter_map}
use Rattle.asm_base.specs.Dividing.{pieces_of}
use Rattle.asm_lines.specs.Intervals.{intervals_of}
use Rattle.asm_lines.specs.LineNumbers.{line_of}
use Rattle.asm_lines.specs.Faults.{first_long, first_open}
use Rattle.asm_lines.specs.Statements.{statement_in}
use Rattle.asm_lines.specs.Seen.{seen}
use Rattle.asm_lines.specs.Scan.{pieces_at}
use Rattle.asm_lines.proofs.reading.read_statements.Given as goal

abbrev pub invariant-loop-at : goal.invariant-loop-at
invariant-loop-at g l = record {
  line : l.line ≡ line_of l.source l.at;
  within : l.at ≤ length l.source;
  looks : l.steps ≤ l.fn.steps + l.at;
  unclosed : first_open l.source (pieces_at l.source l.at) ≡ first_open l.source (pieces_of l.source);
  long : first_long l.source (intervals_of (pieces_at l.source l.at)) ≡ first_long l.source (intervals_of (pieces_of l.source));
  statements : map seen l.items.items ++ filter_map (statement_in l.file l.source) (intervals_of (pieces_at l.source l.at)) ≡ filter_map (statement_in l.file l.source) (intervals_of (pieces_of l.source));
}

abbrev pub decreases-loop-at : goal.decreases-loop-at
decreases-loop-at g l = length l.source - l.at
