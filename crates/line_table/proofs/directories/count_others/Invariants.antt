-- What is counted, with what is left, is all.
use Rattle.std.proofs.Common.{◌≡◌, ◌+◌, ◌≤◌, length, drop}
use Rattle.std.specs.List.{filter}
use Rattle.line_table.specs.Header.{is_other}
use Rattle.line_table.proofs.directories.count_others.Given as goal

abbrev pub invariant-loop-directory : goal.invariant-loop-directory
invariant-loop-directory l = record {
  count : l.count + length (filter (is_other l.first) (drop l.directory-index l.directories)) ≡ length (filter (is_other l.first) l.directories);
  within : l.count ≤ l.directory-index;
}
