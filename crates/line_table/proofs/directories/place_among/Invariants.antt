-- The place among what is left, behind what is counted, is that among all.
use Rattle.std.proofs.Common.{◌≡◌, ◌+◌, ◌≤◌, drop}
use Rattle.std.specs.List.{filter}
use Rattle.line_directives.specs.SourceFiles.{place_of}
use Rattle.line_table.specs.Header.{is_other}
use Rattle.line_table.proofs.directories.place_among.Given as goal

abbrev pub invariant-loop-other : goal.invariant-loop-other
invariant-loop-other l = record {
  place : l.place + place_of l.text (filter (is_other l.first) (drop l.other-index l.directories)) ≡ place_of l.text (filter (is_other l.first) l.directories);
  within : l.place ≤ l.other-index;
}
