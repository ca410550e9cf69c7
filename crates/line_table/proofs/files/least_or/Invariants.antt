-- None is given so far.
use Rattle.std.proofs.Common.{◌≡◌, drop}
use Rattle.line_table.specs.Header.{least}
use Rattle.line_table.proofs.files.least_or.Given as goal

abbrev pub invariant-loop-found : goal.invariant-loop-found
invariant-loop-found l = least (drop l.found-index l.files) ≡ least l.files
