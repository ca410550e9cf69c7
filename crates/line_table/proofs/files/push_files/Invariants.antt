-- The rest is put behind what is put so far.
use Rattle.std.proofs.Common.{◌≡◌, ◌++◌, ℕ, List, drop, map}
use Rattle.line_rows.specs.Tables.{files_then}
use Rattle.line_table.specs.Header.{entry_or}
use Rattle.line_table.proofs.files.push_files.Given as goal

abbrev pub invariant-loop-found : goal.invariant-loop-found
invariant-loop-found l = (rest : List ℕ)
    → l.bytes.items ++ files_then (map (entry_or l.files l.least) (drop l.found-index l.files.by_number)) rest
    ≡ l.fn.bytes.items ++ files_then (map (entry_or l.files l.least) l.files.by_number) rest
