-- The rest is put behind what is put so far.
use Rattle.std.proofs.Common.{◌≡◌, ◌++◌, ℕ, List, drop}
use Rattle.std.specs.List.{filter}
use Rattle.line_rows.specs.Tables.{paths_then}
use Rattle.line_table.specs.Header.{is_other}
use Rattle.line_table.proofs.header.push_others.Given as goal

abbrev pub invariant-loop-directory : goal.invariant-loop-directory
invariant-loop-directory l = (rest : List ℕ)
    → l.bytes.items ++ paths_then (filter (is_other l.first) (drop l.directory-index l.directories)) rest
    ≡ l.fn.bytes.items ++ paths_then (filter (is_other l.first) l.directories) rest
