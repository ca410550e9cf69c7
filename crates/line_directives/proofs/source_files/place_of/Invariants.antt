use Rattle.std.proofs.Common.{◌≡◌, ◌+◌, drop}
use Rattle.line_directives.specs.SourceFiles.{place_of}
use Rattle.line_directives.proofs.source_files.place_of.Given as goal

abbrev pub invariant-loop-index : goal.invariant-loop-index
invariant-loop-index l = place_of l.directory l.directories ≡ l.index + place_of l.directory (drop l.index l.directories)
