-- The words that the program has read.
use Rattle.std.specs.Prelude.{List, ℕ, Option, map}
use Rattle.asm_expr.specs.Trees.{tree_of}
use Rattle.asm_line_tables.specs.declared.reading.FilePaths.{FilePaths}
use Rattle.asm_line_tables.specs.declared.reading.LocExprs.{LocExprs}
use Rattle.asm_line_tables.specs.Words.{LocWords}

-- what a `.loc` says
abbrev pub loc_words_in : LocExprs → LocWords
loc_words_in words = record { marks = words.marks; kinds = words.kinds.items; trees = map tree_of words.exprs.items }

-- the directory and the name of a file
abbrev pub paths_in : FilePaths → Option (List ℕ) × List ℕ
paths_in paths = (paths.directory, paths.name)
