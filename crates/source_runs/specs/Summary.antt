-- What is said of a source that the assembler makes by itself.
use Rattle.std.specs.Prelude.{ℕ, List, ◌++◌, Option, None, Some, codes, decimal}
use Rattle.source_ends.specs.declared.ending.Counts.{Counts}

-- a line: what is counted, a blank, and the number
abbrev pub summary_line : List ℕ → ℕ → List ℕ
summary_line label number = label ++ codes " " ++ decimal number ++ codes "\n"

-- the lines on the layout
unfoldable pub layout_lines : Counts → List ℕ
layout_lines counts =
    summary_line (codes "text bytes") counts.text_bytes ++ summary_line (codes "near jumps") counts.near_jumps ++ summary_line (codes "rounds") counts.rounds

-- the six lines on a source of which this is counted, with an object of so many bytes
unfoldable pub summary_text : Counts → (size : ℕ) → List ℕ
summary_text counts size =
    summary_line (codes "functions") counts.functions ++ layout_lines counts ++ summary_line (codes "frames") counts.frames
    ++ summary_line (codes "object bytes") size

-- the summary, where the source is made of a number of functions; of a file there is none
abbrev pub summary_by : (self_load : Option ℕ) → Counts → (size : ℕ) → Option (List ℕ)
summary_by None counts size = None
summary_by (Some functions) counts size = Some (summary_text counts size)
