-- The messages of a run, as the GNU assembler writes them.
use Rattle.std.specs.Prelude.{ℕ, List, [], ◌∷◌, ◌++◌, codes, flat_map}
use Rattle.std.specs.List.{slice_index_or}
use Rattle.std.specs.Fmt.{decimal}
use Rattle.asm_base.specs.FaultTexts.{fault_text, note_text}
use Rattle.asm_base.specs.declared.faults.Fault.{Fault}
use Rattle.asm_base.specs.declared.faults.Note.{Note}
use Rattle.asm_base.specs.declared.notes.Noted.{Noted}
use Rattle.asm_base.specs.declared.positions.Pos.{Pos}

-- the name of a file's number
abbrev pub name_of_file : List (List ℕ) → ℕ → List ℕ
name_of_file files file = slice_index_or files file []

-- `FILE:LINE: `
abbrev pub position_text : List (List ℕ) → Pos → List ℕ
position_text files pos = name_of_file files pos.file ++ codes ":" ++ decimal pos.line ++ codes ": "

-- `FILE: Assembler messages:`, which stands before the first message
abbrev pub heading : List (List ℕ) → Pos → List ℕ
heading files pos = name_of_file files pos.file ++ codes ": Assembler messages:\n"

-- `FILE:LINE: Error: TEXT` and a line end
abbrev pub error_line : List (List ℕ) → Fault → Pos → List ℕ
error_line files fault pos =
    position_text files pos ++ codes "Error: " ++ fault_text fault ++ codes "\n"

-- `FILE:LINE: Warning: TEXT` and a line end
abbrev pub warning_line : List (List ℕ) → Note → Pos → List ℕ
warning_line files note pos =
    position_text files pos ++ codes "Warning: " ++ note_text note ++ codes "\n"

-- the line of a note at its place
abbrev pub noted_line : List (List ℕ) → Noted → List ℕ
noted_line files noted = warning_line files noted.note noted.pos

-- what a run that succeeds says
abbrev pub remarks : List (List ℕ) → List Noted → List ℕ
remarks files [] = []
remarks files (first ∷ others) =
    heading files first.pos ++ flat_map (noted_line files) (first ∷ others)

-- what a run says that is refused for this fault
abbrev pub refusal : List (List ℕ) → List Noted → Fault → Pos → List ℕ
refusal files [] fault pos = heading files pos ++ error_line files fault pos
refusal files (first ∷ others) fault pos =
    heading files first.pos ++ flat_map (noted_line files) (first ∷ others)
    ++ error_line files fault pos
