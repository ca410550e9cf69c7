-- How many labels a frame table brings.
use Rattle.std.specs.Prelude.{ℕ, ◌+◌, ◌*◌, ◌≤◌, List, length, All, IsSome, IsSomeAnd, slice_get}
use Rattle.cfi_directives.specs.declared.frames.Frame.{Frame}
use Rattle.cfi_entries.specs.Written.{written}
use Rattle.table_pieces.specs.Pieces.{Tables, Takes}
use Rattle.eh_frame.specs.Placing.{table_put}

-- each instruction of the procedures can be encoded
abbrev pub AreWritten : List Frame → Type 0
AreWritten frames = All (λ frame. All (λ placed. IsSome (written placed.op)) frame.ops) frames

-- the map has at most two symbols more for each plain byte of the section of this number
abbrev pub BringsFew : ℕ → Tables → Tables → Type 0
BringsFew section before after =
    IsSomeAnd (slice_get after.sections section) (λ held. length after.symbols.symbols ≤ length before.symbols.symbols + 2 * length held.bytes)

-- so a frame table brings few labels
abbrev pub LabelsAreFew : Type 0
LabelsAreFew = (section : ℕ) (first : Frame) (frames : List Frame) (tables : Tables) → AreWritten frames → Takes section tables.sections
    → BringsFew section tables (table_put section first frames tables)
