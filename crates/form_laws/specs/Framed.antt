-- What a frame table and a line table add to the symbols of a source.
use Rattle.std.specs.Prelude.{◌≡◌, Bool, List, Ok}
use Rattle.asm_lines.specs.NextStatements.{TokenStatement}
use Rattle.asm_values.specs.State.{Placed, nothing_placed}
use Rattle.asm_place.specs.Sources.{place_all}
use Rattle.cfi_directives.specs.declared.frames.Frame.{Frame}
use Rattle.table_pieces.specs.Pieces.{Tables, tables_of}
use Rattle.eh_frame.specs.Placing.{placed}
use Rattle.line_directives.specs.Taking.{LineTable}
use Rattle.line_table.specs.Placing as line_table
use Rattle.flow_graph.specs.AddedLabels.{AddsLabels, IsLabelled}

-- the table of any procedures adds labels alone, behind all symbols
abbrev pub TablesAddLabels : Type 0
TablesAddLabels = (frames : List Frame) (tables after : Tables) → placed frames tables ≡ Ok after
    → AddsLabels tables.symbols after.symbols

-- so does any line table
abbrev pub LinesAddLabels : Type 0
LinesAddLabels = (lines : LineTable) (tables after : Tables)
    → line_table.placed lines tables ≡ Ok after → AddsLabels tables.symbols after.symbols

-- so behind all that statements place both change no target
abbrev pub TablesKeepTargets : Type 0
TablesKeepTargets = (statements : List TokenStatement) (no_warn : Bool) (whole : Placed)
    (frames : List Frame) (framed after : Tables)
    → place_all statements (nothing_placed no_warn) ≡ Ok whole
    → placed frames (tables_of whole.table.symbols whole.sections) ≡ Ok framed
    → line_table.placed whole.lines framed ≡ Ok after
    → IsLabelled whole.table.symbols after.symbols
