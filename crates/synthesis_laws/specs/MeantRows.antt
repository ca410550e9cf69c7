-- The rows that procedures with synthesized frame tables mean.
use Rattle.std.specs.Prelude.{◌≡◌, ◌<◌, ℕ, List, length, Some, slice_get}
use Rattle.asm_base.specs.declared.places.SectionPlace.{SectionPlace}
use Rattle.cfi_directives.specs.declared.frames.Frame.{Frame}
use Rattle.cfi_directives.specs.Meant.{stop_of, from_start, row_meant, KeepsOrder}
use Rattle.code_functions.specs.declared.items.CodeItem.{CodeItem}
use Rattle.code_functions.specs.Recorded.{Recorded}
use Rattle.flow_graph.specs.declared.nodes.Node.{Node}
use Rattle.scfi_pass.specs.declared.rows.StackRow.{StackRow}
use Rattle.scfi_pass.specs.declared.item_ops.ItemOp.{ItemOp}
use Rattle.scfi_pass.specs.Rows.{whole_row}
use Rattle.scfi_pass.specs.Tables.{Analyzed, AreRowsFrom, entry_row}
use Rattle.scfi_pass.specs.Synthesis.{Analyzes, IsTableOf}
use Rattle.synthesis_laws.specs.RowsInForce.{IsLastUpTo}
use Rattle.synthesis_laws.specs.TableFrames.{place_of, IsFrameOf, ItemsStand}

module _ (address : SectionPlace → ℕ) (f : Recorded CodeItem) (frame : Frame) where
  -- how far an item stands from the beginning of the procedure
  abbrev pub item_distance : ℕ → ℕ
  item_distance number = from_start address frame (place_of f number)

  -- so far from its beginning, and before its end, the procedure means the row of the last item up
  -- to there
  abbrev pub MeansItems : List StackRow → Type 0
  MeansItems rows = (at item : ℕ) (row : StackRow) → IsLastUpTo item_distance (length f.items) at item
      → slice_get rows item ≡ Some row → at < from_start address frame (stop_of frame)
      → row_meant address frame at ≡ Some (whole_row row)

  -- the rows of the items of an analyzed function, which the procedure means
  pub record MeansRows (nodes : List Node) (old new : ℕ) : Type 0 where
    pub function : Analyzed
    pub rows : List StackRow
    pub analyzes : Analyzes function f.items nodes old new
    pub are : AreRowsFrom function 0 entry_row rows
    pub meant : MeansItems rows

-- wherever places stand in their order, the procedure of a function with its frame table means at
-- each item the row of that item
abbrev pub TableFramesMeanRows : Type 0
TableFramesMeanRows = (address : SectionPlace → ℕ) (f : Recorded CodeItem) (frame : Frame)
    (nodes : List Node) (old new : ℕ) (ops : List ItemOp) → KeepsOrder address frame.section
    → ItemsStand f → IsTableOf f.items nodes old new ops → IsFrameOf f ops frame
    → MeansRows address f frame nodes old new
