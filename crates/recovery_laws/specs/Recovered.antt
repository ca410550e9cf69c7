-- Functions of a source whose entries in the object recover the caller.
use Rattle.std.specs.Prelude.{◌≡◌, ℕ, List, Some, slice_get}
use Rattle.asm_symbols.specs.SymbolMap.{SymbolMap}
use Rattle.asm_relax.specs.Settling.{LaidSections}
use Rattle.asm_values.specs.State.{Placed}
use Rattle.cfi_directives.specs.declared.frames.Frame.{Frame}
use Rattle.cfi_directives.specs.Meant.{place_in}
use Rattle.code_functions.specs.declared.items.CodeItem.{CodeItem}
use Rattle.code_functions.specs.Recorded.{Recorded}
use Rattle.code_functions.specs.Seen.{all_seen}
use Rattle.asm_functions.specs.FollowedSource.{FollowedSource, functions_at_end}
use Rattle.scfi_pass.specs.Tables.{Analyzed, IsAnalyzed}
use Rattle.frame_laws.specs.TableReads.{TableReads}
use Rattle.function_laws.specs.Tabled.{laid_address, starts_of}
use Rattle.source_ends.specs.Synthesis.{nodes_in, AreFrames}
use Rattle.recovery_laws.specs.Linked.{IsLinked, HasEntry, row_by}
use Rattle.recovery_laws.specs.Executions.{RowsRecover}

-- this is what the analysis of the stack knows of a function of a source, at each item what every
-- walk to it agrees on; control goes where the instructions say, with the symbols and the fields
-- of the source
pub record IsAnalysisOf (source : Placed) (f : Recorded CodeItem) (a : Analyzed) : Type 0 where
  pub analyzed : IsAnalyzed a
  pub same_items : a.items ≡ f.items
  pub same_nodes : a.nodes ≡ nodes_in source.table.symbols source.sections f

module _ (object : List ℕ) (map : SymbolMap) (laid : LaidSections) where
  -- the FDE begins where the function does in these bytes, and its rows recover the caller along
  -- each execution over them
  pub record RecoversIn {frames : List Frame} {table : TableReads object map laid frames}
      {number : ℕ} {frame : Frame} (f : Recorded CodeItem) (a : Analyzed)
      (entry : HasEntry object map laid table number frame) (code : List ℕ) : Type 0 where
    pub begins : laid_address laid (place_in frame.section frame.start) ≡ starts_of laid f 0
    pub rows : RowsRecover a (starts_of laid f) code (row_by object map laid entry)

  -- the frame of the function of this number has the entry of this number in the frame table,
  -- whose rows recover the caller in the bytes of the function's section once it is linked,
  -- whatever stands in relocated fields
  pub record FunctionRecovers {frames : List Frame} (table : TableReads object map laid frames)
      (source : Placed) (number : ℕ) (f : Recorded CodeItem) (frame : Frame) : Type 0 where
    pub a : Analyzed
    pub analysis : IsAnalysisOf source f a
    pub entry : HasEntry object map laid table number frame
    pub recovers : (code : List ℕ) → IsLinked object map laid f.section code
        → RecoversIn f a entry code

  -- the object has a frame table with an entry for each of these frames, and each function of the
  -- source recovers with its own. What is followed of these functions is what the statements
  -- recorded; only how an effect is kept may differ
  pub record FunctionsRecover (source : FollowedSource) (frames : List Frame) : Type 0 where
    pub functions : List (Recorded CodeItem)
    pub seen : all_seen functions ≡ functions_at_end source
    pub framed : AreFrames source.placed.table.symbols source.placed.sections functions frames
    pub table : TableReads object map laid frames
    pub each : (number : ℕ) (f : Recorded CodeItem) (frame : Frame)
        → slice_get functions number ≡ Some f → slice_get frames number ≡ Some frame
        → FunctionRecovers table source.placed number f frame
