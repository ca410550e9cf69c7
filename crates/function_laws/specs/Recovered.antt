-- What the frame tables of a source's functions mean along executions over the bytes of their
-- sections.
use Rattle.std.specs.Prelude.{◌≡◌, ◌-◌, ℕ, Bool, true, List, length, Some, slice_get, IsSomeAnd}
use Rattle.asm_lines.specs.NextStatements.{TokenStatement}
use Rattle.asm_symbols.specs.SymbolMap.{SymbolMap}
use Rattle.asm_relax.specs.Settling.{LaidSections}
use Rattle.cfi_directives.specs.declared.frames.Frame.{Frame}
use Rattle.cfi_directives.specs.Meant.{row_meant}
use Rattle.code_functions.specs.declared.items.CodeItem.{CodeItem}
use Rattle.code_functions.specs.Recorded.{Recorded}
use Rattle.flow_graph.specs.declared.nodes.Node.{Node}
use Rattle.asm_functions.specs.FollowedSource.{FollowedSource}
use Rattle.scfi_pass.specs.declared.item_ops.ItemOp.{ItemOp}
use Rattle.scfi_pass.specs.Tables.{Analyzed}
use Rattle.x86_steps.specs.States.{State}
use Rattle.scfi_laws.specs.Recovering.{Recovers, IsAsAtEntry}
use Rattle.scfi_laws.specs.Laid.{Kind, Holds, IsLaid}
use Rattle.scfi_laws.specs.ByteExecutions.{KeptByBytes, IsEntry}
use Rattle.function_laws.specs.Tabled.{laid_address, starts_of, IsLoadedFunction, IsSynthesized}

-- the items of the function lie in the bytes, and along each kept execution over these the
-- procedure means at each place a row that recovers the caller; at exits the registers that calls
-- keep are as at entry
pub record RecoversInBytes (laid : LaidSections) (code : List ℕ) (f : Recorded CodeItem)
    (a : Analyzed) (frame : Frame) : Type 0 where
  pub kinds : ℕ → Kind
  pub lies : IsLaid a kinds (starts_of laid f) code
  pub recovers : (start : State) (earlier : List State) (now : State)
      → IsEntry a (starts_of laid f) start
      → KeptByBytes a kinds (starts_of laid f) code start earlier now
      → IsSomeAnd (row_meant (laid_address laid) frame (now.place - starts_of laid f 0))
      (λ row. Recovers row now start)
  pub restores : (start : State) (earlier : List State) (now : State) (i : ℕ) (node : Node)
      → IsEntry a (starts_of laid f) start
      → KeptByBytes a kinds (starts_of laid f) code start earlier now
      → Holds (starts_of laid f) (length a.items) i now.place
      → slice_get a.nodes i ≡ Some node → node.exits ≡ true → IsAsAtEntry now start

-- so it is with each function of a source that has a frame table
abbrev pub FunctionTablesRecover : Type 0
FunctionTablesRecover = (statements : List TokenStatement) (no_warn asked : Bool)
    (whole : FollowedSource) (number : ℕ) (symbols : SymbolMap) (laid : LaidSections)
    (code : List ℕ) (f : Recorded CodeItem) (a : Analyzed) (ops : List ItemOp) (frame : Frame)
    → IsLoadedFunction statements no_warn asked whole number symbols laid code f
    → IsSynthesized whole.placed.table.symbols whole.placed.sections f a ops frame
    → RecoversInBytes laid code f a frame
