-- The frame table of a synthesized function recovers its caller along executions over bytes.
use Rattle.std.specs.Prelude.{◌≡◌, ◌-◌, ◌<◌, ℕ, true, List, length, Some, slice_get, IsSomeAnd}
use Rattle.asm_base.specs.declared.places.SectionPlace.{SectionPlace}
use Rattle.cfi_directives.specs.declared.frames.Frame.{Frame}
use Rattle.cfi_directives.specs.Meant.{stands_at, stop_of, row_meant, KeepsOrder}
use Rattle.code_functions.specs.declared.items.CodeItem.{CodeItem}
use Rattle.code_functions.specs.Recorded.{Recorded}
use Rattle.flow_graph.specs.declared.nodes.Node.{Node}
use Rattle.scfi_pass.specs.declared.item_ops.ItemOp.{ItemOp}
use Rattle.scfi_pass.specs.Synthesis.{IsTableOf}
use Rattle.scfi_pass.specs.Tables.{Analyzed}
use Rattle.synthesis_laws.specs.TableFrames.{place_of, IsFrameOf, ItemsStand}
use Rattle.x86_steps.specs.States.{State}
use Rattle.scfi_laws.specs.Functions.{IsFunction}
use Rattle.scfi_laws.specs.Recovering.{Recovers, IsAsAtEntry}
use Rattle.scfi_laws.specs.Laid.{Kind, Holds, IsLaid}
use Rattle.scfi_laws.specs.ByteExecutions.{KeptByBytes, IsEntry}

-- the procedure of a function stands where its items begin in bytes, and ends where they do
pub record StandsWith (f : Recorded CodeItem) (frame : Frame) (address : SectionPlace → ℕ)
    (starts : ℕ → ℕ) : Type 0 where
  pub begins : stands_at address frame.section frame.start ≡ starts 0
  pub items : (i : ℕ) → i < length f.items
      → stands_at address frame.section (place_of f i) ≡ starts i
  pub ends : stands_at address frame.section (stop_of frame) ≡ starts (length f.items)

-- a function with its analysis, the procedure with the instructions of its frame table, where its
-- items and the procedure stand, and the bytes of its section
pub record IsTabled (f : Recorded CodeItem) (a : Analyzed) (ops : List ItemOp) (frame : Frame)
    (address : SectionPlace → ℕ) (kinds : ℕ → Kind) (starts : ℕ → ℕ) (code : List ℕ)
    : Type 0 where
  pub function : IsFunction a
  pub same_items : a.items ≡ f.items
  pub old : ℕ
  pub new : ℕ
  pub table : IsTableOf f.items a.nodes old new ops
  pub in_order : ItemsStand f
  pub frame_of : IsFrameOf f ops frame
  pub keeps_order : KeepsOrder address frame.section
  pub stands : StandsWith f frame address starts
  pub laid : IsLaid a kinds starts code

-- something holds of each kept execution over the bytes of such a function
abbrev pub AlongTables : (Analyzed → Frame → (address : SectionPlace → ℕ) → (starts : ℕ → ℕ)
    → (start now : State) → Type 0) → Type 0
AlongTables Holding = (f : Recorded CodeItem) (a : Analyzed) (ops : List ItemOp) (frame : Frame)
    (address : SectionPlace → ℕ) (kinds : ℕ → Kind) (starts : ℕ → ℕ) (code : List ℕ)
    (start : State) (earlier : List State) (now : State)
    → IsTabled f a ops frame address kinds starts code → IsEntry a starts start
    → KeptByBytes a kinds starts code start earlier now
    → Holding a frame address starts start now

-- the procedure means at each of its places a row that recovers the caller
abbrev pub TablesRecover : Type 0
TablesRecover = AlongTables (λ a frame address starts start now.
    IsSomeAnd (row_meant address frame (now.place - starts 0)) (λ row. Recovers row now start))

-- and at its exits the seven registers are as at entry
abbrev pub TablesRestore : Type 0
TablesRestore = AlongTables (λ a frame address starts start now. (i : ℕ) (node : Node)
    → Holds starts (length a.items) i now.place → slice_get a.nodes i ≡ Some node
    → node.exits ≡ true → IsAsAtEntry now start)
