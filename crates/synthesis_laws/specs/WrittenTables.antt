-- Frame tables in the form of procedures, whose instructions can be written and run.
use Rattle.std.specs.Prelude.{◌≡◌, ◌<◌, ℕ, List, All, length, map}
use Rattle.cfi_directives.specs.declared.frames.Frame.{Frame}
use Rattle.cfi_directives.specs.Sound.{IsSound}
use Rattle.code_functions.specs.declared.items.CodeItem.{CodeItem}
use Rattle.flow_graph.specs.declared.nodes.Node.{Node}
use Rattle.scfi_pass.specs.declared.item_ops.ItemOp.{ItemOp}
use Rattle.scfi_pass.specs.Synthesis.{IsTableOf}

-- the procedure has the instructions of the table, at any places
abbrev pub HasTable : List ItemOp → Frame → Type 0
HasTable ops frame = map (λ placed. placed.op) frame.ops ≡ map (λ held. held.op) ops

-- a procedure with the instructions of a frame table is sound: each of them has a form, and all can
-- be run from the row of the common entry
abbrev pub TablesCanBeWritten : Type 0
TablesCanBeWritten = (items : List CodeItem) (nodes : List Node) (old new : ℕ) (ops : List ItemOp)
    (frame : Frame) → IsTableOf items nodes old new ops → HasTable ops frame → IsSound frame

-- each instruction of a frame table is told at an item of the function
abbrev pub TablesAreOfItems : Type 0
TablesAreOfItems = (items : List CodeItem) (nodes : List Node) (old new : ℕ) (ops : List ItemOp)
    → IsTableOf items nodes old new ops → All (λ op. op.item < length items) ops
