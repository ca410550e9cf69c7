-- What the laws of executions ask of a function.
use Rattle.std.specs.Prelude.{◌≡◌, ℕ, ℤ, true, Option, Some, length, slice_get}
use Rattle.asm_base.specs.declared.faults.SavedRegister.{SavedRegister}
use Rattle.asm_base.specs.declared.faults.ScfiFault.{ScfiFault}
use Rattle.asm_base.specs.declared.faults.ScfiFault.TheVariants as scfi
use Rattle.code_functions.specs.declared.items.CodeItem.{CodeItem}
use Rattle.flow_graph.specs.declared.nodes.Node.{Node}
use Rattle.flow_graph.specs.Walks.{IsInside}
use Rattle.scfi_pass.specs.Faults.{IsTold}
use Rattle.scfi_pass.specs.Tables.{Analyzed, IsAnalyzed, situation}

-- it is analyzed, with a node for each item, and each target is an item
pub record IsFunction (a : Analyzed) : Type 0 where
  pub analyzed : IsAnalyzed a
  pub as_many : length a.nodes ≡ length a.items
  pub inside : IsInside a.nodes

-- no item to which a walk leads has the fault. `IsTold` says that the condition of the fault holds
-- there, whatever other faults the item has: which of them is answered is for `IsFirst`. A fault
-- that names a register is that of the first such register; where it is absent for each of them, no
-- register is so
abbrev pub IsAbsent : Analyzed → ScfiFault → Type 0
IsAbsent a fault = (j : ℕ) (item : CodeItem) (node : Node) → a.reached j ≡ true
    → slice_get a.items j ≡ Some item → slice_get a.nodes j ≡ Some node
    → IsTold (situation a j item node) fault → ⊥

-- wherever walks lead, the target of each jump and call is known, items are instructions or
-- padding, and uses of the stack are supported
pub record AreTraced (a : Analyzed) : Type 0 where
  pub jumps : IsAbsent a scfi.UntraceableJump
  pub instructions : IsAbsent a scfi.NotInstructions
  pub uses : IsAbsent a scfi.UnsupportedStackUse

-- no item stores into the return address, or leaves it below rsp but by a return
abbrev pub KeepsReturn : Analyzed → Type 0
KeepsReturn a = IsAbsent a scfi.ReturnAddressOverwritten

-- at each exit rsp and the callee-saved registers are as at entry
pub record AreRestored (a : Analyzed) : Type 0 where
  pub stack : (distance : Option ℤ) → IsAbsent a (scfi.StackNotRestored distance)
  pub registers : (register : SavedRegister) → IsAbsent a (scfi.RegisterNotRestored register)
