-- An analyzed function has an answer.
use Rattle.std.specs.Prelude.{◌≡◌, ◌⊎◌, ℕ, List, length}
use Rattle.asm_base.specs.declared.faults.ScfiFault.{ScfiFault}
use Rattle.scfi_pass.specs.declared.item_ops.ItemOp.{ItemOp}
use Rattle.scfi_pass.specs.Tables.{Analyzed, IsAnalyzed, IsFrameTable, IsFirstFault}

-- an analyzed function, of as many nodes as items, has a frame table or a first fault
abbrev pub FunctionsHaveAnswers : Type 0
FunctionsHaveAnswers = (a : Analyzed) → IsAnalyzed a → length a.items ≡ length a.nodes
    → ((ops : List ItemOp) × IsFrameTable a ops)
    ⊎ ((item : ℕ) × (fault : ScfiFault) × IsFirstFault a item fault)
