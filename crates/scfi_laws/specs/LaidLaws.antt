-- How items and their nodes agree with what they are in bytes.
use Rattle.std.specs.Prelude.{◌≡◌, ℕ, Bool, true, false, List, [], ◌∷◌, None, Some, slice_get}
use Rattle.insn_effects.specs.declared.effects.Role.TheVariants as role
use Rattle.insn_effects.specs.Flows.{onward, jumps}
use Rattle.insn_effects.specs.Followed.{flow_by, calls_by, is_padding}
use Rattle.code_functions.specs.declared.items.CodeItem.{CodeItem}
use Rattle.flow_graph.specs.declared.nodes.Node.{Node}
use Rattle.flow_graph.specs.declared.targets.Target.{Target}
use Rattle.flow_graph.specs.declared.targets.Target.TheVariants.{Inside, Unknown}
use Rattle.flow_graph.specs.Nodes.{node_by}
use Rattle.flow_graph.specs.Worked.{code, code_to}
use Rattle.scfi_pass.specs.Tables.{Analyzed}
use Rattle.scfi_laws.specs.Laid.{Kind, plain, IsLaid}

-- what is asked of the nodes of calls and padding: calls have no target, and control goes on from
-- both, whether or not an item follows
pub record SuitsItem (item : CodeItem) (node : Node) : Type 0 where
  pub target : calls_by item.effect.role ≡ true → node.target ≡ None
  pub called : calls_by item.effect.role ≡ true → node.falls ≡ true
  pub padded : is_padding item.effect.role ≡ true → node.falls ≡ true

-- so it is of each node in the graph of a function, whatever is called, the function itself too
abbrev pub NodesSuitItems : Type 0
NodesSuitItems = (item : CodeItem) (target : Target)
    → SuitsItem item (node_by (flow_by item.effect.role) target)

-- a direct jump that is no exit is plain: its bytes lead where it does
abbrev pub InnerJumpsArePlain : Type 0
InnerJumpsArePlain = (a : Analyzed) (kinds : ℕ → Kind) (starts : ℕ → ℕ) (code : List ℕ)
    (i : ℕ) (item : CodeItem) (node : Node) (falls : Bool) → IsLaid a kinds starts code
    → slice_get a.items i ≡ Some item → slice_get a.nodes i ≡ Some node
    → flow_by item.effect.role ≡ jumps falls → node.exits ≡ false
    → (n : ℕ) × (kinds i ≡ plain n)

-- 1: nop; jmp 1b
abbrev pub loop_items : List CodeItem
loop_items = code role.Other 0 0 ∷ code_to role.Jump 0 1 0 ∷ []

-- the jump leads to the first item, and another object can't define its label
abbrev pub loop_nodes : List Node
loop_nodes = node_by onward Unknown ∷ node_by (jumps false) (Inside 0 false) ∷ []

-- so its bytes lead there: it is not taken for a jump out of the function, where executions would
-- end, whatever its bytes
abbrev pub LoopsArePlain : Type 0
LoopsArePlain = (a : Analyzed) (kinds : ℕ → Kind) (starts : ℕ → ℕ) (code : List ℕ)
    → a.items ≡ loop_items → a.nodes ≡ loop_nodes → IsLaid a kinds starts code
    → (n : ℕ) × (kinds 1 ≡ plain n)
