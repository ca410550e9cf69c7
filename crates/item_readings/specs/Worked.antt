-- A function of four instructions, `push %rbp; mov %rsp,%rbp; pop %rbp; ret`, as items in the bytes
-- 55 48 89 E5 5D C3, and an execution of it through all four, worked out by hand.
use Rattle.std.specs.Prelude.{◌==◌, ℕ, Bool, if◌then◌else◌, List, [], ◌∷◌, None}
use Rattle.insn_effects.specs.declared.effects.Role.TheVariants as role
use Rattle.insn_effects.specs.declared.effects.Effect.{Effect}
use Rattle.insn_effects.specs.Followed.{writing}
use Rattle.insn_effects.specs.Flows.{onward, returns}
use Rattle.code_functions.specs.declared.items.CodeItem.{CodeItem}
use Rattle.flow_graph.specs.declared.nodes.Node.{Node}
use Rattle.flow_graph.specs.declared.targets.Target.TheVariants.{Unknown}
use Rattle.flow_graph.specs.Nodes.{node_by}
use Rattle.stack_depths.specs.Distances.{Distances}
use Rattle.stack_facts.specs.Facts.{Fact}
use Rattle.scfi_pass.specs.Tables.{Analyzed}
use Rattle.x86_steps.specs.States.{State}
use Rattle.x86_steps.specs.WorkedSteps.{stands_at}
use Rattle.scfi_laws.specs.Laid.{Kind, plain, IsLaid}
use Rattle.scfi_laws.specs.ByteExecutions.{KeptByBytes, IsEntry}

-- an item so many bytes from the beginning of its section
abbrev pub item_at : ℕ → Effect → CodeItem
item_at n effect = record {
  effect = effect;
  place = record { item = 0; offset = n };
  field = None;
  pos = record { file = 0; line = 1 };
}

-- rbp is register 2 of the seven, and rsp register 0
abbrev pub worked_items : List CodeItem
worked_items =
    item_at 0 (record (writing role.Push 0) { register = 2 })
    ∷ item_at 1 (record (writing role.Move 0) { register = 2; base = 0 })
    ∷ item_at 4 (record (writing role.Pop 4) { register = 2 })
    ∷ item_at 5 (writing role.Return 0)
    ∷ []

-- control goes on from the first three, and back to the caller from the last
abbrev pub worked_nodes : List Node
worked_nodes =
    node_by onward Unknown ∷ node_by onward Unknown ∷ node_by onward Unknown
    ∷ node_by returns Unknown ∷ []

-- the function, with whatever is known of its items
abbrev pub worked_function : (ℕ → Distances) → (ℕ → Bool) → (ℕ → Fact → Bool) → Analyzed
worked_function distances reached facts =
    record {
      items = worked_items;
      nodes = worked_nodes;
      distances = distances;
      reached = reached;
      facts = facts;
    }

-- the bytes of its section
abbrev pub worked_bytes : List ℕ
worked_bytes = 0x55 ∷ 0x48 ∷ 0x89 ∷ 0xe5 ∷ 0x5d ∷ 0xc3 ∷ []

-- how many bytes each item has
abbrev pub worked_kind : ℕ → Kind
worked_kind i = if i == 1 then plain 3 else plain 1

-- where each item begins, and where the last one ends
abbrev pub worked_start : ℕ → ℕ
worked_start i =
    if i == 0 then 0 else (if i == 1 then 1 else (if i == 2 then 4 else (if i == 3 then 5 else 6)))

-- the states before the last one, at the third, the second and the first instruction
abbrev pub worked_states : List State
worked_states = stands_at 4 4088 4088 ∷ stands_at 1 4088 0 ∷ stands_at 0 4096 0 ∷ []

-- the items stand in the bytes, and an execution that keeps what is asked of it goes from the first
-- to the last
pub record RunsThrough (a : Analyzed) : Type 0 where
  pub laid : IsLaid a worked_kind worked_start worked_bytes
  pub begins : IsEntry a worked_start (stands_at 0 4096 0)
  pub runs : KeptByBytes a worked_kind worked_start worked_bytes (stands_at 0 4096 0) worked_states
      (stands_at 5 4096 0)

-- whatever is known of the items
abbrev pub WorkedExecution : Type 0
WorkedExecution = (distances : ℕ → Distances) (reached : ℕ → Bool) (facts : ℕ → Fact → Bool)
    → RunsThrough (worked_function distances reached facts)
