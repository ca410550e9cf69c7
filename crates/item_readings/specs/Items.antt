-- Items of functions, and what is read where their bytes stand.
use Rattle.std.specs.Prelude.{◌≡◌, ◌<◌, ◌+◌, ◌^◌, ◌++◌, ℕ, Bool, true, List, Option, Some, drop, length, Ok}
use Rattle.x86_insn.specs.declared.amounts.Values.{Values}
use Rattle.x86_insn.specs.Views.{View}
use Rattle.x86_encode.specs.Encoding.{encoding_of}
use Rattle.x86_parts.specs.Filling.{Coding, field_holds, filled, valued}
use Rattle.item_bytes.specs.declared.jumps.Condition.{Condition}
use Rattle.item_bytes.specs.Jumps.{jump_bytes}
use Rattle.insn_effects.specs.Decoding.{action_of}
use Rattle.insn_effects.specs.Effects.{effect_of}
use Rattle.insn_effects.specs.Flows.{Flow, onward, jumps, calls, through, returns, stops, flow_of, is_unsupported}
use Rattle.insn_effects.specs.Followed.{wrap, Shows}
use Rattle.code_functions.specs.declared.items.CodeItem.{CodeItem}
use Rattle.flow_graph.specs.declared.nodes.Node.{Node}
use Rattle.flow_graph.specs.declared.targets.Target.{Target}
use Rattle.flow_graph.specs.Nodes.{node_by}
use Rattle.x86_steps.specs.Leading.{distance_of}
use Rattle.x86_steps.specs.Readings.{Reading, HasReading}
use Rattle.step_readings.specs.Obeying.{Obeys}
use Rattle.step_readings.specs.Filled.{IsPlainView}
use Rattle.step_readings.specs.Loaded.{IsLoaded, HoldsValue}
use Rattle.step_readings.specs.Jumps.{jump_of, led_over}
use Rattle.scfi_laws.specs.Laid.{plain, directed, IsCovered, ReadsOnly, ReadsFlow}

-- the item is an instruction that acts and goes as this one, and the node is that of a target
pub record IsItemOf (insn : View) (item : CodeItem) (node : Node) : Type 0 where
  pub shows : Shows item.effect (effect_of (action_of insn)) (flow_of insn) (is_unsupported insn)
  pub target : Target
  pub node_is : node ≡ node_by (flow_of insn) target

-- the distance leads from the place to the item that is the node's target
pub record LeadsTo (starts : ℕ → ℕ) (place : ℕ) (distance : Option ℕ) (node : Node) : Type 0 where
  pub item : ℕ
  pub by : ℕ
  pub target : node.target ≡ Some item
  pub distance_is : distance ≡ Some by
  pub there : wrap (place + by) ≡ starts item

-- it does so if control goes by a direct jump
abbrev pub LeadsInside : Flow → (starts : ℕ → ℕ) → (place : ℕ) → Option ℕ → Node → Type 0
LeadsInside onward starts place distance node = Unit {0}
LeadsInside (jumps falls) starts place distance node = LeadsTo starts place distance node
LeadsInside calls starts place distance node = Unit {0}
LeadsInside through starts place distance node = Unit {0}
LeadsInside returns starts place distance node = Unit {0}
LeadsInside stops starts place distance node = Unit {0}

-- what obeys the instruction of an item does what the item may do: as an instruction whose jump, if
-- it is one, leads to the item's target, and as one of which nothing is known of where its field
-- leads
pub record CoversItem (insn : View) (item : CodeItem) (node : Node) (starts : ℕ → ℕ) (place : ℕ)
    (bytes : List ℕ) (distance : Option ℕ) (r : Reading) : Type 0 where
  pub inside : LeadsInside (flow_of insn) starts place distance node
      → IsCovered starts place (plain (length bytes)) item node r
  pub directed : IsCovered starts place (directed (length bytes)) item node r

-- so for each item
abbrev pub InstructionsAreCovered : Type 0
InstructionsAreCovered = (insn : View) (item : CodeItem) (node : Node) (starts : ℕ → ℕ) (place : ℕ)
    (bytes : List ℕ) (distance : Option ℕ) (r : Reading) → IsItemOf insn item node
    → Obeys insn bytes distance r → CoversItem insn item node starts place bytes distance r

-- something is read where these bytes stand, and whatever it is does what the item may do, and goes
-- as the item does
pub record ReadsItemOnly (insn : View) (item : CodeItem) (node : Node) (starts : ℕ → ℕ)
    (code : List ℕ) (place : ℕ) (bytes : List ℕ) (distance : Option ℕ) : Type 0 where
  pub read : HasReading code place
  pub flow : ReadsFlow code place item
  pub inside : LeadsInside (flow_of insn) starts place distance node
      → ReadsOnly starts code place (plain (length bytes)) item node
  pub directed : ReadsOnly starts code place (directed (length bytes)) item node

-- so where the encoding of an instruction stands, with any values that its fields hold
abbrev pub EncodedItemsAreRead : Type 0
EncodedItemsAreRead = (shape : Values → View) (values : Values) (made : Coding) (item : CodeItem)
    (node : Node) (starts : ℕ → ℕ) (code rest : List ℕ) (v w place : ℕ) → IsPlainView (shape values)
    → w < 2 ^ 64 → encoding_of shape values ≡ Ok made → field_holds made.displacement v ≡ true
    → field_holds made.immediate w ≡ true
    → drop place code ≡ filled made.immediate w (filled made.displacement v made.bytes) ++ rest
    → IsItemOf (shape values) item node
    → ReadsItemOnly (shape values) item node starts code place
    (filled made.immediate w (filled made.displacement v made.bytes))
    (distance_of (valued (length made.bytes) v w (shape values).first))

-- also once a linker has put values into its fields, with those that stand there
abbrev pub LoadedItemsAreRead : Type 0
LoadedItemsAreRead = (shape : Values → View) (values : Values) (made : Coding) (item : CodeItem)
    (node : Node) (starts : ℕ → ℕ) (loaded code rest : List ℕ) (v w place : ℕ)
    → IsPlainView (shape values) → encoding_of shape values ≡ Ok made → IsLoaded made loaded
    → w < 2 ^ 64 → field_holds made.displacement v ≡ true → field_holds made.immediate w ≡ true
    → HoldsValue made.displacement v loaded → HoldsValue made.immediate w loaded
    → drop place code ≡ loaded ++ rest → IsItemOf (shape values) item node
    → ReadsItemOnly (shape values) item node starts code place loaded
    (distance_of (valued (length made.bytes) v w (shape values).first))

-- and where the bytes of a direct jump do, short or near
abbrev pub JumpItemsAreRead : Type 0
JumpItemsAreRead = (condition : Option Condition) (near : Bool) (distance : ℕ) (item : CodeItem)
    (node : Node) (starts : ℕ → ℕ) (code rest : List ℕ) (place : ℕ)
    → drop place code ≡ jump_bytes condition near distance ++ rest
    → IsItemOf (jump_of condition) item node
    → ReadsItemOnly (jump_of condition) item node starts code place
    (jump_bytes condition near distance)
    (Some (led_over near (jump_bytes condition near distance)))
