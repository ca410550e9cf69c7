-- Where control goes from the items of a function.
use Rattle.std.specs.Prelude.{◌==◌, ℕ, Bool, true, false, not, List, map, None, Some, slice_get}
use Rattle.std.specs.Option.{option_and_then, option_map_or}
use Rattle.asm_frags.specs.declared.fields.Field.{Field}
use Rattle.asm_symbols.specs.SymbolMap.{SymbolMap}
use Rattle.insn_effects.specs.Flows.{Flow, onward, jumps, calls, through, returns, stops}
use Rattle.insn_effects.specs.Followed.{flow_by}
use Rattle.code_functions.specs.declared.items.CodeItem.{CodeItem}
use Rattle.flow_graph.specs.declared.nodes.Node.{Node}
use Rattle.flow_graph.specs.declared.targets.Target.{Target}
use Rattle.flow_graph.specs.declared.targets.Target.TheVariants.{Inside, Outside, Unknown}
use Rattle.flow_graph.specs.Targets.{field_target}

-- control goes nowhere
abbrev pub ending : Node
ending = record { target = None; falls = false; exits = false; untraced = false; calls_inside = false }

-- of a direct jump, which may go on or not
abbrev pub jump_node : (falls : Bool) → Target → Node
jump_node falls (Inside item preemptible) = record ending { target = Some item; falls = falls; exits = preemptible }
jump_node falls Outside = record ending { falls = falls; exits = true }
jump_node falls Unknown = record ending { untraced = true }

-- of a direct call
abbrev pub call_node : Target → Node
call_node (Inside item preemptible) = record ending { falls = true; calls_inside = not (item == 0) }
call_node Outside = record ending { falls = true }
call_node Unknown = record ending { falls = true; untraced = true }

-- of an item from which control goes so, and that has this target if it is a direct jump or call
abbrev pub node_by : Flow → Target → Node
node_by onward target = record ending { falls = true }
node_by (jumps falls) target = jump_node falls target
node_by calls target = call_node target
node_by through target = record ending { untraced = true }
node_by returns target = record ending { exits = true }
node_by stops target = ending

-- the target that an item has by its field
abbrev pub item_target : SymbolMap → (section : ℕ) → List Field → List CodeItem → CodeItem → Target
item_target symbols section fields items item =
    option_map_or (field_target symbols section items) (option_and_then (slice_get fields) item.field) Unknown

-- the node of an item
abbrev pub node_of : SymbolMap → (section : ℕ) → List Field → List CodeItem → CodeItem → Node
node_of symbols section fields items item = node_by (flow_by item.effect.role) (item_target symbols section fields items item)

-- the nodes of a function's items, by the fields of its section
unfoldable pub nodes_of : SymbolMap → (section : ℕ) → List Field → List CodeItem → List Node
nodes_of symbols section fields items = map (node_of symbols section fields items) items
