-- What synthesis sees of items: no more of an item tells in a frame table or a fault.
use Rattle.std.specs.Prelude.{◌≡◌, ◌≢◌, ℕ, Bool, Option, List, map, Err}
use Rattle.asm_base.specs.declared.refusals.Refusal.TheVariants.{NoMemory}
use Rattle.asm_base.specs.declared.places.Place.{Place}
use Rattle.asm_frags.specs.declared.fields.Field.{Field}
use Rattle.asm_symbols.specs.SymbolMap.{SymbolMap}
use Rattle.insn_effects.specs.Flows.{Flow}
use Rattle.insn_effects.specs.Followed.{Followed, followed_by, flow_by, unsupported_by, is_data}
use Rattle.code_functions.specs.declared.items.CodeItem.{CodeItem}
use Rattle.code_functions.specs.Seen.{seen}
use Rattle.flow_graph.specs.declared.nodes.Node.{Node}
use Rattle.flow_graph.specs.Nodes.{nodes_of}
use Rattle.scfi_pass.specs.declared.item_ops.ItemOp.{ItemOp}
use Rattle.scfi_pass.specs.declared.walked.ItemFault.{ItemFault}
use Rattle.scfi_pass.specs.Synthesis.{IsTableOf}
use Rattle.synthesis_laws.specs.OneAnswer.{IsFaultHere, Answer, IsAnswer}

-- what is followed of an item, where control goes from it, whether its use of the stack is not
-- supported and whether it is no instruction; where it begins, and which field holds its target
pub record Sight : Type 0 where
  pub effect : Followed
  pub flow : Flow
  pub unsupported : Bool
  pub no_insn : Bool
  pub place : Place
  pub field : Option ℕ

-- what is seen of an item
abbrev pub sight_of : CodeItem → Sight
sight_of item = record {
  effect = followed_by item.effect;
  flow = flow_by item.effect.role;
  unsupported = unsupported_by item.effect.role;
  no_insn = is_data item.effect.role;
  place = item.place;
  field = item.field;
}

-- the same is seen of all items
abbrev pub LookAlike : List CodeItem → List CodeItem → Type 0
LookAlike one other = map sight_of one ≡ map sight_of other

-- so it is where all that is recorded of items is the same, their statements and padding too
abbrev pub SeenLookAlike : Type 0
SeenLookAlike = (one other : List CodeItem) → map seen one ≡ map seen other → LookAlike one other

-- a table of items is that of all that look like them, with the same nodes
abbrev pub TablesAreSeen : Type 0
TablesAreSeen = (one other : List CodeItem) (nodes : List Node) (old new : ℕ) (ops : List ItemOp)
    → LookAlike one other → IsTableOf one nodes old new ops → IsTableOf other nodes old new ops

-- so is a fault
abbrev pub FaultsAreSeen : Type 0
FaultsAreSeen = (one other : List CodeItem) (nodes : List Node) (old new : ℕ) (fault : ItemFault)
    → LookAlike one other → IsFaultHere one nodes old new fault
    → IsFaultHere other nodes old new fault

-- and their nodes are the same
abbrev pub NodesAreSeen : Type 0
NodesAreSeen = (one other : List CodeItem) (symbols : SymbolMap) (section : ℕ) (fields : List Field)
    → LookAlike one other
    → nodes_of symbols section fields one ≡ nodes_of symbols section fields other

-- so what synthesis answers of functions whose items look alike is one answer, where their fields
-- come to the same, but for want of memory
abbrev pub AnswersAreSeen : Type 0
AnswersAreSeen = (one other : List CodeItem) (symbols : SymbolMap) (section : ℕ)
    (fields : List Field) (old new old_again new_again : ℕ) (first again : Answer)
    → LookAlike one other → IsAnswer one (nodes_of symbols section fields one) old new first
    → IsAnswer other (nodes_of symbols section fields other) old_again new_again again
    → first ≢ Err NoMemory → again ≢ Err NoMemory → first ≡ again
