-- Items as the analysis of the stack sees them: what it follows of each, and not how an effect is kept.
use Rattle.std.specs.Prelude.{ℕ, Bool, true, false, nat_lt, List, map, Option, None, Some, if◌then◌else◌}
use Rattle.asm_base.specs.declared.places.Place.{Place}
use Rattle.asm_base.specs.declared.positions.Pos.{Pos}
use Rattle.x86_insn.specs.Views.{View}
use Rattle.insn_effects.specs.Effects.{effect_of}
use Rattle.insn_effects.specs.Decoding.{action_of}
use Rattle.insn_effects.specs.Flows.{Flow, onward, jumps, calls, stops, flow_of, is_unsupported}
use Rattle.insn_effects.specs.Followed.{Followed, followed, followed_by, flow_by, unsupported_by, is_padding, is_data, wrote}
use Rattle.code_functions.specs.declared.items.CodeItem.{CodeItem}
use Rattle.code_functions.specs.Recorded.{Recorded}

-- what is followed of an item and where control goes from it, whether its use of the stack is not supported, whether it is padding and whether it is no
-- instruction, where it begins, which field holds its target, and where its statement is
pub record SeenItem : Type 0 where
  pub effect : Followed
  pub flow : Flow
  pub unsupported : Bool
  pub padding : Bool
  pub no_insn : Bool
  pub place : Place
  pub field : Option ℕ
  pub pos : Pos

-- what is seen of an item
abbrev pub seen : CodeItem → SeenItem
seen item = record {
  effect = followed_by item.effect;
  flow = flow_by item.effect.role;
  unsupported = unsupported_by item.effect.role;
  padding = is_padding item.effect.role;
  no_insn = is_data item.effect.role;
  place = item.place;
  field = item.field;
  pos = item.pos;
}

-- the function with each of its items as it is looked at
abbrev pub mapped : {A B : Type 0} → (A → B) → Recorded A → Recorded B
mapped look f = record { symbol = f.symbol; pos = f.pos; section = f.section; start = f.start; stop = f.stop; items = map look f.items }

-- what is seen of functions
abbrev pub all_seen : List (Recorded CodeItem) → List (Recorded SeenItem)
all_seen functions = map (mapped seen) functions

-- data that begin at this place: they are no instruction, so control does not go on from there
abbrev pub data_item : Pos → Place → SeenItem
data_item pos place = record {
  effect = wrote 0 None;
  flow = stops;
  unsupported = false;
  padding = false;
  no_insn = true;
  place = place;
  field = None;
  pos = pos;
}

-- padding that begins at this place does nothing, and control goes on behind it
abbrev pub padding_item : Pos → Place → SeenItem
padding_item pos place = record {
  effect = wrote 0 None;
  flow = onward;
  unsupported = false;
  padding = true;
  no_insn = false;
  place = place;
  field = None;
  pos = pos;
}

-- an instruction that begins at this place, with its target in this field if it has one
abbrev pub insn_item : Pos → Place → View → Option ℕ → SeenItem
insn_item pos place insn field = record {
  effect = followed (effect_of (action_of insn));
  flow = flow_of insn;
  unsupported = is_unsupported insn;
  padding = false;
  no_insn = false;
  place = place;
  field = field;
  pos = pos;
}

-- control may go to a target that a field holds: the instruction is a direct jump or call
abbrev pub has_target : Flow → Bool
has_target onward = false
has_target (jumps falls) = true
has_target calls = true
has_target _ = false

-- the field with the target, where the section had so many fields before the instruction and has so many behind it: the first that is new
abbrev pub target_field : Flow → (before after : ℕ) → Option ℕ
target_field flow before after = if has_target flow then (if nat_lt before after then Some before else None) else None
