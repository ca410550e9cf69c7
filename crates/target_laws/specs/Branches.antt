-- Branches of functions whose distances are in fields over plain bytes, as those of the loop group.
use Rattle.std.specs.Prelude.{◌≡◌, ◌+◌, ◌⊎◌, ℕ, Bool, List, Option, None, Some, Ok, length, slice_get, slice_range}
use Rattle.std.specs.Option.{option_and_then}
use Rattle.asm_base.specs.Tokens.{SpelledToken}
use Rattle.asm_base.specs.declared.positions.Pos.{Pos}
use Rattle.asm_symbols.specs.SymbolMap.{SymbolMap}
use Rattle.asm_frags.specs.declared.fields.Field.{Field}
use Rattle.x86_insn.specs.declared.amounts.FieldKind.TheVariants.{Branch}
use Rattle.x86_insn.specs.declared.amounts.Suffix.TheVariants.{Plt}
use Rattle.x86_insn.specs.declared.amounts.Values.{Values}
use Rattle.x86_insn.specs.Views.{absent, target, View}
use Rattle.x86_parts.specs.declared.encoded.Field.{Field as CodedField}
use Rattle.x86_encode.specs.Encoding.{encoding_of}
use Rattle.x86_parts.specs.Filling.{Coding}
use Rattle.insn_effects.specs.Decoding.{action_of}
use Rattle.insn_effects.specs.Effects.{effect_of}
use Rattle.insn_effects.specs.Flows.{jumps, flow_of, is_unsupported}
use Rattle.insn_effects.specs.Followed.{Shows}
use Rattle.step_readings.specs.Loaded as coded
use Rattle.code_functions.specs.declared.items.CodeItem.{CodeItem}
use Rattle.flow_graph.specs.declared.nodes.Node.{Node}
use Rattle.flow_graph.specs.Nodes.{node_of}
use Rattle.asm_relax.specs.Settling.{LaidSections}
use Rattle.att_insns.specs.InsnTexts.{InsnText}
use Rattle.asm_values.specs.State.{Placed}
use Rattle.asm_place.specs.Coding.{shape_in, view_in, values_in, immediate_field}
use Rattle.asm_place.specs.CodePlaces.{ValueForms, IsCoded, IsInsnPut, field_in}
use Rattle.asm_place.specs.Instructions.{next_item, next_offset}
use Rattle.code_laws.specs.Sections.{IsLoadedLater}
use Rattle.target_laws.specs.Targets.{NamesNoField, AreExpandable}
use Rattle.target_laws.specs.Jumps.{AreStarts, IsItemAt, jump_place, jump_kind}

-- WHAT THEY ARE

-- an instruction from which control goes by a direct jump has a target first
abbrev pub BranchesHaveTargets : Type 0
BranchesHaveTargets = (insn : View) (falls : Bool) → flow_of insn ≡ jumps falls
    → (distance : Option ℕ) × (insn.first ≡ target distance)

-- the instruction has a target alone, which is not known, and its encoding a field alone, with the
-- distance to the target
pub record HoldsTargetAlone (insn : View) (made : Coding) : Type 0 where
  pub first : insn.first ≡ target None
  pub second : insn.second ≡ absent
  pub third : insn.third ≡ absent
  pub displacement : made.displacement ≡ None
  pub field : CodedField
  pub immediate : made.immediate ≡ Some field
  pub kind : field.kind ≡ Branch

-- so has each that is written and has an encoding
abbrev pub TargetsAreAlone : Type 0
TargetsAreAlone = (text : InsnText) (values : Values) (made : Coding) (falls : Bool)
    → flow_of (view_in text values) ≡ jumps falls → encoding_of (view_in text) values ≡ Ok made
    → HoldsTargetAlone (view_in text values) made

-- WHAT IS READ WHERE THEY ARE LOADED

-- an instruction that was put is loaded where the layout of later sections has a place for it, with
-- any bytes in its fields
pub record IsBranchLoaded (symbols : SymbolMap) (laid : LaidSections) (pos : Pos)
    (tokens : List SpelledToken) (text : InsnText) (before placed : Placed) (code : List ℕ)
    : Type 0 where
  pub put : IsInsnPut pos tokens text before placed
  pub later : IsLoadedLater symbols laid before.current placed.sections code
  pub loaded : coded.IsLoaded put.coded.made
      (slice_range code (jump_place laid before)
      (jump_place laid before + length put.coded.made.bytes))

-- the field of an instruction that is put where these statements end, by the one in its encoding
abbrev pub branch_field : Pos → InsnText → ValueForms → Coding → CodedField → Placed → Field
branch_field pos text forms made field before =
    field_in pos before.current (next_item before) (next_offset before)
    (immediate_field (length made.bytes) (shape_in text) forms field)

-- of a function in the current section, this is the item of the instruction, and its node: the item
-- has the field of the instruction
pub record IsBranchItem (symbols : SymbolMap) (fields : List Field) (items : List CodeItem)
    (pos : Pos) (tokens : List SpelledToken) (text : InsnText) (before : Placed)
    (coding : IsCoded pos tokens text before) (item : CodeItem) (node : Node) : Type 0 where
  pub shows : Shows item.effect (effect_of (action_of (view_in text (values_in coding.forms))))
      (flow_of (view_in text (values_in coding.forms)))
      (is_unsupported (view_in text (values_in coding.forms)))
  pub holds : (field : CodedField) → coding.made.immediate ≡ Some field
      → option_and_then (slice_get fields) item.field
      ≡ Some (branch_field pos text coding.forms coding.made field before)
  pub node_is : node ≡ node_of symbols before.current fields items item

-- where an instruction of a function is loaded from which control goes by a direct jump, what is
-- read there does what its item may do: it goes to the item that is the target, where there is one
-- that no other object may replace. The target names no place of a field, and `@PLT` is said of it
-- or nothing is
abbrev pub BranchesAreRead : Type 0
BranchesAreRead = (symbols : SymbolMap) (laid : LaidSections) (pos : Pos)
    (tokens : List SpelledToken) (text : InsnText) (before placed : Placed) (code : List ℕ)
    (fields : List Field) (items : List CodeItem) (item : CodeItem) (node : Node) (starts : ℕ → ℕ)
    (falls : Bool) (is : IsBranchLoaded symbols laid pos tokens text before placed code)
    → flow_of (view_in text (values_in is.put.coded.forms)) ≡ jumps falls → AreExpandable symbols
    → NamesNoField is.put.coded.forms.displacement
    → (text.displacement.suffix ≡ None) ⊎ (text.displacement.suffix ≡ Some Plt)
    → IsBranchItem symbols fields items pos tokens text before is.put.coded item node
    → AreStarts laid before.current items starts
    → IsItemAt starts code (jump_place laid before)
    (jump_kind node.exits (length is.put.coded.made.bytes)) item node
