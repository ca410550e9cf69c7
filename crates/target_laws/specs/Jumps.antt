-- Direct jumps of functions where they are loaded.
use Rattle.std.specs.Prelude.{◌≡◌, ◌++◌, ◌⊎◌, ℕ, Bool, List, Option, None, Some, drop, length, slice_get, if◌then◌else◌}
use Rattle.asm_base.specs.Tokens.{SpelledToken}
use Rattle.asm_base.specs.declared.positions.Pos.{Pos}
use Rattle.asm_symbols.specs.SymbolMap.{SymbolMap}
use Rattle.asm_frags.specs.declared.fields.Field.{Field}
use Rattle.item_bytes.specs.declared.jumps.Condition.{Condition}
use Rattle.item_bytes.specs.Jumps.{is_conditional, jump_bytes, jump_distance}
use Rattle.item_contents.specs.declared.kinds.Growth.TheVariants.{Jump}
use Rattle.x86_insn.specs.declared.amounts.Suffix.TheVariants.{Plt}
use Rattle.x86_insn.specs.declared.amounts.Values.{Values}
use Rattle.att_insns.specs.InsnTexts.{InsnText}
use Rattle.insn_effects.specs.Decoding.{action_of}
use Rattle.insn_effects.specs.Effects.{effect_of}
use Rattle.insn_effects.specs.Flows.{jumps, flow_of, is_unsupported}
use Rattle.insn_effects.specs.Followed.{Shows}
use Rattle.step_readings.specs.Jumps.{jump_of}
use Rattle.code_functions.specs.declared.items.CodeItem.{CodeItem}
use Rattle.flow_graph.specs.declared.nodes.Node.{Node}
use Rattle.flow_graph.specs.Nodes.{node_of}
use Rattle.scfi_laws.specs.Laid.{Kind, plain, directed, Fits, ReadsItem}
use Rattle.asm_relax.specs.FieldValues.{held_value}
use Rattle.asm_relax.specs.SettledRoom.{HasRoomFor}
use Rattle.asm_relax.specs.Settling.{LaidSections}
use Rattle.asm_values.specs.State.{Placed}
use Rattle.asm_place.specs.Coding.{view_in}
use Rattle.asm_place.specs.CodePlaces.{jump_in}
use Rattle.asm_place.specs.JumpPlaces.{IsJumpPut, jump_form, items_so_far, jump_field}
use Rattle.place_laws.specs.Ends.{items_in, place_in, size_at}
use Rattle.place_laws.specs.Jumps.{laid_jump_field}
use Rattle.code_laws.specs.Sections.{IsLoadedLater}
use Rattle.target_laws.specs.Targets.{NamesNoField, AreExpandable, place_address}

-- WHERE THEIR BYTES STAND

-- the place of a jump that is put where these statements end
abbrev pub jump_place : LaidSections → Placed → ℕ
jump_place laid before = place_in laid before.current before.sections

-- how many bytes it has
abbrev pub jump_length : LaidSections → Placed → ℕ
jump_length laid before = size_at (items_in laid before.current) (items_so_far before)

-- a jump that was put is loaded where the layout of later sections has a place and room for it
pub record IsJumpLoaded (symbols : SymbolMap) (laid : LaidSections) (pos : Pos)
    (tokens : List SpelledToken) (text : InsnText) (condition : Option Condition)
    (before placed : Placed) (code : List ℕ) : Type 0 where
  pub put : IsJumpPut pos tokens text condition before placed
  pub later : IsLoadedLater symbols laid before.current placed.sections code
  pub room : HasRoomFor symbols laid (Jump condition) (jump_length laid before)
      (laid_jump_field symbols pos tokens text condition before placed put)

-- the bytes of a jump stand at the place, as many as its item has: those over the distance that its
-- field holds, or, where that has no value, over any
pub record JumpBytesStand (condition : Option Condition) (held : Option ℕ) (code : List ℕ)
    (place size : ℕ) : Type 0 where
  pub near : Bool
  pub distance : ℕ
  pub rest : List ℕ
  pub stand : drop place code ≡ jump_bytes condition near distance ++ rest
  pub long : length (jump_bytes condition near distance) ≡ size
  pub value : (value : ℕ) → held ≡ Some value
      → jump_distance near (jump_bytes condition near distance) ≡ value

-- so it is with each jump that is loaded
abbrev pub LoadedJumpsStand : Type 0
LoadedJumpsStand = (symbols : SymbolMap) (laid : LaidSections) (pos : Pos)
    (tokens : List SpelledToken) (text : InsnText) (condition : Option Condition)
    (before placed : Placed) (code : List ℕ)
    (is : IsJumpLoaded symbols laid pos tokens text condition before placed code)
    → JumpBytesStand condition
    (held_value symbols laid
    (laid_jump_field symbols pos tokens text condition before placed is.put))
    code (jump_place laid before) (jump_length laid before)

-- WHAT IS READ THERE

-- with any values the instruction is the direct jump of its condition
abbrev pub JumpsAreSeen : Type 0
JumpsAreSeen = (text : InsnText) (condition : Option Condition) (values : Values)
    → jump_in text ≡ Some condition → view_in text values ≡ jump_of condition

-- from which control goes to its target, and may go on if it has a condition
abbrev pub JumpsGo : Type 0
JumpsGo = (condition : Option Condition)
    → flow_of (jump_of condition) ≡ jumps (is_conditional condition)

-- of a function in the section of this number, this is the item of a jump whose field has this
-- number, and the node of the item
pub record IsJumpItem (symbols : SymbolMap) (section : ℕ) (fields : List Field)
    (items : List CodeItem) (condition : Option Condition) (number : ℕ) (item : CodeItem)
    (node : Node) : Type 0 where
  pub shows : Shows item.effect (effect_of (action_of (jump_of condition)))
      (flow_of (jump_of condition)) (is_unsupported (jump_of condition))
  pub holds : item.field ≡ Some number
  pub node_is : node ≡ node_of symbols section fields items item

-- items begin at these places of the section
abbrev pub AreStarts : LaidSections → (section : ℕ) → List CodeItem → (ℕ → ℕ) → Type 0
AreStarts laid section items starts = (index : ℕ) (item : CodeItem)
    → slice_get items index ≡ Some item → starts index ≡ place_address laid section item.place

-- what an instruction of so many bytes is that jumps: an exit goes where the node says
abbrev pub jump_kind : (exits : Bool) → ℕ → Kind
jump_kind exits bytes = if exits then directed bytes else plain bytes

-- the item is one of this kind, and what is read where its bytes are does what it may do
pub record IsItemAt (starts : ℕ → ℕ) (code : List ℕ) (place : ℕ) (kind : Kind) (item : CodeItem)
    (node : Node) : Type 0 where
  pub fits : Fits kind item node
  pub reads_back : ReadsItem starts code place kind item node

-- where a jump of a function is loaded, what is read there does what its item may do: it goes to
-- the item that is the jump's target, where there is one that no other object may replace. Its
-- target names no place of a field, and `@PLT` is said of it or nothing is
abbrev pub JumpsAreRead : Type 0
JumpsAreRead = (symbols : SymbolMap) (laid : LaidSections) (pos : Pos)
    (tokens : List SpelledToken) (text : InsnText) (condition : Option Condition)
    (before placed : Placed) (code : List ℕ) (fields : List Field) (items : List CodeItem)
    (item : CodeItem) (node : Node) (starts : ℕ → ℕ) (number : ℕ)
    (is : IsJumpLoaded symbols laid pos tokens text condition before placed code)
    → AreExpandable symbols → NamesNoField is.put.jump.forms.displacement
    → (text.displacement.suffix ≡ None) ⊎ (text.displacement.suffix ≡ Some Plt)
    → slice_get fields number
    ≡ Some (jump_field pos text (jump_form is.put.jump.forms) before)
    → IsJumpItem symbols before.current fields items condition number item node
    → AreStarts laid before.current items starts
    → IsItemAt starts code (jump_place laid before)
    (jump_kind node.exits (jump_length laid before)) item node
