-- Instructions with operands or a prefix, and what is read where they are loaded.
use Rattle.std.specs.Prelude.{◌≡◌, ◌+◌, ℕ, false, List, None, Some, Ok, length, slice_range}
use Rattle.asm_base.specs.Tokens.{SpelledToken}
use Rattle.asm_base.specs.declared.positions.Pos.{Pos}
use Rattle.asm_symbols.specs.SymbolMap.{SymbolMap}
use Rattle.asm_frags.specs.Writing.{LooseSection}
use Rattle.section_laws.specs.Within.{AreWithin}
use Rattle.asm_relax.specs.Settling.{LaidSections}
use Rattle.x86_insn.specs.Views.{Seen, absent, register, immediate, memory, target, View}
use Rattle.x86_parts.specs.Filling.{Coding, valued}
use Rattle.insn_effects.specs.Flows.{Flow, onward, jumps, calls, through, returns, stops, flow_of}
use Rattle.asm_operands.specs.Operands.{begins_with_label}
use Rattle.asm_values.specs.State.{Placed}
use Rattle.att_insns.specs.InsnTexts.{InsnText}
use Rattle.asm_place.specs.Effects.{insn_view}
use Rattle.asm_place.specs.Placing.{place_tokens}
use Rattle.asm_place.specs.CodePlaces.{FieldInCode, insn_written, jump_in, IsCodePut, IsInsnPut}
use Rattle.code_functions.specs.declared.items.CodeItem.{CodeItem}
use Rattle.flow_graph.specs.declared.nodes.Node.{Node}
use Rattle.x86_steps.specs.Leading.{distance_of}
use Rattle.step_readings.specs.Filled.{IsNumber}
use Rattle.step_readings.specs.Loaded.{IsLoaded, HoldsValue}
use Rattle.scfi_laws.specs.Laid.{plain}
use Rattle.item_readings.specs.Items.{IsItemOf, ReadsItemOnly}
use Rattle.place_laws.specs.Ends.{place_in}
use Rattle.place_laws.specs.Statements.{MovesPlace}
use Rattle.loaded_laws.specs.Codes.{StandsBeside}
use Rattle.code_laws.specs.Sections.{IsLoadedLater, IsLaidBetween}

-- THEIR BYTES

-- what is put moves the place of what is put next by its bytes, and these stand in the section as
-- it is loaded, but for those of its fields
pub record IsLoadedBeside (laid : LaidSections) (number : ℕ) (before after : List LooseSection)
    (bytes : List ℕ) (fields : List FieldInCode) (code : List ℕ) : Type 0 where
  pub moves : MovesPlace laid number before after (length bytes)
  pub stands : StandsBeside bytes code (place_in laid number before) fields

-- so it is with the bytes and fields of an instruction
abbrev pub LoadedCodesStand : Type 0
LoadedCodesStand = (symbols : SymbolMap) (laid : LaidSections) (number : ℕ)
    (before after : List LooseSection) (pos : Pos) (bytes : List ℕ) (fields : List FieldInCode)
    (code : List ℕ) → AreWithin before → IsCodePut before after number pos bytes fields
    → IsLoadedLater symbols laid number after code
    → IsLoadedBeside laid number before after bytes fields code

-- WHAT THEY READ AS

-- a number that is known in the operand has 64 bits
abbrev pub IsNumbered : Seen → Type 0
IsNumbered absent = Unit {0}
IsNumbered (register r) = Unit {0}
IsNumbered (immediate k) = IsNumber k
IsNumbered (memory a d) = Unit {0}
IsNumbered (target d) = Unit {0}

-- so is each that is known in the instruction beside displacements
pub record AreNumbered (insn : View) : Type 0 where
  pub first : IsNumbered insn.first
  pub second : IsNumbered insn.second
  pub third : IsNumbered insn.third

-- the bytes of the encoding that stand at the place hold these values, and what is read there does
-- what the item may do
pub record IsReadLoaded (made : Coding) (insn : View) (item : CodeItem) (node : Node)
    (starts : ℕ → ℕ) (code : List ℕ) (place : ℕ) : Type 0 where
  pub v : ℕ
  pub w : ℕ
  pub loaded : IsLoaded made (slice_range code place (place + length made.bytes))
  pub displacement : HoldsValue made.displacement v
      (slice_range code place (place + length made.bytes))
  pub immediate : HoldsValue made.immediate w (slice_range code place (place + length made.bytes))
  pub reads : ReadsItemOnly insn item node starts code place
      (slice_range code place (place + length made.bytes))
      (distance_of (valued (length made.bytes) v w insn.first))

-- the statement is put as an instruction, moves the place of what is put next by its bytes, and is
-- read so where it is loaded
pub record IsPutAndRead (pos : Pos) (tokens : List SpelledToken) (text : InsnText)
    (before placed : Placed) (laid : LaidSections) (insn : View) (item : CodeItem) (node : Node)
    (starts : ℕ → ℕ) (code : List ℕ) : Type 0 where
  pub put : IsInsnPut pos tokens text before placed
  pub moves : MovesPlace laid before.current before.sections placed.sections
      (length put.coded.made.bytes)
  pub reads : IsReadLoaded put.coded.made insn item node starts code
      (place_in laid before.current before.sections)

-- a statement that is an instruction, and no direct jump that grows, is read so where it is loaded,
-- whatever a linker has put into its fields. In front of it stands no label
abbrev pub EncodingsAreReadLoaded : Type 0
EncodingsAreReadLoaded = (symbols : SymbolMap) (laid : LaidSections) (pos : Pos)
    (tokens : List SpelledToken) (text : InsnText) (before placed : Placed) (code : List ℕ)
    (insn : View) (item : CodeItem) (node : Node) (starts : ℕ → ℕ)
    → begins_with_label tokens ≡ false → insn_written before.syntax tokens ≡ Some text
    → jump_in text ≡ None → place_tokens pos tokens before ≡ Ok placed
    → AreWithin before.sections → IsLoadedLater symbols laid before.current placed.sections code
    → insn_view pos tokens before ≡ Some insn → AreNumbered insn → IsItemOf insn item node
    → IsPutAndRead pos tokens text before placed laid insn item node starts code

-- control does not go from it by a direct jump
abbrev pub IsNoJump : Flow → Type 0
IsNoJump onward = Unit {0}
IsNoJump (jumps falls) = ⊥
IsNoJump calls = Unit {0}
IsNoJump through = Unit {0}
IsNoJump returns = Unit {0}
IsNoJump stops = Unit {0}

-- the statement is laid as an item of so many bytes
pub record IsLaidPlain (laid : LaidSections) (before placed : Placed) (starts : ℕ → ℕ)
    (code : List ℕ) (item : CodeItem) (node : Node) : Type 0 where
  pub bytes : ℕ
  pub is : IsLaidBetween laid before.current before.sections placed.sections starts code
      (plain bytes) item node

-- so is each that is an instruction with operands or a prefix and no direct jump
abbrev pub EncodingsAreLaid : Type 0
EncodingsAreLaid = (symbols : SymbolMap) (laid : LaidSections) (pos : Pos)
    (tokens : List SpelledToken) (text : InsnText) (before placed : Placed) (code : List ℕ)
    (insn : View) (item : CodeItem) (node : Node) (starts : ℕ → ℕ)
    → begins_with_label tokens ≡ false → insn_written before.syntax tokens ≡ Some text
    → jump_in text ≡ None → place_tokens pos tokens before ≡ Ok placed
    → AreWithin before.sections → IsLoadedLater symbols laid before.current placed.sections code
    → insn_view pos tokens before ≡ Some insn → AreNumbered insn → IsItemOf insn item node
    → IsNoJump (flow_of insn) → IsLaidPlain laid before placed starts code item node
