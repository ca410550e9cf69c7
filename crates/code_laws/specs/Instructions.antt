-- Instructions of any kind but direct jumps, by what is seen of them.
use Rattle.std.specs.Prelude.{◌≡◌, ◌∷◌, ℕ, false, List, Some, Ok}
use Rattle.asm_base.specs.Tokens.{SpelledToken}
use Rattle.asm_base.specs.declared.positions.Pos.{Pos}
use Rattle.asm_symbols.specs.SymbolMap.{SymbolMap}
use Rattle.section_laws.specs.Within.{AreWithin}
use Rattle.asm_relax.specs.Settling.{LaidSections}
use Rattle.x86_insn.specs.Views.{View}
use Rattle.x86_lookup.specs.BareInstructions.{Coded}
use Rattle.insn_effects.specs.Flows.{flow_of}
use Rattle.asm_operands.specs.Operands.{begins_with_label}
use Rattle.asm_values.specs.State.{Placed}
use Rattle.att_insns.specs.InsnTexts.{InsnText}
use Rattle.asm_place.specs.Coding.{view_in, values_in}
use Rattle.asm_place.specs.Effects.{insn_view}
use Rattle.asm_place.specs.Instructions.{instruction_written}
use Rattle.asm_place.specs.Placing.{place_tokens}
use Rattle.asm_place.specs.CodePlaces.{BeginsAsInstruction, insn_written}
use Rattle.asm_place.specs.JumpPlaces.{IsJump}
use Rattle.code_functions.specs.declared.items.CodeItem.{CodeItem}
use Rattle.flow_graph.specs.declared.nodes.Node.{Node}
use Rattle.item_readings.specs.Items.{IsItemOf}
use Rattle.code_laws.specs.Sections.{IsLoadedLater}
use Rattle.code_laws.specs.Codes.{AreNumbered, IsNoJump, IsLaidPlain}

-- an instruction whose mnemonic alone has bytes is seen as the one that they read as
abbrev pub BareInstructionsAreSeen : Type 0
BareInstructionsAreSeen = (pos : Pos) (tokens : List SpelledToken) (before : Placed) (coded : Coded)
    → instruction_written before.syntax tokens ≡ Some coded
    → insn_view pos tokens before ≡ Some coded.insn

-- any other is seen with the values of its forms, where no label stands in front of it
abbrev pub EncodingsAreSeen : Type 0
EncodingsAreSeen = (pos : Pos) (tokens : List SpelledToken) (text : InsnText) (before : Placed)
    (made : IsJump pos tokens text before) → begins_with_label tokens ≡ false
    → insn_written before.syntax tokens ≡ Some text
    → insn_view pos tokens before ≡ Some (view_in text (values_in made.forms))

-- each statement that is placed as an instruction, with operands or without, in either syntax, is
-- laid as the item of what is seen of it, if control does not go from it by a direct jump
abbrev pub InstructionsAreLaid : Type 0
InstructionsAreLaid = (symbols : SymbolMap) (laid : LaidSections) (pos : Pos)
    (first : SpelledToken) (rest : List SpelledToken) (before placed : Placed) (code : List ℕ)
    (insn : View) (item : CodeItem) (node : Node) (starts : ℕ → ℕ)
    → begins_with_label (first ∷ rest) ≡ false → BeginsAsInstruction first rest
    → place_tokens pos (first ∷ rest) before ≡ Ok placed → AreWithin before.sections
    → IsLoadedLater symbols laid before.current placed.sections code
    → insn_view pos (first ∷ rest) before ≡ Some insn → AreNumbered insn
    → IsItemOf insn item node → IsNoJump (flow_of insn)
    → IsLaidPlain laid before placed starts code item node
