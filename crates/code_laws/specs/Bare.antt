-- Instructions without operands, and what is read where they are loaded.
use Rattle.std.specs.Prelude.{◌≡◌, ℕ, List, Some, Ok}
use Rattle.asm_base.specs.Tokens.{SpelledToken}
use Rattle.asm_base.specs.declared.positions.Pos.{Pos}
use Rattle.asm_symbols.specs.SymbolMap.{SymbolMap}
use Rattle.section_laws.specs.Within.{AreWithin}
use Rattle.asm_relax.specs.Settling.{LaidSections}
use Rattle.x86_lookup.specs.BareInstructions.{Coded}
use Rattle.asm_values.specs.State.{Placed}
use Rattle.asm_place.specs.Instructions.{behind_labels, instruction_written}
use Rattle.asm_place.specs.Placing.{place_tokens}
use Rattle.code_functions.specs.declared.items.CodeItem.{CodeItem}
use Rattle.flow_graph.specs.declared.nodes.Node.{Node}
use Rattle.item_readings.specs.Items.{IsItemOf}
use Rattle.code_laws.specs.Sections.{IsLoadedLater}
use Rattle.code_laws.specs.Codes.{IsLaidPlain}

-- a statement that is an instruction without operands or a prefix in AT&T syntax is laid as the
-- item of that instruction
abbrev pub BareInstructionsAreLaid : Type 0
BareInstructionsAreLaid = (symbols : SymbolMap) (laid : LaidSections) (pos : Pos)
    (tokens : List SpelledToken) (coded : Coded) (before placed : Placed) (code : List ℕ)
    (item : CodeItem) (node : Node) (starts : ℕ → ℕ)
    → instruction_written before.syntax (behind_labels tokens) ≡ Some coded
    → place_tokens pos tokens before ≡ Ok placed → AreWithin before.sections
    → IsLoadedLater symbols laid before.current placed.sections code
    → IsItemOf coded.insn item node → IsLaidPlain laid before placed starts code item node
