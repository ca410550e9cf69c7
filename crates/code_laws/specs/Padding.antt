-- Alignments that fill with no-operations, and data, as items in what is loaded.
use Rattle.std.specs.Prelude.{◌≡◌, ℕ, true, List, Ok}
use Rattle.asm_base.specs.Tokens.{SpelledToken}
use Rattle.asm_base.specs.declared.positions.Pos.{Pos}
use Rattle.asm_symbols.specs.SymbolMap.{SymbolMap}
use Rattle.asm_frags.specs.Writing.{LooseSection}
use Rattle.item_contents.specs.declared.kinds.Padding.{Padding}
use Rattle.item_contents.specs.declared.kinds.Padding.TheVariants.{Byte, NoOperations}
use Rattle.section_laws.specs.Within.{AreWithin}
use Rattle.asm_relax.specs.Settling.{LaidSections}
use Rattle.asm_words.specs.declared.directives.AlignedBy.{AlignedBy}
use Rattle.asm_words.specs.Paddings.{padding_of}
use Rattle.asm_items.specs.Alignments.{is_code, place_align}
use Rattle.asm_values.specs.State.{Placed}
use Rattle.asm_place.specs.Effects.{fill_said}
use Rattle.asm_place.specs.Instructions.{Grows}
use Rattle.insn_effects.specs.Followed.{is_data, is_padding}
use Rattle.code_functions.specs.declared.items.CodeItem.{CodeItem}
use Rattle.flow_graph.specs.declared.nodes.Node.{Node}
use Rattle.scfi_laws.specs.Laid.{inert, padding}
use Rattle.code_laws.specs.Sections.{IsLoadedLater, IsLaidBetween}

-- the padding is made of no-operations: in code without a fill, and with 0x90
abbrev pub FillsWithNoOperations : Padding → Type 0
FillsWithNoOperations (Byte fill) = fill ≡ 0x90
FillsWithNoOperations NoOperations = Unit {0}

-- an alignment of these operands does so in the current section
abbrev pub PadsCode : Pos → List SpelledToken → Placed → Type 0
PadsCode pos tokens before =
    FillsWithNoOperations
    (padding_of (is_code before.sections before.current) (fill_said pos tokens before))

-- the statement is laid as an item that is padding
pub record IsLaidPadding (laid : LaidSections) (before placed : Placed) (starts : ℕ → ℕ)
    (code : List ℕ) (item : CodeItem) (node : Node) : Type 0 where
  pub lengths : List ℕ
  pub is : IsLaidBetween laid before.current before.sections placed.sections starts code
      (padding lengths) item node

-- so is each alignment that fills with no-operations, where control goes on from the item
abbrev pub AlignmentsAreLaid : Type 0
AlignmentsAreLaid = (symbols : SymbolMap) (laid : LaidSections) (pos : Pos) (by : AlignedBy)
    (tokens : List SpelledToken) (before placed : Placed) (code : List ℕ) (item : CodeItem)
    (node : Node) (starts : ℕ → ℕ) → place_align pos by tokens before ≡ Ok placed
    → AreWithin before.sections → IsLoadedLater symbols laid before.current placed.sections code
    → PadsCode pos tokens before → is_padding item.effect.role ≡ true → node.falls ≡ true
    → IsLaidPadding laid before placed starts code item node

-- what is put between these sections is laid as an item of so many bytes that is data
pub record IsLaidInert (laid : LaidSections) (number : ℕ) (before after : List LooseSection)
    (starts : ℕ → ℕ) (code : List ℕ) (item : CodeItem) (node : Node) : Type 0 where
  pub bytes : ℕ
  pub is : IsLaidBetween laid number before after starts code (inert bytes) item node

-- so is whatever is put where the item is data
abbrev pub DataAreLaid : Type 0
DataAreLaid = (laid : LaidSections) (number : ℕ) (before after : List LooseSection)
    (code : List ℕ) (item : CodeItem) (node : Node) (starts : ℕ → ℕ) → Grows before after
    → is_data item.effect.role ≡ true → IsLaidInert laid number before after starts code item node
