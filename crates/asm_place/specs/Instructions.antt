-- Statements that are instructions, and where their bytes go.
use Rattle.std.specs.Prelude.{◌≡◌, ℕ, ◌+◌, ◌≤◌, ◌==◌, ◌&&◌, ◌++◌, false, not, List, [], ◌∷◌, All, if◌then◌else◌, Option, None, Some, length, take, drop, slice_get, slice_set, slice_range}
use Rattle.std.specs.Option.{option_map_or}
use Rattle.asm_base.specs.Tokens.{SpelledToken}
use Rattle.asm_base.specs.declared.positions.Pos.{Pos}
use Rattle.asm_lines.specs.NextStatements.{TokenStatement}
use Rattle.asm_frags.specs.declared.fields.Field.{Field}
use Rattle.asm_frags.specs.PlainBytes.{IsBeside}
use Rattle.asm_frags.specs.Writing.{LooseItem, LooseSection, ends_in_run, with_bytes}
use Rattle.x86_lookup.specs.BareInstructions.{Coded, bare_instruction}
use Rattle.asm_operands.specs.Operands.{is_name, is_label, begins_with_dot}
use Rattle.asm_words.specs.declared.directives.Syntax.{Syntax}
use Rattle.asm_words.specs.declared.directives.Syntax.TheVariants.{Att, Intel}
use Rattle.asm_values.specs.State.{Placed}

-- what stands behind the labels in front
unfoldable pub behind_labels : List SpelledToken → List SpelledToken
behind_labels [] = []
behind_labels (token ∷ []) = token ∷ []
behind_labels (first ∷ second ∷ rest) = if is_label first second then behind_labels rest else (first ∷ second ∷ rest)

-- the instruction without operands and prefix that the tokens write in AT&T syntax, with its bytes: one name that no dot begins, and nothing
-- behind it. In Intel syntax it is one of those with any operands
unfoldable pub instruction_written : Syntax → List SpelledToken → Option Coded
instruction_written Intel tokens = None
instruction_written Att [] = None
instruction_written Att (name ∷ []) =
    if is_name name && not (begins_with_dot name.bytes) then bare_instruction name.bytes else None
instruction_written Att (name ∷ operand ∷ rest) = None

-- the instruction without operands and prefix that the statement is in this syntax, with its bytes, if it is one
abbrev pub instruction_of : Syntax → TokenStatement → Option Coded
instruction_of syntax s = instruction_written syntax (behind_labels s.tokens)

-- how many items stand before plain bytes that are put last, the run that they belong to among them
abbrev pub run_end : LooseSection → ℕ
run_end section = if ends_in_run section.items then length section.items else length section.items + 1

-- how many items stand before plain bytes that are put last in the section that statements put into
abbrev pub next_item : Placed → ℕ
next_item placed = option_map_or run_end (slice_get placed.sections placed.current) 0

-- how many plain bytes that section has
abbrev pub next_offset : Placed → ℕ
next_offset placed = option_map_or (λ section. length section.bytes) (slice_get placed.sections placed.current) 0

-- the section with these bytes, fields and items more
abbrev pub with_more : LooseSection → List ℕ → List Field → List LooseItem → LooseSection
with_more section bytes fields items = record section { bytes = section.bytes ++ bytes; fields = section.fields ++ fields; items = section.items ++ items }

-- the section is there later with its bytes, fields and items first, and says of itself what it said; fields and items that are more stand
-- behind its bytes
pub record IsContinued (section : LooseSection) (later : Option LooseSection) : Type 0 where
  pub bytes : List ℕ
  pub fields : List Field
  pub items : List LooseItem
  pub there : later ≡ Some (with_more section bytes fields items)
  pub fields_behind : All (λ field. length section.bytes ≤ field.offset) fields
  pub items_behind : All (λ item. length section.bytes ≤ item.offset) items

-- each section is continued
pub record Grows (before after : List LooseSection) : Type 0 where
  pub kept : (number : ℕ) (section : LooseSection) → slice_get before number ≡ Some section → IsContinued section (slice_get after number)

-- the bytes of the statement at this place are put last in the section of this number, which takes bytes; all else is as it was
pub record IsPut (before after : List LooseSection) (number : ℕ) (pos : Pos) (bytes : List ℕ) : Type 0 where
  pub section : LooseSection
  pub there : slice_get before number ≡ Some section
  pub takes_bytes : (section.kind == 8) ≡ false
  pub put : after ≡ slice_set before number (with_bytes pos bytes section)

-- these bytes stand at this offset of the section of this number, which takes bytes; no field stands over them, so many items stand before
-- them, and all other items stand behind them
pub record StandsAt (sections : List LooseSection) (number item offset : ℕ) (bytes : List ℕ) : Type 0 where
  pub section : LooseSection
  pub found : slice_get sections number ≡ Some section
  pub takes_bytes : (section.kind == 8) ≡ false
  pub within : offset + length bytes ≤ length section.bytes
  pub enough : item ≤ length section.items
  pub there : slice_range section.bytes offset (offset + length bytes) ≡ bytes
  pub free : All (IsBeside offset (offset + length bytes)) section.fields
  pub before : All (λ item. item.offset ≤ offset) (take item section.items)
  pub behind : All (λ item. offset + length bytes ≤ item.offset) (drop item section.items)
