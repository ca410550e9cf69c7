-- The texts of operands: from an operand to the tokens that spell it (GNU as manual, "AT&T Syntax versus Intel Syntax" and "Memory References").
use Rattle.std.specs.Prelude.{◌≡◌, ℕ, ◌+◌, nat_lt, Bool, true, false, List, [], ◌∷◌, ◌++◌, drop, length, Option, Some, None, Ok, slice_get, codes}
use Rattle.std.specs.List.{list_all}
use Rattle.asm_base.specs.Tokens.{SpelledToken}
use Rattle.x86_insn.specs.declared.registers.Reg.{Reg}
use Rattle.x86_insn.specs.declared.insns.Segment.{Segment}
use Rattle.x86_insn.specs.declared.insns.Base.TheVariants as base
use Rattle.x86_insn.specs.declared.insns.Index.TheVariants as index
use Rattle.x86_insn.specs.declared.insns.Address.{Address}
use Rattle.att_operands.specs.declared.registers.NamedRegister.TheVariants as named
use Rattle.att_operands.specs.Registers.{register_of}
use Rattle.att_operands.specs.Marks.{mark_at, ends_by}
use Rattle.att_operands.specs.Values.{ValueText}
use Rattle.att_operands.specs.OperandTexts.{register, immediate, target, no_displacement}
use Rattle.att_operands.specs.Spells.{IsMark, WritesValue, in_segment}
use Rattle.intel_sums.specs.declared.parts.Parts.{Parts}
use Rattle.intel_sums.specs.declared.parts.Parts.TheVariants.{Nothing}
use Rattle.intel_sums.specs.Parts.{address_of}
use Rattle.intel_sums.specs.Spells.{WritesSum}
use Rattle.intel_operands.specs.Words.{is_word, bits_by, bits_in, offset_words}
use Rattle.intel_operands.specs.Symbols.{has_symbol, names_place}
use Rattle.intel_operands.specs.OperandTexts.{SizedText, unsized, in_memory, Outline, lone, held, bare, stands, moved, has_register, has_bracket, segment_of, lone_register, is_memory, is_nested, summed_at, is_placed, is_no_comma, ReadPart, part, operand_at}

-- The text stands round the value of memory, behind the size and the segment.
pub data PlacesMemory : (bits : ℕ) (segment : Option Segment) (outline : Outline) (text : List SpelledToken) → Type 0 where
  -- a displacement alone, without a register; outside of segments a symbol stands in it, to which numbers may be added
  displacement : (bits : ℕ) (segment : Option Segment) (text : List SpelledToken) → has_bracket text ≡ false → has_register text ≡ false → is_placed segment text ≡ true
      → PlacesMemory bits segment (moved bits (in_segment segment base.Absent index.Absent) text) text
  -- a sum in brackets, and an expression before the bracket
  bracket : (bits : ℕ) (segment : Option Segment) (address : Address) (parts : Parts) (closing : SpelledToken) (left before text : List SpelledToken)
      → has_bracket text ≡ true → WritesSum false 0 Nothing parts left before → address_of segment parts ≡ Some address → IsMark 93 closing
      → text ≡ before ++ (closing ∷ []) → PlacesMemory bits segment (summed_at bits (mark_at text 0) address left) text

-- The text stands round the value of memory, behind the size.
pub data SegmentsMemory : (bits : ℕ) (outline : Outline) (text : List SpelledToken) → Type 0 where
  -- no segment
  plain : (bits : ℕ) (outline : Outline) (text : List SpelledToken) → segment_of text ≡ None → PlacesMemory bits None outline text → SegmentsMemory bits outline text
  -- `segment:`
  behind_segment : (bits : ℕ) (segment : Segment) (outline : Outline) (word colon : SpelledToken) (text : List SpelledToken)
      → register_of word.bytes ≡ Some (named.Segment segment) → IsMark 58 colon → PlacesMemory bits (Some segment) outline text
      → SegmentsMemory bits outline (word ∷ colon ∷ text)

-- The text stands round the value of memory.
pub data SizesMemory : (outline : Outline) (text : List SpelledToken) → Type 0 where
  -- no size
  unsaid : (outline : Outline) (text : List SpelledToken) → bits_in text ≡ 0 → SegmentsMemory 0 outline text → SizesMemory outline text
  -- `SIZE PTR`
  said : (bits : ℕ) (outline : Outline) (size pointer : SpelledToken) (text : List SpelledToken) → bits_by (Some size) ≡ bits → nat_lt 0 bits ≡ true
      → is_word (codes "ptr") (Some pointer) ≡ true → SegmentsMemory bits outline text → SizesMemory outline (size ∷ pointer ∷ text)

-- The text stands round the value of an operand.
pub data IsOutline : (outline : Outline) (text : List SpelledToken) → Type 0 where
  -- `register`
  alone : (reg : Reg) (word : SpelledToken) → register_of word.bytes ≡ Some (named.Plain reg) → IsOutline (lone reg) (word ∷ [])
  -- `OFFSET` or `OFFSET FLAT:`, and a value without a register
  offset : (front text all : List SpelledToken) → lone_register all ≡ None → nat_lt 0 (length front) ≡ true → offset_words all ≡ length front → has_register text ≡ false
      → all ≡ front ++ text → IsOutline (held text) all
  -- memory
  place : (outline : Outline) (text : List SpelledToken) → lone_register text ≡ None → offset_words text ≡ 0 → is_memory text ≡ true → is_nested text ≡ false
      → SizesMemory outline text → IsOutline outline text
  -- memory in brackets, which says its size there
  nested : (outline : Outline) (opening closing : SpelledToken) (text all : List SpelledToken) → lone_register all ≡ None → offset_words all ≡ 0 → is_memory all ≡ true
      → IsMark 91 opening → nat_lt 0 (bits_in (text ++ (closing ∷ []))) ≡ true → IsMark 93 closing → SizesMemory outline text
      → all ≡ opening ∷ (text ++ (closing ∷ [])) → IsOutline outline all
  -- a value without a register
  value : (text : List SpelledToken) → lone_register text ≡ None → offset_words text ≡ 0 → is_memory text ≡ false → has_register text ≡ false → IsOutline (bare text) text

-- What stands round a value, and the value, are an operand of a branch or of another instruction.
pub data HoldsValue : (branch : Bool) (outline : Outline) (operand : SizedText) → Type 0 where
  -- a register
  of_register : (branch : Bool) (reg : Reg) → HoldsValue branch (lone reg) (unsized (register reg))
  -- an immediate
  of_offset : (branch : Bool) (value : ValueText) (text : List SpelledToken) → WritesValue value text → HoldsValue branch (held text) (unsized (immediate value))
  -- the target of a branch
  of_target : (value : ValueText) (text : List SpelledToken) → WritesValue value text → HoldsValue true (bare text) (unsized (target value))
  -- a symbol, to which numbers may be added: memory
  of_symbol : (value : ValueText) (text : List SpelledToken) → names_place text ≡ true → WritesValue value text
      → HoldsValue false (bare text) (in_memory 0 (in_segment None base.Absent index.Absent) value)
  -- a value without a symbol: an immediate
  of_number : (value : ValueText) (text : List SpelledToken) → names_place text ≡ false → has_symbol text ≡ false → WritesValue value text
      → HoldsValue false (bare text) (unsized (immediate value))
  -- memory without a displacement
  of_address : (branch : Bool) (bits : ℕ) (address : Address) → HoldsValue branch (stands bits address) (in_memory bits address no_displacement)
  -- memory with a displacement
  of_displacement : (branch : Bool) (bits : ℕ) (address : Address) (value : ValueText) (text : List SpelledToken) → WritesValue value text
      → HoldsValue branch (moved bits address text) (in_memory bits address value)

-- no comma stands in the text
abbrev pub HasNoComma : List SpelledToken → Type 0
HasNoComma text = list_all is_no_comma text ≡ true

-- the text, in which no comma stands, spells an operand of a branch or of another instruction
pub record SpellsOperand (branch : Bool) (operand : SizedText) (text : List SpelledToken) : Type 0 where
  pub outline : Outline
  pub some : nat_lt 0 (length text) ≡ true
  pub apart : HasNoComma text
  pub round : IsOutline outline text
  pub holds : HoldsValue branch outline operand

-- a comma stands in front, or nothing
abbrev pub ends : List SpelledToken → Bool
ends tokens = ends_by (slice_get tokens 0)

-- the text at this place, behind which an operand ends, has to be read as the operand
abbrev pub IsReadWhole : Bool → SizedText → List SpelledToken → ℕ → List SpelledToken → Type 0
IsReadWhole branch operand tokens at text = operand_at branch tokens at ≡ Ok (part (at + length text) operand)

-- the tokens from this place on begin with a text of the operand that was read, behind which an operand ends
pub record IsSpelledIn (branch : Bool) (tokens : List SpelledToken) (at : ℕ) (found : ReadPart) : Type 0 where
  pub text : List SpelledToken
  pub behind : List SpelledToken
  pub stands : drop at tokens ≡ text ++ behind
  pub next : found.next ≡ at + length text
  pub spells : SpellsOperand branch found.sized text
  pub ended : ends behind ≡ true
