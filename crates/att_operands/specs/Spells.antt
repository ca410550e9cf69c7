-- The texts of operands: from an operand to the tokens that spell it (GNU as manual, "AT&T Syntax versus Intel Syntax" and "Memory References").
use Rattle.std.specs.Prelude.{◌≡◌, ℕ, ◌+◌, Bool, true, false, List, [], ◌∷◌, ◌++◌, length, drop, Option, Some, None, Ok, slice_get}
use Rattle.asm_base.specs.Tokens.{SpelledToken}
use Rattle.asm_expr.specs.Trees.{Tree}
use Rattle.expr_texts.specs.Grammar.{IsTextOf}
use Rattle.x86_insn.specs.declared.registers.Reg.{Reg}
use Rattle.x86_insn.specs.declared.amounts.Suffix.{Suffix}
use Rattle.x86_insn.specs.declared.insns.Segment.{Segment}
use Rattle.x86_insn.specs.declared.insns.Base.{Base}
use Rattle.x86_insn.specs.declared.insns.Base.TheVariants as base
use Rattle.x86_insn.specs.declared.insns.Index.{Index}
use Rattle.x86_insn.specs.declared.insns.Index.TheVariants as index
use Rattle.x86_insn.specs.declared.insns.Address.{Address}
use Rattle.att_operands.specs.declared.registers.NamedRegister.TheVariants as named
use Rattle.att_operands.specs.Registers.{register_of}
use Rattle.att_operands.specs.Marks.{mark_by, ends_by}
use Rattle.att_operands.specs.Addresses.{base_by, index_by, takes_index, scale_by}
use Rattle.att_operands.specs.Values.{ValueText, names_by, numbers_by, suffix_by}
use Rattle.att_operands.specs.OperandTexts.{OperandText, register, immediate, memory, target, part, no_displacement, ReadPart, operand_at}

-- the token is the mark of this byte
abbrev pub IsMark : ℕ → SpelledToken → Type 0
IsMark byte token = mark_by (Some token) ≡ byte

-- The text writes the index of an address, up to its `)`.
pub data WritesIndex : (index : Index) (text : List SpelledToken) → Type 0 where
  -- `%index)`
  unscaled : (number : ℕ) (sign word closing : SpelledToken) → IsMark 37 sign → index_by (register_of word.bytes) ≡ Some number → IsMark 41 closing
      → WritesIndex (index.By number 0) (sign ∷ word ∷ closing ∷ [])
  -- `%index,scale)`
  scaled : (number scale : ℕ) (sign word comma digits closing : SpelledToken) → IsMark 37 sign → index_by (register_of word.bytes) ≡ Some number → IsMark 44 comma
      → scale_by (Some digits) ≡ Some scale → IsMark 41 closing → WritesIndex (index.By number scale) (sign ∷ word ∷ comma ∷ digits ∷ closing ∷ [])

-- The text writes an address, from behind its `(` to its `)`.
pub data WritesAddress : (base : Base) (index : Index) (text : List SpelledToken) → Type 0 where
  -- `%base)`
  based : (base : Base) (sign word closing : SpelledToken) → IsMark 37 sign → base_by (register_of word.bytes) ≡ Some base → IsMark 41 closing
      → WritesAddress base index.Absent (sign ∷ word ∷ closing ∷ [])
  -- `%base,` and an index
  indexed : (base : Base) (index : Index) (sign word comma : SpelledToken) (text : List SpelledToken) → IsMark 37 sign → base_by (register_of word.bytes) ≡ Some base
      → takes_index base ≡ true → IsMark 44 comma → WritesIndex index text → WritesAddress base index (sign ∷ word ∷ comma ∷ text)
  -- a comma and an index
  unbased : (index : Index) (comma : SpelledToken) (text : List SpelledToken) → IsMark 44 comma → WritesIndex index text → WritesAddress base.Absent index (comma ∷ text)
  -- `,1)`
  lone : (comma digits closing : SpelledToken) → IsMark 44 comma → scale_by (Some digits) ≡ Some 0 → IsMark 41 closing
      → WritesAddress base.Absent index.Absent (comma ∷ digits ∷ closing ∷ [])

-- The tokens may stand in a value before the name that its suffix belongs to.
pub data LeadsName : (front : List SpelledToken) → Type 0 where
  -- nothing
  nothing : LeadsName []
  -- a number and `+`
  number : (digits plus : SpelledToken) → numbers_by (Some digits) ≡ true → IsMark 43 plus → LeadsName (digits ∷ plus ∷ [])
  -- `-`, a number and `+`
  negative : (minus digits plus : SpelledToken) → IsMark 45 minus → numbers_by (Some digits) ≡ true → IsMark 43 plus → LeadsName (minus ∷ digits ∷ plus ∷ [])

-- The text writes a value: a text of its tree, which has the suffix, where there is one, behind the name that begins it or that is added to its first number.
pub data WritesValue : (value : ValueText) (text : List SpelledToken) → Type 0 where
  plain : (tree : Tree) (text : List SpelledToken) → IsTextOf tree text → WritesValue (record { tree = tree; suffix = None }) text
  suffixed : (tree : Tree) (suffix : Suffix) (name mark word : SpelledToken) (front rest text : List SpelledToken) → LeadsName front → names_by (Some name) ≡ true
      → IsMark 64 mark → suffix_by (Some word) ≡ Some suffix → IsTextOf tree (front ++ (name ∷ rest)) → text ≡ front ++ (name ∷ mark ∷ word ∷ rest)
      → WritesValue (record { tree = tree; suffix = Some suffix }) text

-- an address in a segment, or in none
abbrev pub in_segment : Option Segment → Base → Index → Address
in_segment segment base index = record { segment = segment; base = base; index = index }

-- The text writes memory behind the name of its segment.
pub data WritesMemory : (segment : Option Segment) (operand : OperandText) (text : List SpelledToken) → Type 0 where
  -- a displacement
  displacement : (segment : Option Segment) (value : ValueText) (text : List SpelledToken) → WritesValue value text
      → WritesMemory segment (memory (in_segment segment base.Absent index.Absent) value) text
  -- an address in parentheses
  address : (segment : Option Segment) (base : Base) (index : Index) (opening : SpelledToken) (text : List SpelledToken) → IsMark 40 opening → WritesAddress base index text
      → WritesMemory segment (memory (in_segment segment base index) no_displacement) (opening ∷ text)
  -- a displacement, and an address in parentheses
  both : (segment : Option Segment) (base : Base) (index : Index) (value : ValueText) (opening : SpelledToken) (before behind text : List SpelledToken) → WritesValue value before
      → IsMark 40 opening → WritesAddress base index behind → text ≡ before ++ (opening ∷ behind) → WritesMemory segment (memory (in_segment segment base index) value) text

-- The text spells a register or memory.
pub data SpellsPlace : (operand : OperandText) (text : List SpelledToken) → Type 0 where
  -- `%register`
  plain : (reg : Reg) (sign word : SpelledToken) → IsMark 37 sign → register_of word.bytes ≡ Some (named.Plain reg) → SpellsPlace (register reg) (sign ∷ word ∷ [])
  -- memory
  unnamed : (operand : OperandText) (text : List SpelledToken) → WritesMemory None operand text → SpellsPlace operand text
  -- `%segment:` and memory
  segmented : (segment : Segment) (operand : OperandText) (sign word colon : SpelledToken) (text : List SpelledToken) → IsMark 37 sign
      → register_of word.bytes ≡ Some (named.Segment segment) → IsMark 58 colon → WritesMemory (Some segment) operand text → SpellsPlace operand (sign ∷ word ∷ colon ∷ text)

-- The text spells an operand, of a branch or of another instruction.
pub data SpellsOperand : (branch : Bool) (operand : OperandText) (text : List SpelledToken) → Type 0 where
  -- `$` and a value
  immediate_of : (branch : Bool) (value : ValueText) (sign : SpelledToken) (text : List SpelledToken) → IsMark 36 sign → WritesValue value text
      → SpellsOperand branch (immediate value) (sign ∷ text)
  -- a register or memory
  place : (operand : OperandText) (text : List SpelledToken) → SpellsPlace operand text → SpellsOperand false operand text
  -- a value as the target of a branch
  target_of : (value : ValueText) (text : List SpelledToken) → WritesValue value text → SpellsOperand true (target value) text
  -- `*` and a register or memory
  indirect : (operand : OperandText) (star : SpelledToken) (text : List SpelledToken) → IsMark 42 star → SpellsPlace operand text → SpellsOperand true operand (star ∷ text)

-- a comma stands in front, or nothing
abbrev pub ends : List SpelledToken → Bool
ends tokens = ends_by (slice_get tokens 0)

-- the text at this place, behind which an operand ends, has to be read as the operand
abbrev pub IsReadWhole : Bool → OperandText → List SpelledToken → ℕ → List SpelledToken → Type 0
IsReadWhole branch operand tokens at text = operand_at branch tokens at ≡ Ok (part operand (at + length text))

-- the tokens from this place on begin with a text of the operand that was read, behind which an operand ends
pub record IsSpelledIn (branch : Bool) (tokens : List SpelledToken) (at : ℕ) (found : ReadPart) : Type 0 where
  pub text : List SpelledToken
  pub behind : List SpelledToken
  pub stands : drop at tokens ≡ text ++ behind
  pub next : found.next ≡ at + length text
  pub spells : SpellsOperand branch found.operand text
  pub ended : ends behind ≡ true
