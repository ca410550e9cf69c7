-- The texts of instructions: from an instruction to the tokens that spell it (GNU as manual, "AT&T Syntax versus Intel Syntax").
use Rattle.std.specs.Prelude.{◌≡◌, ℕ, suc, ◌==◌, Bool, true, false, List, [], ◌∷◌, ◌++◌, drop, Some, Ok, slice_get}
use Rattle.asm_base.specs.Tokens.{SpelledToken}
use Rattle.x86_insn.specs.declared.insns.Prefix.{Prefix}
use Rattle.x86_insn.specs.declared.insns.Prefix.TheVariants.{Absent}
use Rattle.x86_table.specs.declared.forms.Row.{Row}
use Rattle.x86_table.specs.Rows.{the_rows}
use Rattle.x86_lookup.specs.declared.names.Named.{Named}
use Rattle.x86_lookup.specs.Mnemonics.{att_mnemonic}
use Rattle.att_operands.specs.Prefixes.{prefix_of}
use Rattle.att_operands.specs.OperandTexts.{OperandText, ReadPart, operand_at}
use Rattle.att_operands.specs.Spells.{IsMark, SpellsOperand, ends, IsReadWhole, IsSpelledIn}
use Rattle.att_insns.specs.InsnTexts.{InsnText, blank, with_operands}
use Rattle.att_insns.specs.Rules.{is_branch}
use Rattle.x86_lookup.specs.Forms.{is_form}
use Rattle.att_insns.specs.Sources.{meant_by}

-- The text writes operands, at most so many, with commas between.
pub data WritesOperands : (most : ℕ) (branch : Bool) (operands : List OperandText) (text : List SpelledToken) → Type 0 where
  last : (others : ℕ) (branch : Bool) (operand : OperandText) (text : List SpelledToken) → SpellsOperand branch operand text
      → WritesOperands (suc others) branch (operand ∷ []) text
  more : (others : ℕ) (branch : Bool) (operand : OperandText) (operands : List OperandText) (comma : SpelledToken) (before behind text : List SpelledToken)
      → SpellsOperand branch operand before → IsMark 44 comma → WritesOperands others branch operands behind → text ≡ before ++ (comma ∷ behind)
      → WritesOperands (suc others) branch (operand ∷ operands) text

-- The text writes up to three operands, or is empty.
pub data WritesAll : (branch : Bool) (operands : List OperandText) (text : List SpelledToken) → Type 0 where
  none : (branch : Bool) → WritesAll branch [] []
  some : (branch : Bool) (operands : List OperandText) (text : List SpelledToken) → WritesOperands 3 branch operands text → WritesAll branch operands text

-- all rows that are forms of the instruction have this size
abbrev pub HaveSize : InsnText → ℕ → Type 0
HaveSize insn size = (i : ℕ) (r : Row) → slice_get the_rows i ≡ Some r → is_form insn.name.0 insn.first insn.second insn.third r ≡ true → r.size ≡ size

-- no row is a form of the instruction
abbrev pub HasNoForm : InsnText → Type 0
HasNoForm insn = (i : ℕ) (r : Row) → slice_get the_rows i ≡ Some r → is_form insn.name.0 insn.first insn.second insn.third r ≡ false

-- The size of the instruction: what its mnemonic fixes, or that of all rows that are forms of it, or 0 where none is.
pub data HasSize : (insn : InsnText) (size : ℕ) → Type 0 where
  fixed : (insn : InsnText) → (insn.size == 0) ≡ false → HasSize insn insn.size
  left : (insn : InsnText) (i : ℕ) (r : Row) → (insn.size == 0) ≡ true → slice_get the_rows i ≡ Some r
      → is_form insn.name.0 insn.first insn.second insn.third r ≡ true → HaveSize insn r.size → HasSize insn r.size
  formless : (insn : InsnText) → (insn.size == 0) ≡ true → HasNoForm insn → HasSize insn 0

-- the instruction of this size
abbrev pub with_size : InsnText → ℕ → InsnText
with_size insn size = record insn { size = size }

-- the operands of the instruction behind its mnemonic and prefix
abbrev pub filled_by : Named → Prefix → List OperandText → InsnText
filled_by named word operands = with_operands operands (blank named.name named.size word)

-- The tokens begin with a mnemonic that has rows, or with a prefix and such a mnemonic, and this text stands behind it.
pub data IsHead : (named : Named) (word : Prefix) (text tokens : List SpelledToken) → Type 0 where
  bare : (named : Named) (name : SpelledToken) (text : List SpelledToken) → att_mnemonic name.bytes ≡ Some named
      → IsHead named Absent text (name ∷ text)
  prefixed : (named : Named) (word : Prefix) (lead name : SpelledToken) (text : List SpelledToken) → prefix_of lead.bytes ≡ Some word
      → att_mnemonic name.bytes ≡ Some named → IsHead named word text (lead ∷ name ∷ text)

-- The tokens spell the instruction: what their operands mean by the rule of the mnemonic, with its size.
pub data Spells : (made : InsnText) (tokens : List SpelledToken) → Type 0 where
  behind : (named : Named) (word : Prefix) (operands : List OperandText) (insn : InsnText) (size : ℕ) (text tokens : List SpelledToken) → IsHead named word text tokens
      → WritesAll (is_branch named.rule) operands text → meant_by named.rule (filled_by named word operands) ≡ Ok insn → HasSize insn size
      → Spells (with_size insn size) tokens

-- what the layer below tells: operands that are spelled are read
abbrev pub OperandsAreRead : Type 0
OperandsAreRead = (branch : Bool) (operand : OperandText) (tokens : List SpelledToken) (at : ℕ) (text behind : List SpelledToken) → SpellsOperand branch operand text
    → drop at tokens ≡ text ++ behind → ends behind ≡ true → IsReadWhole branch operand tokens at text

-- and operands that are read are spelled
abbrev pub OperandsAreSpelled : Type 0
OperandsAreSpelled = (branch : Bool) (tokens : List SpelledToken) (at : ℕ) (found : ReadPart) → operand_at branch tokens at ≡ Ok found → IsSpelledIn branch tokens at found
