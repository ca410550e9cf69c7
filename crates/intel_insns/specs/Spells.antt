-- The texts of instructions: from an instruction to the tokens that spell it (GNU as manual, "AT&T Syntax versus Intel Syntax").
use Rattle.std.specs.Prelude.{◌≡◌, ℕ, suc, ◌==◌, Bool, true, false, List, [], ◌∷◌, ◌++◌, drop, Some, Ok, slice_get}
use Rattle.asm_base.specs.Tokens.{SpelledToken}
use Rattle.x86_insn.specs.declared.insns.Prefix.{Prefix}
use Rattle.x86_insn.specs.declared.insns.Prefix.TheVariants.{Absent}
use Rattle.x86_table.specs.declared.forms.Row.{Row}
use Rattle.x86_table.specs.Rows.{the_rows}
use Rattle.x86_lookup.specs.declared.names.Named.{Named}
use Rattle.att_operands.specs.Prefixes.{prefix_of}
use Rattle.att_operands.specs.Spells.{IsMark}
use Rattle.intel_operands.specs.OperandTexts.{SizedText, ReadPart, operand_at}
use Rattle.intel_operands.specs.Spells.{SpellsOperand, ends, IsReadWhole, IsSpelledIn}
use Rattle.att_insns.specs.InsnTexts.{InsnText, blank}
use Rattle.att_insns.specs.Rules.{is_branch, no_name}
use Rattle.intel_insns.specs.InsnTexts.{FilledText, with_operands}
use Rattle.intel_insns.specs.Rules.{meant_by}
use Rattle.intel_insns.specs.Sizes.{form_of}
use Rattle.intel_insns.specs.Heads.{mnemonic_of}
use Rattle.intel_insns.specs.Reading.{unfilled}

-- The text writes operands, at most so many, with commas between.
pub data WritesOperands : (most : ℕ) (branch : Bool) (operands : List SizedText) (text : List SpelledToken) → Type 0 where
  last : (others : ℕ) (branch : Bool) (operand : SizedText) (text : List SpelledToken) → SpellsOperand branch operand text
      → WritesOperands (suc others) branch (operand ∷ []) text
  more : (others : ℕ) (branch : Bool) (operand : SizedText) (operands : List SizedText) (comma : SpelledToken) (before behind text : List SpelledToken)
      → SpellsOperand branch operand before → IsMark 44 comma → WritesOperands others branch operands behind → text ≡ before ++ (comma ∷ behind)
      → WritesOperands (suc others) branch (operand ∷ operands) text

-- The text writes up to three operands, or is empty.
pub data WritesAll : (branch : Bool) (operands : List SizedText) (text : List SpelledToken) → Type 0 where
  none : (branch : Bool) → WritesAll branch [] []
  some : (branch : Bool) (operands : List SizedText) (text : List SpelledToken) → WritesOperands 3 branch operands text → WritesAll branch operands text

-- all rows that are forms of the instruction, with memory of so many bits, have this size
abbrev pub HaveSize : ℕ → InsnText → ℕ → Type 0
HaveSize bits insn size = (i : ℕ) (r : Row) → slice_get the_rows i ≡ Some r → form_of bits insn r ≡ true → r.size ≡ size

-- no row is a form of the instruction, with memory of so many bits
abbrev pub HasNoForm : ℕ → InsnText → Type 0
HasNoForm bits insn = (i : ℕ) (r : Row) → slice_get the_rows i ≡ Some r → form_of bits insn r ≡ false

-- The instruction gets its size: what its mnemonic fixes, or that of all rows that are forms of it; without a form it has no name either.
pub data GetsSize : (bits : ℕ) (insn made : InsnText) → Type 0 where
  fixed : (bits : ℕ) (insn : InsnText) → (insn.size == 0) ≡ false → GetsSize bits insn insn
  left : (bits : ℕ) (insn : InsnText) (i : ℕ) (r : Row) → (insn.size == 0) ≡ true → slice_get the_rows i ≡ Some r
      → form_of bits insn r ≡ true → HaveSize bits insn r.size → GetsSize bits insn (record insn { size = r.size })
  formless : (bits : ℕ) (insn : InsnText) → (insn.size == 0) ≡ true → HasNoForm bits insn → GetsSize bits insn (record insn { name = no_name })

-- the operands of the instruction behind its mnemonic and prefix
abbrev pub filled_by : Named → Prefix → List SizedText → FilledText
filled_by named word operands = with_operands operands (unfilled (blank named.name named.size word))

-- The tokens begin with a mnemonic that has rows, or with a prefix and such a mnemonic, and this text stands behind it.
pub data IsHead : (named : Named) (word : Prefix) (text tokens : List SpelledToken) → Type 0 where
  bare : (named : Named) (name : SpelledToken) (text : List SpelledToken) → mnemonic_of name.bytes ≡ Some named
      → IsHead named Absent text (name ∷ text)
  prefixed : (named : Named) (word : Prefix) (lead name : SpelledToken) (text : List SpelledToken) → prefix_of lead.bytes ≡ Some word
      → mnemonic_of name.bytes ≡ Some named → IsHead named word text (lead ∷ name ∷ text)

-- The tokens spell the instruction: what their operands mean by the rule of the mnemonic, with its size.
pub data Spells : (made : InsnText) (tokens : List SpelledToken) → Type 0 where
  behind : (named : Named) (word : Prefix) (operands : List SizedText) (insn made : InsnText) (text tokens : List SpelledToken) → IsHead named word text tokens
      → WritesAll (is_branch named.rule) operands text → meant_by named.rule (filled_by named word operands) ≡ Ok insn
      → GetsSize (filled_by named word operands).bits insn made → Spells made tokens

-- what the layer below tells: operands that are spelled are read
abbrev pub OperandsAreRead : Type 0
OperandsAreRead = (branch : Bool) (operand : SizedText) (tokens : List SpelledToken) (at : ℕ) (text behind : List SpelledToken) → SpellsOperand branch operand text
    → drop at tokens ≡ text ++ behind → ends behind ≡ true → IsReadWhole branch operand tokens at text

-- and operands that are read are spelled
abbrev pub OperandsAreSpelled : Type 0
OperandsAreSpelled = (branch : Bool) (tokens : List SpelledToken) (at : ℕ) (found : ReadPart) → operand_at branch tokens at ≡ Ok found → IsSpelledIn branch tokens at found
