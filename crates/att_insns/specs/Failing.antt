-- The faults of instructions: no mnemonic, then the first operand that has a fault, then no operand size.
use Rattle.std.specs.Prelude.{◌≡◌, ℕ, zero, suc, ◌==◌, Bool, true, false, List, ◌∷◌, ◌++◌, Some, Ok, Err, slice_get}
use Rattle.asm_base.specs.Tokens.{SpelledToken}
use Rattle.x86_insn.specs.declared.insns.Prefix.{Prefix}
use Rattle.x86_table.specs.declared.forms.Row.{Row}
use Rattle.x86_table.specs.Rows.{the_rows}
use Rattle.x86_lookup.specs.declared.names.Named.{Named}
use Rattle.x86_lookup.specs.declared.names.Rule.{Rule}
use Rattle.x86_lookup.specs.declared.names.Rule.TheVariants.{BySource}
use Rattle.att_operands.specs.declared.faults.OperandCause.{OperandCause}
use Rattle.att_operands.specs.declared.faults.OperandCause.TheVariants.{UnknownMnemonic, BadOperand, UnknownOperandSize}
use Rattle.att_operands.specs.OperandTexts.{OperandText}
use Rattle.att_operands.specs.Spells.{IsMark, SpellsOperand}
use Rattle.att_operands.specs.Failing.{HasFault as OperandHasFault, HasFaultExactly as OperandFaultsExactly}
use Rattle.att_insns.specs.InsnTexts.{InsnText}
use Rattle.att_insns.specs.Rules.{is_branch}
use Rattle.x86_lookup.specs.Forms.{is_form}
use Rattle.att_insns.specs.Sources.{word_name, said_bits, meant_by}
use Rattle.att_insns.specs.Reading.{insn_of}
use Rattle.att_insns.specs.Spells.{IsHead, WritesAll, filled_by}

-- no mnemonic that has rows stands in front, alone or behind a prefix
abbrev pub HasNoHead : List SpelledToken → Type 0
HasNoHead tokens = (named : Named) (word : Prefix) (text : List SpelledToken) → IsHead named word text tokens → ⊥

-- Of the operands in the text, of which so many may stand, the first that has a fault has this one. One more than may stand is a bad operand.
pub data OperandsFail : (most : ℕ) (branch : Bool) (text : List SpelledToken) (cause : OperandCause) → Type 0 where
  over : (branch : Bool) (text : List SpelledToken) → OperandsFail zero branch text BadOperand
  first : (others : ℕ) (branch : Bool) (text : List SpelledToken) (cause : OperandCause) → OperandHasFault branch text cause
      → OperandsFail (suc others) branch text cause
  later : (others : ℕ) (branch : Bool) (operand : OperandText) (comma : SpelledToken) (before behind text : List SpelledToken) (cause : OperandCause)
      → SpellsOperand branch operand before → IsMark 44 comma → OperandsFail others branch behind cause → text ≡ before ++ (comma ∷ behind)
      → OperandsFail (suc others) branch text cause

-- rows of two sizes are forms of the instruction, whose mnemonic fixes none
pub record HasTwoSizes (insn : InsnText) : Type 0 where
  pub not_fixed : (insn.size == 0) ≡ true
  pub at : ℕ
  pub one : Row
  pub stands : slice_get the_rows at ≡ Some one
  pub form : is_form insn.name.0 insn.first insn.second insn.third one ≡ true
  pub also_at : ℕ
  pub other : Row
  pub also_stands : slice_get the_rows also_at ≡ Some other
  pub also_form : is_form insn.name.0 insn.first insn.second insn.third other ≡ true
  pub differ : (other.size == one.size) ≡ false

-- neither the letter of the mnemonic nor the source in memory says its size, and a row takes 16 bits of it
pub record HasTwoSources (rule : Rule) (insn : InsnText) : Type 0 where
  pub by_source : rule ≡ BySource
  pub unsaid : (said_bits insn.size insn.second == 0) ≡ true
  pub at : ℕ
  pub wider : Row
  pub stands : slice_get the_rows at ≡ Some wider
  pub form : is_form (word_name insn.name.0) insn.first insn.second insn.third wider ≡ true

-- The tokens have this fault.
pub data HasFault : (tokens : List SpelledToken) (cause : OperandCause) → Type 0 where
  unknown : (tokens : List SpelledToken) → HasNoHead tokens → HasFault tokens UnknownMnemonic
  operands : (named : Named) (word : Prefix) (token : SpelledToken) (text tokens : List SpelledToken) (cause : OperandCause) → IsHead named word (token ∷ text) tokens
      → OperandsFail 3 (is_branch named.rule) (token ∷ text) cause → HasFault tokens cause
  sources : (named : Named) (word : Prefix) (written : List OperandText) (text tokens : List SpelledToken) → IsHead named word text tokens
      → WritesAll (is_branch named.rule) written text → HasTwoSources named.rule (filled_by named word written) → HasFault tokens UnknownOperandSize
  sizes : (named : Named) (word : Prefix) (written : List OperandText) (insn : InsnText) (text tokens : List SpelledToken) → IsHead named word text tokens
      → WritesAll (is_branch named.rule) written text → meant_by named.rule (filled_by named word written) ≡ Ok insn → HasTwoSizes insn
      → HasFault tokens UnknownOperandSize

-- the reading of the tokens has this fault exactly where they have it
pub record HasFaultExactly (tokens : List SpelledToken) (cause : OperandCause) : Type 0 where
  pub fails : insn_of tokens ≡ Err cause → HasFault tokens cause
  pub refused : HasFault tokens cause → insn_of tokens ≡ Err cause

-- what the layer below tells: an operand is refused exactly for the fault that it has
abbrev pub OperandsFailExactly : Type 0
OperandsFailExactly = (branch : Bool) (tokens : List SpelledToken) (at : ℕ) (cause : OperandCause) → OperandFaultsExactly branch tokens at cause
