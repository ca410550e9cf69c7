-- The faults of operands: where the expression of a value fails, as one of the operand, and else where nothing is spelled (GNU as manual, "Expressions").
use Rattle.std.specs.Prelude.{◌≡◌, ℕ, nat_lt, Bool, true, List, drop, take, length, Err}
use Rattle.asm_base.specs.Tokens.{SpelledToken}
use Rattle.asm_expr.specs.declared.faults.ExprCause.{ExprCause}
use Rattle.x86_insn.specs.declared.insns.Address.{Address}
use Rattle.att_operands.specs.declared.faults.OperandCause.{OperandCause}
use Rattle.att_operands.specs.declared.faults.OperandCause.TheVariants.{BadOperand}
use Rattle.att_operands.specs.Values.{stated}
use Rattle.att_operands.specs.Failing.{ValueFails}
use Rattle.intel_operands.specs.OperandTexts.{SizedText, Outline, held, bare, moved, up_to_comma, operand_at}
use Rattle.intel_operands.specs.Spells.{IsOutline, SpellsOperand}

-- The expression of the value fails round which this stands.
pub data HoldsFault : (outline : Outline) (cause : ExprCause) → Type 0 where
  of_offset : (text : List SpelledToken) (cause : ExprCause) → ValueFails text cause → HoldsFault (held text) cause
  of_value : (text : List SpelledToken) (cause : ExprCause) → ValueFails text cause → HoldsFault (bare text) cause
  of_displacement : (bits : ℕ) (address : Address) (text : List SpelledToken) (cause : ExprCause) → ValueFails text cause → HoldsFault (moved bits address text) cause

-- the expression of the operand that the text is fails
pub record ExpressionFails (text : List SpelledToken) (cause : ExprCause) : Type 0 where
  pub outline : Outline
  pub some : nat_lt 0 (length text) ≡ true
  pub round : IsOutline outline text
  pub fails : HoldsFault outline cause

-- no expression fails in the text, and it spells no operand
pub record SpellsNothing (branch : Bool) (text : List SpelledToken) : Type 0 where
  pub fails : (cause : ExprCause) → ExpressionFails text cause → ⊥
  pub spells : (operand : SizedText) → SpellsOperand branch operand text → ⊥

-- The text up to a comma has a fault: that of its expression, or else it is a bad operand where nothing is spelled.
pub data HasFault : (branch : Bool) (text : List SpelledToken) (cause : OperandCause) → Type 0 where
  expression : (branch : Bool) (text : List SpelledToken) (cause : ExprCause) → ExpressionFails text cause → HasFault branch text (stated cause)
  bad_operand : (branch : Bool) (text : List SpelledToken) → SpellsNothing branch text → HasFault branch text BadOperand

-- the tokens in front, up to the first comma
abbrev pub front_of : List SpelledToken → List SpelledToken
front_of tokens = take (up_to_comma tokens) tokens

-- the reading of the operand has this fault exactly where the operand has it
pub record HasFaultExactly (branch : Bool) (tokens : List SpelledToken) (at : ℕ) (cause : OperandCause) : Type 0 where
  pub fails : operand_at branch tokens at ≡ Err cause → HasFault branch (front_of (drop at tokens)) cause
  pub refused : HasFault branch (front_of (drop at tokens)) cause → operand_at branch tokens at ≡ Err cause
