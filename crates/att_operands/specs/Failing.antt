-- The faults of operands: where the expression of a value fails, as one of the operand, and else where nothing is spelled (GNU as manual, "Expressions").
use Rattle.std.specs.Prelude.{◌≡◌, ℕ, Bool, true, false, List, ◌∷◌, ◌++◌, drop, Option, Some, None, Err, slice_get}
use Rattle.asm_base.specs.Tokens.{SpelledToken}
use Rattle.asm_expr.specs.declared.faults.ExprCause.{ExprCause}
use Rattle.expr_texts.specs.Failing.{FailsAt}
use Rattle.x86_insn.specs.declared.amounts.Suffix.{Suffix}
use Rattle.x86_insn.specs.declared.insns.Segment.{Segment}
use Rattle.att_operands.specs.declared.faults.OperandCause.{OperandCause}
use Rattle.att_operands.specs.declared.faults.OperandCause.TheVariants.{BadOperand}
use Rattle.att_operands.specs.declared.registers.NamedRegister.TheVariants as named
use Rattle.att_operands.specs.Registers.{register_of}
use Rattle.att_operands.specs.Marks.{begins_by}
use Rattle.att_operands.specs.Values.{stated, suffixed_name, suffix_at, without_suffix}
use Rattle.att_operands.specs.OperandTexts.{OperandText, opens_address, operand_at}
use Rattle.att_operands.specs.Spells.{IsMark, SpellsOperand, ends}

-- the tokens of the expression of a value: those without its suffix
abbrev pub expression_by : List SpelledToken → Option Suffix → List SpelledToken
expression_by tokens None = tokens
expression_by tokens (Some suffix) = without_suffix tokens (suffixed_name tokens 0)

-- the expression of the value at the front of the tokens fails
abbrev pub ValueFails : List SpelledToken → ExprCause → Type 0
ValueFails tokens cause = FailsAt (expression_by tokens (suffix_at tokens 0)) cause

-- the same of a value that begins neither with the mark of another operand nor with the parenthesis of an address
pub record BegunFails (tokens : List SpelledToken) (cause : ExprCause) : Type 0 where
  pub begins : begins_by (slice_get tokens 0) ≡ true
  pub unopened : opens_address tokens 0 ≡ false
  pub fails : ValueFails tokens cause

-- The displacement of the memory at the front of the tokens fails.
pub data PlaceFails : (tokens : List SpelledToken) (cause : ExprCause) → Type 0 where
  -- a displacement
  unnamed : (tokens : List SpelledToken) (cause : ExprCause) → BegunFails tokens cause → PlaceFails tokens cause
  -- `%segment:` and a displacement
  segmented : (segment : Segment) (sign word colon : SpelledToken) (tokens : List SpelledToken) (cause : ExprCause) → IsMark 37 sign
      → register_of word.bytes ≡ Some (named.Segment segment) → IsMark 58 colon → BegunFails tokens cause → PlaceFails (sign ∷ word ∷ colon ∷ tokens) cause

-- The expression of the operand at the front of the tokens fails.
pub data ExpressionFails : (branch : Bool) (tokens : List SpelledToken) (cause : ExprCause) → Type 0 where
  -- behind `$` an expression is due
  immediate_of : (branch : Bool) (sign : SpelledToken) (tokens : List SpelledToken) (cause : ExprCause) → IsMark 36 sign → ValueFails tokens cause
      → ExpressionFails branch (sign ∷ tokens) cause
  -- memory
  place : (tokens : List SpelledToken) (cause : ExprCause) → PlaceFails tokens cause → ExpressionFails false tokens cause
  -- the target of a branch
  target_of : (tokens : List SpelledToken) (cause : ExprCause) → BegunFails tokens cause → ExpressionFails true tokens cause
  -- `*` and memory
  indirect : (star : SpelledToken) (tokens : List SpelledToken) (cause : ExprCause) → IsMark 42 star → PlaceFails tokens cause
      → ExpressionFails true (star ∷ tokens) cause

-- no expression fails at the front of the tokens, and none of their fronts, behind which a comma or nothing stands, spells an operand
pub record SpellsNothing (branch : Bool) (tokens : List SpelledToken) : Type 0 where
  pub fails : (cause : ExprCause) → ExpressionFails branch tokens cause → ⊥
  pub spells : (operand : OperandText) (text behind : List SpelledToken) → SpellsOperand branch operand text → tokens ≡ text ++ behind → ends behind ≡ true → ⊥

-- The operand at the front of the tokens has a fault: that of its expression, or else it is a bad operand where nothing is spelled.
pub data HasFault : (branch : Bool) (tokens : List SpelledToken) (cause : OperandCause) → Type 0 where
  expression : (branch : Bool) (tokens : List SpelledToken) (cause : ExprCause) → ExpressionFails branch tokens cause → HasFault branch tokens (stated cause)
  bad_operand : (branch : Bool) (tokens : List SpelledToken) → SpellsNothing branch tokens → HasFault branch tokens BadOperand

-- the reading of the operand has this fault exactly where the operand has it
pub record HasFaultExactly (branch : Bool) (tokens : List SpelledToken) (at : ℕ) (cause : OperandCause) : Type 0 where
  pub fails : operand_at branch tokens at ≡ Err cause → HasFault branch (drop at tokens) cause
  pub refused : HasFault branch (drop at tokens) cause → operand_at branch tokens at ≡ Err cause
