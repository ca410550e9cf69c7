-- Values that are whole texts.
use Rattle.std.specs.Prelude.{◌≡◌, List, Ok, Err, length}
use Rattle.asm_base.specs.Tokens.{SpelledToken}
use Rattle.asm_expr.specs.declared.faults.ExprCause.{ExprCause}
use Rattle.att_operands.specs.declared.faults.OperandCause.{OperandCause}
use Rattle.att_operands.specs.Values.{ValueText, ReadText, stated, value_at}
use Rattle.att_operands.specs.Spells.{WritesValue}
use Rattle.att_operands.specs.Failing.{ValueFails}

-- the value and the place behind the text
abbrev pub whole_text : ValueText → List SpelledToken → ReadText
whole_text value text = record { text = value; next = length text }

-- a text of a value is read as it
abbrev pub ValuesAreRead : Type 0
ValuesAreRead = (value : ValueText) (text : List SpelledToken) → WritesValue value text → value_at text 0 ≡ Ok (whole_text value text)

-- a value that is read from a whole text is written there
abbrev pub ValuesAreWritten : Type 0
ValuesAreWritten = (text : List SpelledToken) (found : ReadText) → value_at text 0 ≡ Ok found → found.next ≡ length text → WritesValue found.text text

-- the expression of a value that is refused fails for this cause
pub record RefusedFor (text : List SpelledToken) (fault : OperandCause) : Type 0 where
  pub cause : ExprCause
  pub fails : ValueFails text cause
  pub is : fault ≡ stated cause

-- a value is refused only where its expression fails
abbrev pub RefusedValuesFail : Type 0
RefusedValuesFail = (text : List SpelledToken) (fault : OperandCause) → value_at text 0 ≡ Err fault → RefusedFor text fault

-- a value whose expression fails is refused for that
abbrev pub FailingValuesAreRefused : Type 0
FailingValuesAreRefused = (text : List SpelledToken) (cause : ExprCause) → ValueFails text cause → value_at text 0 ≡ Err (stated cause)
