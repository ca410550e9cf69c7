-- What the calls that read values answer, by the reading of an expression.
use Rattle.std.specs.Prelude.{◌≡◌, ℕ, List, Option, Some, None, Result, Ok, Err}
use Rattle.asm_base.specs.declared.refusals.Refusal.{Refusal}
use Rattle.asm_base.specs.Tokens.{SpelledToken}
use Rattle.asm_expr.specs.declared.faults.ExprCause.{ExprCause}
use Rattle.expr_texts.specs.Reading.{ReadTree, reading_of}
use Rattle.asm_operands.specs.declared.sums.Sum.{Sum}
use Rattle.asm_operands.specs.Sums.{sum_tree}
use Rattle.x86_insn.specs.declared.amounts.Amount.{Amount}
use Rattle.att_operands.specs.declared.faults.OperandCause.{OperandCause}
use Rattle.att_operands.specs.declared.values.ReadAmount.{ReadAmount}
use Rattle.att_operands.specs.declared.values.ReadValue.{ReadValue}
use Rattle.att_operands.specs.Values.{GivesSo, IsAmountOf, stated, IsValueOf, ReadText}

-- an amount that is found is that of the sum; where none is found nothing is said
abbrev pub FindsAmount : Sum → Option Amount → Type 0
FindsAmount sum None = Unit {0}
FindsAmount sum (Some found) = IsAmountOf found (sum_tree sum)

-- the amount is of the tree that was read, and ends where that ends
pub record IsAmountRead (found : ReadAmount) (due : ReadTree) : Type 0 where
  pub amount : IsAmountOf found.amount due.tree
  pub next : found.next ≡ due.next

-- an amount that is found is that of the expression at this place; where none is found nothing is said
abbrev pub FindsRead : List SpelledToken → ℕ → Option ReadAmount → Type 0
FindsRead tokens at None = Unit {0}
FindsRead tokens at (Some found) = GivesSo {F = ExprCause} IsAmountRead (Ok found) (reading_of tokens at)

-- an expression that is read, or its fault as one of the instruction
abbrev pub in_operand : Result ReadTree ExprCause → Result ReadTree OperandCause
in_operand (Ok found) = Ok found
in_operand (Err fault) = Err (stated fault)

-- the call answers the amount of the expression at this place, or its fault
abbrev pub GivesAmount : List SpelledToken → ℕ → Result ReadAmount (Refusal OperandCause) → Type 0
GivesAmount tokens at answer = GivesSo IsAmountRead answer (in_operand (reading_of tokens at))

-- the value has the text that was read, and ends where that ends
pub record IsValueRead (found : ReadValue) (due : ReadText) : Type 0 where
  pub value : IsValueOf found.value due.text
  pub next : found.next ≡ due.next
