-- The instruction that tokens are, read from the left, or its fault.
use Rattle.std.specs.Prelude.{◌≡◌, ℕ, zero, suc, ◌+◌, nat_lt, Bool, List, Option, Some, None, Result, Ok, Err, length, if◌then◌else◌}
use Rattle.asm_base.specs.declared.refusals.Refusal.{Refusal}
use Rattle.asm_base.specs.Refusals.{Fails, ◌>>=◌}
use Rattle.asm_base.specs.Tokens.{SpelledToken}
use Rattle.x86_insn.specs.declared.insns.Insn.{Insn}
use Rattle.att_operands.specs.declared.faults.OperandCause.{OperandCause}
use Rattle.att_operands.specs.declared.faults.OperandCause.TheVariants.{UnknownMnemonic, BadOperand}
use Rattle.att_insns.specs.InsnTexts.{InsnText, blank}
use Rattle.att_insns.specs.Rules.{is_branch}
use Rattle.intel_operands.specs.OperandTexts.{ReadPart, operand_at}
use Rattle.intel_insns.specs.declared.filling.OperandEnd.{OperandEnd}
use Rattle.intel_insns.specs.InsnTexts.{FilledText, with_operand, IsFilled}
use Rattle.intel_insns.specs.Rules.{meant_by}
use Rattle.intel_insns.specs.Sizes.{sized}
use Rattle.intel_insns.specs.Heads.{Head, head_of}

-- the instruction with the operand that was read, and with those behind its comma
abbrev pub operand_then : List SpelledToken → (ℕ → FilledText → Result FilledText OperandCause) → FilledText → Result ReadPart OperandCause
    → Result FilledText OperandCause
operand_then tokens others filled (Ok found) =
    if nat_lt found.next (length tokens) then others (found.next + 1) (with_operand found.sized filled) else Ok (with_operand found.sized filled)
operand_then tokens others filled (Err cause) = Err cause

-- the instruction with the operands from this place on: one to so many
abbrev pub operands_at : ℕ → Bool → List SpelledToken → ℕ → FilledText → Result FilledText OperandCause
operands_at zero branch tokens at filled = Err BadOperand
operands_at (suc others) branch tokens at filled = operand_then tokens (operands_at others branch tokens) filled (operand_at branch tokens at)

-- the instruction with the operands from this place on: none to three
unfoldable pub with_all : Bool → List SpelledToken → ℕ → FilledText → Result FilledText OperandCause
with_all branch tokens at filled = if nat_lt at (length tokens) then operands_at 3 branch tokens at filled else Ok filled

-- an instruction without operands
abbrev pub unfilled : InsnText → FilledText
unfilled insn = record { insn = insn; bits = 0 }

-- the instruction that its operands mean by the rule of the mnemonic, and its size
abbrev pub finished : Head → FilledText → Result InsnText OperandCause
finished head filled = meant_by head.named.rule filled >>= (λ insn. sized filled.bits insn)

-- the instruction that the operands from this place on give the head
abbrev pub headed_insn : List SpelledToken → Head → Result InsnText OperandCause
headed_insn tokens head =
    with_all (is_branch head.named.rule) tokens head.next (unfilled (blank head.named.name head.named.size head.«prefix»)) >>= finished head

-- the instruction behind what stands in front, if a mnemonic does
abbrev pub insn_by : List SpelledToken → Option Head → Result InsnText OperandCause
insn_by tokens None = Err UnknownMnemonic
insn_by tokens (Some head) = headed_insn tokens head

-- the instruction that the tokens are
unfoldable pub insn_of : List SpelledToken → Result InsnText OperandCause
insn_of tokens = insn_by tokens (head_of tokens)

-- the call put the due operands, and answers how many bits of memory they say, or answers the due fault
abbrev pub Fills : Insn → Result ℕ (Refusal OperandCause) → Result FilledText OperandCause → Type 0
Fills made (Ok bits) (Ok due) = IsFilled made bits due
Fills made (Ok bits) (Err fault) = ⊥
Fills made (Err refusal) due = Fails refusal due

-- the instruction has the operand that was read, and it ends there
pub record IsPut (made : Insn) (bits end : ℕ) (due : FilledText) (found : ReadPart) : Type 0 where
  pub filled : IsFilled made bits (with_operand found.sized due)
  pub next : end ≡ found.next

-- the call put the operand that is due, or answers the due fault
abbrev pub Puts : Insn → Result OperandEnd (Refusal OperandCause) → FilledText → Result ReadPart OperandCause → Type 0
Puts made (Ok put) due (Ok found) = IsPut made put.bits put.next due found
Puts made (Ok put) due (Err fault) = ⊥
Puts made (Err refusal) due found = Fails refusal found
