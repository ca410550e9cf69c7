-- The instruction that tokens are, read from the left, or its fault.
use Rattle.std.specs.Prelude.{◌≡◌, ℕ, zero, suc, ◌+◌, nat_lt, Bool, List, Option, Some, None, Result, Ok, Err, length, if◌then◌else◌}
use Rattle.asm_base.specs.declared.refusals.Refusal.{Refusal}
use Rattle.asm_base.specs.Refusals.{Fails, ◌>>=◌}
use Rattle.asm_base.specs.Tokens.{SpelledToken}
use Rattle.x86_insn.specs.declared.insns.Insn.{Insn}
use Rattle.x86_lookup.specs.declared.names.Rule.{Rule}
use Rattle.att_operands.specs.declared.faults.OperandCause.{OperandCause}
use Rattle.att_operands.specs.declared.faults.OperandCause.TheVariants.{UnknownMnemonic, BadOperand}
use Rattle.att_operands.specs.OperandTexts.{ReadPart, operand_at}
use Rattle.att_insns.specs.InsnTexts.{InsnText, blank, with_operand, IsInsnOf}
use Rattle.att_insns.specs.Rules.{is_branch}
use Rattle.att_insns.specs.Sizes.{sized}
use Rattle.att_insns.specs.Sources.{meant_by}
use Rattle.att_insns.specs.Heads.{Head, head_of}

-- the instruction with the operand that was read, and with those behind its comma
abbrev pub operand_then : List SpelledToken → (ℕ → InsnText → Result InsnText OperandCause) → InsnText → Result ReadPart OperandCause → Result InsnText OperandCause
operand_then tokens others insn (Ok found) =
    if nat_lt found.next (length tokens) then others (found.next + 1) (with_operand found.operand insn) else Ok (with_operand found.operand insn)
operand_then tokens others insn (Err cause) = Err cause

-- the instruction with the operands from this place on: one to so many
abbrev pub operands_at : ℕ → Bool → List SpelledToken → ℕ → InsnText → Result InsnText OperandCause
operands_at zero branch tokens at insn = Err BadOperand
operands_at (suc others) branch tokens at insn = operand_then tokens (operands_at others branch tokens) insn (operand_at branch tokens at)

-- the instruction with the operands from this place on: none to three
unfoldable pub with_all : Bool → List SpelledToken → ℕ → InsnText → Result InsnText OperandCause
with_all branch tokens at insn = if nat_lt at (length tokens) then operands_at 3 branch tokens at insn else Ok insn

-- the instruction that its operands mean by the rule of the mnemonic, and its size
abbrev pub finished : Rule → InsnText → Result InsnText OperandCause
finished rule insn = meant_by rule insn >>= sized

-- the instruction that the operands from this place on give the head
abbrev pub headed_insn : List SpelledToken → Head → Result InsnText OperandCause
headed_insn tokens head = with_all (is_branch head.named.rule) tokens head.next (blank head.named.name head.named.size head.«prefix») >>= finished head.named.rule

-- the instruction behind what stands in front, if a mnemonic does
abbrev pub insn_by : List SpelledToken → Option Head → Result InsnText OperandCause
insn_by tokens None = Err UnknownMnemonic
insn_by tokens (Some head) = headed_insn tokens head

-- the instruction that the tokens are
unfoldable pub insn_of : List SpelledToken → Result InsnText OperandCause
insn_of tokens = insn_by tokens (head_of tokens)

-- the call made an instruction of the due text, or answers the due fault
abbrev pub Makes : {T : Type 0} → Insn → Result T (Refusal OperandCause) → Result InsnText OperandCause → Type 0
Makes made (Ok done) (Ok due) = IsInsnOf made due
Makes made (Ok done) (Err fault) = ⊥
Makes made (Err refusal) due = Fails refusal due

-- the instruction has the operand that was read, and it ends there
pub record IsPut (made : Insn) (end : ℕ) (due : InsnText) (found : ReadPart) : Type 0 where
  pub insn : IsInsnOf made (with_operand found.operand due)
  pub next : end ≡ found.next

-- the call put the operand that is due, or answers the due fault
abbrev pub Puts : Insn → Result ℕ (Refusal OperandCause) → InsnText → Result ReadPart OperandCause → Type 0
Puts made (Ok next) due (Ok found) = IsPut made next due found
Puts made (Ok next) due (Err fault) = ⊥
Puts made (Err refusal) due found = Fails refusal found
