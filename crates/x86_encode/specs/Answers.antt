-- What an encoder answers.
use Rattle.std.specs.Prelude.{◌≡◌, Bool, Result, Ok, Err}
use Rattle.x86_parts.specs.declared.encoded.EncodeFault.{EncodeFault}
use Rattle.x86_insn.specs.Views.{View}
use Rattle.x86_encode.specs.Exchanges.{turned_if, exchanges, IsCode, HasNoCode}
use Rattle.x86_parts.specs.Filling.{Coding, FieldsFill, in_memory, holds_number, FieldAt, Noted}

-- the order in which the instruction is shown, and what is so of it there
abbrev pub InOrder : (View → Type 0) → View → Type 0
InOrder holds insn = (exchanged : Bool) × (exchanges (turned_if exchanged insn) ≡ exchanged) × holds (turned_if exchanged insn)

-- the least bytes that mean the instruction, or a fault where none do
abbrev pub Encodes : View → Result Coding EncodeFault → Type 0
Encodes insn (Ok made) = IsCode made.bytes insn
Encodes insn (Err cause) = HasNoCode insn

-- with any values that the fields hold, the bytes read as the instruction with these values
abbrev pub Fills : View → Result Coding EncodeFault → Type 0
Fills insn (Ok made) = InOrder (λ v. FieldsFill v made) insn
Fills insn (Err cause) = Unit {0}

-- the fields are those of a row and of fields by which the bytes mean the instruction
abbrev pub Notes : View → Result Coding EncodeFault → Type 0
Notes insn (Ok made) = InOrder (λ v. Noted v made) insn
Notes insn (Err cause) = Unit {0}

-- each field is that of the operand at its position
abbrev pub Placed : View → Result Coding EncodeFault → Type 0
Placed insn (Ok made) = FieldAt in_memory insn made.displacement × FieldAt holds_number insn made.immediate
Placed insn (Err cause) = Unit {0}
