-- Why no bytes mean an instruction with its values.
use Rattle.std.specs.Prelude.{◌≡◌, ◌==◌, ◌&&◌, ◌||◌, ◌∷◌, Bool, List, None, Option, [], false, not, true, ℕ, Result, Ok, Err}
use Rattle.x86_insn.specs.declared.insns.Insn.{Insn}
use Rattle.x86_insn.specs.declared.amounts.Values.{Values}
use Rattle.x86_table.specs.declared.forms.Row.{Row}
use Rattle.x86_table.specs.declared.forms.Immediate.{Immediate}
use Rattle.x86_table.specs.declared.forms.Pattern.{Pattern}
use Rattle.x86_parts.specs.declared.encoded.EncodeFault.{EncodeFault}
use Rattle.x86_parts.specs.declared.encoded.EncodeFault.TheVariants as fault
use Rattle.x86_table.specs.declared.forms.Immediate.TheVariants as immediate
use Rattle.x86_table.specs.declared.forms.Pattern.TheVariants as pattern
use Rattle.x86_insn.specs.Views.{View, view_of}
use Rattle.x86_table.specs.Reads.{is_known}
use Rattle.x86_parts.specs.Codes.{meant}
use Rattle.x86_encode.specs.Exchanges.{HasNoCode, HasCode}
use Rattle.x86_parts.specs.Filling.{Coding}
use Rattle.x86_table.specs.declared.mnemonics.integers.TheConstants.{MOVABS}

-- the instruction with these values in place of its own
abbrev pub with_values : Insn → Option ℕ → Option ℕ → View
with_values insn held moved = meant (view_of insn (record { immediate = held; displacement = moved }))

-- some bytes mean the instruction, or none do
abbrev pub Coded : Bool → View → Type 0
Coded true insn = HasCode insn
Coded false insn = HasNoCode insn

-- with some values, an immediate being known or not, some bytes mean it
abbrev pub HasCodeAs : Bool → Insn → Type 0
HasCodeAs known insn = (held : Option ℕ) × (moved : Option ℕ) × (is_known held ≡ known) × HasCode (with_values insn held moved)

-- with some values of which the immediate is known, some bytes mean it, or with no values any
abbrev pub HasForm : Bool → Insn → Type 0
HasForm true insn = HasCodeAs true insn
HasForm false insn = (held moved : Option ℕ) → HasNoCode (with_values insn held moved)

-- what is so where a fault is given: the immediate has to be known and is not; no bytes mean the instruction with any values; or some do
-- with other values
abbrev pub Causes : Insn → Values → EncodeFault → Type 0
Causes insn values fault.ValueNotKnown = (values.immediate ≡ None) × (HasCodeAs true insn × ((moved : Option ℕ) → HasNoCode (with_values insn None moved)))
Causes insn values fault.NoSuchForm = (held moved : Option ℕ) → HasNoCode (with_values insn held moved)
Causes insn values fault.OutOfRange = HasCodeAs (is_known values.immediate) insn

-- the same of an answer
abbrev pub HasCause : Insn → Values → Result Coding EncodeFault → Type 0
HasCause insn values (Ok made) = Unit {0}
HasCause insn values (Err cause) = Causes insn values cause

-- KINDS OF IMMEDIATES AND OPERANDS

-- the immediate is a number, and no distance
abbrev pub is_value : Immediate → Bool
is_value immediate.Absent = false
is_value immediate.Byte = true
is_value immediate.Count = true
is_value immediate.Sext16 = true
is_value immediate.Sext32 = true
is_value immediate.Sext64 = true
is_value immediate.Word = true
is_value immediate.Long = true
is_value immediate.LongSext = true
is_value immediate.Quad = true
is_value immediate.Rel8 = false
is_value immediate.Short = false
is_value immediate.Rel32 = false

-- an operand that is a number stands beside such an immediate, and a target beside none
abbrev pub kind_fits : Immediate → Pattern → Bool
kind_fits i pattern.Absent = true
kind_fits i (pattern.RegMem c n) = true
kind_fits i (pattern.Reg c) = true
kind_fits i (pattern.Low c) = true
kind_fits i (pattern.Accumulator c) = true
kind_fits i pattern.Cl = true
kind_fits i pattern.One = true
kind_fits i pattern.Immediate = is_value i
kind_fits i pattern.Target = not (is_value i)

-- the immediate has 64 bits
abbrev pub is_full : Immediate → Bool
is_full immediate.Absent = false
is_full immediate.Byte = false
is_full immediate.Count = false
is_full immediate.Sext16 = false
is_full immediate.Sext32 = false
is_full immediate.Sext64 = false
is_full immediate.Word = false
is_full immediate.Long = false
is_full immediate.LongSext = false
is_full immediate.Quad = true
is_full immediate.Rel8 = false
is_full immediate.Short = false
is_full immediate.Rel32 = false

-- so do those of a row, and an immediate of movabs has 64 bits
abbrev pub kinds_fit : Row → Bool
kinds_fit r = (kind_fits r.immediate r.first && (kind_fits r.immediate r.second && kind_fits r.immediate r.third)) && (not (r.name.0 == MOVABS) || (is_full r.immediate || not (is_value r.immediate)))

-- those of all rows
abbrev pub all_kinds : List Row → Bool
all_kinds [] = true
all_kinds (r ∷ rows) = kinds_fit r && all_kinds rows
