-- The slots of an instruction by its row and fields, and what has to stand in its values for them.
use Rattle.std.specs.Prelude.{◌≡◌, ◌==◌, ◌&&◌, ◌||◌, ℕ, Bool, true, false, not, Option, Some}
use Rattle.x86_insn.specs.declared.registers.Class.{Class}
use Rattle.x86_insn.specs.declared.registers.Class.TheVariants as class
use Rattle.x86_insn.specs.declared.amounts.Value.{Value}
use Rattle.x86_insn.specs.declared.insns.Base.{Base}
use Rattle.x86_insn.specs.declared.insns.Base.TheVariants as base
use Rattle.x86_insn.specs.declared.insns.Index.{Index}
use Rattle.x86_insn.specs.declared.insns.Index.TheVariants as index
use Rattle.x86_insn.specs.declared.insns.Address.{Address}
use Rattle.x86_insn.specs.declared.insns.Slot.{Slot}
use Rattle.x86_insn.specs.declared.insns.Slot.TheVariants as slot
use Rattle.x86_table.specs.declared.forms.Pattern.{Pattern}
use Rattle.x86_table.specs.declared.forms.Pattern.TheVariants as pattern
use Rattle.x86_table.specs.declared.forms.Row.{Row}
use Rattle.x86_table.specs.declared.mnemonics.integers.TheConstants.{XCHG}
use Rattle.x86_table.specs.Fields.{Location, Fields, nowhere, direct, from_rip, bare, based}
use Rattle.x86_table.specs.Reads.{class_shown, from_start}
use Rattle.x86_decode.specs.Instructions.{number_in, offset_in}

-- a register of the class
abbrev pub register_slot : Bool → Class → ℕ → Slot
register_slot rex c n = slot.Register (record { class = class_shown rex c n; number = n })

-- the slot of a place
abbrev pub place_slot : Bool → Class → Location → Slot
place_slot rex c nowhere = slot.Absent
place_slot rex c (direct n) = register_slot rex c n
place_slot rex c (from_rip d) = slot.Memory
place_slot rex c (bare i d) = slot.Memory
place_slot rex c (based b i s w d) = slot.Memory

-- the slot of an operand of a row
abbrev pub slot_by : Bool → Fields → Pattern → Slot
slot_by rex p pattern.Absent = slot.Absent
slot_by rex p (pattern.RegMem c n) = place_slot rex c p.place
slot_by rex p (pattern.Reg c) = register_slot rex c p.reg
slot_by rex p (pattern.Low c) = register_slot rex c p.low
slot_by rex p (pattern.Accumulator c) = slot.Register (record { class = c; number = 0 })
slot_by rex p pattern.Cl = slot.Register (record { class = class.Byte; number = 1 })
slot_by rex p pattern.One = slot.Immediate
slot_by rex p pattern.Immediate = slot.Immediate
slot_by rex p pattern.Target = slot.Target

-- the base of a place
abbrev pub base_by : Location → Base
base_by nowhere = base.Absent
base_by (direct n) = base.Absent
base_by (from_rip d) = base.Rip
base_by (bare i d) = base.Absent
base_by (based b i s w d) = base.Of b

-- the index of a place
abbrev pub index_by : Location → Index
index_by nowhere = index.Absent
index_by (direct n) = index.Absent
index_by (from_rip d) = index.Absent
index_by (bare i d) = i
index_by (based b i s w d) = i

-- the address of a place
abbrev pub address_by : Fields → Address
address_by p = record { segment = p.segment; base = base_by p.place; index = index_by p.place }

-- the slot is a register
abbrev pub slot_is_register : Slot → Bool
slot_is_register slot.Absent = false
slot_is_register (slot.Register r) = true
slot_is_register slot.Immediate = false
slot_is_register slot.Memory = false
slot_is_register slot.Target = false

-- the slot is an accumulator
abbrev pub slot_is_accumulator : Slot → Bool
slot_is_accumulator slot.Absent = false
slot_is_accumulator (slot.Register r) = r.number == 0
slot_is_accumulator slot.Immediate = false
slot_is_accumulator slot.Memory = false
slot_is_accumulator slot.Target = false

-- of two registers that `xchg` exchanges, the accumulator stands first: here they have to change places
abbrev pub turns : Row → Slot → Slot → Bool
turns r one other = (r.name.0 == XCHG) && (slot_is_register one && slot_is_accumulator other)

-- the operand is the number 1, or an immediate, or a branch target, or a register or memory
abbrev pub is_one : Pattern → Bool
is_one pattern.One = true
is_one _ = false

abbrev pub is_immediate : Pattern → Bool
is_immediate pattern.Immediate = true
is_immediate _ = false

abbrev pub is_target : Pattern → Bool
is_target pattern.Target = true
is_target _ = false

abbrev pub is_place : Pattern → Bool
is_place (pattern.RegMem c n) = true
is_place _ = false

-- one of the operands passes
abbrev pub has : (Pattern → Bool) → Row → Bool
has test r = test r.first || (test r.second || test r.third)

-- an instruction has one immediate and one displacement: the row shows one of each at most
abbrev pub is_single : Row → Bool
is_single r = not (has is_one r && has is_immediate r) && not (has is_target r && has is_place r)

-- the immediate that the operands show
abbrev pub immediate_by : Bool → Fields → Option ℕ
immediate_by true p = Some 1
immediate_by false p = p.held

-- the displacement of memory; an instruction without memory may have any
abbrev pub MovesPlace : ℕ → Location → Value → Type 0
MovesPlace len nowhere held = Unit {0}
MovesPlace len (direct n) held = Unit {0}
MovesPlace len (from_rip d) held = offset_in held ≡ from_start len d
MovesPlace len (bare i d) held = number_in held ≡ d
MovesPlace len (based b i s w d) held = number_in held ≡ d

-- the displacement that the operands show
abbrev pub Moves : Bool → ℕ → Fields → Value → Type 0
Moves true len p held = offset_in held ≡ from_start len p.held
Moves false len p held = MovesPlace len p.place held
