-- What an instruction writes beside flags.
use Rattle.std.specs.Prelude.{◌≡◌, ◌==◌, ◌&&◌, ◌||◌, ◌∷◌, [], ℕ, nat_lt, List, Bool, true, false, not, Option, Some, None, slice_get, if◌then◌else◌}
use Rattle.x86_insn.specs.declared.insns.Slot.{Slot}
use Rattle.x86_insn.specs.declared.insns.Slot.TheVariants as slot
use Rattle.x86_insn.specs.declared.insns.Insn.{Insn}
use Rattle.x86_insn.specs.Registers.{is_part_of}
use Rattle.x86_table.specs.declared.forms.Destinations.{Destinations}
use Rattle.x86_table.specs.declared.forms.Destinations.TheVariants as destinations
use Rattle.x86_table.specs.declared.forms.Implied.{Implied}
use Rattle.x86_table.specs.declared.forms.Implied.TheVariants as implied
use Rattle.x86_table.specs.declared.forms.StoreKind.{StoreKind}
use Rattle.x86_table.specs.declared.forms.StoreKind.TheVariants as kind
use Rattle.x86_lookup.specs.declared.writing.Store.{Store}
use Rattle.x86_lookup.specs.declared.writing.Store.TheVariants as store
use Rattle.x86_lookup.specs.declared.writing.Writes.{Writes}
use Rattle.x86_insn.specs.declared.registers.Class.{Class}
use Rattle.x86_insn.specs.declared.registers.Class.TheVariants as class
use Rattle.x86_insn.specs.declared.registers.Reg.{Reg}
use Rattle.x86_insn.specs.declared.insns.Prefix.{Prefix}
use Rattle.x86_insn.specs.declared.insns.Prefix.TheVariants as prefix
use Rattle.x86_table.specs.declared.forms.Pattern.{Pattern}
use Rattle.x86_table.specs.declared.forms.Pattern.TheVariants as pattern
use Rattle.x86_table.specs.declared.forms.Row.{Row}
use Rattle.x86_table.specs.Rows.{the_rows}

-- the pattern shows no operand
abbrev pub is_absent : Pattern → Bool
is_absent pattern.Absent = true
is_absent (pattern.RegMem c n) = false
is_absent (pattern.Reg c) = false
is_absent (pattern.Low c) = false
is_absent (pattern.Accumulator c) = false
is_absent pattern.Cl = false
is_absent pattern.One = false
is_absent pattern.Immediate = false
is_absent pattern.Target = false

-- the pattern shows registers
abbrev pub takes_register : Pattern → Bool
takes_register pattern.Absent = false
takes_register (pattern.RegMem c n) = true
takes_register (pattern.Reg c) = true
takes_register (pattern.Low c) = true
takes_register (pattern.Accumulator c) = true
takes_register pattern.Cl = true
takes_register pattern.One = false
takes_register pattern.Immediate = false
takes_register pattern.Target = false

-- the pattern shows memory
abbrev pub takes_memory : Pattern → Bool
takes_memory pattern.Absent = false
takes_memory (pattern.RegMem c n) = true
takes_memory (pattern.Reg c) = false
takes_memory (pattern.Low c) = false
takes_memory (pattern.Accumulator c) = false
takes_memory pattern.Cl = false
takes_memory pattern.One = false
takes_memory pattern.Immediate = false
takes_memory pattern.Target = false

-- the pattern shows immediates
abbrev pub is_immediate : Pattern → Bool
is_immediate pattern.Absent = false
is_immediate (pattern.RegMem c n) = false
is_immediate (pattern.Reg c) = false
is_immediate (pattern.Low c) = false
is_immediate (pattern.Accumulator c) = false
is_immediate pattern.Cl = false
is_immediate pattern.One = true
is_immediate pattern.Immediate = true
is_immediate pattern.Target = false

-- the pattern shows branch targets
abbrev pub is_target : Pattern → Bool
is_target pattern.Absent = false
is_target (pattern.RegMem c n) = false
is_target (pattern.Reg c) = false
is_target (pattern.Low c) = false
is_target (pattern.Accumulator c) = false
is_target pattern.Cl = false
is_target pattern.One = false
is_target pattern.Immediate = false
is_target pattern.Target = true

-- the pattern shows operands of this kind
abbrev pub kind_fits : Pattern → Slot → Bool
kind_fits pattern slot.Absent = is_absent pattern
kind_fits pattern (slot.Register r) = takes_register pattern
kind_fits pattern slot.Immediate = is_immediate pattern
kind_fits pattern slot.Memory = takes_memory pattern
kind_fits pattern slot.Target = is_target pattern

-- the row has the name, the size and the kinds of operands of the instruction
unfoldable pub admits : Row → Insn → Bool
admits r insn = (r.name.0 == insn.name.0) && ((r.size == insn.size) && (kind_fits r.first insn.first && (kind_fits r.second insn.second && kind_fits r.third insn.third)))

-- the row is one of the table that admits the instruction; there is none only where none does
abbrev pub FindsRow : Insn → Option Row → Type 0
FindsRow insn None = (i : ℕ) (r : Row) → slice_get the_rows i ≡ Some r → admits r insn ≡ false
FindsRow insn (Some r) = (i : ℕ) × (slice_get the_rows i ≡ Some r) × (admits r insn ≡ true)

-- how many bytes the pattern shows in memory
abbrev pub bytes_in_memory : Pattern → ℕ
bytes_in_memory (pattern.RegMem c n) = n
bytes_in_memory pattern.Absent = 0
bytes_in_memory (pattern.Reg c) = 0
bytes_in_memory (pattern.Low c) = 0
bytes_in_memory (pattern.Accumulator c) = 0
bytes_in_memory pattern.Cl = 0
bytes_in_memory pattern.One = 0
bytes_in_memory pattern.Immediate = 0
bytes_in_memory pattern.Target = 0

-- the register of an operand, if it is one
abbrev pub reg_in : Slot → Option Reg
reg_in slot.Absent = None
reg_in (slot.Register r) = Some r
reg_in slot.Immediate = None
reg_in slot.Memory = None
reg_in slot.Target = None

-- the register that is written as the first operand
abbrev pub first_written : Destinations → Slot → Option Reg
first_written destinations.Nothing operand = None
first_written destinations.First operand = reg_in operand
first_written destinations.FirstAndSecond operand = reg_in operand

-- the register that is written as the second operand
abbrev pub second_written : Destinations → Slot → Option Reg
second_written destinations.Nothing operand = None
second_written destinations.First operand = None
second_written destinations.FirstAndSecond operand = reg_in operand

-- the prefix word repeats the instruction, and counts in rcx
abbrev pub is_repeat : Prefix → Bool
is_repeat prefix.Absent = false
is_repeat prefix.Lock = false
is_repeat prefix.Rep = true
is_repeat prefix.Repe = true
is_repeat prefix.Repne = true
is_repeat prefix.Notrack = false

-- what is stored where the first operand is in memory, with so many bytes
abbrev pub in_memory : StoreKind → ℕ → Store
in_memory kind.Absent n = store.Absent
in_memory kind.Operand n = store.Operand n
in_memory kind.BitString n = store.Unfixed
in_memory kind.PushQuad n = store.Stack 8
in_memory kind.PushWord n = store.Stack 2
in_memory kind.Unfixed n = store.Unfixed

-- what is stored where the first operand is elsewhere
abbrev pub elsewhere : StoreKind → Store
elsewhere kind.Absent = store.Absent
elsewhere kind.Operand = store.Absent
elsewhere kind.BitString = store.Absent
elsewhere kind.PushQuad = store.Stack 8
elsewhere kind.PushWord = store.Stack 2
elsewhere kind.Unfixed = store.Unfixed

-- what is stored, by the first operand
abbrev pub stored : Slot → StoreKind → ℕ → Store
stored slot.Memory k n = in_memory k n
stored slot.Absent k n = elsewhere k
stored (slot.Register r) k n = elsewhere k
stored slot.Immediate k n = elsewhere k
stored slot.Target k n = elsewhere k

-- what the row says that the instruction writes
unfoldable pub writes_by : Row → Insn → Writes
writes_by r insn = record {
  first = first_written r.outputs.destinations insn.first;
  second = second_written r.outputs.destinations insn.second;
  implied = r.outputs.implied;
  repeats = is_repeat insn.«prefix»;
  store = stored insn.first r.outputs.store (bytes_in_memory r.first);
}

-- nothing is written
abbrev pub no_writes : Writes
no_writes = record { first = None; second = None; implied = implied.Absent; repeats = false; store = store.Absent }

-- each row that admits the instruction says that this is written; where none does, nothing is
pub record IsWritten (insn : Insn) (writes : Writes) : Type 0 where
  pub by_row : (i : ℕ) (r : Row) → slice_get the_rows i ≡ Some r → admits r insn ≡ true → writes ≡ writes_by r insn
  pub by_none : ((i : ℕ) (r : Row) → slice_get the_rows i ≡ Some r → admits r insn ≡ false) → writes ≡ no_writes

-- the general-purpose register of this number is one of these
abbrev pub has_general : Implied → ℕ → Bool
has_general implied.Absent n = false
has_general implied.Rax n = n == 0
has_general implied.Rcx n = n == 1
has_general implied.Rdx n = n == 2
has_general implied.Rsp n = n == 4
has_general implied.Rdi n = n == 7
has_general implied.RaxRdx n = n == 0 || n == 2
has_general implied.RaxRsi n = n == 0 || n == 6
has_general implied.RsiRdi n = n == 6 || n == 7
has_general implied.RspRbp n = n == 4 || n == 5
has_general implied.RaxRcxR11 n = n == 0 || (n == 1 || n == 11)
has_general implied.RaxRbxRcxRdx n = nat_lt n 4
has_general implied.Xmm0 n = false

-- the register xmm of this number is one of these
abbrev pub has_vector : Implied → ℕ → Bool
has_vector implied.Absent n = false
has_vector implied.Rax n = false
has_vector implied.Rcx n = false
has_vector implied.Rdx n = false
has_vector implied.Rsp n = false
has_vector implied.Rdi n = false
has_vector implied.RaxRdx n = false
has_vector implied.RaxRsi n = false
has_vector implied.RsiRdi n = false
has_vector implied.RspRbp n = false
has_vector implied.RaxRcxR11 n = false
has_vector implied.RaxRbxRcxRdx n = false
has_vector implied.Xmm0 n = n == 0

-- the register, if there is one, is a part of the general-purpose register
abbrev pub part_is : Option Reg → ℕ → Bool
part_is None n = false
part_is (Some r) n = is_part_of n r

-- a register of the class is the register xmm of this number
abbrev pub is_xmm_by : Class → ℕ → ℕ → Bool
is_xmm_by class.Byte own n = false
is_xmm_by class.High own n = false
is_xmm_by class.Word own n = false
is_xmm_by class.Long own n = false
is_xmm_by class.Quad own n = false
is_xmm_by class.Xmm own n = own == n

-- the register is the register xmm of this number
abbrev pub is_xmm_of : Reg → ℕ → Bool
is_xmm_of r n = is_xmm_by r.class r.number n

-- the register, if there is one, is the register xmm
abbrev pub xmm_is : Option Reg → ℕ → Bool
xmm_is None n = false
xmm_is (Some r) n = is_xmm_of r n

-- the general-purpose register, or a part of it, is written
abbrev pub writes_general : Writes → ℕ → Bool
writes_general writes n = part_is writes.first n || (part_is writes.second n || (has_general writes.implied n || (writes.repeats && (n == 1))))

-- the register xmm is written
abbrev pub writes_vector : Writes → ℕ → Bool
writes_vector writes n = xmm_is writes.first n || (xmm_is writes.second n || has_vector writes.implied n)

-- both patterns show operands of one kind
abbrev pub kinds_meet : Pattern → Pattern → Bool
kinds_meet p q = is_absent p && is_absent q || (takes_register p && takes_register q || (is_immediate p && is_immediate q
    || (takes_memory p && takes_memory q || is_target p && is_target q)))

-- both rows may admit one instruction
abbrev pub may_meet : Row → Row → Bool
may_meet r s = (r.name.0 == s.name.0) && ((r.size == s.size) && (kinds_meet r.first s.first && (kinds_meet r.second s.second && kinds_meet r.third s.third)))

-- destinations by numbers
abbrev pub destinations_number : Destinations → ℕ
destinations_number destinations.Nothing = 0
destinations_number destinations.First = 1
destinations_number destinations.FirstAndSecond = 2

-- implied registers by numbers
abbrev pub implied_number : Implied → ℕ
implied_number implied.Absent = 0
implied_number implied.Rax = 1
implied_number implied.Rcx = 2
implied_number implied.Rdx = 3
implied_number implied.Rsp = 4
implied_number implied.Rdi = 5
implied_number implied.RaxRdx = 6
implied_number implied.RaxRsi = 7
implied_number implied.RsiRdi = 8
implied_number implied.RspRbp = 9
implied_number implied.RaxRcxR11 = 10
implied_number implied.RaxRbxRcxRdx = 11
implied_number implied.Xmm0 = 12

-- kinds of stores by numbers
abbrev pub store_number : StoreKind → ℕ
store_number kind.Absent = 0
store_number kind.Operand = 1
store_number kind.BitString = 2
store_number kind.PushQuad = 3
store_number kind.PushWord = 4
store_number kind.Unfixed = 5

-- both rows say the same of what is written
abbrev pub write_same : Row → Row → Bool
write_same r s = (destinations_number r.outputs.destinations == destinations_number s.outputs.destinations) && ((implied_number r.outputs.implied == implied_number s.outputs.implied)
    && ((store_number r.outputs.store == store_number s.outputs.store) && (not (takes_memory r.first && takes_memory s.first) || (bytes_in_memory r.first == bytes_in_memory s.first))))

-- the row says the same of what is written as each of the rows behind it with its name that may admit what it does; behind those stand
-- names of higher numbers
abbrev pub agrees_with : Row → List Row → Bool
agrees_with r [] = true
agrees_with r (s ∷ rows) = if r.name.0 == s.name.0 then ((not (may_meet r s) || write_same r s) && agrees_with r rows) else (nat_lt r.name.0 s.name.0)

-- each of these rows does
abbrev pub all_agree : List Row → Bool
all_agree [] = true
all_agree (r ∷ rows) = agrees_with r rows && all_agree rows
