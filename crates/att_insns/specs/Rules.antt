-- What the operands of a mnemonic mean beside its rows' patterns (GNU as manual, "i386-Mnemonics").
use Rattle.std.specs.Prelude.{ℕ, ◌==◌, ◌&&◌, ◌||◌, Bool, true, false, not, None, if◌then◌else◌}
use Rattle.asm_expr.specs.Trees.{number}
use Rattle.x86_insn.specs.declared.registers.Class.{Class}
use Rattle.x86_insn.specs.declared.registers.Class.TheVariants as class
use Rattle.x86_insn.specs.declared.registers.Reg.{Reg}
use Rattle.x86_insn.specs.declared.insns.Mnemonic.{Mnemonic}
use Rattle.x86_insn.specs.declared.insns.Slot.{Slot}
use Rattle.x86_insn.specs.declared.insns.Slot.TheVariants as slot
use Rattle.x86_table.specs.declared.mnemonics.integers.TheConstants.{MOV}
use Rattle.x86_table.specs.declared.mnemonics.vectors.TheConstants.{MOVQ}
use Rattle.x86_lookup.specs.declared.names.Rule.{Rule}
use Rattle.x86_lookup.specs.declared.names.Rule.TheVariants as rule
use Rattle.att_operands.specs.Values.{ValueText}
use Rattle.att_insns.specs.Slots.{is_absent, is_register, is_immediate, is_memory}
use Rattle.att_insns.specs.InsnTexts.{InsnText}

-- 64 bits
abbrev pub is_quad_class : Class → Bool
is_quad_class class.Byte = false
is_quad_class class.High = false
is_quad_class class.Word = false
is_quad_class class.Long = false
is_quad_class class.Quad = true
is_quad_class class.Xmm = false

-- 128 bits
abbrev pub is_xmm_class : Class → Bool
is_xmm_class class.Byte = false
is_xmm_class class.High = false
is_xmm_class class.Word = false
is_xmm_class class.Long = false
is_xmm_class class.Quad = false
is_xmm_class class.Xmm = true

-- a register that passes stands there
abbrev pub is_reg : (Reg → Bool) → Slot → Bool
is_reg passes slot.Absent = false
is_reg passes (slot.Register reg) = passes reg
is_reg passes slot.Immediate = false
is_reg passes slot.Memory = false
is_reg passes slot.Target = false

-- a 64-bit register
abbrev pub is_quad : Slot → Bool
is_quad = is_reg (λ reg. is_quad_class reg.class)

-- a 128-bit register
abbrev pub is_xmm : Slot → Bool
is_xmm = is_reg (λ reg. is_xmm_class reg.class)

-- the accumulator of its class
abbrev pub is_accumulator : Slot → Bool
is_accumulator = is_reg (λ reg. reg.number == 0)

-- the register xmm0
abbrev pub is_xmm0 : Slot → Bool
is_xmm0 = is_reg (λ reg. is_xmm_class reg.class && (reg.number == 0))

-- one of the operands passes
abbrev pub has : (Slot → Bool) → InsnText → Bool
has passes insn = passes insn.first || (passes insn.second || passes insn.third)

-- the text of a number
abbrev pub number_text : ℕ → ValueText
number_text value = record { tree = number value; suffix = None }

-- no row has this name
abbrev pub no_name : Mnemonic
no_name = record { 0 = 65535 }

-- the number is the third operand, which is not written; behind three others it has no place, and there is no such form
abbrev pub with_predicate : ℕ → InsnText → InsnText
with_predicate value insn =
    if is_absent insn.third then record insn { third = slot.Immediate; immediate = number_text value } else record insn { name = no_name }

-- one operand alone is shifted by 1
abbrev pub by_one : InsnText → InsnText
by_one insn =
    if is_absent insn.second && not (is_absent insn.first) then record insn { second = slot.Immediate; immediate = number_text 1 } else insn

-- the register cl
abbrev pub register_cl : Slot
register_cl = slot.Register (record { class = class.Byte; number = 1 })

-- two operands without a third are shifted by cl
abbrev pub by_cl : InsnText → InsnText
by_cl insn = if is_absent insn.third && not (is_absent insn.second) then record insn { third = register_cl } else insn

-- a register before an immediate stands for the first two operands
abbrev pub one_for_two : InsnText → InsnText
one_for_two insn =
    if is_register insn.first && (is_immediate insn.second && is_absent insn.third) then record insn { second = insn.first; third = insn.second } else insn

-- the first two operands change places
abbrev pub exchanged : InsnText → InsnText
exchanged insn = record insn { first = insn.second; second = insn.first }

-- of a register and memory, memory is the first
abbrev pub memory_first : InsnText → InsnText
memory_first insn = if is_register insn.first && is_memory insn.second then exchanged insn else insn

-- of a register and memory, memory is the first, and of two registers the accumulator
abbrev pub accumulator_first : InsnText → InsnText
accumulator_first insn = if is_register insn.first && (is_memory insn.second || is_accumulator insn.second) then exchanged insn else insn

-- the register xmm0 is the third operand, written or not
abbrev pub without_xmm0 : InsnText → InsnText
without_xmm0 insn = if is_xmm0 insn.third then record insn { third = slot.Absent } else insn

-- with a 64-bit register the name is that of `movq`
abbrev pub quad_is_movq : InsnText → InsnText
quad_is_movq insn = if has is_quad insn then record insn { name = record { 0 = MOVQ } } else insn

-- without a 128-bit register, and without a letter more, `movq` is `mov` of 64 bits
abbrev pub or_move : InsnText → InsnText
or_move insn = if has is_xmm insn || not (insn.size == 0) then insn else record insn { name = record { 0 = MOV }; size = 64 }

-- memory has 32 bits where no letter says its size
abbrev pub long_memory : InsnText → InsnText
long_memory insn = if has is_memory insn && (insn.size == 0) then record insn { size = 32 } else insn

-- the instruction that the operands mean by the rule of the mnemonic
abbrev pub ruled : Rule → InsnText → InsnText
ruled rule.Plain insn = insn
ruled (rule.Predicate value) insn = with_predicate value insn
ruled rule.ByOne insn = by_one insn
ruled rule.ByCl insn = by_cl insn
ruled rule.OneForTwo insn = one_for_two insn
ruled rule.MemoryFirst insn = memory_first insn
ruled rule.AccumulatorFirst insn = accumulator_first insn
ruled rule.WithXmm0 insn = without_xmm0 insn
ruled rule.Branch insn = insn
ruled rule.QuadIsMovq insn = quad_is_movq insn
ruled rule.LongMemory insn = long_memory insn
ruled rule.OrMove insn = or_move insn
ruled rule.BySource insn = insn
ruled (rule.OrString name) insn = insn

-- an expression without a mark is the target of a branch
abbrev pub is_branch : Rule → Bool
is_branch rule.Plain = false
is_branch (rule.Predicate value) = false
is_branch rule.ByOne = false
is_branch rule.ByCl = false
is_branch rule.OneForTwo = false
is_branch rule.MemoryFirst = false
is_branch rule.AccumulatorFirst = false
is_branch rule.WithXmm0 = false
is_branch rule.Branch = true
is_branch rule.QuadIsMovq = false
is_branch rule.LongMemory = false
is_branch rule.OrMove = false
is_branch rule.BySource = false
is_branch (rule.OrString name) = false
