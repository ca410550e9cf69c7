-- Which registers are parts of others.
use Rattle.std.specs.Prelude.{ℕ, ◌+◌, ◌==◌, Bool, false}
use Rattle.x86_insn.specs.declared.registers.Class.{Class}
use Rattle.x86_insn.specs.declared.registers.Class.TheVariants as class
use Rattle.x86_insn.specs.declared.registers.Reg.{Reg}

-- a register of the class is a part of the general-purpose register n, or all of it; ah is a part of rax
abbrev pub is_part_by : Class → ℕ → ℕ → Bool
is_part_by class.Byte n own = own == n
is_part_by class.High n own = own == 4 + n
is_part_by class.Word n own = own == n
is_part_by class.Long n own = own == n
is_part_by class.Quad n own = own == n
is_part_by class.Xmm n own = false

-- the register is a part of the general-purpose register of this number, or all of it
abbrev pub is_part_of : ℕ → Reg → Bool
is_part_of number reg = is_part_by reg.class number reg.number
