-- Which operands have texts: those of an instruction that bytes read as.
use Rattle.std.specs.Prelude.{◌≡◌, ℕ, ◌<◌, ◌≤◌, ◌^◌, ◌&&◌, not, Bool, true, false}
use Rattle.x86_insn.specs.declared.registers.Class.{Class}
use Rattle.x86_insn.specs.declared.registers.Class.TheVariants as class
use Rattle.x86_insn.specs.declared.insns.Base.{Base}
use Rattle.x86_insn.specs.declared.insns.Base.TheVariants as base
use Rattle.x86_insn.specs.declared.insns.Index.{Index}
use Rattle.x86_insn.specs.declared.insns.Index.TheVariants as index
use Rattle.x86_insn.specs.Views.{Seen, absent, register, immediate, memory, target, View}
use Rattle.x86_table.specs.declared.forms.Pattern.{Pattern}
use Rattle.x86_table.specs.declared.forms.Pattern.TheVariants as pattern
use Rattle.x86_table.specs.declared.forms.Row.{Row}
use Rattle.att_texts.specs.Numbers.{value_of}

-- a width of immediates
pub data IsWidth : (bits : ℕ) → Type 0 where
  eight : IsWidth 8
  sixteen : IsWidth 16
  thirty_two : IsWidth 32
  sixty_four : IsWidth 64

-- a register of the class has the number
abbrev pub IsNumbered : Class → ℕ → Type 0
IsNumbered class.Byte number = number < 16
IsNumbered class.High number = (4 ≤ number) × (number < 8)
IsNumbered class.Word number = number < 16
IsNumbered class.Long number = number < 16
IsNumbered class.Quad number = number < 16
IsNumbered class.Xmm number = number < 16

-- a register that may be an index, and a scale
abbrev pub IsIndexed : Index → Type 0
IsIndexed index.Absent = Unit {0}
IsIndexed (index.By number scale) = (number < 16) × ((number ≡ 4 → ⊥) × (scale < 4))

-- a base, which has no index where it is rip
abbrev pub IsAddressed : Base → Index → Type 0
IsAddressed base.Absent index = IsIndexed index
IsAddressed base.Rip index.Absent = Unit {0}
IsAddressed base.Rip (index.By number scale) = ⊥
IsAddressed (base.Of number) index = (number < 16) × IsIndexed index

-- an operand of a branch or of another instruction that can be printed
abbrev pub IsPrintable : Bool → Seen → Type 0
IsPrintable branch absent = Unit {0}
IsPrintable branch (register reg) = IsNumbered reg.class reg.number
IsPrintable branch (immediate value) = value_of value < 2 ^ 64
IsPrintable branch (memory place value) = (value_of value < 2 ^ 64) × IsAddressed place.base place.index
IsPrintable branch (target value) = (value_of value < 2 ^ 64) × (branch ≡ true)

-- an instruction whose operands can be printed
pub record ArePrintable (branch : Bool) (insn : View) : Type 0 where
  pub first : IsPrintable branch insn.first
  pub second : IsPrintable branch insn.second
  pub third : IsPrintable branch insn.third

-- the class is that of ah to bh
abbrev pub is_high : Class → Bool
is_high class.Byte = false
is_high class.High = true
is_high class.Word = false
is_high class.Long = false
is_high class.Quad = false
is_high class.Xmm = false

-- the operand of a row is no register of that class by itself
abbrev pub is_low : Pattern → Bool
is_low pattern.Absent = true
is_low (pattern.RegMem c n) = not (is_high c)
is_low (pattern.Reg c) = not (is_high c)
is_low (pattern.Low c) = not (is_high c)
is_low (pattern.Accumulator c) = not (is_high c)
is_low pattern.Cl = true
is_low pattern.One = true
is_low pattern.Immediate = true
is_low pattern.Target = true

-- so it is with all operands of a row
abbrev pub has_low : Row → Bool
has_low r = is_low r.first && (is_low r.second && is_low r.third)

-- the operand of a row is a branch target
abbrev pub IsTargetOf : Pattern → Type 0
IsTargetOf q = q ≡ pattern.Target
