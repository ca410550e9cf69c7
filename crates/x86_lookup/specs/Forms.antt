-- Which rows take operands of such kinds, and the operand size that they have.
use Rattle.std.specs.Prelude.{◌≡◌, ℕ, ◌*◌, ◌==◌, ◌&&◌, ◌||◌, Bool, true, false, Some, slice_get, if◌then◌else◌}
use Rattle.x86_insn.specs.declared.registers.Class.{Class}
use Rattle.x86_insn.specs.declared.registers.Class.TheVariants as class
use Rattle.x86_insn.specs.declared.insns.Slot.{Slot}
use Rattle.x86_insn.specs.declared.insns.Slot.TheVariants as slot
use Rattle.x86_table.specs.declared.forms.Pattern.{Pattern}
use Rattle.x86_table.specs.declared.forms.Pattern.TheVariants as pattern
use Rattle.x86_table.specs.declared.forms.Row.{Row}
use Rattle.x86_table.specs.Rows.{the_rows}
use Rattle.x86_lookup.specs.declared.form_sizes.FormSize.{FormSize}
use Rattle.x86_lookup.specs.declared.form_sizes.FormSize.TheVariants as sizes
use Rattle.x86_lookup.specs.Ranges.{is_named}
use Rattle.x86_lookup.specs.Writing.{is_absent, is_immediate, is_target, takes_memory}

-- how many bits the registers of a class have
abbrev pub width : Class → ℕ
width class.Byte = 8
width class.High = 8
width class.Word = 16
width class.Long = 32
width class.Quad = 64
width class.Xmm = 128

-- the pattern takes a register of so many bits and this number
abbrev pub takes_bits : Pattern → ℕ → ℕ → Bool
takes_bits pattern.Absent bits number = false
takes_bits (pattern.RegMem c n) bits number = width c == bits
takes_bits (pattern.Reg c) bits number = width c == bits
takes_bits (pattern.Low c) bits number = width c == bits
takes_bits (pattern.Accumulator c) bits number = (width c == bits) && (number == 0)
takes_bits pattern.Cl bits number = (8 == bits) && (number == 1)
takes_bits pattern.One bits number = false
takes_bits pattern.Immediate bits number = false
takes_bits pattern.Target bits number = false

-- the pattern takes such an operand
abbrev pub takes : Pattern → Slot → Bool
takes pattern slot.Absent = is_absent pattern
takes pattern (slot.Register reg) = takes_bits pattern (width reg.class) reg.number
takes pattern slot.Immediate = is_immediate pattern
takes pattern slot.Memory = takes_memory pattern
takes pattern slot.Target = is_target pattern

-- the row takes such operands
unfoldable pub takes_all : Slot → Slot → Slot → Row → Bool
takes_all first second third r = takes r.first first && (takes r.second second && takes r.third third)

-- the row has the name, and takes such operands
abbrev pub is_form : ℕ → Slot → Slot → Slot → Row → Bool
is_form name first second third r = is_named name r && takes_all first second third r

-- the pattern takes memory of so many bits: any where none are said, or where the size of memory does not count
abbrev pub holds : ℕ → Pattern → Bool
holds bits pattern.Absent = true
holds bits (pattern.RegMem c bytes) = (bits == 0) || ((bytes == 0) || (8 * bytes == bits))
holds bits (pattern.Reg c) = true
holds bits (pattern.Low c) = true
holds bits (pattern.Accumulator c) = true
holds bits pattern.Cl = true
holds bits pattern.One = true
holds bits pattern.Immediate = true
holds bits pattern.Target = true

-- the operand, if it is memory, may have so many bits
abbrev pub holds_at : ℕ → Slot → Pattern → Bool
holds_at bits slot.Absent p = true
holds_at bits (slot.Register reg) p = true
holds_at bits slot.Immediate p = true
holds_at bits slot.Memory p = holds bits p
holds_at bits slot.Target p = true

-- what is memory of the operands may have so many bits
abbrev pub hold_all : ℕ → Slot → Slot → Slot → Row → Bool
hold_all bits first second third r = holds_at bits first r.first && (holds_at bits second r.second && holds_at bits third r.third)

-- the row takes such operands, and memory of so many bits
unfoldable pub takes_sized : ℕ → Slot → Slot → Slot → Row → Bool
takes_sized bits first second third r = takes_all first second third r && hold_all bits first second third r

-- the row has the name, and takes such operands and memory of so many bits
abbrev pub is_form_of : ℕ → ℕ → Slot → Slot → Slot → Row → Bool
is_form_of bits name first second third r = is_named name r && takes_sized bits first second third r

-- a row passes the test and has this size, and each row that passes it has
pub record IsOneSize (test : Row → Bool) (size : ℕ) : Type 0 where
  pub at : ℕ
  pub row : Row
  pub stands : slice_get the_rows at ≡ Some row
  pub passes : test row ≡ true
  pub is : row.size ≡ size
  pub all : (i : ℕ) (r : Row) → slice_get the_rows i ≡ Some r → test r ≡ true → r.size ≡ size

-- rows of two sizes pass the test
pub record AreTwoSizes (test : Row → Bool) : Type 0 where
  pub at : ℕ
  pub one : Row
  pub stands : slice_get the_rows at ≡ Some one
  pub passes : test one ≡ true
  pub also_at : ℕ
  pub other : Row
  pub also_stands : slice_get the_rows also_at ≡ Some other
  pub also_passes : test other ≡ true
  pub differ : (other.size == one.size) ≡ false

-- the size of the rows that pass the test, if there are any and they have one
abbrev pub AreSizes : (Row → Bool) → FormSize → Type 0
AreSizes test sizes.Absent = (i : ℕ) (r : Row) → slice_get the_rows i ≡ Some r → test r ≡ false
AreSizes test (sizes.One size) = IsOneSize test size
AreSizes test sizes.Several = AreTwoSizes test

-- the sizes when one more row has this size
abbrev pub with_size : FormSize → ℕ → FormSize
with_size sizes.Absent size = sizes.One size
with_size (sizes.One old) size = if old == size then sizes.One old else sizes.Several
with_size sizes.Several size = sizes.Several
