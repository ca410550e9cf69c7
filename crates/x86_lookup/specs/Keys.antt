-- What the keys of rows say: the sorts of operands that their patterns take, a bit each.
use Rattle.std.specs.Prelude.{◌≡◌, ◌<◌, ◌+◌, ◌/◌, ◌%◌, ◌^◌, ◌==◌, ◌&&◌, Bool, List, false, true, ℕ}
use Rattle.x86_insn.specs.declared.registers.Class.{Class}
use Rattle.x86_insn.specs.declared.registers.Class.TheVariants as class
use Rattle.x86_insn.specs.declared.insns.Slot.{Slot}
use Rattle.x86_insn.specs.declared.insns.Insn.{Insn}
use Rattle.x86_insn.specs.declared.insns.Slot.TheVariants as slot
use Rattle.x86_table.specs.declared.forms.Pattern.{Pattern}
use Rattle.x86_table.specs.declared.forms.Pattern.TheVariants as pattern
use Rattle.x86_lookup.specs.declared.row_keys.Key.{Key}
use Rattle.x86_lookup.specs.declared.row_keys.TheConstants.{KEYS}
use Rattle.x86_lookup.specs.declared.form_sizes.SlotSorts.{SlotSorts}

-- the keys of the rows, in order
unfoldable pub the_keys : List Key
the_keys = KEYS

-- THE SORT OF AN OPERAND, BELOW 16

-- by two tests
abbrev pub either : Bool → Bool → ℕ → ℕ → ℕ → ℕ
either true b x y z = x
either false true x y z = y
either false false x y z = z

-- the sort of a register: those of each size have one, and that of number 0 its own, as cl
abbrev pub register_sort : Class → ℕ → ℕ
register_sort class.Byte n = either (n == 0) (n == 1) 7 8 1
register_sort class.High n = either (n == 0) (n == 1) 7 8 1
register_sort class.Word n = either (n == 0) false 9 3 3
register_sort class.Long n = either (n == 0) false 10 4 4
register_sort class.Quad n = either (n == 0) false 11 5 5
register_sort class.Xmm n = either (n == 0) false 2 6 6

-- the sort of an operand of which only the kind is known: an immediate may be the number 1
abbrev pub slot_sort : Slot → ℕ
slot_sort slot.Absent = 0
slot_sort (slot.Register r) = register_sort r.class r.number
slot_sort slot.Memory = 12
slot_sort slot.Target = 14
slot_sort slot.Immediate = 15

-- THE SORTS THAT A PATTERN TAKES, A BIT EACH

-- the registers of a class, and of its size
abbrev pub register_sorts : Class → ℕ
register_sorts class.Byte = 386
register_sorts class.High = 386
register_sorts class.Word = 520
register_sorts class.Long = 1040
register_sorts class.Quad = 2080
register_sorts class.Xmm = 68

-- the registers of number 0
abbrev pub first_sort : Class → ℕ
first_sort class.Byte = 128
first_sort class.High = 128
first_sort class.Word = 512
first_sort class.Long = 1024
first_sort class.Quad = 2048
first_sort class.Xmm = 4

-- the sorts of a pattern
abbrev pub pattern_sorts : Pattern → ℕ
pattern_sorts pattern.Absent = 1
pattern_sorts (pattern.RegMem c n) = 4096 + register_sorts c
pattern_sorts (pattern.Reg c) = register_sorts c
pattern_sorts (pattern.Low c) = register_sorts c
pattern_sorts (pattern.Accumulator c) = first_sort c
pattern_sorts pattern.Cl = 256
pattern_sorts pattern.One = 32768
pattern_sorts pattern.Immediate = 40960
pattern_sorts pattern.Target = 16384

-- the bit at this place
abbrev pub has_bit : ℕ → ℕ → Bool
has_bit k a = k / 2 ^ a % 2 == 1

-- the key has these sorts
abbrev pub shows : Key → ℕ → ℕ → ℕ → Bool
shows k first second third = has_bit k.first first && (has_bit k.second second && has_bit k.third third)

-- the sorts of an instruction's operands
pub record AreSlotSorts (s : SlotSorts) (insn : Insn) : Type 0 where
  pub first : s.0 ≡ slot_sort insn.first
  pub second : s.1 ≡ slot_sort insn.second
  pub third : s.2 ≡ slot_sort insn.third
  pub small : (s.0 < 16) × (s.1 < 16) × (s.2 < 16)
