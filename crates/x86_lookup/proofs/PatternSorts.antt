-- A pattern takes an operand exactly where it has the bit of the operand's sort.
use Rattle.std.proofs.Common.{◌≡◌, ◌==◌, ◌+◌, ◌∙◌, ◌&&◌, Bool, false, inl, inr, refl, subst, sym, true, ℕ}
use Rattle.std.proofs.lemmas.Bool.{cases_Bool, eqb-true}
use Rattle.x86_insn.specs.declared.registers.Class.{Class}
use Rattle.x86_insn.specs.declared.registers.Class.TheVariants as class
use Rattle.x86_insn.specs.declared.insns.Slot.{Slot}
use Rattle.x86_insn.specs.declared.insns.Slot.TheVariants as slot
use Rattle.x86_table.specs.declared.forms.Pattern.{Pattern}
use Rattle.x86_table.specs.declared.forms.Pattern.TheVariants as pattern
use Rattle.x86_lookup.specs.Forms.{width, takes_bits, takes}
use Rattle.x86_lookup.specs.Keys.{either, register_sort, slot_sort, register_sorts, first_sort, pattern_sorts, has_bit}

-- a bit that each of three has alike
alike : (k x y z : ℕ) (a b v : Bool) → v ≡ has_bit k x → v ≡ has_bit k y → v ≡ has_bit k z → v ≡ has_bit k (either a b x y z)
alike k x y z true b v h i j = h
alike k x y z false true v h i j = i
alike k x y z false false v h i j = j

-- a bit that the first of three has alone
first_alone : (k x y z : ℕ) (a b : Bool) → true ≡ has_bit k x → false ≡ has_bit k y → false ≡ has_bit k z → a ≡ has_bit k (either a b x y z)
first_alone k x y z true b h i j = h
first_alone k x y z false true h i j = i
first_alone k x y z false false h i j = j

-- a bit that the second of three has alone
second_alone : (k x y z : ℕ) (a b : Bool) → (a ≡ true → b ≡ false) → false ≡ has_bit k x → true ≡ has_bit k y → false ≡ has_bit k z → b ≡ has_bit k (either a b x y z)
second_alone k x y z true b apart h i j = apart refl ∙ h
second_alone k x y z false true apart h i j = i
second_alone k x y z false false apart h i j = j

-- no number is 0 and 1
apart : (n : ℕ) → (n == 0) ≡ true → (n == 1) ≡ false
apart n h = subst (λ (m : ℕ). (m == 1) ≡ false) (sym (eqb-true n 0 h)) refl

-- the registers of a class
of_class : (c d : Class) (n : ℕ) → (width c == width d) ≡ has_bit (register_sorts c) (register_sort d n)
of_class class.Byte class.Byte n = alike 386 7 8 1 (n == 0) (n == 1) true refl refl refl
of_class class.Byte class.High n = alike 386 7 8 1 (n == 0) (n == 1) true refl refl refl
of_class class.Byte class.Word n = alike 386 9 3 3 (n == 0) false false refl refl refl
of_class class.Byte class.Long n = alike 386 10 4 4 (n == 0) false false refl refl refl
of_class class.Byte class.Quad n = alike 386 11 5 5 (n == 0) false false refl refl refl
of_class class.Byte class.Xmm n = alike 386 2 6 6 (n == 0) false false refl refl refl
of_class class.High class.Byte n = alike 386 7 8 1 (n == 0) (n == 1) true refl refl refl
of_class class.High class.High n = alike 386 7 8 1 (n == 0) (n == 1) true refl refl refl
of_class class.High class.Word n = alike 386 9 3 3 (n == 0) false false refl refl refl
of_class class.High class.Long n = alike 386 10 4 4 (n == 0) false false refl refl refl
of_class class.High class.Quad n = alike 386 11 5 5 (n == 0) false false refl refl refl
of_class class.High class.Xmm n = alike 386 2 6 6 (n == 0) false false refl refl refl
of_class class.Word class.Byte n = alike 520 7 8 1 (n == 0) (n == 1) false refl refl refl
of_class class.Word class.High n = alike 520 7 8 1 (n == 0) (n == 1) false refl refl refl
of_class class.Word class.Word n = alike 520 9 3 3 (n == 0) false true refl refl refl
of_class class.Word class.Long n = alike 520 10 4 4 (n == 0) false false refl refl refl
of_class class.Word class.Quad n = alike 520 11 5 5 (n == 0) false false refl refl refl
of_class class.Word class.Xmm n = alike 520 2 6 6 (n == 0) false false refl refl refl
of_class class.Long class.Byte n = alike 1040 7 8 1 (n == 0) (n == 1) false refl refl refl
of_class class.Long class.High n = alike 1040 7 8 1 (n == 0) (n == 1) false refl refl refl
of_class class.Long class.Word n = alike 1040 9 3 3 (n == 0) false false refl refl refl
of_class class.Long class.Long n = alike 1040 10 4 4 (n == 0) false true refl refl refl
of_class class.Long class.Quad n = alike 1040 11 5 5 (n == 0) false false refl refl refl
of_class class.Long class.Xmm n = alike 1040 2 6 6 (n == 0) false false refl refl refl
of_class class.Quad class.Byte n = alike 2080 7 8 1 (n == 0) (n == 1) false refl refl refl
of_class class.Quad class.High n = alike 2080 7 8 1 (n == 0) (n == 1) false refl refl refl
of_class class.Quad class.Word n = alike 2080 9 3 3 (n == 0) false false refl refl refl
of_class class.Quad class.Long n = alike 2080 10 4 4 (n == 0) false false refl refl refl
of_class class.Quad class.Quad n = alike 2080 11 5 5 (n == 0) false true refl refl refl
of_class class.Quad class.Xmm n = alike 2080 2 6 6 (n == 0) false false refl refl refl
of_class class.Xmm class.Byte n = alike 68 7 8 1 (n == 0) (n == 1) false refl refl refl
of_class class.Xmm class.High n = alike 68 7 8 1 (n == 0) (n == 1) false refl refl refl
of_class class.Xmm class.Word n = alike 68 9 3 3 (n == 0) false false refl refl refl
of_class class.Xmm class.Long n = alike 68 10 4 4 (n == 0) false false refl refl refl
of_class class.Xmm class.Quad n = alike 68 11 5 5 (n == 0) false false refl refl refl
of_class class.Xmm class.Xmm n = alike 68 2 6 6 (n == 0) false true refl refl refl

-- and memory
of_class_or_memory : (c d : Class) (n : ℕ) → (width c == width d) ≡ has_bit (4096 + register_sorts c) (register_sort d n)
of_class_or_memory class.Byte class.Byte n = alike 4482 7 8 1 (n == 0) (n == 1) true refl refl refl
of_class_or_memory class.Byte class.High n = alike 4482 7 8 1 (n == 0) (n == 1) true refl refl refl
of_class_or_memory class.Byte class.Word n = alike 4482 9 3 3 (n == 0) false false refl refl refl
of_class_or_memory class.Byte class.Long n = alike 4482 10 4 4 (n == 0) false false refl refl refl
of_class_or_memory class.Byte class.Quad n = alike 4482 11 5 5 (n == 0) false false refl refl refl
of_class_or_memory class.Byte class.Xmm n = alike 4482 2 6 6 (n == 0) false false refl refl refl
of_class_or_memory class.High class.Byte n = alike 4482 7 8 1 (n == 0) (n == 1) true refl refl refl
of_class_or_memory class.High class.High n = alike 4482 7 8 1 (n == 0) (n == 1) true refl refl refl
of_class_or_memory class.High class.Word n = alike 4482 9 3 3 (n == 0) false false refl refl refl
of_class_or_memory class.High class.Long n = alike 4482 10 4 4 (n == 0) false false refl refl refl
of_class_or_memory class.High class.Quad n = alike 4482 11 5 5 (n == 0) false false refl refl refl
of_class_or_memory class.High class.Xmm n = alike 4482 2 6 6 (n == 0) false false refl refl refl
of_class_or_memory class.Word class.Byte n = alike 4616 7 8 1 (n == 0) (n == 1) false refl refl refl
of_class_or_memory class.Word class.High n = alike 4616 7 8 1 (n == 0) (n == 1) false refl refl refl
of_class_or_memory class.Word class.Word n = alike 4616 9 3 3 (n == 0) false true refl refl refl
of_class_or_memory class.Word class.Long n = alike 4616 10 4 4 (n == 0) false false refl refl refl
of_class_or_memory class.Word class.Quad n = alike 4616 11 5 5 (n == 0) false false refl refl refl
of_class_or_memory class.Word class.Xmm n = alike 4616 2 6 6 (n == 0) false false refl refl refl
of_class_or_memory class.Long class.Byte n = alike 5136 7 8 1 (n == 0) (n == 1) false refl refl refl
of_class_or_memory class.Long class.High n = alike 5136 7 8 1 (n == 0) (n == 1) false refl refl refl
of_class_or_memory class.Long class.Word n = alike 5136 9 3 3 (n == 0) false false refl refl refl
of_class_or_memory class.Long class.Long n = alike 5136 10 4 4 (n == 0) false true refl refl refl
of_class_or_memory class.Long class.Quad n = alike 5136 11 5 5 (n == 0) false false refl refl refl
of_class_or_memory class.Long class.Xmm n = alike 5136 2 6 6 (n == 0) false false refl refl refl
of_class_or_memory class.Quad class.Byte n = alike 6176 7 8 1 (n == 0) (n == 1) false refl refl refl
of_class_or_memory class.Quad class.High n = alike 6176 7 8 1 (n == 0) (n == 1) false refl refl refl
of_class_or_memory class.Quad class.Word n = alike 6176 9 3 3 (n == 0) false false refl refl refl
of_class_or_memory class.Quad class.Long n = alike 6176 10 4 4 (n == 0) false false refl refl refl
of_class_or_memory class.Quad class.Quad n = alike 6176 11 5 5 (n == 0) false true refl refl refl
of_class_or_memory class.Quad class.Xmm n = alike 6176 2 6 6 (n == 0) false false refl refl refl
of_class_or_memory class.Xmm class.Byte n = alike 4164 7 8 1 (n == 0) (n == 1) false refl refl refl
of_class_or_memory class.Xmm class.High n = alike 4164 7 8 1 (n == 0) (n == 1) false refl refl refl
of_class_or_memory class.Xmm class.Word n = alike 4164 9 3 3 (n == 0) false false refl refl refl
of_class_or_memory class.Xmm class.Long n = alike 4164 10 4 4 (n == 0) false false refl refl refl
of_class_or_memory class.Xmm class.Quad n = alike 4164 11 5 5 (n == 0) false false refl refl refl
of_class_or_memory class.Xmm class.Xmm n = alike 4164 2 6 6 (n == 0) false true refl refl refl

-- those of number 0
of_number : (c d : Class) (n : ℕ) → ((width c == width d) && (n == 0)) ≡ has_bit (first_sort c) (register_sort d n)
of_number class.Byte class.Byte n = first_alone 128 7 8 1 (n == 0) (n == 1) refl refl refl
of_number class.Byte class.High n = first_alone 128 7 8 1 (n == 0) (n == 1) refl refl refl
of_number class.Byte class.Word n = alike 128 9 3 3 (n == 0) false false refl refl refl
of_number class.Byte class.Long n = alike 128 10 4 4 (n == 0) false false refl refl refl
of_number class.Byte class.Quad n = alike 128 11 5 5 (n == 0) false false refl refl refl
of_number class.Byte class.Xmm n = alike 128 2 6 6 (n == 0) false false refl refl refl
of_number class.High class.Byte n = first_alone 128 7 8 1 (n == 0) (n == 1) refl refl refl
of_number class.High class.High n = first_alone 128 7 8 1 (n == 0) (n == 1) refl refl refl
of_number class.High class.Word n = alike 128 9 3 3 (n == 0) false false refl refl refl
of_number class.High class.Long n = alike 128 10 4 4 (n == 0) false false refl refl refl
of_number class.High class.Quad n = alike 128 11 5 5 (n == 0) false false refl refl refl
of_number class.High class.Xmm n = alike 128 2 6 6 (n == 0) false false refl refl refl
of_number class.Word class.Byte n = alike 512 7 8 1 (n == 0) (n == 1) false refl refl refl
of_number class.Word class.High n = alike 512 7 8 1 (n == 0) (n == 1) false refl refl refl
of_number class.Word class.Word n = first_alone 512 9 3 3 (n == 0) false refl refl refl
of_number class.Word class.Long n = alike 512 10 4 4 (n == 0) false false refl refl refl
of_number class.Word class.Quad n = alike 512 11 5 5 (n == 0) false false refl refl refl
of_number class.Word class.Xmm n = alike 512 2 6 6 (n == 0) false false refl refl refl
of_number class.Long class.Byte n = alike 1024 7 8 1 (n == 0) (n == 1) false refl refl refl
of_number class.Long class.High n = alike 1024 7 8 1 (n == 0) (n == 1) false refl refl refl
of_number class.Long class.Word n = alike 1024 9 3 3 (n == 0) false false refl refl refl
of_number class.Long class.Long n = first_alone 1024 10 4 4 (n == 0) false refl refl refl
of_number class.Long class.Quad n = alike 1024 11 5 5 (n == 0) false false refl refl refl
of_number class.Long class.Xmm n = alike 1024 2 6 6 (n == 0) false false refl refl refl
of_number class.Quad class.Byte n = alike 2048 7 8 1 (n == 0) (n == 1) false refl refl refl
of_number class.Quad class.High n = alike 2048 7 8 1 (n == 0) (n == 1) false refl refl refl
of_number class.Quad class.Word n = alike 2048 9 3 3 (n == 0) false false refl refl refl
of_number class.Quad class.Long n = alike 2048 10 4 4 (n == 0) false false refl refl refl
of_number class.Quad class.Quad n = first_alone 2048 11 5 5 (n == 0) false refl refl refl
of_number class.Quad class.Xmm n = alike 2048 2 6 6 (n == 0) false false refl refl refl
of_number class.Xmm class.Byte n = alike 4 7 8 1 (n == 0) (n == 1) false refl refl refl
of_number class.Xmm class.High n = alike 4 7 8 1 (n == 0) (n == 1) false refl refl refl
of_number class.Xmm class.Word n = alike 4 9 3 3 (n == 0) false false refl refl refl
of_number class.Xmm class.Long n = alike 4 10 4 4 (n == 0) false false refl refl refl
of_number class.Xmm class.Quad n = alike 4 11 5 5 (n == 0) false false refl refl refl
of_number class.Xmm class.Xmm n = first_alone 4 2 6 6 (n == 0) false refl refl refl

-- the register cl
of_cl : (d : Class) (n : ℕ) → ((8 == width d) && (n == 1)) ≡ has_bit 256 (register_sort d n)
of_cl class.Byte n = second_alone 256 7 8 1 (n == 0) (n == 1) (apart n) refl refl refl
of_cl class.High n = second_alone 256 7 8 1 (n == 0) (n == 1) (apart n) refl refl refl
of_cl class.Word n = alike 256 9 3 3 (n == 0) false false refl refl refl
of_cl class.Long n = alike 256 10 4 4 (n == 0) false false refl refl refl
of_cl class.Quad n = alike 256 11 5 5 (n == 0) false false refl refl refl
of_cl class.Xmm n = alike 256 2 6 6 (n == 0) false false refl refl refl

-- no register
of_absent : (d : Class) (n : ℕ) → false ≡ has_bit 1 (register_sort d n)
of_absent class.Byte n = alike 1 7 8 1 (n == 0) (n == 1) false refl refl refl
of_absent class.High n = alike 1 7 8 1 (n == 0) (n == 1) false refl refl refl
of_absent class.Word n = alike 1 9 3 3 (n == 0) false false refl refl refl
of_absent class.Long n = alike 1 10 4 4 (n == 0) false false refl refl refl
of_absent class.Quad n = alike 1 11 5 5 (n == 0) false false refl refl refl
of_absent class.Xmm n = alike 1 2 6 6 (n == 0) false false refl refl refl

of_one : (d : Class) (n : ℕ) → false ≡ has_bit 32768 (register_sort d n)
of_one class.Byte n = alike 32768 7 8 1 (n == 0) (n == 1) false refl refl refl
of_one class.High n = alike 32768 7 8 1 (n == 0) (n == 1) false refl refl refl
of_one class.Word n = alike 32768 9 3 3 (n == 0) false false refl refl refl
of_one class.Long n = alike 32768 10 4 4 (n == 0) false false refl refl refl
of_one class.Quad n = alike 32768 11 5 5 (n == 0) false false refl refl refl
of_one class.Xmm n = alike 32768 2 6 6 (n == 0) false false refl refl refl

of_immediate : (d : Class) (n : ℕ) → false ≡ has_bit 40960 (register_sort d n)
of_immediate class.Byte n = alike 40960 7 8 1 (n == 0) (n == 1) false refl refl refl
of_immediate class.High n = alike 40960 7 8 1 (n == 0) (n == 1) false refl refl refl
of_immediate class.Word n = alike 40960 9 3 3 (n == 0) false false refl refl refl
of_immediate class.Long n = alike 40960 10 4 4 (n == 0) false false refl refl refl
of_immediate class.Quad n = alike 40960 11 5 5 (n == 0) false false refl refl refl
of_immediate class.Xmm n = alike 40960 2 6 6 (n == 0) false false refl refl refl

of_target : (d : Class) (n : ℕ) → false ≡ has_bit 16384 (register_sort d n)
of_target class.Byte n = alike 16384 7 8 1 (n == 0) (n == 1) false refl refl refl
of_target class.High n = alike 16384 7 8 1 (n == 0) (n == 1) false refl refl refl
of_target class.Word n = alike 16384 9 3 3 (n == 0) false false refl refl refl
of_target class.Long n = alike 16384 10 4 4 (n == 0) false false refl refl refl
of_target class.Quad n = alike 16384 11 5 5 (n == 0) false false refl refl refl
of_target class.Xmm n = alike 16384 2 6 6 (n == 0) false false refl refl refl

-- memory, and not the others
memory_bit : (c : Class) → true ≡ has_bit (4096 + register_sorts c) 12
memory_bit class.Byte = refl
memory_bit class.High = refl
memory_bit class.Word = refl
memory_bit class.Long = refl
memory_bit class.Quad = refl
memory_bit class.Xmm = refl

-- a bit that no class has
no_absent : (c : Class) → false ≡ has_bit (register_sorts c) 0
no_absent class.Byte = refl
no_absent class.High = refl
no_absent class.Word = refl
no_absent class.Long = refl
no_absent class.Quad = refl
no_absent class.Xmm = refl

no_absent_or_memory : (c : Class) → false ≡ has_bit (4096 + register_sorts c) 0
no_absent_or_memory class.Byte = refl
no_absent_or_memory class.High = refl
no_absent_or_memory class.Word = refl
no_absent_or_memory class.Long = refl
no_absent_or_memory class.Quad = refl
no_absent_or_memory class.Xmm = refl

no_first_absent : (c : Class) → false ≡ has_bit (first_sort c) 0
no_first_absent class.Byte = refl
no_first_absent class.High = refl
no_first_absent class.Word = refl
no_first_absent class.Long = refl
no_first_absent class.Quad = refl
no_first_absent class.Xmm = refl

no_memory : (c : Class) → false ≡ has_bit (register_sorts c) 12
no_memory class.Byte = refl
no_memory class.High = refl
no_memory class.Word = refl
no_memory class.Long = refl
no_memory class.Quad = refl
no_memory class.Xmm = refl

no_first_memory : (c : Class) → false ≡ has_bit (first_sort c) 12
no_first_memory class.Byte = refl
no_first_memory class.High = refl
no_first_memory class.Word = refl
no_first_memory class.Long = refl
no_first_memory class.Quad = refl
no_first_memory class.Xmm = refl

no_target : (c : Class) → false ≡ has_bit (register_sorts c) 14
no_target class.Byte = refl
no_target class.High = refl
no_target class.Word = refl
no_target class.Long = refl
no_target class.Quad = refl
no_target class.Xmm = refl

no_target_or_memory : (c : Class) → false ≡ has_bit (4096 + register_sorts c) 14
no_target_or_memory class.Byte = refl
no_target_or_memory class.High = refl
no_target_or_memory class.Word = refl
no_target_or_memory class.Long = refl
no_target_or_memory class.Quad = refl
no_target_or_memory class.Xmm = refl

no_first_target : (c : Class) → false ≡ has_bit (first_sort c) 14
no_first_target class.Byte = refl
no_first_target class.High = refl
no_first_target class.Word = refl
no_first_target class.Long = refl
no_first_target class.Quad = refl
no_first_target class.Xmm = refl

no_immediate : (c : Class) → false ≡ has_bit (register_sorts c) 15
no_immediate class.Byte = refl
no_immediate class.High = refl
no_immediate class.Word = refl
no_immediate class.Long = refl
no_immediate class.Quad = refl
no_immediate class.Xmm = refl

no_immediate_or_memory : (c : Class) → false ≡ has_bit (4096 + register_sorts c) 15
no_immediate_or_memory class.Byte = refl
no_immediate_or_memory class.High = refl
no_immediate_or_memory class.Word = refl
no_immediate_or_memory class.Long = refl
no_immediate_or_memory class.Quad = refl
no_immediate_or_memory class.Xmm = refl

no_first_immediate : (c : Class) → false ≡ has_bit (first_sort c) 15
no_first_immediate class.Byte = refl
no_first_immediate class.High = refl
no_first_immediate class.Word = refl
no_first_immediate class.Long = refl
no_first_immediate class.Quad = refl
no_first_immediate class.Xmm = refl

-- THE LAW OF THE SORTS

pub taken_by_sort : (p : Pattern) (s : Slot) → takes p s ≡ has_bit (pattern_sorts p) (slot_sort s)
taken_by_sort pattern.Absent slot.Absent = refl
taken_by_sort pattern.Absent slot.Memory = refl
taken_by_sort pattern.Absent slot.Target = refl
taken_by_sort pattern.Absent slot.Immediate = refl
taken_by_sort pattern.Absent (slot.Register r) = of_absent r.class r.number
taken_by_sort (pattern.RegMem c w) slot.Absent = no_absent_or_memory c
taken_by_sort (pattern.RegMem c w) slot.Memory = memory_bit c
taken_by_sort (pattern.RegMem c w) slot.Target = no_target_or_memory c
taken_by_sort (pattern.RegMem c w) slot.Immediate = no_immediate_or_memory c
taken_by_sort (pattern.RegMem c w) (slot.Register r) = of_class_or_memory c r.class r.number
taken_by_sort (pattern.Reg c) slot.Absent = no_absent c
taken_by_sort (pattern.Reg c) slot.Memory = no_memory c
taken_by_sort (pattern.Reg c) slot.Target = no_target c
taken_by_sort (pattern.Reg c) slot.Immediate = no_immediate c
taken_by_sort (pattern.Reg c) (slot.Register r) = of_class c r.class r.number
taken_by_sort (pattern.Low c) slot.Absent = no_absent c
taken_by_sort (pattern.Low c) slot.Memory = no_memory c
taken_by_sort (pattern.Low c) slot.Target = no_target c
taken_by_sort (pattern.Low c) slot.Immediate = no_immediate c
taken_by_sort (pattern.Low c) (slot.Register r) = of_class c r.class r.number
taken_by_sort (pattern.Accumulator c) slot.Absent = no_first_absent c
taken_by_sort (pattern.Accumulator c) slot.Memory = no_first_memory c
taken_by_sort (pattern.Accumulator c) slot.Target = no_first_target c
taken_by_sort (pattern.Accumulator c) slot.Immediate = no_first_immediate c
taken_by_sort (pattern.Accumulator c) (slot.Register r) = of_number c r.class r.number
taken_by_sort pattern.Cl slot.Absent = refl
taken_by_sort pattern.Cl slot.Memory = refl
taken_by_sort pattern.Cl slot.Target = refl
taken_by_sort pattern.Cl slot.Immediate = refl
taken_by_sort pattern.Cl (slot.Register r) = of_cl r.class r.number
taken_by_sort pattern.One slot.Absent = refl
taken_by_sort pattern.One slot.Memory = refl
taken_by_sort pattern.One slot.Target = refl
taken_by_sort pattern.One slot.Immediate = refl
taken_by_sort pattern.One (slot.Register r) = of_one r.class r.number
taken_by_sort pattern.Immediate slot.Absent = refl
taken_by_sort pattern.Immediate slot.Memory = refl
taken_by_sort pattern.Immediate slot.Target = refl
taken_by_sort pattern.Immediate slot.Immediate = refl
taken_by_sort pattern.Immediate (slot.Register r) = of_immediate r.class r.number
taken_by_sort pattern.Target slot.Absent = refl
taken_by_sort pattern.Target slot.Memory = refl
taken_by_sort pattern.Target slot.Target = refl
taken_by_sort pattern.Target slot.Immediate = refl
taken_by_sort pattern.Target (slot.Register r) = of_target r.class r.number
