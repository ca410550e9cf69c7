-- The test of equal operands.
use Rattle.std.proofs.Common.{◌≡◌, ◌==◌, None, Option, Some, ap, arith, eq-eqb, refl, subst, true, ℕ}
use Rattle.std.proofs.lemmas.Bool.{eqb-true, and_parts, and_from}
use Rattle.x86_insn.specs.declared.registers.Class.{Class}
use Rattle.x86_insn.specs.declared.registers.Reg.{Reg}
use Rattle.x86_insn.specs.declared.insns.Segment.{Segment}
use Rattle.x86_insn.specs.declared.insns.Index.{Index}
use Rattle.x86_insn.specs.declared.insns.Base.{Base}
use Rattle.x86_insn.specs.declared.insns.Address.{Address}
use Rattle.x86_insn.specs.declared.insns.Base.TheVariants as base
use Rattle.x86_insn.specs.declared.registers.Class.TheVariants as class
use Rattle.x86_insn.specs.declared.insns.Index.TheVariants as index
use Rattle.x86_insn.specs.declared.insns.Segment.TheVariants as segment
use Rattle.x86_insn.specs.Views.{Seen, absent, register, immediate as shown_immediate, memory, target}
use Rattle.x86_parts.specs.Building.{same_value, segment_number, same_base, same_index, same_memory, same_reg, same_operand}
use Rattle.x86_parts.specs.Codes.{class_number}

class_same : (c : Class) → (class_number c == class_number c) ≡ true
class_same c = eq-eqb (class_number c) (class_number c) refl

value_refl : (v : Option ℕ) → same_value v v ≡ true
value_refl None = refl
value_refl (Some v) = eq-eqb v v refl

base_refl : (b : Base) → same_base b b ≡ true
base_refl base.Absent = refl
base_refl base.Rip = refl
base_refl (base.Of b) = eq-eqb b b refl

index_refl : (i : Index) → same_index i i ≡ true
index_refl index.Absent = refl
index_refl (index.By i s) = and_from _ _ (eq-eqb i i refl) (eq-eqb s s refl)

seen_refl : (o : Seen) → same_operand o o ≡ true
seen_refl absent = refl
seen_refl (register r) = and_from _ _ (class_same r.class) (eq-eqb r.number r.number refl)
seen_refl (shown_immediate v) = value_refl v
seen_refl (memory m d) = and_from _ _ (eq-eqb (segment_number m.segment) (segment_number m.segment) refl) (and_from _ _ (base_refl m.base) (and_from _ _ (index_refl m.index) (value_refl d)))
seen_refl (target v) = value_refl v

pub seen_test : (o q : Seen) → o ≡ q → same_operand o q ≡ true
seen_test o q e = let P : Seen → Type 0 = λ x. same_operand o x ≡ true in subst P e (seen_refl o)

class_is : (c d : Class) → class_number c ≡ class_number d → c ≡ d
class_is class.Byte class.Byte h = refl
class_is class.Byte class.High h = absurd (omega arith)
class_is class.Byte class.Word h = absurd (omega arith)
class_is class.Byte class.Long h = absurd (omega arith)
class_is class.Byte class.Quad h = absurd (omega arith)
class_is class.Byte class.Xmm h = absurd (omega arith)
class_is class.High class.Byte h = absurd (omega arith)
class_is class.High class.High h = refl
class_is class.High class.Word h = absurd (omega arith)
class_is class.High class.Long h = absurd (omega arith)
class_is class.High class.Quad h = absurd (omega arith)
class_is class.High class.Xmm h = absurd (omega arith)
class_is class.Word class.Byte h = absurd (omega arith)
class_is class.Word class.High h = absurd (omega arith)
class_is class.Word class.Word h = refl
class_is class.Word class.Long h = absurd (omega arith)
class_is class.Word class.Quad h = absurd (omega arith)
class_is class.Word class.Xmm h = absurd (omega arith)
class_is class.Long class.Byte h = absurd (omega arith)
class_is class.Long class.High h = absurd (omega arith)
class_is class.Long class.Word h = absurd (omega arith)
class_is class.Long class.Long h = refl
class_is class.Long class.Quad h = absurd (omega arith)
class_is class.Long class.Xmm h = absurd (omega arith)
class_is class.Quad class.Byte h = absurd (omega arith)
class_is class.Quad class.High h = absurd (omega arith)
class_is class.Quad class.Word h = absurd (omega arith)
class_is class.Quad class.Long h = absurd (omega arith)
class_is class.Quad class.Quad h = refl
class_is class.Quad class.Xmm h = absurd (omega arith)
class_is class.Xmm class.Byte h = absurd (omega arith)
class_is class.Xmm class.High h = absurd (omega arith)
class_is class.Xmm class.Word h = absurd (omega arith)
class_is class.Xmm class.Long h = absurd (omega arith)
class_is class.Xmm class.Quad h = absurd (omega arith)
class_is class.Xmm class.Xmm h = refl

value_is : (v w : Option ℕ) → same_value v w ≡ true → v ≡ w
value_is None None h = refl
value_is None (Some w) h = cc
value_is (Some v) None h = cc
value_is (Some v) (Some w) h = ap Some (eqb-true v w h)

segment_is : (s t : Option Segment) → segment_number s ≡ segment_number t → s ≡ t
segment_is None None h = refl
segment_is None (Some segment.Fs) h = absurd (omega arith)
segment_is None (Some segment.Gs) h = absurd (omega arith)
segment_is (Some segment.Fs) None h = absurd (omega arith)
segment_is (Some segment.Fs) (Some segment.Fs) h = refl
segment_is (Some segment.Fs) (Some segment.Gs) h = absurd (omega arith)
segment_is (Some segment.Gs) None h = absurd (omega arith)
segment_is (Some segment.Gs) (Some segment.Fs) h = absurd (omega arith)
segment_is (Some segment.Gs) (Some segment.Gs) h = refl

base_is : (b c : Base) → same_base b c ≡ true → b ≡ c
base_is base.Absent base.Absent h = refl
base_is base.Absent base.Rip h = cc
base_is base.Absent (base.Of c) h = cc
base_is base.Rip base.Absent h = cc
base_is base.Rip base.Rip h = refl
base_is base.Rip (base.Of c) h = cc
base_is (base.Of b) base.Absent h = cc
base_is (base.Of b) base.Rip h = cc
base_is (base.Of b) (base.Of c) h = ap base.Of (eqb-true b c h)

index_is : (i j : Index) → same_index i j ≡ true → i ≡ j
index_is index.Absent index.Absent h = refl
index_is index.Absent (index.By j t) h = cc
index_is (index.By i s) index.Absent h = cc
index_is (index.By i s) (index.By j t) h = let p = and_parts (i == j) (s == t) h in let a = eqb-true i j p.0 in let b = eqb-true s t p.1 in rw (a, b) refl

address_for : Option Segment → Base → Index → Address
address_for s b i = record { segment = s; base = b; index = i }

memory_same : (m n : Address) (d e : Option ℕ) → same_memory m d n e ≡ true → (m ≡ n) × (d ≡ e)
unfolding address_for
memory_same m n d e h =
    let a = and_parts _ _ h in
    let b = and_parts _ _ a.1 in
    let c = and_parts _ _ b.1 in
    let e1 = segment_is m.segment n.segment (eqb-true _ _ a.0) in
    let e2 = base_is m.base n.base b.0 in
    let e3 = index_is m.index n.index c.0 in
    let same : address_for m.segment m.base m.index ≡ address_for n.segment n.base n.index = rw (e1, e2, e3) refl in
    (same, value_is d e c.1)

memory_both : (m n : Address) (d e : Option ℕ) → (m ≡ n) × (d ≡ e) → memory m d ≡ memory n e
memory_both m n d e p = rw (p.0, p.1) refl

reg_for : Class → ℕ → Reg
reg_for c n = record { class = c; number = n }

reg_same : (r s : Reg) → same_reg r s ≡ true → r ≡ s
unfolding reg_for
reg_same r s h =
    let a = and_parts _ _ h in
    let e1 = class_is r.class s.class (eqb-true _ _ a.0) in
    let e2 = eqb-true r.number s.number a.1 in
    let same : reg_for r.class r.number ≡ reg_for s.class s.number = rw (e1, e2) refl in same

pub seen_is : (o q : Seen) → same_operand o q ≡ true → o ≡ q
seen_is absent absent h = refl
seen_is absent (register s) h = cc
seen_is absent (shown_immediate w) h = cc
seen_is absent (memory n f) h = cc
seen_is absent (target w) h = cc
seen_is (register r) absent h = cc
seen_is (register r) (register s) h = ap register (reg_same r s h)
seen_is (register r) (shown_immediate w) h = cc
seen_is (register r) (memory n f) h = cc
seen_is (register r) (target w) h = cc
seen_is (shown_immediate v) absent h = cc
seen_is (shown_immediate v) (register s) h = cc
seen_is (shown_immediate v) (shown_immediate w) h = ap shown_immediate (value_is v w h)
seen_is (shown_immediate v) (memory n f) h = cc
seen_is (shown_immediate v) (target w) h = cc
seen_is (memory m e) absent h = cc
seen_is (memory m e) (register s) h = cc
seen_is (memory m e) (shown_immediate w) h = cc
seen_is (memory m e) (memory n f) h = memory_both m n e f (memory_same m n e f h)
seen_is (memory m e) (target w) h = cc
seen_is (target v) absent h = cc
seen_is (target v) (register s) h = cc
seen_is (target v) (shown_immediate w) h = cc
seen_is (target v) (memory n f) h = cc
seen_is (target v) (target w) h = ap target (value_is v w h)
