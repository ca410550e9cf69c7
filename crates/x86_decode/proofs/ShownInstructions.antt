-- The slots of a row and its fields, with the values that they want, show what the row shows of the fields.
use Rattle.std.proofs.Common.{◌≡◌, ◌∙◌, ℕ, ◌&&◌, ◌||◌, Bool, true, false, not, if◌then◌else◌, Some, refl, ap, length}
use Rattle.std.proofs.lemmas.Bool.{and_parts}
use Rattle.x86_insn.specs.declared.registers.Class.{Class}
use Rattle.x86_insn.specs.declared.insns.Slot.{Slot}
use Rattle.x86_insn.specs.declared.insns.Slot.TheVariants as slot
use Rattle.x86_insn.specs.declared.insns.Insn.{Insn}
use Rattle.x86_table.specs.declared.forms.Pattern.{Pattern}
use Rattle.x86_table.specs.declared.forms.Pattern.TheVariants as pattern
use Rattle.x86_table.specs.declared.forms.Row.{Row}
use Rattle.x86_table.specs.Fields.{Location, Fields, nowhere, direct, from_rip, bare, based}
use Rattle.x86_table.specs.Bytes.{has_rex, bytes_of}
use Rattle.x86_table.specs.Reads.{from_start, place_shown, shown, change_places, meaning}
use Rattle.x86_decode.specs.Instructions.{number_in, offset_in, seen_in, shown_insn}
use Rattle.x86_decode.specs.RowSlots.{slot_by, place_slot, address_by, turns, is_one, is_immediate, is_target, is_place, has, is_single, immediate_by, MovesPlace, Moves}

-- the values of the instruction are those that an operand of this kind wants
abbrev Wanted : Insn → ℕ → Fields → Pattern → Type 0
Wanted insn len p pattern.Absent = Unit {0}
Wanted insn len p (pattern.RegMem c n) = MovesPlace len p.place insn.displacement
Wanted insn len p (pattern.Reg c) = Unit {0}
Wanted insn len p (pattern.Low c) = Unit {0}
Wanted insn len p (pattern.Accumulator c) = Unit {0}
Wanted insn len p pattern.Cl = Unit {0}
Wanted insn len p pattern.One = number_in insn.immediate ≡ Some 1
Wanted insn len p pattern.Immediate = number_in insn.immediate ≡ p.held
Wanted insn len p pattern.Target = offset_in insn.displacement ≡ from_start len p.held

place_seen : (insn : Insn) (rex : Bool) (c : Class) (len : ℕ) (p : Fields) (l : Location) → p.place ≡ l → insn.address ≡ address_by p → MovesPlace len l insn.displacement
    → seen_in insn (place_slot rex c l) ≡ place_shown rex c len p.segment l
place_seen insn rex c len p nowhere e a m = refl
place_seen insn rex c len p (direct n) e a m = refl
place_seen insn rex c len p (from_rip d) e a m = rw (a, e, m) refl
place_seen insn rex c len p (bare i d) e a m = rw (a, e, m) refl
place_seen insn rex c len p (based b i s w d) e a m = rw (a, e, m) refl

slot_seen : (insn : Insn) (rex : Bool) (len : ℕ) (p : Fields) (q : Pattern) → insn.address ≡ address_by p → Wanted insn len p q → seen_in insn (slot_by rex p q) ≡ shown rex len p q
slot_seen insn rex len p pattern.Absent a w = refl
slot_seen insn rex len p (pattern.RegMem c n) a w = place_seen insn rex c len p p.place refl a w
slot_seen insn rex len p (pattern.Reg c) a w = refl
slot_seen insn rex len p (pattern.Low c) a w = refl
slot_seen insn rex len p (pattern.Accumulator c) a w = refl
slot_seen insn rex len p pattern.Cl a w = refl
slot_seen insn rex len p pattern.One a w = rw w refl
slot_seen insn rex len p pattern.Immediate a w = rw w refl
slot_seen insn rex len p pattern.Target a w = rw w refl

-- an operand wants the value that there is
wanted : (insn : Insn) (len : ℕ) (p : Fields) (one immediate target place : Bool) (q : Pattern) → not (one && immediate) ≡ true → not (target && place) ≡ true
    → (is_one q ≡ true → one ≡ true) → (is_immediate q ≡ true → immediate ≡ true) → (is_target q ≡ true → target ≡ true) → (is_place q ≡ true → place ≡ true)
    → number_in insn.immediate ≡ immediate_by one p → Moves target len p insn.displacement → Wanted insn len p q
wanted insn len p one immediate target place pattern.Absent f g a b c d n m = tt
wanted insn len p one immediate true place (pattern.RegMem k w) f g a b c d n m = let e = d refl in cc
wanted insn len p one immediate false place (pattern.RegMem k w) f g a b c d n m = m
wanted insn len p one immediate target place (pattern.Reg k) f g a b c d n m = tt
wanted insn len p one immediate target place (pattern.Low k) f g a b c d n m = tt
wanted insn len p one immediate target place (pattern.Accumulator k) f g a b c d n m = tt
wanted insn len p one immediate target place pattern.Cl f g a b c d n m = tt
wanted insn len p true immediate target place pattern.One f g a b c d n m = n
wanted insn len p false immediate target place pattern.One f g a b c d n m = let e = a refl in cc
wanted insn len p true immediate target place pattern.Immediate f g a b c d n m = let e = b refl in cc
wanted insn len p false immediate target place pattern.Immediate f g a b c d n m = n
wanted insn len p one immediate true place pattern.Target f g a b c d n m = m
wanted insn len p one immediate false place pattern.Target f g a b c d n m = let e = c refl in cc

or_first : (x y z : Bool) → x ≡ true → (x || (y || z)) ≡ true
or_first true y z h = refl
or_first false y z h = cc

or_second : (x y z : Bool) → y ≡ true → (x || (y || z)) ≡ true
or_second true y z h = refl
or_second false y z h = rw h refl

or_third : (x y z : Bool) → z ≡ true → (x || (y || z)) ≡ true
or_third true y z h = refl
or_third false true z h = refl
or_third false false z h = h

-- the accumulator is told by its slot
turns_seen : (r : Row) (insn : Insn) (s t : Slot) → turns r s t ≡ change_places r (seen_in insn s) (seen_in insn t)
turns_seen r insn slot.Absent t = refl
turns_seen r insn slot.Immediate t = refl
turns_seen r insn slot.Memory t = refl
turns_seen r insn slot.Target t = refl
turns_seen r insn (slot.Register a) slot.Absent = refl
turns_seen r insn (slot.Register a) (slot.Register b) = refl
turns_seen r insn (slot.Register a) slot.Immediate = refl
turns_seen r insn (slot.Register a) slot.Memory = refl
turns_seen r insn (slot.Register a) slot.Target = refl

either_seen : (insn : Insn) (c : Bool) (s t : Slot) → seen_in insn (if c then s else t) ≡ (if c then seen_in insn s else seen_in insn t)
either_seen insn true s t = refl
either_seen insn false s t = refl

-- the operands in the order that is shown
pub in_order : (r : Row) (a b s t : Slot) → s ≡ a → t ≡ b → (if turns r s t then t else s) ≡ (if turns r a b then b else a)
in_order r a b s t f g = ap (λ (x : Slot). if turns r x t then t else x) f ∙ ap (λ (x : Slot). if turns r a x then x else a) g

pub in_other_order : (r : Row) (a b s t : Slot) → s ≡ a → t ≡ b → (if turns r s t then s else t) ≡ (if turns r a b then a else b)
in_other_order r a b s t f g = ap (λ (x : Slot). if turns r x t then x else t) f ∙ ap (λ (x : Slot). if turns r a x then a else x) g

-- what an instruction is made of
pub record Made (insn : Insn) (r : Row) (p : Fields) (len : ℕ) : Type 0 where
  pub name : insn.name ≡ r.name
  pub size : insn.size ≡ r.size
  pub «prefix» : insn.«prefix» ≡ p.«prefix»
  pub first : insn.first ≡ (if turns r (slot_by (has_rex r p) p r.first) (slot_by (has_rex r p) p r.second) then slot_by (has_rex r p) p r.second else slot_by (has_rex r p) p r.first)
  pub second : insn.second ≡ (if turns r (slot_by (has_rex r p) p r.first) (slot_by (has_rex r p) p r.second) then slot_by (has_rex r p) p r.first else slot_by (has_rex r p) p r.second)
  pub third : insn.third ≡ slot_by (has_rex r p) p r.third
  pub address : insn.address ≡ address_by p
  pub immediate : number_in insn.immediate ≡ immediate_by (has is_one r) p
  pub displacement : Moves (has is_target r) len p insn.displacement

pub made_shows : (insn : Insn) (r : Row) (p : Fields) (len : ℕ) → is_single r ≡ true → len ≡ length (bytes_of r p) → Made insn r p len → shown_insn insn ≡ meaning r p
unfolding meaning
made_shows insn r p len single counted m =
    let q = and_parts _ _ single in
    let w1 = wanted insn len p (has is_one r) (has is_immediate r) (has is_target r) (has is_place r) r.first q.0 q.1
    (or_first (is_one r.first) (is_one r.second) (is_one r.third)) (or_first (is_immediate r.first) (is_immediate r.second) (is_immediate r.third))
    (or_first (is_target r.first) (is_target r.second) (is_target r.third)) (or_first (is_place r.first) (is_place r.second) (is_place r.third)) m.immediate m.displacement in
    let w2 = wanted insn len p (has is_one r) (has is_immediate r) (has is_target r) (has is_place r) r.second q.0 q.1
    (or_second (is_one r.first) (is_one r.second) (is_one r.third)) (or_second (is_immediate r.first) (is_immediate r.second) (is_immediate r.third))
    (or_second (is_target r.first) (is_target r.second) (is_target r.third)) (or_second (is_place r.first) (is_place r.second) (is_place r.third)) m.immediate m.displacement in
    let w3 = wanted insn len p (has is_one r) (has is_immediate r) (has is_target r) (has is_place r) r.third q.0 q.1
    (or_third (is_one r.first) (is_one r.second) (is_one r.third)) (or_third (is_immediate r.first) (is_immediate r.second) (is_immediate r.third))
    (or_third (is_target r.first) (is_target r.second) (is_target r.third)) (or_third (is_place r.first) (is_place r.second) (is_place r.third)) m.immediate m.displacement in
    let s1 = slot_seen insn (has_rex r p) len p r.first m.address w1 in
    let s2 = slot_seen insn (has_rex r p) len p r.second m.address w2 in
    let s3 = slot_seen insn (has_rex r p) len p r.third m.address w3 in
    let a = slot_by (has_rex r p) p r.first in
    let b = slot_by (has_rex r p) p r.second in
    let t = turns_seen r insn a b in
    rw (m.name, m.size, m.«prefix», m.first, m.second, m.third, either_seen insn (turns r a b) b a, either_seen insn (turns r a b) a b, t, s1, s2, s3, counted) refl
