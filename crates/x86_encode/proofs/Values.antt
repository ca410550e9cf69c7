-- What some fields mean with an immediate, they mean with another one that their row holds.
use Rattle.std.proofs.Common.{◌≡◌, ◌∷◌, ◌∙◌, Bool, List, None, Option, Some, [], ap, arith, false, length, not, refl, slice_get, subst, suc, sym, true, zero, ℕ}
use Rattle.std.proofs.lemmas.Bool.{leb-true, le-leb, and_parts, and_from}
use Rattle.x86_insn.specs.declared.insns.Mnemonic.{Mnemonic}
use Rattle.x86_insn.specs.declared.registers.Class.{Class}
use Rattle.x86_insn.specs.declared.insns.Segment.{Segment}
use Rattle.x86_insn.specs.declared.insns.Slot.{Slot}
use Rattle.x86_insn.specs.declared.insns.Insn.{Insn}
use Rattle.x86_table.specs.declared.forms.Row.{Row}
use Rattle.x86_table.specs.declared.forms.Immediate.{Immediate}
use Rattle.x86_table.specs.declared.forms.Pattern.{Pattern}
use Rattle.x86_table.specs.declared.forms.Immediate.TheVariants as immediate
use Rattle.x86_table.specs.declared.forms.Pattern.TheVariants as pattern
use Rattle.x86_insn.specs.declared.insns.Slot.TheVariants as slot
use Rattle.x86_insn.specs.Views.{Seen, absent, register, immediate as shown_immediate, memory, target, displaced, seen_at, view_of}
use Rattle.x86_table.specs.Bytes.{rex_bits, has_rex, bytes_of}
use Rattle.x86_table.specs.Fields.{Location, nowhere, direct, from_rip, bare, based, Fields}
use Rattle.x86_table.specs.Fits.{immediate_fits, wants_rex, rex_fits, fields_fit, fits}
use Rattle.x86_table.specs.Reads.{from_start, place_shown, shown}
use Rattle.x86_table.specs.Rows.{the_rows}
use Rattle.x86_parts.specs.Building.{held_of, takes}
use Rattle.x86_parts.specs.Codes.{last_of, reduced, plain_immediate, normal, HasOrderedCode, named}
use Rattle.x86_encode.specs.Faults.{is_value, kind_fits, kinds_fit, all_kinds}
use Rattle.x86_parts.specs.Keys.{length_by}
use Rattle.x86_encode.proofs.Best.{some_is}
use Rattle.x86_encode.proofs.Fitted.{fit_of, fit_size}
use Rattle.x86_encode.proofs.Length.{length_is}
use Rattle.x86_encode.proofs.Nearest.{values_by}

-- the immediate where it is a value
abbrev pub replaced : ℕ → Immediate → Option ℕ → Option ℕ
replaced v immediate.Absent d = d
replaced v immediate.Byte d = Some v
replaced v immediate.Count d = Some v
replaced v immediate.Sext16 d = Some v
replaced v immediate.Sext32 d = Some v
replaced v immediate.Sext64 d = Some v
replaced v immediate.Word d = Some v
replaced v immediate.Long d = Some v
replaced v immediate.LongSext d = Some v
replaced v immediate.Quad d = Some v
replaced v immediate.Rel8 d = d
replaced v immediate.Short d = d
replaced v immediate.Rel32 d = d

-- fields with another immediate
abbrev pub with_held : ℕ → Row → Fields → Fields
with_held v r p = record { «prefix» = p.«prefix»; segment = p.segment; bare_rex = p.bare_rex; reg = p.reg; low = p.low; place = p.place; held = replaced v r.immediate p.held }

-- the row's immediate holds the value
pub record Takes (v : ℕ) (i : Immediate) : Type 0 where
  pub same : is_value i ≡ true → reduced (last_of i) v ≡ shown_immediate (Some v)
  pub fits : is_value i ≡ true → immediate_fits i (Some v) ≡ true

value_fits : (v : ℕ) (i : Immediate) (d : Option ℕ) → Takes v i → immediate_fits i d ≡ true → immediate_fits i (replaced v i d) ≡ true
value_fits v immediate.Absent d t h = h
value_fits v immediate.Byte d t h = t.fits refl
value_fits v immediate.Count d t h = t.fits refl
value_fits v immediate.Sext16 d t h = t.fits refl
value_fits v immediate.Sext32 d t h = t.fits refl
value_fits v immediate.Sext64 d t h = t.fits refl
value_fits v immediate.Word d t h = t.fits refl
value_fits v immediate.Long d t h = t.fits refl
value_fits v immediate.LongSext d t h = t.fits refl
value_fits v immediate.Quad d t h = t.fits refl
value_fits v immediate.Rel8 d t h = h
value_fits v immediate.Short d t h = h
value_fits v immediate.Rel32 d t h = h

replaced_value : (v : ℕ) (i : Immediate) (d : Option ℕ) → is_value i ≡ true → Some v ≡ replaced v i d
replaced_value v immediate.Absent d h = cc
replaced_value v immediate.Byte d h = refl
replaced_value v immediate.Count d h = refl
replaced_value v immediate.Sext16 d h = refl
replaced_value v immediate.Sext32 d h = refl
replaced_value v immediate.Sext64 d h = refl
replaced_value v immediate.Word d h = refl
replaced_value v immediate.Long d h = refl
replaced_value v immediate.LongSext d h = refl
replaced_value v immediate.Quad d h = refl
replaced_value v immediate.Rel8 d h = cc
replaced_value v immediate.Short d h = cc
replaced_value v immediate.Rel32 d h = cc

replaced_none : (v : ℕ) (i : Immediate) (d : Option ℕ) → not (is_value i) ≡ true → d ≡ replaced v i d
replaced_none v immediate.Absent d h = refl
replaced_none v immediate.Byte d h = cc
replaced_none v immediate.Count d h = cc
replaced_none v immediate.Sext16 d h = cc
replaced_none v immediate.Sext32 d h = cc
replaced_none v immediate.Sext64 d h = cc
replaced_none v immediate.Word d h = cc
replaced_none v immediate.Long d h = cc
replaced_none v immediate.LongSext d h = cc
replaced_none v immediate.Quad d h = cc
replaced_none v immediate.Rel8 d h = refl
replaced_none v immediate.Short d h = refl
replaced_none v immediate.Rel32 d h = refl

held_bits : (v : ℕ) (r : Row) (p : Fields) → rex_bits r (with_held v r p) ≡ rex_bits r p
unfolding rex_bits
held_bits v r p = refl

held_by : (v : ℕ) (r : Row) (p : Fields) → length_by r (with_held v r p) ≡ length_by r p
unfolding length_by
held_by v r p = rw (held_bits v r p) refl

held_length : (v : ℕ) (r : Row) (p : Fields) → length (bytes_of r (with_held v r p)) ≡ length (bytes_of r p)
held_length v r p = length_is r (with_held v r p) ∙ held_by v r p ∙ sym (length_is r p)

held_wants : (v : ℕ) (r : Row) (p : Fields) (q : Pattern) → wants_rex (with_held v r p) q ≡ wants_rex p q
held_wants v r p pattern.Absent = refl
held_wants v r p (pattern.RegMem c n) = refl
held_wants v r p (pattern.Reg c) = refl
held_wants v r p (pattern.Low c) = refl
held_wants v r p (pattern.Accumulator c) = refl
held_wants v r p pattern.Cl = refl
held_wants v r p pattern.One = refl
held_wants v r p pattern.Immediate = refl
held_wants v r p pattern.Target = refl

held_rex : (v : ℕ) (r : Row) (p : Fields) → rex_fits r p ≡ true → rex_fits r (with_held v r p) ≡ true
held_rex v r p h = rw (held_bits v r p, held_wants v r p r.first, held_wants v r p r.second, held_wants v r p r.third) h

pub held_fits : (v : ℕ) (r : Row) (p : Fields) → Takes v r.immediate → fits r p ≡ true → fits r (with_held v r p) ≡ true
unfolding fits fields_fit
held_fits v r p t h =
    let f = fit_of r p h in
    let z = leb-true (length (bytes_of r p)) 15 (fit_size r p h) in
    let same = held_length v r p in
    and_from _ _ (and_from _ _ f.words (and_from _ _ f.segment (and_from _ _ f.reg (and_from _ _ f.low (and_from _ _ f.place (and_from _ _ (value_fits v r.immediate p.held t f.held) (held_rex v r p f.rex)))))))
    (le-leb (length (bytes_of r (with_held v r p))) 15 (omega arith))

-- WHAT IS SHOWN

number_place : (rex : Bool) (c : Class) (n : ℕ) (s : Option Segment) (p : Location) (v : Option ℕ) → shown_immediate v ≡ place_shown rex c n s p → ⊥
number_place rex c n s nowhere v h = cc
number_place rex c n s (direct x) v h = cc
number_place rex c n s (from_rip d) v h = cc
number_place rex c n s (bare i d) v h = cc
number_place rex c n s (based b i t w d) v h = cc

-- an operand that is no immediate
is_number : Seen → Bool
is_number absent = false
is_number (register r) = false
is_number (shown_immediate v) = true
is_number (memory a d) = false
is_number (target v) = false

other_immediate : (i : Immediate) (o : Seen) (v : Option ℕ) → is_number o ≡ false → plain_immediate i o ≡ shown_immediate v → ⊥
unfolding is_number
other_immediate i absent v m h = cc
other_immediate i (register r) v m h = cc
other_immediate i (shown_immediate x) v m h = cc
other_immediate i (memory a d) v m h = cc
other_immediate i (target x) v m h = cc

slot_same : (rex : Bool) (n v : ℕ) (r : Row) (p : Fields) (q : Pattern) (o : Seen) → is_number o ≡ false → kind_fits r.immediate q ≡ true → normal r.immediate q o ≡ shown rex n p q
    → normal r.immediate q o ≡ shown rex n (with_held v r p) q
slot_same rex n v r p pattern.Absent o m k h = h
slot_same rex n v r p (pattern.RegMem c x) o m k h = h
slot_same rex n v r p (pattern.Reg c) o m k h = h
slot_same rex n v r p (pattern.Low c) o m k h = h
slot_same rex n v r p (pattern.Accumulator c) o m k h = h
slot_same rex n v r p pattern.Cl o m k h = h
slot_same rex n v r p pattern.One o m k h = h
slot_same rex n v r p pattern.Immediate o m k h = absurd (other_immediate r.immediate o p.held m h)
slot_same rex n v r p pattern.Target o m k h = h ∙ ap (λ (d : Option ℕ). target (from_start n d)) (replaced_none v r.immediate p.held k)

slot_number : (rex : Bool) (n v : ℕ) (r : Row) (p : Fields) (q : Pattern) (held : Option ℕ) → Takes v r.immediate → (held ≡ Some 1 → v ≡ 1) → kind_fits r.immediate q ≡ true
    → normal r.immediate q (shown_immediate held) ≡ shown rex n p q → normal r.immediate q (shown_immediate (Some v)) ≡ shown rex n (with_held v r p) q
slot_number rex n v r p pattern.Absent held t one k h = cc
slot_number rex n v r p (pattern.RegMem c x) held t one k h = absurd (number_place rex c n p.segment p.place held h)
slot_number rex n v r p (pattern.Reg c) held t one k h = cc
slot_number rex n v r p (pattern.Low c) held t one k h = cc
slot_number rex n v r p (pattern.Accumulator c) held t one k h = cc
slot_number rex n v r p pattern.Cl held t one k h = cc
slot_number rex n v r p pattern.One held t one k h = ap (λ (x : ℕ). shown_immediate (Some x)) (one (ap held_of h))
slot_number rex n v r p pattern.Immediate held t one k h = t.same k ∙ ap (λ (d : Option ℕ). shown_immediate d) (replaced_value v r.immediate p.held k)
slot_number rex n v r p pattern.Target held t one k h = cc

slot_value : (rex : Bool) (n v : ℕ) (r : Row) (p : Fields) (q : Pattern) (insn : Insn) (held moved : Option ℕ) (s : Slot) → Takes v r.immediate → (held ≡ Some 1 → v ≡ 1) → kind_fits r.immediate q ≡ true
    → normal r.immediate q (seen_at insn (values_by held moved) s) ≡ shown rex n p q → normal r.immediate q (seen_at insn (values_by (Some v) moved) s) ≡ shown rex n (with_held v r p) q
unfolding is_number
slot_value rex n v r p q insn held moved slot.Absent t one k h = slot_same rex n v r p q absent refl k h
slot_value rex n v r p q insn held moved (slot.Register g) t one k h = slot_same rex n v r p q (register g) refl k h
slot_value rex n v r p q insn held moved slot.Immediate t one k h = slot_number rex n v r p q held t one k h
slot_value rex n v r p q insn held moved slot.Memory t one k h = slot_same rex n v r p q (memory insn.address (displaced insn.address.base moved)) refl k h
slot_value rex n v r p q insn held moved slot.Target t one k h = slot_same rex n v r p q (target None) refl k h

slot_held : (v : ℕ) (r : Row) (p : Fields) (q : Pattern) (insn : Insn) (held moved : Option ℕ) (s : Slot) → Takes v r.immediate → (held ≡ Some 1 → v ≡ 1) → kind_fits r.immediate q ≡ true
    → normal r.immediate q (seen_at insn (values_by held moved) s) ≡ shown (has_rex r p) (length (bytes_of r p)) p q
    → normal r.immediate q (seen_at insn (values_by (Some v) moved) s) ≡ shown (has_rex r (with_held v r p)) (length (bytes_of r (with_held v r p))) (with_held v r p) q
slot_held v r p q insn held moved s t one k h =
    let e : has_rex r (with_held v r p) ≡ has_rex r p = rw (held_bits v r p) refl in
    slot_value (has_rex r p) (length (bytes_of r p)) v r p q insn held moved s t one k h
    ∙ sym (ap (λ (x : Bool). shown x (length (bytes_of r p)) (with_held v r p) q) e)
    ∙ sym (ap (λ (x : ℕ). shown (has_rex r (with_held v r p)) x (with_held v r p) q) (held_length v r p))

-- THE TABLE

kinds : all_kinds the_rows ≡ true
unfolding the_rows
kinds = refl

kinds_in : (rows : List Row) (i : ℕ) (r : Row) → all_kinds rows ≡ true → slice_get rows i ≡ Some r → kinds_fit r ≡ true
kinds_in [] i r a h = cc
kinds_in (x ∷ rows) zero r a h = let p = and_parts (kinds_fit x) (all_kinds rows) a in subst (λ (y : Row). kinds_fit y ≡ true) (some_is h) p.0
kinds_in (x ∷ rows) (suc i) r a h = let p = and_parts (kinds_fit x) (all_kinds rows) a in kinds_in rows i r p.1 h

pub kinds_at : (i : ℕ) (r : Row) → slice_get the_rows i ≡ Some r → kinds_fit r ≡ true
kinds_at i r h = kinds_in the_rows i r kinds h

-- with an immediate that the row holds bytes mean the instruction, if some do
pub with_value : (v : ℕ) (name : Mnemonic) (insn : Insn) (held moved : Option ℕ) → ((r : Row) → kinds_fit r ≡ true → name.0 ≡ r.name.0 → Takes v r.immediate) → (held ≡ Some 1 → v ≡ 1)
    → HasOrderedCode (named name (view_of insn (values_by held moved))) → HasOrderedCode (named name (view_of insn (values_by (Some v) moved)))
with_value v name insn held moved takes one (bytes, i, (r, p, c)) =
    let kind = kinds_at i r c.found in
    let t = takes r kind c.means.name in
    let a = and_parts _ _ kind in
    let b = and_parts _ _ a.0 in
    let d = and_parts _ _ b.1 in (
      bytes_of r (with_held v r p),
      i,
      (
        r,
        with_held v r p,
        record {
          found = c.found;
          fit = held_fits v r p t c.fit;
          means = record {
            name = c.means.name;
            size = c.means.size;
            words = c.means.words;
            first = slot_held v r p r.first insn held moved insn.first t one b.0 c.means.first;
            second = slot_held v r p r.second insn held moved insn.second t one d.0 c.means.second;
            third = slot_held v r p r.third insn held moved insn.third t one d.1 c.means.third;
          };
          bytes_are = refl;
        },
      ),
    )
