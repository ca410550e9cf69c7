-- What some fields mean with a displacement, they mean with 0 in its place.
use Rattle.std.proofs.Common.{◌≡◌, ◌≤◌, ◌&&◌, ◌∙◌, Bool, None, Option, Some, ap, arith, false, length, nat_lt, not, refl, sym, true, ℕ}
use Rattle.std.proofs.lemmas.Bool.{both_ways, leb-true, le-leb, and_parts, and_from}
use Rattle.x86_insn.specs.declared.insns.Mnemonic.{Mnemonic}
use Rattle.x86_insn.specs.declared.registers.Class.{Class}
use Rattle.x86_insn.specs.declared.insns.Segment.{Segment}
use Rattle.x86_insn.specs.declared.insns.Address.{Address}
use Rattle.x86_insn.specs.declared.insns.Slot.{Slot}
use Rattle.x86_insn.specs.declared.insns.Insn.{Insn}
use Rattle.x86_insn.specs.declared.amounts.Values.{Values}
use Rattle.x86_table.specs.declared.forms.Row.{Row}
use Rattle.x86_table.specs.declared.forms.Immediate.{Immediate}
use Rattle.x86_table.specs.declared.forms.Rm.{Rm}
use Rattle.x86_table.specs.declared.forms.Shape.{Shape}
use Rattle.x86_table.specs.declared.forms.Pattern.{Pattern}
use Rattle.x86_table.specs.declared.parts.Width.{Width}
use Rattle.x86_insn.specs.declared.insns.Base.TheVariants as base
use Rattle.x86_insn.specs.declared.insns.Index.TheVariants as index
use Rattle.x86_table.specs.declared.forms.Pattern.TheVariants as pattern
use Rattle.x86_table.specs.declared.forms.Rm.TheVariants as rm
use Rattle.x86_table.specs.declared.forms.Shape.TheVariants as shape
use Rattle.x86_insn.specs.declared.insns.Slot.TheVariants as slot
use Rattle.x86_table.specs.declared.parts.Width.TheVariants as width
use Rattle.x86_insn.specs.Views.{Seen, absent, register, immediate as shown_immediate, memory, target, displaced, seen_at, view_of}
use Rattle.x86_table.specs.Bytes.{place_x, place_b, rex_bits, rex_byte, has_rex, bytes_of}
use Rattle.x86_table.specs.Fields.{Location, nowhere, direct, from_rip, bare, based, Fields}
use Rattle.x86_table.specs.Fits.{long_fits, displacement_fits, index_fits, sib_fits, mode_fits, some_place_fits, is_memory, rm_fits, is_nowhere, place_fits, is_byte, is_middle_place, wants_rex, rex_fits, segment_fits, fields_fit, fits}
use Rattle.x86_table.specs.Reads.{from_start, place_shown, shown}
use Rattle.x86_parts.specs.Codes.{plain_target, plain_memory, normal, HasOrderedCode, named}
use Rattle.x86_parts.specs.Filling.{in_memory}
use Rattle.x86_parts.specs.Keys.{count, width_length, place_length, modrm_length, length_by}
use Rattle.x86_encode.proofs.FilledFields.{memory_prefix}
use Rattle.x86_encode.proofs.Fitted.{fit_of, fit_size}
use Rattle.x86_encode.proofs.Length.{length_is}
use Rattle.x86_encode.proofs.Roles.{no_rip, start_none, target_none}

-- the narrowest displacement that may stand there
abbrev narrow : Width → Width
narrow width.Absent = width.Absent
narrow width.Byte = width.Byte
narrow width.Long = width.Byte

-- a place with the displacement 0
abbrev pub zero_place : Location → Location
zero_place nowhere = nowhere
zero_place (direct n) = direct n
zero_place (from_rip d) = from_rip d
zero_place (bare i d) = bare i (Some 0)
zero_place (based b i s w d) = based b i s (narrow w) (Some 0)

-- fields with the displacement 0
abbrev pub zeroed : Fields → Fields
zeroed p = record { «prefix» = p.«prefix»; segment = p.segment; bare_rex = p.bare_rex; reg = p.reg; low = p.low; place = zero_place p.place; held = p.held }

zero_x : (p : Location) → place_x (zero_place p) ≡ place_x p
zero_x nowhere = refl
zero_x (direct n) = refl
zero_x (from_rip d) = refl
zero_x (bare i d) = refl
zero_x (based b i s w d) = refl

zero_b : (p : Location) → place_b (zero_place p) ≡ place_b p
zero_b nowhere = refl
zero_b (direct n) = refl
zero_b (from_rip d) = refl
zero_b (bare i d) = refl
zero_b (based b i s w d) = refl

zero_memory : (p : Location) → is_memory (zero_place p) ≡ is_memory p
zero_memory nowhere = refl
zero_memory (direct n) = refl
zero_memory (from_rip d) = refl
zero_memory (bare i d) = refl
zero_memory (based b i s w d) = refl

zero_middle : (p : Location) → is_middle_place (zero_place p) ≡ is_middle_place p
zero_middle nowhere = refl
zero_middle (direct n) = refl
zero_middle (from_rip d) = refl
zero_middle (bare i d) = refl
zero_middle (based b i s w d) = refl

zero_bits : (r : Row) (p : Fields) → rex_bits r (zeroed p) ≡ rex_bits r p
unfolding rex_bits
zero_bits r p = rw (zero_x p.place, zero_b p.place) refl

zero_rex : (r : Row) (p : Fields) → has_rex r (zeroed p) ≡ has_rex r p
zero_rex r p = rw (zero_bits r p) refl

narrow_length : (w : Width) → width_length (narrow w) ≤ width_length w
narrow_length width.Absent = omega arith
narrow_length width.Byte = omega arith
narrow_length width.Long = omega arith

zero_length : (p : Location) → place_length (zero_place p) ≤ place_length p
zero_length nowhere = omega arith
zero_length (direct n) = omega arith
zero_length (from_rip d) = omega arith
zero_length (bare i d) = omega arith
zero_length (based b i s w d) = let k = narrow_length w in omega arith

zero_modrm : (m : Shape) (p : Location) → modrm_length m (zero_place p) ≤ modrm_length m p
zero_modrm shape.Plain p = omega arith
zero_modrm shape.Low p = omega arith
zero_modrm shape.LowNotFirst p = omega arith
zero_modrm (shape.Fixed b) p = omega arith
zero_modrm (shape.Digit d m) p = zero_length p
zero_modrm (shape.Slash m) p = zero_length p

zero_by : (r : Row) (p : Fields) → length_by r (zeroed p) ≤ length_by r p
unfolding length_by
zero_by r p =
    let a = zero_modrm r.shape p.place in
    let b : count (rex_byte (rex_bits r (zeroed p)) p.bare_rex) ≡ count (rex_byte (rex_bits r p) p.bare_rex) = rw (zero_bits r p) refl in
    omega arith

narrow_mode : (w : Width) (b : ℕ) → mode_fits w b ≡ true → mode_fits (narrow w) b ≡ true
narrow_mode width.Absent b h = h
narrow_mode width.Byte b h = refl
narrow_mode width.Long b h = refl

narrow_fits : (w : Width) → displacement_fits (narrow w) (Some 0) ≡ true
narrow_fits width.Absent = refl
narrow_fits width.Byte = refl
narrow_fits width.Long = refl

zero_some : (p : Location) → some_place_fits p ≡ true → some_place_fits (zero_place p) ≡ true
zero_some nowhere h = cc
zero_some (direct n) h = h
zero_some (from_rip d) h = h
zero_some (bare i d) h = let q = and_parts (index_fits i) (long_fits d) h in and_from _ _ q.0 refl
zero_some (based b i s w d) h =
    let p = and_parts (nat_lt b 16) (index_fits i && (sib_fits s i b && (mode_fits w b && displacement_fits w d))) h in
    let q = and_parts (index_fits i) (sib_fits s i b && (mode_fits w b && displacement_fits w d)) p.1 in
    let r = and_parts (sib_fits s i b) (mode_fits w b && displacement_fits w d) q.1 in
    let t = and_parts (mode_fits w b) (displacement_fits w d) r.1 in
    and_from _ _ p.0 (and_from _ _ q.0 (and_from _ _ r.0 (and_from _ _ (narrow_mode w b t.0) (narrow_fits w))))

zero_rm : (m : Rm) (p : Location) → rm_fits m p ≡ true → rm_fits m (zero_place p) ≡ true
zero_rm rm.Any p h = refl
zero_rm rm.Memory p h = zero_memory p ∙ h
zero_rm rm.Register p h = ap not (zero_memory p) ∙ h

zero_nowhere : (p : Location) → is_nowhere p ≡ true → is_nowhere (zero_place p) ≡ true
zero_nowhere nowhere h = refl
zero_nowhere (direct n) h = cc
zero_nowhere (from_rip d) h = cc
zero_nowhere (bare i d) h = cc
zero_nowhere (based b i s w d) h = cc

zero_fits_place : (m : Shape) (p : Location) → place_fits m p ≡ true → place_fits m (zero_place p) ≡ true
zero_fits_place shape.Plain p h = zero_nowhere p h
zero_fits_place shape.Low p h = zero_nowhere p h
zero_fits_place shape.LowNotFirst p h = zero_nowhere p h
zero_fits_place (shape.Fixed b) p h = zero_nowhere p h
zero_fits_place (shape.Digit d m) p h = let q = and_parts (some_place_fits p) (rm_fits m p) h in and_from _ _ (zero_some p q.0) (zero_rm m p q.1)
zero_fits_place (shape.Slash m) p h = let q = and_parts (some_place_fits p) (rm_fits m p) h in and_from _ _ (zero_some p q.0) (zero_rm m p q.1)

zero_segment : (s : Option Segment) (p : Location) → segment_fits s p ≡ true → segment_fits s (zero_place p) ≡ true
zero_segment None p h = refl
zero_segment (Some s) p h = zero_memory p ∙ h

zero_wants : (p : Fields) (q : Pattern) → wants_rex (zeroed p) q ≡ wants_rex p q
zero_wants p pattern.Absent = refl
zero_wants p (pattern.RegMem c n) = ap (λ (b : Bool). is_byte c && b) (zero_middle p.place)
zero_wants p (pattern.Reg c) = refl
zero_wants p (pattern.Low c) = refl
zero_wants p (pattern.Accumulator c) = refl
zero_wants p pattern.Cl = refl
zero_wants p pattern.One = refl
zero_wants p pattern.Immediate = refl
zero_wants p pattern.Target = refl

zero_fits_rex : (r : Row) (p : Fields) → rex_fits r p ≡ true → rex_fits r (zeroed p) ≡ true
zero_fits_rex r p h = rw (zero_bits r p, zero_wants p r.first, zero_wants p r.second, zero_wants p r.third) h

pub zero_fits : (r : Row) (p : Fields) → fits r p ≡ true → fits r (zeroed p) ≡ true
unfolding fits fields_fit
zero_fits r p h =
    let f = fit_of r p h in
    let z = leb-true (length (bytes_of r p)) 15 (fit_size r p h) in
    let a = length_is r p in
    let b = length_is r (zeroed p) in
    let c = zero_by r p in
    and_from _ _ (and_from _ _ (memory_prefix r.lead.repeat r.words p.«prefix» p.segment (zero_place p.place) p.place (zero_memory p.place) ∙ f.words) (and_from _ _ (zero_segment p.segment p.place f.segment)
    (and_from _ _ f.reg (and_from _ _ f.low (and_from _ _ (zero_fits_place r.shape p.place f.place) (and_from _ _ f.held (zero_fits_rex r p f.rex)))))))
    (le-leb (length (bytes_of r (zeroed p))) 15 (omega arith))

-- WHAT IS SHOWN

-- the operand is in memory
not_memory_place : (rex : Bool) (c : Class) (n k : ℕ) (s : Option Segment) (p : Location) (o : Seen) → in_memory o ≡ false → o ≡ place_shown rex c n s p → o ≡ place_shown rex c k s (zero_place p)
not_memory_place rex c n k s nowhere o m h = h
not_memory_place rex c n k s (direct x) o m h = h
not_memory_place rex c n k s (from_rip d) o m h = absurd (both_ways (in_memory o) m (ap in_memory h))
not_memory_place rex c n k s (bare i d) o m h = absurd (both_ways (in_memory o) m (ap in_memory h))
not_memory_place rex c n k s (based b i t w d) o m h = absurd (both_ways (in_memory o) m (ap in_memory h))

plain_same : (o : Seen) → in_memory o ≡ false → plain_memory o ≡ o
plain_same absent h = refl
plain_same (register r) h = refl
plain_same (shown_immediate v) h = refl
plain_same (memory a d) h = cc
plain_same (target v) h = refl

target_again : (n k : ℕ) (d : Option ℕ) (o : Seen) → plain_target o ≡ target (from_start n d) → plain_target o ≡ target (from_start k d)
target_again n k d o h =
    let e : d ≡ None = start_none n d (target_none o (from_start n d) h) in
    h ∙ (rw e refl)

slot_other : (rex : Bool) (n k : ℕ) (i : Immediate) (p : Fields) (q : Pattern) (o : Seen) → in_memory o ≡ false → normal i q o ≡ shown rex n p q → normal i q o ≡ shown rex k (zeroed p) q
slot_other rex n k i p pattern.Absent o m h = h
slot_other rex n k i p (pattern.RegMem c x) o m h =
    let e = plain_same o m in
    e ∙ not_memory_place rex c n k p.segment p.place o m (sym e ∙ h)
slot_other rex n k i p (pattern.Reg c) o m h = h
slot_other rex n k i p (pattern.Low c) o m h = h
slot_other rex n k i p (pattern.Accumulator c) o m h = h
slot_other rex n k i p pattern.Cl o m h = h
slot_other rex n k i p pattern.One o m h = h
slot_other rex n k i p pattern.Immediate o m h = h
slot_other rex n k i p pattern.Target o m h = target_again n k p.held o h

-- the address alone
abbrev address_of : Seen → Address
address_of absent = record { segment = None; base = base.Absent; index = index.Absent }
address_of (register r) = record { segment = None; base = base.Absent; index = index.Absent }
address_of (shown_immediate v) = record { segment = None; base = base.Absent; index = index.Absent }
address_of (memory a d) = a
address_of (target v) = record { segment = None; base = base.Absent; index = index.Absent }

-- an address with the displacement 0
abbrev at_zero : Address → Seen
at_zero a = memory a (displaced a.base (displaced a.base (Some 0)))

memory_zero : (rex : Bool) (c : Class) (n k : ℕ) (s : Option Segment) (p : Location) (a : Address) (d : Option ℕ) → memory a (displaced a.base d) ≡ place_shown rex c n s p → at_zero a ≡ place_shown rex c k s (zero_place p)
memory_zero rex c n k s nowhere a d h = cc
memory_zero rex c n k s (direct x) a d h = cc
memory_zero rex c n k s (from_rip e) a d h =
    let same : a ≡ record { segment = s; base = base.Rip; index = index.Absent } = ap address_of h in
    let none : e ≡ None = start_none n e (no_rip (memory a d) s index.Absent (from_start n e) h) in
    ap at_zero same ∙ (rw none refl)
memory_zero rex c n k s (bare i e) a d h = ap at_zero (ap address_of h)
memory_zero rex c n k s (based b i t w e) a d h = ap at_zero (ap address_of h)

slot_memory : (rex : Bool) (n k : ℕ) (i : Immediate) (p : Fields) (q : Pattern) (a : Address) (d : Option ℕ) → normal i q (memory a d) ≡ shown rex n p q → normal i q (memory a (displaced a.base (Some 0))) ≡ shown rex k (zeroed p) q
slot_memory rex n k i p pattern.Absent a d h = cc
slot_memory rex n k i p (pattern.RegMem c x) a d h = memory_zero rex c n k p.segment p.place a d h
slot_memory rex n k i p (pattern.Reg c) a d h = cc
slot_memory rex n k i p (pattern.Low c) a d h = cc
slot_memory rex n k i p (pattern.Accumulator c) a d h = cc
slot_memory rex n k i p pattern.Cl a d h = cc
slot_memory rex n k i p pattern.One a d h = cc
slot_memory rex n k i p pattern.Immediate a d h = cc
slot_memory rex n k i p pattern.Target a d h = cc

-- these values, with another displacement
abbrev pub values_by : Option ℕ → Option ℕ → Values
values_by held moved = record { immediate = held; displacement = moved }

slot_zero : (rex : Bool) (n k : ℕ) (i : Immediate) (p : Fields) (q : Pattern) (insn : Insn) (held moved : Option ℕ) (s : Slot) → normal i q (seen_at insn (values_by held moved) s) ≡ shown rex n p q
    → normal i q (seen_at insn (values_by held (Some 0)) s) ≡ shown rex k (zeroed p) q
slot_zero rex n k i p q insn held moved slot.Absent h = slot_other rex n k i p q absent refl h
slot_zero rex n k i p q insn held moved (slot.Register r) h = slot_other rex n k i p q (register r) refl h
slot_zero rex n k i p q insn held moved slot.Immediate h = slot_other rex n k i p q (shown_immediate held) refl h
slot_zero rex n k i p q insn held moved slot.Memory h = slot_memory rex n k i p q insn.address (displaced insn.address.base moved) h
slot_zero rex n k i p q insn held moved slot.Target h = slot_other rex n k i p q (target None) refl h

slot_by : (r : Row) (p : Fields) (q : Pattern) (insn : Insn) (held moved : Option ℕ) (s : Slot) → normal r.immediate q (seen_at insn (values_by held moved) s) ≡ shown (has_rex r p) (length (bytes_of r p)) p q
    → normal r.immediate q (seen_at insn (values_by held (Some 0)) s) ≡ shown (has_rex r (zeroed p)) (length (bytes_of r (zeroed p))) (zeroed p) q
slot_by r p q insn held moved s h =
    slot_zero (has_rex r p) (length (bytes_of r p)) (length (bytes_of r (zeroed p))) r.immediate p q insn held moved s h
    ∙ ap (λ (x : Bool). shown x (length (bytes_of r (zeroed p))) (zeroed p) q) (sym (zero_rex r p))

-- with the displacement 0 bytes mean the instruction, if some do
pub with_zero : (name : Mnemonic) (insn : Insn) (held moved : Option ℕ) → HasOrderedCode (named name (view_of insn (values_by held moved))) → HasOrderedCode (named name (view_of insn (values_by held (Some 0))))
with_zero name insn held moved (bytes, i, (r, p, c)) = (
  bytes_of r (zeroed p),
  i,
  (
    r,
    zeroed p,
    record {
      found = c.found;
      fit = zero_fits r p c.fit;
      means = record {
        name = c.means.name;
        size = c.means.size;
        words = c.means.words;
        first = slot_by r p r.first insn held moved insn.first c.means.first;
        second = slot_by r p r.second insn held moved insn.second c.means.second;
        third = slot_by r p r.third insn held moved insn.third c.means.third;
      };
      bytes_are = refl;
    },
  ),
)
