-- The operands of a row's roles, against any fields of the row that show the instruction.
use Rattle.std.proofs.Common.{◌≡◌, ◌||◌, ◌∙◌, Bool, None, Option, Some, ap, false, inl, inr, length, not, refl, sym, true, ℕ}
use Rattle.std.proofs.lemmas.Bool.{eqb-true, and_parts, cases_Bool}
use Rattle.x86_insn.specs.declared.registers.Class.{Class}
use Rattle.x86_insn.specs.declared.insns.Segment.{Segment}
use Rattle.x86_insn.specs.declared.insns.Index.{Index}
use Rattle.x86_insn.specs.declared.insns.Base.{Base}
use Rattle.x86_insn.specs.declared.insns.Address.{Address}
use Rattle.x86_table.specs.declared.forms.Row.{Row}
use Rattle.x86_table.specs.declared.forms.Immediate.{Immediate}
use Rattle.x86_table.specs.declared.forms.Shape.{Shape}
use Rattle.x86_table.specs.declared.forms.Pattern.{Pattern}
use Rattle.x86_insn.specs.declared.insns.Base.TheVariants as base
use Rattle.x86_table.specs.declared.forms.Immediate.TheVariants as immediate
use Rattle.x86_insn.specs.declared.insns.Index.TheVariants as index
use Rattle.x86_table.specs.declared.forms.Pattern.TheVariants as pattern
use Rattle.x86_table.specs.declared.forms.Shape.TheVariants as shape
use Rattle.x86_insn.specs.Views.{Seen, absent, register, immediate as shown_immediate, memory, target, View, displaced}
use Rattle.x86_table.specs.Bytes.{has_rex, bytes_of}
use Rattle.x86_table.specs.Fields.{Location, nowhere, direct, from_rip, bare, based, Fields}
use Rattle.x86_table.specs.Fits.{is_memory, place_fits, reg_fits, low_fits, immediate_fits, segment_fits}
use Rattle.x86_table.specs.Reads.{register_shown, from_start, memory_shown, place_shown, shown}
use Rattle.x86_parts.specs.Building.{is_rm, is_reg, is_low, is_held, chosen, pick, number_of, segment_of, held_of, reg_of, rm_operand, low_of, held_in, place_of, has, has_low, has_reg, has_rm, has_held, is_shaped}
use Rattle.x86_parts.specs.Codes.{plain_target, plain_memory, normal, Means}
use Rattle.x86_encode.proofs.Fitted.{Fit, no_location}
use Rattle.x86_encode.proofs.Least.{least}

-- WHICH OPERAND A ROLE TAKES

-- the operand that a role of the row takes, with its pattern
pub record Picked (f : Pattern → Bool) (r : Row) (insn : View) (x : Pattern → Seen) : Type 0 where
  pub at : Pattern
  pub held : Seen
  pub passes : f at ≡ true
  pub shows : normal r.immediate at held ≡ x at
  pub picks : pick f r insn ≡ x at

chosen_true : (a b c : Bool) (u v w : Seen) → a ≡ true → chosen a b c u v w ≡ u
chosen_true a b c u v w h = rw h refl

chosen_second : (a b c : Bool) (u v w : Seen) → a ≡ false → b ≡ true → chosen a b c u v w ≡ v
chosen_second a b c u v w h k = rw (h, k) refl

chosen_third : (a b c : Bool) (u v w : Seen) → a ≡ false → b ≡ false → c ≡ true → chosen a b c u v w ≡ w
chosen_third a b c u v w h k l = rw (h, k, l) refl

pub or_rest : (a b : Bool) → a ≡ false → (a || b) ≡ true → b ≡ true
or_rest a b h k = rw h at k

picked : (f : Pattern → Bool) (r : Row) (insn : View) (x : Pattern → Seen) → normal r.immediate r.first insn.first ≡ x r.first → normal r.immediate r.second insn.second ≡ x r.second → normal r.immediate r.third insn.third ≡ x r.third
    → has f r ≡ true → Picked f r insn x
unfolding pick
picked f r insn x p q s h =
    elim (cases_Bool (f r.first)) [
      | inl a ↦ record { at = r.first; held = insn.first; passes = a; shows = p; picks = chosen_true (f r.first) (f r.second) (f r.third) _ _ _ a ∙ p }
      | inr a ↦ elim (cases_Bool (f r.second)) [
        | inl b ↦ record { at = r.second; held = insn.second; passes = b; shows = q; picks = chosen_second (f r.first) (f r.second) (f r.third) _ _ _ a b ∙ q }
        | inr b ↦
            let c : f r.third ≡ true = or_rest (f r.second) (f r.third) b (or_rest (f r.first) (f r.second || f r.third) a h) in
            record { at = r.third; held = insn.third; passes = c; shows = s; picks = chosen_third (f r.first) (f r.second) (f r.third) _ _ _ a b c ∙ s }
      ]
    ]

-- the base of an address
abbrev base_of : Seen → Base
base_of absent = base.Absent
base_of (register r) = base.Absent
base_of (shown_immediate v) = base.Absent
base_of (memory a d) = a.base
base_of (target v) = base.Absent

-- the displacement of an address
abbrev moved_of : Seen → Option ℕ
moved_of absent = None
moved_of (register r) = None
moved_of (shown_immediate v) = None
moved_of (memory a d) = d
moved_of (target v) = None

register_number : (rex : Bool) (c : Class) (n : ℕ) → number_of (register_shown rex c n) ≡ n
register_number true c n = refl
register_number false c n = refl

register_place : (rex : Bool) (c : Class) (n : ℕ) → place_of (register_shown rex c n) ≡ direct n
register_place true c n = refl
register_place false c n = refl

register_segment : (rex : Bool) (c : Class) (n : ℕ) → segment_of (register_shown rex c n) ≡ None
register_segment true c n = refl
register_segment false c n = refl

low_seen : (rex : Bool) (len : ℕ) (b : Fields) (q : Pattern) → is_low q ≡ true → number_of (shown rex len b q) ≡ b.low
low_seen rex len b pattern.Absent h = cc
low_seen rex len b (pattern.RegMem c n) h = cc
low_seen rex len b (pattern.Reg c) h = cc
low_seen rex len b (pattern.Low c) h = register_number rex c b.low
low_seen rex len b (pattern.Accumulator c) h = cc
low_seen rex len b pattern.Cl h = cc
low_seen rex len b pattern.One h = cc
low_seen rex len b pattern.Immediate h = cc
low_seen rex len b pattern.Target h = cc

reg_seen : (rex : Bool) (len : ℕ) (b : Fields) (q : Pattern) → is_reg q ≡ true → number_of (shown rex len b q) ≡ b.reg
reg_seen rex len b pattern.Absent h = cc
reg_seen rex len b (pattern.RegMem c n) h = cc
reg_seen rex len b (pattern.Reg c) h = register_number rex c b.reg
reg_seen rex len b (pattern.Low c) h = cc
reg_seen rex len b (pattern.Accumulator c) h = cc
reg_seen rex len b pattern.Cl h = cc
reg_seen rex len b pattern.One h = cc
reg_seen rex len b pattern.Immediate h = cc
reg_seen rex len b pattern.Target h = cc

-- an address from rip is not known
rip_address : (k : Base) (a : Address) (s : Option Segment) (i : Index) (d e : Option ℕ) → a.base ≡ k → memory a (displaced k d) ≡ memory_shown s base.Rip i e → e ≡ None
rip_address base.Absent a s i d e h k = (let g : a.base ≡ base.Rip = ap base_of k in cc)
rip_address base.Rip a s i d e h k = sym (ap moved_of k)
rip_address (base.Of b) a s i d e h k = (let g : a.base ≡ base.Rip = ap base_of k in cc)

pub no_rip : (o : Seen) (s : Option Segment) (i : Index) (e : Option ℕ) → plain_memory o ≡ memory_shown s base.Rip i e → e ≡ None
no_rip absent s i e h = cc
no_rip (register r) s i e h = cc
no_rip (shown_immediate v) s i e h = cc
no_rip (memory a d) s i e h = rip_address a.base a s i d e refl h
no_rip (target v) s i e h = cc

pub start_none : (len : ℕ) (d : Option ℕ) → from_start len d ≡ None → d ≡ None
start_none len None h = refl
start_none len (Some v) h = cc

target_is : (v w : Option ℕ) → target v ≡ target w → v ≡ w
target_is v w h = cc

pub target_none : (o : Seen) (v : Option ℕ) → plain_target o ≡ target v → v ≡ None
target_none absent v h = cc
target_none (register r) v h = cc
target_none (shown_immediate w) v h = cc
target_none (memory a e) v h = cc
target_none (target w) v h = sym (target_is None v h)

place_again_of : (rex : Bool) (c : Class) (len : ℕ) (s : Option Segment) (p : Location) (o : Seen) → plain_memory o ≡ place_shown rex c len s p → place_of (place_shown rex c len s p) ≡ least p
place_again_of rex c len s nowhere o h = refl
place_again_of rex c len s (direct n) o h = register_place rex c n
place_again_of rex c len s (from_rip d) o h =
    let e : d ≡ None = start_none len d (no_rip o s index.Absent (from_start len d) h) in
    rw e refl
place_again_of rex c len s (bare i d) o h = refl
place_again_of rex c len s (based b i t w d) o h = refl

segment_of_place : (rex : Bool) (c : Class) (len : ℕ) (s : Option Segment) (p : Location) → segment_fits s p ≡ true → segment_of (place_shown rex c len s p) ≡ s
segment_of_place rex c len None nowhere h = refl
segment_of_place rex c len (Some s) nowhere h = cc
segment_of_place rex c len None (direct n) h = register_segment rex c n
segment_of_place rex c len (Some s) (direct n) h = cc
segment_of_place rex c len s (from_rip d) h = refl
segment_of_place rex c len s (bare i d) h = refl
segment_of_place rex c len s (based b i t w d) h = refl

place_seen : (rex : Bool) (len : ℕ) (i : Immediate) (b : Fields) (q : Pattern) (o : Seen) → is_rm q ≡ true → normal i q o ≡ shown rex len b q → place_of (shown rex len b q) ≡ least b.place
place_seen rex len i b pattern.Absent o h k = cc
place_seen rex len i b (pattern.RegMem c n) o h k = place_again_of rex c len b.segment b.place o k
place_seen rex len i b (pattern.Reg c) o h k = cc
place_seen rex len i b (pattern.Low c) o h k = cc
place_seen rex len i b (pattern.Accumulator c) o h k = cc
place_seen rex len i b pattern.Cl o h k = cc
place_seen rex len i b pattern.One o h k = cc
place_seen rex len i b pattern.Immediate o h k = cc
place_seen rex len i b pattern.Target o h k = cc

segment_seen : (rex : Bool) (len : ℕ) (b : Fields) (q : Pattern) → is_rm q ≡ true → segment_fits b.segment b.place ≡ true → segment_of (shown rex len b q) ≡ b.segment
segment_seen rex len b pattern.Absent h f = cc
segment_seen rex len b (pattern.RegMem c n) h f = segment_of_place rex c len b.segment b.place f
segment_seen rex len b (pattern.Reg c) h f = cc
segment_seen rex len b (pattern.Low c) h f = cc
segment_seen rex len b (pattern.Accumulator c) h f = cc
segment_seen rex len b pattern.Cl h f = cc
segment_seen rex len b pattern.One h f = cc
segment_seen rex len b pattern.Immediate h f = cc
segment_seen rex len b pattern.Target h f = cc

held_seen : (rex : Bool) (len : ℕ) (i : Immediate) (b : Fields) (q : Pattern) (o : Seen) → is_held q ≡ true → normal i q o ≡ shown rex len b q → held_of (shown rex len b q) ≡ b.held
held_seen rex len i b pattern.Absent o h k = cc
held_seen rex len i b (pattern.RegMem c n) o h k = cc
held_seen rex len i b (pattern.Reg c) o h k = cc
held_seen rex len i b (pattern.Low c) o h k = cc
held_seen rex len i b (pattern.Accumulator c) o h k = cc
held_seen rex len i b pattern.Cl o h k = cc
held_seen rex len i b pattern.One o h k = cc
held_seen rex len i b pattern.Immediate o h k = refl
held_seen rex len i b pattern.Target o h k = (let e = target_none o (from_start len b.held) k in e ∙ sym (start_none len b.held e))

-- WHAT IS BUILT

role_there : (a b : Bool) → (not a || b) ≡ true → a ≡ true → b ≡ true
role_there true b h k = h
role_there false b h k = cc

reg_built : (m : Shape) (o : Seen) (reg : ℕ) → reg_fits m reg ≡ true → (has_reg m ≡ true → number_of o ≡ reg) → reg_of m o ≡ reg
reg_built shape.Plain o reg h k = sym (eqb-true reg 0 h)
reg_built shape.Low o reg h k = sym (eqb-true reg 0 h)
reg_built shape.LowNotFirst o reg h k = sym (eqb-true reg 0 h)
reg_built (shape.Fixed b) o reg h k = sym (eqb-true reg 0 h)
reg_built (shape.Digit d m) o reg h k = sym (eqb-true reg d (and_parts _ _ h).0)
reg_built (shape.Slash m) o reg h k = k refl

low_built : (m : Shape) (o : Seen) (low : ℕ) → low_fits m low ≡ true → (has_low m ≡ true → number_of o ≡ low) → low_of m o ≡ low
low_built shape.Plain o low h k = sym (eqb-true low 0 h)
low_built shape.Low o low h k = k refl
low_built shape.LowNotFirst o low h k = k refl
low_built (shape.Fixed b) o low h k = sym (eqb-true low 0 h)
low_built (shape.Digit d m) o low h k = sym (eqb-true low 0 h)
low_built (shape.Slash m) o low h k = sym (eqb-true low 0 h)

place_built : (m : Shape) (o : Seen) (p : Location) → place_fits m p ≡ true → (has_rm m ≡ true → place_of o ≡ least p) → place_of (rm_operand m o) ≡ least p
place_built shape.Plain o p h k = sym (ap least (no_location p h))
place_built shape.Low o p h k = sym (ap least (no_location p h))
place_built shape.LowNotFirst o p h k = sym (ap least (no_location p h))
place_built (shape.Fixed b) o p h k = sym (ap least (no_location p h))
place_built (shape.Digit d m) o p h k = k refl
place_built (shape.Slash m) o p h k = k refl

no_segment : (s : Option Segment) (p : Location) → p ≡ nowhere → segment_fits s p ≡ true → None ≡ s
no_segment None p e h = refl
no_segment (Some s) p e h = (let f : is_memory p ≡ false = ap is_memory e in cc)

segment_built : (m : Shape) (o : Seen) (s : Option Segment) (p : Location) → place_fits m p ≡ true → segment_fits s p ≡ true → (has_rm m ≡ true → segment_of o ≡ s) → segment_of (rm_operand m o) ≡ s
segment_built shape.Plain o s p h f k = no_segment s p (no_location p h) f
segment_built shape.Low o s p h f k = no_segment s p (no_location p h) f
segment_built shape.LowNotFirst o s p h f k = no_segment s p (no_location p h) f
segment_built (shape.Fixed b) o s p h f k = no_segment s p (no_location p h) f
segment_built (shape.Digit d m) o s p h f k = k refl
segment_built (shape.Slash m) o s p h f k = k refl

no_held : (v : Option ℕ) → immediate_fits immediate.Absent v ≡ true → Some 0 ≡ v
no_held None h = cc
no_held (Some v) h = ap Some (sym (eqb-true v 0 h))

held_built : (i : Immediate) (o : Seen) (v : Option ℕ) → immediate_fits i v ≡ true → (has_held i ≡ true → held_of o ≡ v) → held_in i o ≡ v
held_built immediate.Absent o v h k = no_held v h
held_built immediate.Byte o v h k = k refl
held_built immediate.Count o v h k = k refl
held_built immediate.Sext16 o v h k = k refl
held_built immediate.Sext32 o v h k = k refl
held_built immediate.Sext64 o v h k = k refl
held_built immediate.Word o v h k = k refl
held_built immediate.Long o v h k = k refl
held_built immediate.LongSext o v h k = k refl
held_built immediate.Quad o v h k = k refl
held_built immediate.Rel8 o v h k = k refl
held_built immediate.Short o v h k = k refl
held_built immediate.Rel32 o v h k = k refl

-- what the roles of the row give
pub record Roles (r : Row) (insn : View) (b : Fields) : Type 0 where
  pub segment : segment_of (rm_operand r.shape (pick is_rm r insn)) ≡ b.segment
  pub reg : reg_of r.shape (pick is_reg r insn) ≡ b.reg
  pub low : low_of r.shape (pick is_low r insn) ≡ b.low
  pub place : place_of (rm_operand r.shape (pick is_rm r insn)) ≡ least b.place
  pub held : held_in r.immediate (pick is_held r insn) ≡ b.held

pub roles : (r : Row) (insn : View) (b : Fields) → is_shaped r ≡ true → Fit r b → Means r b insn → Roles r insn b
roles r insn b w f m =
    let x : Pattern → Seen = λ q. shown (has_rex r b) (length (bytes_of r b)) b q in
    let s1 = and_parts _ _ w in
    let s2 = and_parts _ _ s1.1 in
    let s3 = and_parts _ _ s2.1 in
    record {
      segment = segment_built r.shape (pick is_rm r insn) b.segment b.place f.place f.segment (λ u.
          let p = picked is_rm r insn x m.first m.second m.third (role_there (has_rm r.shape) (has is_rm r) s3.0 u) in
          ap segment_of p.picks ∙ segment_seen (has_rex r b) (length (bytes_of r b)) b p.at p.passes f.segment);
      reg = reg_built r.shape (pick is_reg r insn) b.reg f.reg (λ u.
          let p = picked is_reg r insn x m.first m.second m.third (role_there (has_reg r.shape) (has is_reg r) s2.0 u) in
          ap number_of p.picks ∙ reg_seen (has_rex r b) (length (bytes_of r b)) b p.at p.passes);
      low = low_built r.shape (pick is_low r insn) b.low f.low (λ u.
          let p = picked is_low r insn x m.first m.second m.third (role_there (has_low r.shape) (has is_low r) s1.0 u) in
          ap number_of p.picks ∙ low_seen (has_rex r b) (length (bytes_of r b)) b p.at p.passes);
      place = place_built r.shape (pick is_rm r insn) b.place f.place (λ u.
          let p = picked is_rm r insn x m.first m.second m.third (role_there (has_rm r.shape) (has is_rm r) s3.0 u) in
          ap place_of p.picks ∙ place_seen (has_rex r b) (length (bytes_of r b)) r.immediate b p.at p.held p.passes p.shows);
      held = held_built r.immediate (pick is_held r insn) b.held f.held (λ u.
          let p = picked is_held r insn x m.first m.second m.third (role_there (has_held r.immediate) (has is_held r) s3.1 u) in
          ap held_of p.picks ∙ held_seen (has_rex r b) (length (bytes_of r b)) r.immediate b p.at p.held p.passes p.shows);
    }
