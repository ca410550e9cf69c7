-- What the encoder builds for a row: where any fields of the row show the instruction, these do, in no more bytes.
use Rattle.std.proofs.Common.{◌≡◌, ◌<◌, ◌==◌, ◌&&◌, ◌||◌, ◌⊎◌, ◌∙◌, if◌then◌else◌, Bool, None, Option, ap, arith, eq-eqb, false, inl, inr, length, nat_lt, not, refl, subst, suc, sym, true, zero, ℕ}
use Rattle.std.proofs.lemmas.Bool.{eqb-true, ne_eqb, and_parts, and_from, and_right}
use Rattle.x86_insn.specs.declared.registers.Class.{Class}
use Rattle.x86_insn.specs.declared.insns.Segment.{Segment}
use Rattle.x86_insn.specs.declared.insns.Prefix.{Prefix}
use Rattle.x86_table.specs.declared.forms.Row.{Row}
use Rattle.x86_table.specs.declared.forms.Immediate.{Immediate}
use Rattle.x86_table.specs.declared.forms.Pattern.{Pattern}
use Rattle.x86_insn.specs.declared.registers.Class.TheVariants as class
use Rattle.x86_insn.specs.declared.insns.Index.TheVariants as index
use Rattle.x86_table.specs.declared.forms.Pattern.TheVariants as pattern
use Rattle.x86_insn.specs.Views.{Seen, target, View}
use Rattle.x86_table.specs.Bytes.{rex_bits, has_rex, bytes_of}
use Rattle.x86_table.specs.Fields.{Location, nowhere, direct, from_rip, bare, based, Fields}
use Rattle.x86_table.specs.Fits.{is_byte, is_middle, is_middle_place, wants_rex, rex_fits, fits}
use Rattle.x86_table.specs.Reads.{register_shown, from_start, place_shown, shown}
use Rattle.x86_parts.specs.Building.{wants, without_rex, built, shows, takes, is_shaped}
use Rattle.x86_parts.specs.Codes.{plain_memory, normal, Means}
use Rattle.x86_encode.proofs.Equal.{seen_test, seen_is}
use Rattle.x86_encode.proofs.Fitted.{fit_of}
use Rattle.x86_encode.proofs.Least.{least, relaid, relaid_bits, relaid_size, relaid_fits}
use Rattle.x86_encode.proofs.Roles.{or_rest, no_rip, start_none, target_none, Roles, roles}

fields_by : Prefix → Option Segment → Bool → ℕ → ℕ → Location → Option ℕ → Fields
fields_by q s l r w p i = record { «prefix» = q; segment = s; bare_rex = l; reg = r; low = w; place = p; held = i }

without_rex_is : (r : Row) (insn : View) (b : Fields) → Roles r insn b → insn.«prefix» ≡ b.«prefix» → without_rex r insn ≡ fields_by b.«prefix» b.segment false b.reg b.low (least b.place) b.held
unfolding without_rex fields_by
without_rex_is r insn b o w = rw (o.segment, o.reg, o.low, o.place, o.held, w) refl

-- REX 40

wants_place : (len : ℕ) (s : Option Segment) (c : Class) (p : Location) → wants (place_shown true c len s p) ≡ (is_byte c && is_middle_place p)
wants_place len s c nowhere = sym (and_right (is_byte c) false refl)
wants_place len s c (direct n) = refl
wants_place len s c (from_rip d) = sym (and_right (is_byte c) false refl)
wants_place len s c (bare i d) = sym (and_right (is_byte c) false refl)
wants_place len s c (based b i t w d) = sym (and_right (is_byte c) false refl)

wants_true : (len : ℕ) (b : Fields) (q : Pattern) → wants (shown true len b q) ≡ wants_rex b q
wants_true len b pattern.Absent = refl
wants_true len b (pattern.RegMem c n) = wants_place len b.segment c b.place
wants_true len b (pattern.Reg c) = refl
wants_true len b (pattern.Low c) = refl
wants_true len b (pattern.Accumulator c) = and_right (is_byte c) false refl
wants_true len b pattern.Cl = refl
wants_true len b pattern.One = refl
wants_true len b pattern.Immediate = refl
wants_true len b pattern.Target = refl

high_wants : (t : Bool) (c : Class) (n : ℕ) → (is_byte c && is_middle n) ≡ t → (is_byte (if t then class.High else c) && is_middle n) ≡ false
high_wants true c n h = refl
high_wants false c n h = h

wants_register : (c : Class) (n : ℕ) → wants (register_shown false c n) ≡ false
wants_register c n = high_wants (is_byte c && is_middle n) c n refl

wants_no_place : (len : ℕ) (s : Option Segment) (c : Class) (p : Location) → wants (place_shown false c len s p) ≡ false
wants_no_place len s c nowhere = refl
wants_no_place len s c (direct n) = wants_register c n
wants_no_place len s c (from_rip d) = refl
wants_no_place len s c (bare i d) = refl
wants_no_place len s c (based b i t w d) = refl

wants_false : (len : ℕ) (b : Fields) (q : Pattern) → wants (shown false len b q) ≡ false
wants_false len b pattern.Absent = refl
wants_false len b (pattern.RegMem c n) = wants_no_place len b.segment c b.place
wants_false len b (pattern.Reg c) = wants_register c b.reg
wants_false len b (pattern.Low c) = wants_register c b.low
wants_false len b (pattern.Accumulator c) = and_right (is_byte c) false refl
wants_false len b pattern.Cl = refl
wants_false len b pattern.One = refl
wants_false len b pattern.Immediate = refl
wants_false len b pattern.Target = refl

needed : (r : Row) (b : Fields) → b.bare_rex ≡ true → rex_fits r b ≡ true → (wants_rex b r.first || (wants_rex b r.second || wants_rex b r.third)) ≡ true
needed r b e h = (and_parts (rex_bits r b == 0) (wants_rex b r.first || (wants_rex b r.second || wants_rex b r.third)) (or_rest (not b.bare_rex) _ (ap not e) h)).1

both_plain : (r : Row) (b : Fields) → b.bare_rex ≡ true → rex_fits r b ≡ true → rex_bits r b ≡ 0
both_plain r b e h = eqb-true (rex_bits r b) 0 (and_parts (rex_bits r b == 0) (wants_rex b r.first || (wants_rex b r.second || wants_rex b r.third)) (or_rest (not b.bare_rex) _ (ap not e) h)).0

-- the rule by which REX 40 stands, for known bits
plain_rule : (r : Row) (b : Fields) (bits : ℕ) (plain : Bool) (len : ℕ) → b.bare_rex ≡ plain → rex_bits r b ≡ bits → rex_fits r b ≡ true
    → ((bits == 0) && (wants (shown (nat_lt 0 bits || plain) len b r.first) || (wants (shown (nat_lt 0 bits || plain) len b r.second) || wants (shown (nat_lt 0 bits || plain) len b r.third)))) ≡ plain
plain_rule r b zero true len e f h =
    let p : (wants_rex b r.first || (wants_rex b r.second || wants_rex b r.third)) ≡ true = needed r b e h in
    rw (wants_true len b r.first, wants_true len b r.second, wants_true len b r.third) p
plain_rule r b zero false len e f h = rw (wants_false len b r.first, wants_false len b r.second, wants_false len b r.third) refl
plain_rule r b (suc n) true len e f h =
    let p = both_plain r b e h in
    absurd (omega arith)
plain_rule r b (suc n) false len e f h = rw (ne_eqb (suc n) 0 (λ k. omega arith)) refl

-- WHAT IS MORE

-- bits do not look at plain
bits_by : (r : Row) (b : Fields) (plain : Bool) → rex_bits r (fields_by b.«prefix» b.segment plain b.reg b.low (least b.place) b.held) ≡ rex_bits r b
unfolding rex_bits fields_by
bits_by r b bare_rex = relaid_bits r b

pub built_is : (r : Row) (insn : View) (b : Fields) → is_shaped r ≡ true → fits r b ≡ true → Means r b insn → built r insn ≡ relaid b
unfolding built fields_by
built_is r insn b w g m =
    let f = fit_of r b g in
    let core = without_rex_is r insn b (roles r insn b w f m) m.words in
    let same = bits_by r b false in
    let rule = plain_rule r b (rex_bits r b) b.bare_rex (length (bytes_of r b)) refl refl f.rex in
    rw (core, m.first, m.second, m.third, same, rule) refl

place_again : (rex : Bool) (c : Class) (len more : ℕ) (s : Option Segment) (p : Location) (o : Seen) → plain_memory o ≡ place_shown rex c len s p → place_shown rex c more s (least p) ≡ place_shown rex c len s p
place_again rex c len more s nowhere o h = refl
place_again rex c len more s (direct n) o h = refl
place_again rex c len more s (from_rip d) o h =
    let e : d ≡ None = start_none len d (no_rip o s index.Absent (from_start len d) h) in
    rw e refl
place_again rex c len more s (bare i d) o h = refl
place_again rex c len more s (based b i t w d) o h = refl

start_again : (len more : ℕ) (d : Option ℕ) → d ≡ None → target (from_start more d) ≡ target (from_start len d)
start_again len more d e = rw e refl

shown_again : (rex : Bool) (len more : ℕ) (i : Immediate) (b : Fields) (q : Pattern) (o : Seen) → normal i q o ≡ shown rex len b q → shown rex more (relaid b) q ≡ shown rex len b q
shown_again rex len more i b pattern.Absent o h = refl
shown_again rex len more i b (pattern.RegMem c n) o h = place_again rex c len more b.segment b.place o h
shown_again rex len more i b (pattern.Reg c) o h = refl
shown_again rex len more i b (pattern.Low c) o h = refl
shown_again rex len more i b (pattern.Accumulator c) o h = refl
shown_again rex len more i b pattern.Cl o h = refl
shown_again rex len more i b pattern.One o h = refl
shown_again rex len more i b pattern.Immediate o h = refl
shown_again rex len more i b pattern.Target o h = start_again len more b.held (start_none len b.held (target_none o (from_start len b.held) h))

relaid_rex : (r : Row) (b : Fields) → has_rex r (relaid b) ≡ has_rex r b
relaid_rex r b = rw (relaid_bits r b) refl

means_slot : (r : Row) (b : Fields) (i : Immediate) (q : Pattern) (o : Seen) → normal i q o ≡ shown (has_rex r b) (length (bytes_of r b)) b q
    → normal i q o ≡ shown (has_rex r (relaid b)) (length (bytes_of r (relaid b))) (relaid b) q
means_slot r b i q o h =
    let again : shown (has_rex r b) (length (bytes_of r (relaid b))) (relaid b) q ≡ shown (has_rex r b) (length (bytes_of r b)) b q = shown_again (has_rex r b) (length (bytes_of r b)) (length (bytes_of r (relaid b))) i b q o h in
    let P : Bool → Type 0 = λ x. normal i q o ≡ shown x (length (bytes_of r (relaid b))) (relaid b) q in
    subst P (sym (relaid_rex r b)) (h ∙ sym again)

pub means_relaid : (r : Row) (b : Fields) (insn : View) → Means r b insn → Means r (relaid b) insn
means_relaid r b insn m = record {
  name = m.name;
  size = m.size;
  words = m.words;
  first = means_slot r b r.immediate r.first insn.first m.first;
  second = means_slot r b r.immediate r.second insn.second m.second;
  third = means_slot r b r.immediate r.third insn.third m.third;
}

shows_means : (r : Row) (p : Fields) (insn : View) → insn.«prefix» ≡ p.«prefix» → shows r p insn ≡ true → Means r p insn
unfolding shows
shows_means r p insn w h =
    let a = and_parts _ _ h in
    let b = and_parts _ _ a.1 in
    let c = and_parts _ _ b.1 in
    let d = and_parts _ _ c.1 in
    record { name = eqb-true _ _ a.0; size = eqb-true _ _ b.0; words = w; first = seen_is _ _ c.0; second = seen_is _ _ d.0; third = seen_is _ _ d.1 }

means_shows : (r : Row) (p : Fields) (insn : View) → Means r p insn → shows r p insn ≡ true
unfolding shows
means_shows r p insn m = and_from _ _ (eq-eqb _ _ m.name) (and_from _ _ (eq-eqb _ _ m.size) (and_from _ _ (seen_test _ _ m.first) (and_from _ _ (seen_test _ _ m.second) (seen_test _ _ m.third))))

built_words : (r : Row) (insn : View) → insn.«prefix» ≡ (built r insn).«prefix»
unfolding built without_rex
built_words r insn = refl

-- what the encoder takes codes the instruction
pub taken : (r : Row) (insn : View) → takes r insn ≡ true → (fits r (built r insn) ≡ true) × Means r (built r insn) insn
unfolding takes
taken r insn h =
    let a = and_parts _ _ h in
    (a.0, shows_means r (built r insn) insn (built_words r insn) a.1)

-- where a row codes it at all, the encoder takes that row, and no longer bytes than any
pub record Taken (r : Row) (insn : View) (b : Fields) : Type 0 where
  pub takes : takes r insn ≡ true
  pub size : (bytes_of r (built r insn) ≡ bytes_of r b) ⊎ (length (bytes_of r (built r insn)) < length (bytes_of r b))

pub takes_all : (r : Row) (insn : View) (b : Fields) → is_shaped r ≡ true → fits r b ≡ true → Means r b insn → Taken r insn b
unfolding takes
takes_all r insn b w f m =
    let e = built_is r insn b w f m in
    let k = means_relaid r b insn m in
    record {
      takes = rw e (and_from _ _ (relaid_fits r b f) (means_shows r (relaid b) insn k));
      size = elim (relaid_size r b (fit_of r b f)) [
        | inl s ↦ inl (rw (e, s) refl)
        | inr lt ↦ inr (rw e lt)
      ];
    }
