-- What a row shows of fields with values in place of those that are not known.
use Rattle.std.proofs.Common.{◌≡◌, ◌<◌, ◌≤◌, ◌+◌, ◌-◌, ◌/◌, ◌%◌, ◌^◌, ◌&&◌, ◌||◌, ◌∙◌, if◌then◌else◌, Bool, None, Option, Some, ap, arith, false, inl, inr, nat_le, nat_lt, refl, sym, true, ℕ}
use Rattle.std.proofs.lemmas.Bool.{cases_Bool, ltb-true, leb-true, leb-false, le-leb, not-true, and_parts, or_cases}
use Rattle.x86_insn.specs.declared.registers.Class.{Class}
use Rattle.x86_insn.specs.declared.insns.Segment.{Segment}
use Rattle.x86_insn.specs.declared.insns.Base.{Base}
use Rattle.x86_table.specs.declared.forms.Immediate.{Immediate}
use Rattle.x86_table.specs.declared.forms.Pattern.{Pattern}
use Rattle.x86_parts.specs.declared.encoded.Position.{Position}
use Rattle.x86_insn.specs.declared.insns.Base.TheVariants as base
use Rattle.x86_table.specs.declared.forms.Immediate.TheVariants as immediate
use Rattle.x86_insn.specs.declared.insns.Index.TheVariants as index
use Rattle.x86_table.specs.declared.forms.Pattern.TheVariants as pattern
use Rattle.x86_insn.specs.Views.{Seen, absent, register, immediate as shown_immediate, memory, target, displaced}
use Rattle.x86_table.specs.Fields.{Location, nowhere, direct, from_rip, bare, based, Fields}
use Rattle.x86_table.specs.Fits.{is_signed, immediate_fits}
use Rattle.x86_table.specs.Reads.{from_start, memory_shown, place_shown, shown}
use Rattle.x86_parts.specs.Codes.{last_of, reduced, plain_immediate, plain_target, plain_memory, normal}
use Rattle.x86_encode.specs.Faults.{is_value, kind_fits}
use Rattle.x86_parts.specs.Filling.{field_holds, known_as, counted, valued, exact, held_field}
use Rattle.x86_encode.proofs.FilledFields.{fill_place, lowered, fill}
use Rattle.x86_encode.proofs.Roles.{no_rip, start_none, target_none}

twice : (b : Base) (d : Option ℕ) → displaced b (displaced b d) ≡ displaced b d
twice base.Absent d = refl
twice base.Rip d = refl
twice (base.Of n) d = refl

through : (n v w : ℕ) (o : Seen) → valued n v w o ≡ valued n v w (plain_memory o)
through n v w absent = refl
through n v w (register r) = refl
through n v w (shown_immediate d) = refl
through n v w (memory a d) = ap (λ (x : Option ℕ). memory a (known_as (counted n a.base v) x)) (sym (twice a.base d))
through n v w (target d) = refl

rip_valued : (n v : ℕ) (d : Option ℕ) → d ≡ None → Some ((v + n) % 2 ^ 64) ≡ from_start n (known_as v d)
rip_valued n v None e = refl
rip_valued n v (Some x) e = cc

place_valued : (rex : Bool) (c : Class) (n v w : ℕ) (s : Option Segment) (p : Location) (o : Seen) → plain_memory o ≡ place_shown rex c n s p
    → valued n v w (place_shown rex c n s p) ≡ place_shown rex c n s (fill_place v p)
place_valued rex c n v w s nowhere o h = refl
place_valued rex c n v w s (direct k) o h = refl
place_valued rex c n v w s (from_rip d) o h =
    ap (λ (x : Option ℕ). memory_shown s base.Rip index.Absent x) (rip_valued n v d (start_none n d (no_rip o s index.Absent (from_start n d) h)))
place_valued rex c n v w s (bare i d) o h = refl
place_valued rex c n v w s (based b i t x d) o h = refl

reduced_known : (last x : ℕ) (t u : Bool) → nat_le last x ≡ nat_le last x → (if t then shown_immediate (Some x) else (if u then shown_immediate (Some (x - (2 ^ 64 - 1 - last))) else absent)) ≡ shown_immediate None → ⊥
reduced_known last x true u e h = cc
reduced_known last x false true e h = cc
reduced_known last x false false e h = cc

held_is : (v w : Option ℕ) → shown_immediate v ≡ shown_immediate w → v ≡ w
held_is v w h = cc

-- a number above those of the bits is a negative one
high : (k w : ℕ) → (nat_lt w (2 ^ k) || is_signed k 64 w) ≡ true → 2 ^ (k - 1) ≤ 2 ^ k → 2 ^ k ≤ w → (2 ^ 64 - 2 ^ (k - 1) ≤ w) × (w < 2 ^ 64)
high k w h l m = elim (or_cases (nat_lt w (2 ^ k)) (is_signed k 64 w) h) [
  | inl e ↦ (let a = ltb-true w (2 ^ k) e in absurd (omega arith))
  | inr e ↦ elim (or_cases (nat_lt w (2 ^ (k - 1))) (nat_le (2 ^ 64 - 2 ^ (k - 1)) w && nat_lt w (2 ^ 64)) e) [
    | inl f ↦ (let a = ltb-true w (2 ^ (k - 1)) f in absurd (omega arith))
    | inr f ↦ (let p = and_parts (nat_le (2 ^ 64 - 2 ^ (k - 1)) w) (nat_lt w (2 ^ 64)) f in (leb-true (2 ^ 64 - 2 ^ (k - 1)) w p.0, ltb-true w (2 ^ 64) p.1))
  ]
]

byte_held : (w : ℕ) → (nat_lt w (2 ^ 8) || is_signed 8 64 w) ≡ true → reduced (2 ^ 8 - 1) w ≡ shown_immediate (Some (w % 2 ^ 8))
byte_held w h = elim (cases_Bool (nat_le w (2 ^ 8 - 1))) [
  | inl e ↦ (let a = leb-true w (2 ^ 8 - 1) e in let q : w % 2 ^ 8 ≡ w = omega arith in rw (e, q) refl)
  | inr e ↦ (let a = leb-false w (2 ^ 8 - 1) e in let k = high 8 w h (omega arith) (omega arith) in
      let t = le-leb (2 ^ 64 - 1 - (2 ^ 8 - 1) / 2) w (omega arith) in
      let q : w - (2 ^ 64 - 1 - (2 ^ 8 - 1)) ≡ w % 2 ^ 8 = omega arith in rw (e, t, q) refl)
]

word_held : (w : ℕ) → (nat_lt w (2 ^ 16) || is_signed 16 64 w) ≡ true → reduced (2 ^ 16 - 1) w ≡ shown_immediate (Some (w % 2 ^ 16))
word_held w h = elim (cases_Bool (nat_le w (2 ^ 16 - 1))) [
  | inl e ↦ (let a = leb-true w (2 ^ 16 - 1) e in let q : w % 2 ^ 16 ≡ w = omega arith in rw (e, q) refl)
  | inr e ↦ (let a = leb-false w (2 ^ 16 - 1) e in let k = high 16 w h (omega arith) (omega arith) in
      let t = le-leb (2 ^ 64 - 1 - (2 ^ 16 - 1) / 2) w (omega arith) in
      let q : w - (2 ^ 64 - 1 - (2 ^ 16 - 1)) ≡ w % 2 ^ 16 = omega arith in rw (e, t, q) refl)
]

long_held : (w : ℕ) → (nat_lt w (2 ^ 32) || is_signed 32 64 w) ≡ true → reduced (2 ^ 32 - 1) w ≡ shown_immediate (Some (w % 2 ^ 32))
long_held w h = elim (cases_Bool (nat_le w (2 ^ 32 - 1))) [
  | inl e ↦ (let a = leb-true w (2 ^ 32 - 1) e in let q : w % 2 ^ 32 ≡ w = omega arith in rw (e, q) refl)
  | inr e ↦ (let a = leb-false w (2 ^ 32 - 1) e in let k = high 32 w h (omega arith) (omega arith) in
      let t = le-leb (2 ^ 64 - 1 - (2 ^ 32 - 1) / 2) w (omega arith) in
      let q : w - (2 ^ 64 - 1 - (2 ^ 32 - 1)) ≡ w % 2 ^ 32 = omega arith in rw (e, t, q) refl)
]

signed_below : (k w : ℕ) → 2 ^ (k - 1) ≤ 2 ^ 64 → is_signed k 64 w ≡ true → w < 2 ^ 64
signed_below k w l h = elim (or_cases (nat_lt w (2 ^ (k - 1))) (nat_le (2 ^ 64 - 2 ^ (k - 1)) w && nat_lt w (2 ^ 64)) h) [
  | inl e ↦ (let a = ltb-true w (2 ^ (k - 1)) e in omega arith)
  | inr e ↦ ltb-true w (2 ^ 64) (and_parts _ _ e).1
]

whole_held : (w : ℕ) → w < 2 ^ 64 → reduced (2 ^ 64 - 1) w ≡ shown_immediate (Some w)
whole_held w h = let k = le-leb w (2 ^ 64 - 1) (omega arith) in rw k refl

quad_held : (w : ℕ) → (nat_lt w (2 ^ 64) || is_signed 64 64 w) ≡ true → reduced (2 ^ 64 - 1) w ≡ shown_immediate (Some (w % 2 ^ 64))
quad_held w h =
    let l : w < 2 ^ 64 = elim (or_cases (nat_lt w (2 ^ 64)) (is_signed 64 64 w) h) [ inl e ↦ ltb-true w (2 ^ 64) e | inr e ↦ signed_below 64 w (omega arith) e ] in
    let q : w % 2 ^ 64 ≡ w = omega arith in
    rw q (whole_held w l)

-- a value that a field holds is what the immediate holds of it
holds_last : (at : ℕ) (here : Position) (w : ℕ) (i : Immediate) → immediate_fits i None ≡ true → field_holds (held_field at here i None) w ≡ true → reduced (last_of i) w ≡ shown_immediate (Some (lowered i w))
holds_last at here w immediate.Absent f h = cc
holds_last at here w immediate.Byte f h = byte_held w h
holds_last at here w immediate.Count f h = cc
holds_last at here w immediate.Sext16 f h = cc
holds_last at here w immediate.Sext32 f h = cc
holds_last at here w immediate.Sext64 f h = cc
holds_last at here w immediate.Word f h = word_held w h
holds_last at here w immediate.Long f h = long_held w h
holds_last at here w immediate.LongSext f h = whole_held w (signed_below 32 w (omega arith) h)
holds_last at here w immediate.Quad f h = quad_held w h
holds_last at here w immediate.Rel8 f h = whole_held w (signed_below 8 w (omega arith) h)
holds_last at here w immediate.Short f h = cc
holds_last at here w immediate.Rel32 f h = whole_held w (signed_below 32 w (omega arith) h)

-- a distance is held as it is
distance_lowered : (i : Immediate) (w : ℕ) → is_value i ≡ false → lowered i w ≡ w
distance_lowered immediate.Absent w h = refl
distance_lowered immediate.Byte w h = cc
distance_lowered immediate.Count w h = cc
distance_lowered immediate.Sext16 w h = cc
distance_lowered immediate.Sext32 w h = cc
distance_lowered immediate.Sext64 w h = cc
distance_lowered immediate.Word w h = cc
distance_lowered immediate.Long w h = cc
distance_lowered immediate.LongSext w h = cc
distance_lowered immediate.Quad w h = cc
distance_lowered immediate.Rel8 w h = refl
distance_lowered immediate.Short w h = refl
distance_lowered immediate.Rel32 w h = refl

held_known : (last x : ℕ) (w : ℕ) (d : Option ℕ) → reduced last x ≡ shown_immediate d → reduced last x ≡ shown_immediate (known_as w d)
held_known last x w None h = absurd (reduced_known last x (nat_le x last) (nat_le (2 ^ 64 - 1 - last / 2) x) refl h)
held_known last x w (Some y) h = h

unknown_held : (at : ℕ) (here : Position) (w : ℕ) (i : Immediate) (d : Option ℕ) → immediate_fits i d ≡ true → field_holds (held_field at here i d) w ≡ true → None ≡ d → reduced (last_of i) w ≡ shown_immediate (known_as (lowered i w) d)
unknown_held at here w i None f h e = holds_last at here w i f h
unknown_held at here w i (Some y) f h e = cc

immediate_valued : (at : ℕ) (here : Position) (n v w : ℕ) (i : Immediate) (d : Option ℕ) (o : Seen) → immediate_fits i d ≡ true → field_holds (held_field at here i d) w ≡ true → plain_immediate i o ≡ shown_immediate d
    → plain_immediate i (valued n v w o) ≡ shown_immediate (known_as (lowered i w) d)
immediate_valued at here n v w i d absent f k h = cc
immediate_valued at here n v w i d (register r) f k h = cc
immediate_valued at here n v w i d (shown_immediate None) f k h = unknown_held at here w i d f k (held_is None d h)
immediate_valued at here n v w i d (shown_immediate (Some x)) f k h = held_known (last_of i) x (lowered i w) d h
immediate_valued at here n v w i d (memory a e) f k h = cc
immediate_valued at here n v w i d (target e) f k h = cc

distance : (n w : ℕ) (d : Option ℕ) → d ≡ None → target (Some ((w + n) % 2 ^ 64)) ≡ target (from_start n (known_as w d))
distance n w None e = refl
distance n w (Some x) e = cc

target_valued : (n v w : ℕ) (d : Option ℕ) (o : Seen) → plain_target o ≡ target (from_start n d) → valued n v w o ≡ target (from_start n (known_as w d))
target_valued n v w d absent h = cc
target_valued n v w d (register r) h = cc
target_valued n v w d (shown_immediate e) h = cc
target_valued n v w d (memory a e) h = cc
target_valued n v w d (target e) h = distance n w d (start_none n d (target_none (target e) (from_start n d) h))

-- an operand of the row shows the operand with its value
pub slot_valued : (at : ℕ) (here : Position) (rex : Bool) (n v w : ℕ) (i : Immediate) (p : Fields) (q : Pattern) (o : Seen) → immediate_fits i p.held ≡ true → field_holds (held_field at here i p.held) w ≡ true
    → kind_fits i q ≡ true → normal i q o ≡ shown rex n p q → exact i q (valued n v w o) ≡ shown rex n (fill v (lowered i w) p) q
slot_valued at here rex n v w i p pattern.Absent o f k g h = ap (valued n v w) h
slot_valued at here rex n v w i p (pattern.RegMem c m) o f k g h = through n v w o ∙ ap (valued n v w) h ∙ place_valued rex c n v w p.segment p.place o h
slot_valued at here rex n v w i p (pattern.Reg c) o f k g h = ap (valued n v w) h
slot_valued at here rex n v w i p (pattern.Low c) o f k g h = ap (valued n v w) h
slot_valued at here rex n v w i p (pattern.Accumulator c) o f k g h = ap (valued n v w) h
slot_valued at here rex n v w i p pattern.Cl o f k g h = ap (valued n v w) h
slot_valued at here rex n v w i p pattern.One o f k g h = ap (valued n v w) h
slot_valued at here rex n v w i p pattern.Immediate o f k g h = immediate_valued at here n v w i p.held o f k h
slot_valued at here rex n v w i p pattern.Target o f k g h = target_valued n v w p.held o h ∙ ap (λ (x : ℕ). target (from_start n (known_as x p.held))) (sym (distance_lowered i w (not-true (is_value i) g)))
