-- Fields with values in place of those that are not known.
use Rattle.std.proofs.Common.{◌≡◌, ◌%◌, ◌^◌, ◌&&◌, ◌∙◌, Bool, None, Option, Some, ap, arith, length, nat_lt, not, refl, sym, true, ℕ}
use Rattle.std.proofs.lemmas.Bool.{leb-true, le-leb, lt-ltb, and_parts, and_from}
use Rattle.x86_insn.specs.declared.insns.Segment.{Segment}
use Rattle.x86_insn.specs.declared.insns.Index.{Index}
use Rattle.x86_insn.specs.declared.insns.Prefix.{Prefix}
use Rattle.x86_table.specs.declared.forms.Row.{Row}
use Rattle.x86_table.specs.declared.forms.Immediate.{Immediate}
use Rattle.x86_table.specs.declared.forms.Repeat.{Repeat}
use Rattle.x86_table.specs.declared.forms.Rm.{Rm}
use Rattle.x86_table.specs.declared.forms.Shape.{Shape}
use Rattle.x86_table.specs.declared.forms.Pattern.{Pattern}
use Rattle.x86_table.specs.declared.forms.Words.{Words}
use Rattle.x86_table.specs.declared.parts.Width.{Width}
use Rattle.x86_parts.specs.declared.encoded.Position.{Position}
use Rattle.x86_table.specs.declared.forms.Immediate.TheVariants as immediate
use Rattle.x86_table.specs.declared.forms.Pattern.TheVariants as pattern
use Rattle.x86_insn.specs.declared.insns.Prefix.TheVariants as prefix
use Rattle.x86_table.specs.declared.forms.Rm.TheVariants as rm
use Rattle.x86_table.specs.declared.forms.Shape.TheVariants as shape
use Rattle.x86_table.specs.declared.parts.Width.TheVariants as width
use Rattle.x86_table.specs.Bytes.{place_x, place_b, rex_bits, has_rex, bytes_of}
use Rattle.x86_table.specs.Fields.{Location, nowhere, direct, from_rip, bare, based, Fields}
use Rattle.x86_table.specs.Fits.{is_signed, long_fits, displacement_fits, index_fits, sib_fits, mode_fits, some_place_fits, is_memory, rm_fits, is_nowhere, place_fits, immediate_fits, is_byte, is_middle_place, wants_rex, rex_fits, segment_fits, may_lock, prefix_fits, fields_fit, fits}
use Rattle.x86_table.specs.Reads.{is_known, is_known_place}
use Rattle.x86_parts.specs.Filling.{field_holds, known_as, moved_field, held_field}
use Rattle.x86_parts.specs.Keys.{place_length, modrm_length, length_by}
use Rattle.x86_encode.proofs.Fitted.{fit_of, fit_size}
use Rattle.x86_encode.proofs.Length.{length_is}

-- a place with a displacement
abbrev pub fill_place : ℕ → Location → Location
fill_place v nowhere = nowhere
fill_place v (direct n) = direct n
fill_place v (from_rip d) = from_rip (known_as v d)
fill_place v (bare i d) = bare i (known_as v d)
fill_place v (based b i s w d) = based b i s w (known_as v d)

-- fields with a displacement and an immediate
abbrev pub fill : ℕ → ℕ → Fields → Fields
fill v w p = record { «prefix» = p.«prefix»; segment = p.segment; bare_rex = p.bare_rex; reg = p.reg; low = p.low; place = fill_place v p.place; held = known_as w p.held }

fill_x : (v : ℕ) (p : Location) → place_x (fill_place v p) ≡ place_x p
fill_x v nowhere = refl
fill_x v (direct n) = refl
fill_x v (from_rip d) = refl
fill_x v (bare i d) = refl
fill_x v (based b i s w d) = refl

fill_b : (v : ℕ) (p : Location) → place_b (fill_place v p) ≡ place_b p
fill_b v nowhere = refl
fill_b v (direct n) = refl
fill_b v (from_rip d) = refl
fill_b v (bare i d) = refl
fill_b v (based b i s w d) = refl

fill_memory : (v : ℕ) (p : Location) → is_memory (fill_place v p) ≡ is_memory p
fill_memory v nowhere = refl
fill_memory v (direct n) = refl
fill_memory v (from_rip d) = refl
fill_memory v (bare i d) = refl
fill_memory v (based b i s w d) = refl

fill_middle : (v : ℕ) (p : Location) → is_middle_place (fill_place v p) ≡ is_middle_place p
fill_middle v nowhere = refl
fill_middle v (direct n) = refl
fill_middle v (from_rip d) = refl
fill_middle v (bare i d) = refl
fill_middle v (based b i s w d) = refl

fill_length : (v : ℕ) (p : Location) → place_length (fill_place v p) ≡ place_length p
fill_length v nowhere = refl
fill_length v (direct n) = refl
fill_length v (from_rip d) = refl
fill_length v (bare i d) = refl
fill_length v (based b i s w d) = refl

fill_modrm : (v : ℕ) (m : Shape) (p : Location) → modrm_length m (fill_place v p) ≡ modrm_length m p
fill_modrm v shape.Plain p = refl
fill_modrm v shape.Low p = refl
fill_modrm v shape.LowNotFirst p = refl
fill_modrm v (shape.Fixed b) p = refl
fill_modrm v (shape.Digit d m) p = fill_length v p
fill_modrm v (shape.Slash m) p = fill_length v p

pub fill_bits : (v w : ℕ) (r : Row) (p : Fields) → rex_bits r (fill v w p) ≡ rex_bits r p
unfolding rex_bits
fill_bits v w r p = rw (fill_x v p.place, fill_b v p.place) refl

pub fill_rex : (v w : ℕ) (r : Row) (p : Fields) → has_rex r (fill v w p) ≡ has_rex r p
fill_rex v w r p = rw (fill_bits v w r p) refl

fill_by : (v w : ℕ) (r : Row) (p : Fields) → length_by r (fill v w p) ≡ length_by r p
unfolding length_by
fill_by v w r p = rw (fill_bits v w r p, fill_modrm v r.shape p.place) refl

pub fill_same_length : (v w : ℕ) (r : Row) (p : Fields) → length (bytes_of r (fill v w p)) ≡ length (bytes_of r p)
fill_same_length v w r p = length_is r (fill v w p) ∙ fill_by v w r p ∙ sym (length_is r p)

-- WHAT FITS

fill_width : (x : Width) (v : ℕ) (d : Option ℕ) → displacement_fits x d ≡ true → (d ≡ None → is_signed 32 64 v ≡ true) → displacement_fits x (known_as v d) ≡ true
fill_width width.Absent v None h k = cc
fill_width width.Byte v None h k = cc
fill_width width.Long v None h k = k refl
fill_width x v (Some y) h k = h

fill_long : (v : ℕ) (d : Option ℕ) → long_fits d ≡ true → (d ≡ None → is_signed 32 64 v ≡ true) → long_fits (known_as v d) ≡ true
fill_long v None h k = k refl
fill_long v (Some y) h k = h

rip_holds : (at : ℕ) (here : Position) (v : ℕ) (d : Option ℕ) → field_holds (moved_field at here (from_rip d)) v ≡ true → d ≡ None → is_signed 32 64 v ≡ true
rip_holds at here v None h e = h
rip_holds at here v (Some y) h e = cc

bare_holds : (at : ℕ) (here : Position) (v : ℕ) (i : Index) (d : Option ℕ) → field_holds (moved_field at here (bare i d)) v ≡ true → d ≡ None → is_signed 32 64 v ≡ true
bare_holds at here v i None h e = h
bare_holds at here v i (Some y) h e = cc

based_holds : (at : ℕ) (here : Position) (v b : ℕ) (i : Index) (s : Bool) (w : Width) (d : Option ℕ) → field_holds (moved_field at here (based b i s w d)) v ≡ true → d ≡ None → is_signed 32 64 v ≡ true
based_holds at here v b i s w None h e = h
based_holds at here v b i s w (Some y) h e = cc

fill_some_place : (at : ℕ) (here : Position) (v : ℕ) (p : Location) → some_place_fits p ≡ true → field_holds (moved_field at here p) v ≡ true → some_place_fits (fill_place v p) ≡ true
fill_some_place at here v nowhere h k = cc
fill_some_place at here v (direct n) h k = h
fill_some_place at here v (from_rip d) h k = fill_long v d h (rip_holds at here v d k)
fill_some_place at here v (bare i d) h k = let q = and_parts (index_fits i) (long_fits d) h in and_from _ _ q.0 (fill_long v d q.1 (bare_holds at here v i d k))
fill_some_place at here v (based b i s w d) h k =
    let p = and_parts (nat_lt b 16) (index_fits i && (sib_fits s i b && (mode_fits w b && displacement_fits w d))) h in
    let q = and_parts (index_fits i) (sib_fits s i b && (mode_fits w b && displacement_fits w d)) p.1 in
    let r = and_parts (sib_fits s i b) (mode_fits w b && displacement_fits w d) q.1 in
    let t = and_parts (mode_fits w b) (displacement_fits w d) r.1 in
    and_from _ _ p.0 (and_from _ _ q.0 (and_from _ _ r.0 (and_from _ _ t.0 (fill_width w v d t.1 (based_holds at here v b i s w d k)))))

rm_fill : (m : Rm) (v : ℕ) (p : Location) → rm_fits m p ≡ true → rm_fits m (fill_place v p) ≡ true
rm_fill rm.Any v p h = refl
rm_fill rm.Memory v p h = fill_memory v p ∙ h
rm_fill rm.Register v p h = ap not (fill_memory v p) ∙ h

nowhere_fill : (v : ℕ) (p : Location) → is_nowhere p ≡ true → is_nowhere (fill_place v p) ≡ true
nowhere_fill v nowhere h = refl
nowhere_fill v (direct n) h = cc
nowhere_fill v (from_rip d) h = cc
nowhere_fill v (bare i d) h = cc
nowhere_fill v (based b i s w d) h = cc

place_fill : (at : ℕ) (here : Position) (v : ℕ) (m : Shape) (p : Location) → place_fits m p ≡ true → field_holds (moved_field at here p) v ≡ true → place_fits m (fill_place v p) ≡ true
place_fill at here v shape.Plain p h k = nowhere_fill v p h
place_fill at here v shape.Low p h k = nowhere_fill v p h
place_fill at here v shape.LowNotFirst p h k = nowhere_fill v p h
place_fill at here v (shape.Fixed b) p h k = nowhere_fill v p h
place_fill at here v (shape.Digit d m) p h k = let q = and_parts (some_place_fits p) (rm_fits m p) h in and_from _ _ (fill_some_place at here v p q.0 k) (rm_fill m v p q.1)
place_fill at here v (shape.Slash m) p h k = let q = and_parts (some_place_fits p) (rm_fits m p) h in and_from _ _ (fill_some_place at here v p q.0 k) (rm_fill m v p q.1)

pub memory_prefix : (e : Repeat) (a : Words) (q : Prefix) (s : Option Segment) (p t : Location) → is_memory p ≡ is_memory t → prefix_fits e a q s p ≡ prefix_fits e a q s t
memory_prefix e a prefix.Absent s p t h = refl
memory_prefix e a prefix.Lock s p t h = ap (λ (x : Bool). may_lock a && x) h
memory_prefix e a prefix.Rep s p t h = refl
memory_prefix e a prefix.Repe s p t h = refl
memory_prefix e a prefix.Repne s p t h = refl
memory_prefix e a prefix.Notrack s p t h = refl

words_fill : (e : Repeat) (a : Words) (q : Prefix) (s : Option Segment) (v : ℕ) (p : Location) → prefix_fits e a q s p ≡ true → prefix_fits e a q s (fill_place v p) ≡ true
words_fill e a q s v p h = memory_prefix e a q s (fill_place v p) p (fill_memory v p) ∙ h

segment_fill : (s : Option Segment) (v : ℕ) (p : Location) → segment_fits s p ≡ true → segment_fits s (fill_place v p) ≡ true
segment_fill None v p h = refl
segment_fill (Some s) v p h = fill_memory v p ∙ h

-- what an immediate holds of a number
abbrev pub lowered : Immediate → ℕ → ℕ
lowered immediate.Absent w = w
lowered immediate.Byte w = w % 2 ^ 8
lowered immediate.Count w = w
lowered immediate.Sext16 w = w
lowered immediate.Sext32 w = w
lowered immediate.Sext64 w = w
lowered immediate.Word w = w % 2 ^ 16
lowered immediate.Long w = w % 2 ^ 32
lowered immediate.LongSext w = w
lowered immediate.Quad w = w % 2 ^ 64
lowered immediate.Rel8 w = w
lowered immediate.Short w = w
lowered immediate.Rel32 w = w

lower_byte : (w : ℕ) → nat_lt (w % 2 ^ 8) (2 ^ 8) ≡ true
lower_byte w = lt-ltb (w % 2 ^ 8) (2 ^ 8) (omega arith)

lower_word : (w : ℕ) → nat_lt (w % 2 ^ 16) (2 ^ 16) ≡ true
lower_word w = lt-ltb (w % 2 ^ 16) (2 ^ 16) (omega arith)

lower_long : (w : ℕ) → nat_lt (w % 2 ^ 32) (2 ^ 32) ≡ true
lower_long w = lt-ltb (w % 2 ^ 32) (2 ^ 32) (omega arith)

lower_quad : (w : ℕ) → nat_lt (w % 2 ^ 64) (2 ^ 64) ≡ true
lower_quad w = lt-ltb (w % 2 ^ 64) (2 ^ 64) (omega arith)

pub held_fill : (at : ℕ) (here : Position) (w : ℕ) (i : Immediate) (d : Option ℕ) → immediate_fits i d ≡ true → field_holds (held_field at here i d) w ≡ true → immediate_fits i (known_as (lowered i w) d) ≡ true
held_fill at here w i (Some y) h k = h
held_fill at here w immediate.Absent None h k = cc
held_fill at here w immediate.Byte None h k = lower_byte w
held_fill at here w immediate.Count None h k = cc
held_fill at here w immediate.Sext16 None h k = cc
held_fill at here w immediate.Sext32 None h k = cc
held_fill at here w immediate.Sext64 None h k = cc
held_fill at here w immediate.Word None h k = lower_word w
held_fill at here w immediate.Long None h k = lower_long w
held_fill at here w immediate.LongSext None h k = k
held_fill at here w immediate.Quad None h k = lower_quad w
held_fill at here w immediate.Rel8 None h k = k
held_fill at here w immediate.Short None h k = cc
held_fill at here w immediate.Rel32 None h k = k

wants_fill : (v w : ℕ) (p : Fields) (q : Pattern) → wants_rex (fill v w p) q ≡ wants_rex p q
wants_fill v w p pattern.Absent = refl
wants_fill v w p (pattern.RegMem c n) = ap (λ (b : Bool). is_byte c && b) (fill_middle v p.place)
wants_fill v w p (pattern.Reg c) = refl
wants_fill v w p (pattern.Low c) = refl
wants_fill v w p (pattern.Accumulator c) = refl
wants_fill v w p pattern.Cl = refl
wants_fill v w p pattern.One = refl
wants_fill v w p pattern.Immediate = refl
wants_fill v w p pattern.Target = refl

rex_fill : (v w : ℕ) (r : Row) (p : Fields) → rex_fits r p ≡ true → rex_fits r (fill v w p) ≡ true
rex_fill v w r p h = rw (fill_bits v w r p, wants_fill v w p r.first, wants_fill v w p r.second, wants_fill v w p r.third) h

-- filled fields fit
pub fill_fits : (at be : ℕ) (here there : Position) (v w : ℕ) (r : Row) (p : Fields) → fits r p ≡ true → field_holds (moved_field at here p.place) v ≡ true → field_holds (held_field be there r.immediate p.held) w ≡ true
    → fits r (fill v (lowered r.immediate w) p) ≡ true
unfolding fits fields_fit
fill_fits at be here there v w r p h k l =
    let f = fit_of r p h in
    let z = leb-true (length (bytes_of r p)) 15 (fit_size r p h) in
    let same = fill_same_length v (lowered r.immediate w) r p in
    and_from _ _ (and_from _ _ (words_fill r.lead.repeat r.words p.«prefix» p.segment v p.place f.words) (and_from _ _ (segment_fill p.segment v p.place f.segment)
    (and_from _ _ f.reg (and_from _ _ f.low (and_from _ _ (place_fill at here v r.shape p.place f.place k) (and_from _ _ (held_fill be there w r.immediate p.held f.held l) (rex_fill v (lowered r.immediate w) r p f.rex)))))))
    (le-leb (length (bytes_of r (fill v (lowered r.immediate w) p))) 15 (omega arith))

pub known_held : (w : ℕ) (d : Option ℕ) → is_known (known_as w d) ≡ true
known_held w None = refl
known_held w (Some v) = refl

rip_known : (v : ℕ) (d : Option ℕ) → is_known_place (from_rip (known_as v d)) ≡ true
rip_known v None = refl
rip_known v (Some x) = refl

bare_known : (v : ℕ) (i : Index) (d : Option ℕ) → is_known_place (bare i (known_as v d)) ≡ true
bare_known v i None = refl
bare_known v i (Some x) = refl

based_known : (v b : ℕ) (i : Index) (s : Bool) (w : Width) (d : Option ℕ) → is_known_place (based b i s w (known_as v d)) ≡ true
based_known v b i s w None = refl
based_known v b i s w (Some x) = refl

pub known_place : (v : ℕ) (p : Location) → is_known_place (fill_place v p) ≡ true
known_place v nowhere = refl
known_place v (direct n) = refl
known_place v (from_rip d) = rip_known v d
known_place v (bare i d) = bare_known v i d
known_place v (based b i s w d) = based_known v b i s w d
