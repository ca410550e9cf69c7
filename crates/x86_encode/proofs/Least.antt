-- The fields with the least place: they fit, and have fewer bytes or are the same.
use Rattle.std.proofs.Common.{◌≡◌, ◌<◌, ◌+◌, ◌%◌, ◌==◌, ◌&&◌, ◌⊎◌, ◌∷◌, ◌++◌, ◌∙◌, if◌then◌else◌, Bool, List, None, Option, Some, ap, arith, false, inl, inr, length, nat_le, nat_lt, not, refl, true, ℕ}
use Rattle.std.proofs.lemmas.Bool.{eqb-true, not-true, leb-true, le-leb, and_parts, and_from}
use Rattle.std.proofs.Math.ListN.{length-append}
use Rattle.x86_insn.specs.declared.insns.Segment.{Segment}
use Rattle.x86_insn.specs.declared.insns.Index.{Index}
use Rattle.x86_insn.specs.declared.insns.Prefix.{Prefix}
use Rattle.x86_table.specs.declared.forms.Row.{Row}
use Rattle.x86_table.specs.declared.forms.Repeat.{Repeat}
use Rattle.x86_table.specs.declared.forms.Rm.{Rm}
use Rattle.x86_table.specs.declared.forms.Shape.{Shape}
use Rattle.x86_table.specs.declared.forms.Pattern.{Pattern}
use Rattle.x86_table.specs.declared.forms.Words.{Words}
use Rattle.x86_table.specs.declared.parts.Width.{Width}
use Rattle.x86_insn.specs.declared.insns.Index.TheVariants as index
use Rattle.x86_table.specs.declared.forms.Pattern.TheVariants as pattern
use Rattle.x86_insn.specs.declared.insns.Prefix.TheVariants as prefix
use Rattle.x86_table.specs.declared.forms.Rm.TheVariants as rm
use Rattle.x86_table.specs.declared.forms.Shape.TheVariants as shape
use Rattle.x86_table.specs.declared.parts.Width.TheVariants as width
use Rattle.x86_table.specs.Bytes.{opt, first_byte, size_byte, repeat_byte, lock_byte, place_x, place_b, rex_bits, rex_byte, escape_byte, second_escape, displacement_bytes, based_sib, place_bytes, modrm_bytes, immediate_bytes, bytes_of}
use Rattle.x86_table.specs.Fields.{Location, nowhere, direct, from_rip, bare, based, Fields}
use Rattle.x86_table.specs.Fits.{is_signed, displacement_fits, index_fits, sib_fits, mode_fits, some_place_fits, is_memory, rm_fits, is_nowhere, place_fits, is_byte, is_middle_place, wants_rex, rex_fits, segment_fits, may_lock, prefix_fits, fields_fit, fits}
use Rattle.x86_parts.specs.Building.{needs_sib, least_width}
use Rattle.x86_encode.proofs.Fitted.{Fit, fit_of, fit_size}

-- THE LEAST PLACE

-- a place with no more bytes than it needs
abbrev pub least : Location → Location
least nowhere = nowhere
least (direct n) = direct n
least (from_rip d) = from_rip d
least (bare i d) = bare i d
least (based b i s w d) = based b i (needs_sib i b) (least_width b d) d

-- the fields with that place
abbrev pub relaid : Fields → Fields
relaid p = record { «prefix» = p.«prefix»; segment = p.segment; bare_rex = p.bare_rex; reg = p.reg; low = p.low; place = least p.place; held = p.held }

least_x : (p : Location) → place_x (least p) ≡ place_x p
least_x nowhere = refl
least_x (direct n) = refl
least_x (from_rip d) = refl
least_x (bare i d) = refl
least_x (based b i s w d) = refl

least_b : (p : Location) → place_b (least p) ≡ place_b p
least_b nowhere = refl
least_b (direct n) = refl
least_b (from_rip d) = refl
least_b (bare i d) = refl
least_b (based b i s w d) = refl

least_memory : (p : Location) → is_memory (least p) ≡ is_memory p
least_memory nowhere = refl
least_memory (direct n) = refl
least_memory (from_rip d) = refl
least_memory (bare i d) = refl
least_memory (based b i s w d) = refl

least_middle : (p : Location) → is_middle_place (least p) ≡ is_middle_place p
least_middle nowhere = refl
least_middle (direct n) = refl
least_middle (from_rip d) = refl
least_middle (bare i d) = refl
least_middle (based b i s w d) = refl

pub relaid_bits : (r : Row) (p : Fields) → rex_bits r (relaid p) ≡ rex_bits r p
unfolding rex_bits
relaid_bits r p = rw (least_x p.place, least_b p.place) refl

-- which displacement is the least, by two tests
abbrev by_tests : Bool → Bool → Width
by_tests a b = if a then width.Absent else (if b then width.Byte else width.Long)

-- a width in which the displacement fits, with no more bytes than another one
record Widths (w d : Width) (v : ℕ) (b : ℕ) : Type 0 where
  fits : displacement_fits d (Some v) ≡ true
  mode : mode_fits d b ≡ true
  size : (d ≡ w) ⊎ (length (displacement_bytes d (Some v)) < length (displacement_bytes w (Some v)))

zero_short : (v : ℕ) → (v == 0) ≡ true → is_signed 8 64 v ≡ true
zero_short v h = let e = eqb-true v 0 h in rw e refl

widths : (w : Width) (v b : ℕ) (x y : Bool) → ((v == 0) && not (b % 8 == 5)) ≡ x → is_signed 8 64 v ≡ y → mode_fits w b ≡ true → displacement_fits w (Some v) ≡ true → Widths w (by_tests x y) v b
widths width.Absent v b true y e f m h = let p = and_parts _ _ e in record { fits = p.0; mode = p.1; size = inl refl }
widths width.Absent v b false y e f m h = (let t = and_from _ _ h m in cc)
widths width.Byte v b true y e f m h = let p = and_parts _ _ e in record { fits = p.0; mode = p.1; size = inr (omega arith) }
widths width.Byte v b false true e f m h = record { fits = f; mode = refl; size = inl refl }
widths width.Byte v b false false e f m h = cc
widths width.Long v b true y e f m h = let p = and_parts _ _ e in record { fits = p.0; mode = p.1; size = inr (omega arith) }
widths width.Long v b false true e f m h = record { fits = f; mode = refl; size = inr (omega arith) }
widths width.Long v b false false e f m h = record { fits = h; mode = refl; size = inl refl }

-- the least width of a displacement, which fits with no more bytes than another one
record LeastWidth (w : Width) (d : Option ℕ) (b : ℕ) : Type 0 where
  fits : displacement_fits (least_width b d) d ≡ true
  mode : mode_fits (least_width b d) b ≡ true
  size : (least_width b d ≡ w) ⊎ (length (displacement_bytes (least_width b d) d) < length (displacement_bytes w d))

least_widths : (w : Width) (d : Option ℕ) (b : ℕ) → mode_fits w b ≡ true → displacement_fits w d ≡ true → LeastWidth w d b
least_widths width.Absent None b m h = cc
least_widths width.Byte None b m h = cc
least_widths width.Long None b m h = record { fits = refl; mode = refl; size = inl refl }
least_widths w (Some v) b m h =
    let d = widths w v b ((v == 0) && not (b % 8 == 5)) (is_signed 8 64 v) refl refl m h in
    record { fits = d.fits; mode = d.mode; size = d.size }

-- the least form of SIB, which fits with no more bytes than another one
record LeastSib (s : Bool) (i : Index) (b : ℕ) : Type 0 where
  fits : sib_fits (needs_sib i b) i b ≡ true
  size : (needs_sib i b ≡ s) ⊎ (length (based_sib (needs_sib i b) i b) < length (based_sib s i b))

sib_tests : (s x : Bool) (b : ℕ) → (b % 8 == 4) ≡ x → sib_fits s index.Absent b ≡ true → (sib_fits x index.Absent b ≡ true) × ((x ≡ s) ⊎ (length (based_sib x index.Absent b) < length (based_sib s index.Absent b)))
sib_tests true true b e h = (refl, inl refl)
sib_tests true false b e h = (rw e refl, inr (omega arith))
sib_tests false true b e h = (let t = not-true (b % 8 == 4) h in cc)
sib_tests false false b e h = (h, inl refl)

least_sib : (s : Bool) (i : Index) (b : ℕ) → sib_fits s i b ≡ true → LeastSib s i b
least_sib s index.Absent b h = let p = sib_tests s (b % 8 == 4) b refl h in record { fits = p.0; size = p.1 }
least_sib true (index.By i t) b h = record { fits = refl; size = inl refl }
least_sib false (index.By i t) b h = cc

-- a place with the least form fits, and has fewer bytes or is the same
pub record LeastPlace (reg : ℕ) (p : Location) : Type 0 where
  pub fits : some_place_fits (least p) ≡ true
  pub size : (least p ≡ p) ⊎ (length (place_bytes reg (least p)) < length (place_bytes reg p))

longer : (x y : ℕ) (a b c d : List ℕ) → length a + length c < length b + length d → length (x ∷ (a ++ c)) < length (y ∷ (b ++ d))
longer x y a b c d h = omega (arith, length-append a c, length-append b d)

based_size : (reg b : ℕ) (i : Index) (s t : Bool) (w v : Width) (d : Option ℕ) → (t ≡ s) ⊎ (length (based_sib t i b) < length (based_sib s i b))
    → (v ≡ w) ⊎ (length (displacement_bytes v d) < length (displacement_bytes w d))
    → (based b i t v d ≡ based b i s w d) ⊎ (length (place_bytes reg (based b i t v d)) < length (place_bytes reg (based b i s w d)))
based_size reg b i s t w v d (inl e) (inl f) = inl (rw (e, f) refl)
based_size reg b i s t w v d (inl e) (inr f) = inr (longer 0 0 (based_sib t i b) (based_sib s i b) (displacement_bytes v d) (displacement_bytes w d) (let k : length (based_sib t i b) ≡ length (based_sib s i b) = ap (λ (x : Bool). length (based_sib x i b)) e in omega arith))
based_size reg b i s t w v d (inr e) (inl f) = inr (longer 0 0 (based_sib t i b) (based_sib s i b) (displacement_bytes v d) (displacement_bytes w d) (let k : length (displacement_bytes v d) ≡ length (displacement_bytes w d) = ap (λ (x : Width). length (displacement_bytes x d)) f in omega arith))
based_size reg b i s t w v d (inr e) (inr f) = inr (longer 0 0 (based_sib t i b) (based_sib s i b) (displacement_bytes v d) (displacement_bytes w d) (omega arith))

pub least_place : (reg : ℕ) (p : Location) → some_place_fits p ≡ true → LeastPlace reg p
least_place reg nowhere h = cc
least_place reg (direct n) h = record { fits = h; size = inl refl }
least_place reg (from_rip d) h = record { fits = h; size = inl refl }
least_place reg (bare i d) h = record { fits = h; size = inl refl }
least_place reg (based b i s w d) h =
    let p = and_parts (nat_lt b 16) (index_fits i && (sib_fits s i b && (mode_fits w b && displacement_fits w d))) h in
    let q = and_parts (index_fits i) (sib_fits s i b && (mode_fits w b && displacement_fits w d)) p.1 in
    let r = and_parts (sib_fits s i b) (mode_fits w b && displacement_fits w d) q.1 in
    let t = and_parts (mode_fits w b) (displacement_fits w d) r.1 in
    let sb = least_sib s i b r.0 in
    let ds = least_widths w d b t.0 t.1 in
    record { fits = and_from _ _ p.0 (and_from _ _ q.0 (and_from _ _ sb.fits (and_from _ _ ds.mode ds.fits))); size = based_size reg b i s (needs_sib i b) w (least_width b d) d sb.size ds.size }

-- the least place, which fits the row with no more bytes than the one that it is made of
record LeastModrm (m : Shape) (reg : ℕ) (p : Location) : Type 0 where
  fits : place_fits m (least p) ≡ true
  size : (least p ≡ p) ⊎ (length (modrm_bytes m reg (least p)) < length (modrm_bytes m reg p))

least_nowhere : (p : Location) → is_nowhere p ≡ true → least p ≡ p
least_nowhere nowhere h = refl
least_nowhere (direct n) h = cc
least_nowhere (from_rip d) h = cc
least_nowhere (bare i d) h = cc
least_nowhere (based b i s w d) h = cc

rm_least : (m : Rm) (p : Location) → rm_fits m p ≡ true → rm_fits m (least p) ≡ true
rm_least rm.Any p h = refl
rm_least rm.Memory p h = least_memory p ∙ h
rm_least rm.Register p h = ap not (least_memory p) ∙ h

least_modrm : (m : Shape) (reg : ℕ) (p : Location) → place_fits m p ≡ true → LeastModrm m reg p
least_modrm shape.Plain reg p h = let e = least_nowhere p h in record { fits = rw e h; size = inl e }
least_modrm shape.Low reg p h = let e = least_nowhere p h in record { fits = rw e h; size = inl e }
least_modrm shape.LowNotFirst reg p h = let e = least_nowhere p h in record { fits = rw e h; size = inl e }
least_modrm (shape.Fixed b) reg p h = let e = least_nowhere p h in record { fits = rw e h; size = inl e }
least_modrm (shape.Digit d m) reg p h =
    let q = and_parts (some_place_fits p) (rm_fits m p) h in
    let l = least_place reg p q.0 in
    record { fits = and_from _ _ l.fits (rm_least m p q.1); size = l.size }
least_modrm (shape.Slash m) reg p h =
    let q = and_parts (some_place_fits p) (rm_fits m p) h in
    let l = least_place reg p q.0 in
    record { fits = and_from _ _ l.fits (rm_least m p q.1); size = l.size }

-- WHAT FITS, FITS WITH THE LEAST PLACE

words_least : (e : Repeat) (a : Words) (q : Prefix) (s : Option Segment) (p : Location) → prefix_fits e a q s p ≡ true → prefix_fits e a q s (least p) ≡ true
words_least e a prefix.Absent s p h = refl
words_least e a prefix.Lock s p h = let k = and_parts (may_lock a) (is_memory p) h in and_from _ _ k.0 (least_memory p ∙ k.1)
words_least e a prefix.Rep s p h = h
words_least e a prefix.Repe s p h = h
words_least e a prefix.Repne s p h = h
words_least e a prefix.Notrack s p h = h

segment_least : (s : Option Segment) (p : Location) → segment_fits s p ≡ true → segment_fits s (least p) ≡ true
segment_least None p h = refl
segment_least (Some s) p h = least_memory p ∙ h

wants_least : (p : Fields) (q : Pattern) → wants_rex (relaid p) q ≡ wants_rex p q
wants_least p pattern.Absent = refl
wants_least p (pattern.RegMem c n) = ap (λ (b : Bool). is_byte c && b) (least_middle p.place)
wants_least p (pattern.Reg c) = refl
wants_least p (pattern.Low c) = refl
wants_least p (pattern.Accumulator c) = refl
wants_least p pattern.Cl = refl
wants_least p pattern.One = refl
wants_least p pattern.Immediate = refl
wants_least p pattern.Target = refl

rex_least : (r : Row) (p : Fields) → rex_fits r p ≡ true → rex_fits r (relaid p) ≡ true
rex_least r p h = rw (relaid_bits r p, wants_least p r.first, wants_least p r.second, wants_least p r.third) h

-- the bytes, the tail apart
abbrev with_tail : Row → Fields → ℕ → List ℕ → List ℕ
with_tail r p bits t = opt (first_byte p.segment p.«prefix») ++ (opt (size_byte r.lead.operand_size) ++ (opt (repeat_byte r.lead.repeat p.«prefix») ++ (opt (lock_byte p.«prefix»)
    ++ (opt (rex_byte bits p.bare_rex) ++ (opt (escape_byte r.map) ++ (opt (second_escape r.map) ++ ((r.code + p.low % 8) ∷ t)))))))

before : (a t u : List ℕ) → length t < length u → length (a ++ t) < length (a ++ u)
before a t u h = omega (arith, length-append a t, length-append a u)

tail_longer : (r : Row) (p : Fields) (bits : ℕ) (t u : List ℕ) → length t < length u → length (with_tail r p bits t) < length (with_tail r p bits u)
tail_longer r p bits t u h =
    let b7 = before (opt (second_escape r.map)) ((r.code + p.low % 8) ∷ t) ((r.code + p.low % 8) ∷ u) (omega arith) in
    let b6 = before (opt (escape_byte r.map)) _ _ b7 in
    let b5 = before (opt (rex_byte bits p.bare_rex)) _ _ b6 in
    let b4 = before (opt (lock_byte p.«prefix»)) _ _ b5 in
    let b3 = before (opt (repeat_byte r.lead.repeat p.«prefix»)) _ _ b4 in
    let b2 = before (opt (size_byte r.lead.operand_size)) _ _ b3 in
    before (opt (first_byte p.segment p.«prefix»)) _ _ b2

spell_tail : (r : Row) (p : Fields) → bytes_of r p ≡ with_tail r p (rex_bits r p) (modrm_bytes r.shape (p.reg % 8) p.place ++ immediate_bytes r.immediate p.held)
unfolding bytes_of
spell_tail r p = refl

after : (a b t : List ℕ) → length a < length b → length (a ++ t) < length (b ++ t)
after a b t h = omega (arith, length-append a t, length-append b t)

whole : (p : Fields) → least p.place ≡ p.place → relaid p ≡ p
whole p e = rw e refl

pub relaid_size : (r : Row) (p : Fields) → Fit r p → (relaid p ≡ p) ⊎ (length (bytes_of r (relaid p)) < length (bytes_of r p))
relaid_size r p f =
    let l = least_modrm r.shape (p.reg % 8) p.place f.place in
    elim l.size [
      | inl e ↦ inl (whole p e)
      | inr lt ↦ inr (rw (spell_tail r p, spell_tail r (relaid p), relaid_bits r p)
          (tail_longer r p (rex_bits r p) (modrm_bytes r.shape (p.reg % 8) (least p.place) ++ immediate_bytes r.immediate p.held) (modrm_bytes r.shape (p.reg % 8) p.place ++ immediate_bytes r.immediate p.held) (after _ _ (immediate_bytes r.immediate p.held) lt)))
    ]

size_kept : (r : Row) (p : Fields) → Fit r p → nat_le (length (bytes_of r p)) 15 ≡ true → nat_le (length (bytes_of r (relaid p))) 15 ≡ true
size_kept r p f sz =
    let k = leb-true (length (bytes_of r p)) 15 sz in
    elim (relaid_size r p f) [
      | inl e ↦ rw e sz
      | inr lt ↦ le-leb (length (bytes_of r (relaid p))) 15 (omega arith)
    ]

pub relaid_fits : (r : Row) (p : Fields) → fits r p ≡ true → fits r (relaid p) ≡ true
unfolding fits fields_fit
relaid_fits r p h =
    let f = fit_of r p h in
    let l = least_modrm r.shape (p.reg % 8) p.place f.place in
    and_from _ _ (and_from _ _ (words_least r.lead.repeat r.words p.«prefix» p.segment p.place f.words) (and_from _ _ (segment_least p.segment p.place f.segment)
    (and_from _ _ f.reg (and_from _ _ f.low (and_from _ _ l.fits (and_from _ _ f.held (rex_least r p f.rex))))))) (size_kept r p f (fit_size r p h))
