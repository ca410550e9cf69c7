-- The fields that are read from the bytes of a row and fields that fit it are these fields.
use Rattle.std.proofs.Common.{◌≡◌, ◌<◌, ℕ, ◌+◌, ◌-◌, ◌*◌, ◌/◌, ◌%◌, ◌==◌, nat_lt, List, ◌++◌, Bool, true, false, not, Option, Some, None, refl, arith, append_assoc}
use Rattle.std.proofs.lemmas.Bool.{eqb-true, ltb-true, and_parts}
use Rattle.x86_table.specs.declared.forms.Shape.{Shape}
use Rattle.x86_table.specs.declared.forms.Shape.TheVariants as shape
use Rattle.x86_table.specs.declared.forms.Row.{Row}
use Rattle.x86_table.specs.Fields.{Fields, nowhere}
use Rattle.x86_table.specs.Bytes.{bit, rex_bits, place_x, place_b, mod_of, rm_of, place_bytes, modrm_bytes, immediate_bytes}
use Rattle.x86_table.specs.Fits.{reg_fits, low_fits, place_fits, some_place_fits, rm_fits, immediate_fits, is_nowhere}
use Rattle.x86_table.specs.Reads.{is_known, is_known_place}
use Rattle.x86_decode.specs.Heads.{Head}
use Rattle.x86_decode.specs.Places.{place_in}
use Rattle.x86_decode.specs.FieldReadings.{is_bare, segment_in, prefix_in, Shaped, shaped, reg_in, modrm_shaped, with_shaped, fields_in}
use Rattle.x86_decode.proofs.FieldFacts.{Fit, absent, no_bits, mod_of_place, rex_premise}
use Rattle.x86_decode.proofs.HeadBytes.{behind_opcode, head_with}
use Rattle.x86_decode.proofs.PlaceBytes.{place_read}
use Rattle.x86_decode.proofs.ImmediateBytes.{immediate_read}
use Rattle.x86_decode.proofs.PrefixBytes.{rex_read, bare_rex_read, segment_read, word_read}

-- what a row's shape shows of fields that fit
abbrev pub held : Fields → List ℕ → Shaped
held p xs = record { reg = p.reg; low = p.low; place = p.place; rest = xs }

pub nothing_held : (p : Fields) (xs : List ℕ) → p.reg ≡ 0 → p.low ≡ 0 → is_nowhere p.place ≡ true → record { reg = 0; low = 0; place = nowhere; rest = xs } ≡ held p xs
nothing_held p xs r l n = rw (r, l, absent p.place n) refl

pub low_held : (p : Fields) (w : ℕ) (xs : List ℕ) → p.reg ≡ 0 → is_nowhere p.place ≡ true → w ≡ p.low → record { reg = 0; low = w; place = nowhere; rest = xs } ≡ held p xs
low_held p w xs r n l = rw (r, l, absent p.place n) refl

reg_read : (m k reg x : ℕ) → k < 8 → reg < 16 → x ≡ reg / 8 → (64 * m + 8 * (reg % 8) + k) / 8 % 8 + 8 * x ≡ reg
reg_read m k reg x l f e = omega arith

pub modrm_held : (p : Fields) (x r b : ℕ) (xs : List ℕ) → some_place_fits p.place ≡ true → is_known_place p.place ≡ true → p.reg < 16 → p.low ≡ 0
    → r ≡ p.reg / 8 → x ≡ place_x p.place → b ≡ place_b p.place
    → modrm_shaped (reg_in r (place_bytes (p.reg % 8) p.place ++ xs)) (place_in x b (place_bytes (p.reg % 8) p.place ++ xs)) ≡ held p xs
modrm_held p x r b xs f k g l er ex eb =
    let m = mod_of_place p.place f in
    let below = m.rm_below in
    rw (ex, eb, place_read p.place (p.reg % 8) xs f k (omega arith), reg_read (mod_of p.place) (rm_of p.place) p.reg r below g er, l) refl

-- the bits of REX are those of the registers
pub record IsRex (p : Fields) (v : ℕ) : Type 0 where
  pub b : v % 2 ≡ place_b p.place + p.low / 8
  pub x : v / 2 % 2 ≡ place_x p.place
  pub r : v / 4 % 2 ≡ p.reg / 8

bits_are : (w r x b : ℕ) → w < 2 → r < 2 → x < 2 → b < 2 → ((8 * w + 4 * r + 2 * x + b) % 2 ≡ b) × ((8 * w + 4 * r + 2 * x + b) / 2 % 2 ≡ x) × ((8 * w + 4 * r + 2 * x + b) / 4 % 2 ≡ r)
bits_are w r x b hw hr hx hb = (omega arith, omega arith, omega arith)

pub one_bit : (b : Bool) → bit b < 2
one_bit true = omega arith
one_bit false = omega arith

pub is_rex : (r : Row) (p : Fields) → Fit r p → IsRex p (rex_bits r p)
unfolding rex_bits
is_rex r p f =
    let g = f.narrow.reg in
    let e = bits_are (bit r.lead.wide) (p.reg / 8) (place_x p.place) (place_b p.place + p.low / 8) (one_bit r.lead.wide) (omega arith) f.narrow.x f.narrow.b in
    record { b = e.0; x = e.1; r = e.2 }

low_read : (p : Fields) (v : ℕ) → is_nowhere p.place ≡ true → p.low < 16 → v % 2 ≡ place_b p.place + p.low / 8 → p.low % 8 + 8 * (v % 2) ≡ p.low
low_read p v n l e = let z = no_bits p.place n in omega arith

no_low : (p : Fields) (v : ℕ) → p.low ≡ 0 → v % 2 ≡ place_b p.place + p.low / 8 → v % 2 ≡ place_b p.place
no_low p v l e = omega arith

pub shape_read : (m : Shape) (p : Fields) (v : ℕ) (xs : List ℕ) → p.reg < 16 → reg_fits m p.reg ≡ true → low_fits m p.low ≡ true → place_fits m p.place ≡ true → is_known_place p.place ≡ true
    → IsRex p v → shaped m (p.low % 8) v (modrm_bytes m (p.reg % 8) p.place ++ xs) ≡ held p xs
shape_read shape.Plain p v xs n g l f k x = nothing_held p xs (eqb-true p.reg 0 g) (eqb-true p.low 0 l) f
shape_read shape.Low p v xs n g l f k x = low_held p _ xs (eqb-true p.reg 0 g) f (low_read p v f (ltb-true p.low 16 l) x.b)
shape_read shape.LowNotFirst p v xs n g l f k x =
    low_held p _ xs (eqb-true p.reg 0 g) f (low_read p v f (ltb-true p.low 16 (and_parts (nat_lt p.low 16) (not (p.low == 0)) l).0) x.b)
shape_read (shape.Fixed b) p v xs n g l f k x = nothing_held p xs (eqb-true p.reg 0 g) (eqb-true p.low 0 l) f
shape_read (shape.Digit d m) p v xs n g l f k x =
    let low = eqb-true p.low 0 l in
    modrm_held p (v / 2 % 2) (v / 4 % 2) (v % 2) xs (and_parts (some_place_fits p.place) (rm_fits m p.place) f).0 k n low x.r x.x (no_low p v low x.b)
shape_read (shape.Slash m) p v xs n g l f k x =
    let low = eqb-true p.low 0 l in
    modrm_held p (v / 2 % 2) (v / 4 % 2) (v % 2) xs (and_parts (some_place_fits p.place) (rm_fits m p.place) f).0 k n low x.r x.x (no_low p v low x.b)

held_read : (r : Row) (h : Head) (p : Fields) (v : Option ℕ) (xs : List ℕ) → is_known v ≡ true → immediate_fits r.immediate v ≡ true → p.held ≡ v
    → prefix_in r.lead.repeat r.words h.first h.repeat h.lock ≡ p.«prefix» → segment_in h.first ≡ p.segment → is_bare h.rex ≡ p.bare_rex
    → with_shaped r h (held p (immediate_bytes r.immediate v ++ xs)) ≡ p
held_read r h p None xs k f e q s b = cc
held_read r h p (Some v) xs k f e q s b = rw (immediate_read r.immediate v xs f, q, s, b, ← e) refl

-- the fields of a row's bytes are read back
pub fields_read : (r : Row) (p : Fields) (more : List ℕ) → Fit r p → is_known p.held ≡ true → is_known_place p.place ≡ true
    → fields_in r (head_with r p (behind_opcode r p ++ more)) (r.code + p.low % 8) (behind_opcode r p ++ more) ≡ p
unfolding fields_in behind_opcode
fields_read r p more f kh kp =
    let below = f.bits in
    let above : r.code + p.low % 8 - r.code ≡ p.low % 8 = omega arith in
    let s = shape_read r.shape p (rex_bits r p) (immediate_bytes r.immediate p.held ++ more) f.narrow.reg f.reg f.low f.place kp (is_rex r p f) in
    rw (above, rex_read (rex_bits r p) p.bare_rex below, append_assoc, s)
    (held_read r (head_with r p (behind_opcode r p ++ more)) p p.held more kh f.imm refl (word_read r.lead.repeat r.words p.«prefix» p.segment p.place f.words)
    (segment_read p.segment p.«prefix») (bare_rex_read (rex_bits r p) p.bare_rex below (rex_premise r p f.rex)))
