-- Heads that are one are of rows that share a head.
use Rattle.std.proofs.Common.{◌≡◌, ◌<◌, ℕ, ◌+◌, ◌*◌, ◌/◌, ◌%◌, ◌==◌, ◌&&◌, ◌||◌, nat_lt, nat_le, List, ◌∷◌, ◌++◌, length, Bool, true, false, not, Option, Some, None, refl, arith, append_assoc, eq-eqb, sym, ap, ◌∙◌, inl, inr, subst}
use Rattle.std.proofs.lemmas.Bool.{eqb-true, eqb-false, not-true, ltb-true, leb-true, lt-ltb, le-leb, and_parts, and_from, ltb-false, cases_Bool}
use Rattle.x86_insn.specs.declared.insns.Index.{Index}
use Rattle.x86_insn.specs.declared.insns.Index.TheVariants as index
use Rattle.x86_table.specs.declared.forms.Repeat.{Repeat}
use Rattle.x86_table.specs.declared.forms.Rm.{Rm}
use Rattle.x86_table.specs.declared.forms.Rm.TheVariants as rm
use Rattle.x86_table.specs.declared.forms.Shape.{Shape}
use Rattle.x86_table.specs.declared.forms.Shape.TheVariants as shape
use Rattle.x86_table.specs.declared.forms.Words.{Words}
use Rattle.x86_table.specs.declared.forms.Row.{Row}
use Rattle.x86_table.specs.declared.parts.Width.{Width}
use Rattle.x86_table.specs.declared.parts.Width.TheVariants as width
use Rattle.x86_table.specs.Fields.{Location, Fields, nowhere, direct, from_rip, bare, based}
use Rattle.x86_table.specs.Bytes.{opt, first_byte, size_byte, repeat_byte, lock_byte, bit, index_high, place_x, place_b, rex_bits, rex_byte, escape_byte, second_escape, mode, mod_of, based_rm, rm_of, sib_bytes, place_displacement, place_bytes, modrm_bytes, immediate_bytes, bytes_of}
use Rattle.x86_table.specs.Fits.{index_fits, some_place_fits, is_memory, rm_fits, is_nowhere, place_fits, reg_fits, low_fits, immediate_fits, wants_rex, rex_fits, segment_fits, takes_none, prefix_fits, fields_fit, fits, scale_of, place_scale, AreBytes}
use Rattle.x86_table.specs.Heads.{takes_f2, takes_f3, map_number, span, is_left_out, share_opcode, share_rm, share_fixed, share_modrm, share_head, opcode_stands, row_stands}
use Rattle.x86_table.proofs.Peeling.{both, Guarded, above, peel, guard_size, guard_first, guard_rep, guard_lock, guard_rex, guard_opcode, size_same, Stands, stands, rex_same, byte_same, is_opcode, map_same}

-- the tests of what fits
pub record Fit (r : Row) (p : Fields) : Type 0 where
  pub words : prefix_fits r.lead.repeat r.words p.«prefix» p.segment p.place ≡ true
  pub segment : segment_fits p.segment p.place ≡ true
  pub reg : reg_fits r.shape p.reg ≡ true
  pub low : low_fits r.shape p.low ≡ true
  pub place : place_fits r.shape p.place ≡ true
  pub imm : immediate_fits r.immediate p.held ≡ true
  pub rex : rex_fits r p ≡ true

pub fit_of_fields : (r : Row) (p : Fields) → fields_fit r p ≡ true → Fit r p
unfolding fields_fit
fit_of_fields r p h =
    let b = and_parts _ _ h in
    let c = and_parts _ _ b.1 in
    let d = and_parts _ _ c.1 in
    let e = and_parts _ _ d.1 in
    let f = and_parts _ _ e.1 in
    let g = and_parts _ _ f.1 in
    record { words = b.0; segment = c.0; reg = d.0; low = e.0; place = f.0; imm = g.0; rex = g.1 }

pub fit_of : (r : Row) (p : Fields) → fits r p ≡ true → Fit r p
unfolding fits
fit_of r p h = fit_of_fields r p (and_parts _ _ h).0

pub fit_size : (r : Row) (p : Fields) → fits r p ≡ true → nat_le (length (bytes_of r p)) 15 ≡ true
unfolding fits
fit_size r p h = (and_parts _ _ h).1

pub reg_below : (m : Shape) (reg : ℕ) → reg_fits m reg ≡ true → reg < 16
reg_below shape.Plain reg h = let e = eqb-true reg 0 h in omega arith
reg_below shape.Low reg h = let e = eqb-true reg 0 h in omega arith
reg_below shape.LowNotFirst reg h = let e = eqb-true reg 0 h in omega arith
reg_below (shape.Fixed b) reg h = let e = eqb-true reg 0 h in omega arith
reg_below (shape.Digit d m) reg h =
    let p = both {a = reg == d} {b = nat_lt d 8} h in
    let e = eqb-true reg d p.0 in let l = ltb-true d 8 p.1 in omega arith
reg_below (shape.Slash m) reg h = ltb-true reg 16 h

index_below : (i : Index) → index_fits i ≡ true → index_high i < 2
index_below index.Absent h = omega arith
index_below (index.By i s) h = let p = both {a = nat_lt i 16} {b = not (i == 4) && nat_lt s 4} h in let l = ltb-true i 16 p.0 in omega arith

some_x_below : (p : Location) → some_place_fits p ≡ true → place_x p < 2
some_x_below nowhere h = omega arith
some_x_below (direct n) h = omega arith
some_x_below (from_rip d) h = omega arith
some_x_below (bare i d) h = index_below i (and_parts _ _ h).0
some_x_below (based b i s w d) h = index_below i (and_parts _ _ (and_parts _ _ h).1).0

some_b_below : (p : Location) → some_place_fits p ≡ true → place_b p < 2
some_b_below nowhere h = omega arith
some_b_below (direct n) h = let l = ltb-true n 16 h in omega arith
some_b_below (from_rip d) h = omega arith
some_b_below (bare i d) h = omega arith
some_b_below (based b i s w d) h = let l = ltb-true b 16 (and_parts _ _ h).0 in omega arith

pub absent : (p : Location) → is_nowhere p ≡ true → p ≡ nowhere
absent nowhere h = refl
absent (direct n) h = cc
absent (from_rip d) h = cc
absent (bare i d) h = cc
absent (based b i s w d) h = cc

pub no_x : (p : Location) → is_nowhere p ≡ true → (place_x p ≡ 0) × (place_b p ≡ 0)
no_x nowhere h = (refl, refl)
no_x (direct n) h = cc
no_x (from_rip d) h = cc
no_x (bare i d) h = cc
no_x (based b i s w d) h = cc

pub x_below : (m : Shape) (p : Location) → place_fits m p ≡ true → place_x p < 2
x_below shape.Plain p h = let e = no_x p h in omega arith
x_below shape.Low p h = let e = no_x p h in omega arith
x_below shape.LowNotFirst p h = let e = no_x p h in omega arith
x_below (shape.Fixed b) p h = let e = no_x p h in omega arith
x_below (shape.Digit d m) p h = some_x_below p (and_parts _ _ h).0
x_below (shape.Slash m) p h = some_x_below p (and_parts _ _ h).0

-- the two numbers that REX.B may be of: one of them is 0
pub record Sum (m : Shape) (p : Location) (low : ℕ) : Type 0 where
  pub below : place_b p + low / 8 < 2
  pub low_below : low < 16

pub sum_of : (m : Shape) (p : Location) (low : ℕ) → low_fits m low ≡ true → place_fits m p ≡ true → Sum m p low
sum_of shape.Plain p low h f = let e = no_x p f in let l = eqb-true low 0 h in record { below = omega arith; low_below = omega arith }
sum_of shape.Low p low h f = let e = no_x p f in let l = ltb-true low 16 h in record { below = omega arith; low_below = l }
sum_of shape.LowNotFirst p low h f =
    let e = no_x p f in
    let l = ltb-true low 16 (and_parts (nat_lt low 16) (not (low == 0)) h).0 in
    record { below = omega arith; low_below = l }
sum_of (shape.Fixed b) p low h f = let e = no_x p f in let l = eqb-true low 0 h in record { below = omega arith; low_below = omega arith }
sum_of (shape.Digit d m) p low h f = let e = some_b_below p (and_parts _ _ f).0 in let l = eqb-true low 0 h in record { below = omega arith; low_below = omega arith }
sum_of (shape.Slash m) p low h f = let e = some_b_below p (and_parts _ _ f).0 in let l = eqb-true low 0 h in record { below = omega arith; low_below = omega arith }

pub low_width : (m : Shape) (low : ℕ) → low_fits m low ≡ true → low % 8 < span m
low_width shape.Plain low h = let e = eqb-true low 0 h in omega arith
low_width shape.Low low h = omega arith
low_width shape.LowNotFirst low h = omega arith
low_width (shape.Fixed b) low h = let e = eqb-true low 0 h in omega arith
low_width (shape.Digit d m) low h = let e = eqb-true low 0 h in omega arith
low_width (shape.Slash m) low h = let e = eqb-true low 0 h in omega arith

-- what stands behind the opcode
unfoldable pub tail_of : Row → Fields → List ℕ
tail_of r p = modrm_bytes r.shape (p.reg % 8) p.place ++ immediate_bytes r.immediate p.held

pub record Head (r s : Row) (a b : Fields) (xs ys : List ℕ) : Type 0 where
  pub first : first_byte a.segment a.«prefix» ≡ first_byte b.segment b.«prefix»
  pub size : size_byte r.lead.operand_size ≡ size_byte s.lead.operand_size
  pub rep : repeat_byte r.lead.repeat a.«prefix» ≡ repeat_byte s.lead.repeat b.«prefix»
  pub lock : lock_byte a.«prefix» ≡ lock_byte b.«prefix»
  pub rex : rex_byte (rex_bits r a) a.bare_rex ≡ rex_byte (rex_bits s b) b.bare_rex
  pub map : r.map ≡ s.map
  pub code : r.code + a.low % 8 ≡ s.code + b.low % 8
  pub rest : xs ≡ ys

bit_below : (b : Bool) → bit b < 2
bit_below true = omega arith
bit_below false = omega arith

pub bits_below : (r : Row) (p : Fields) → Fit r p → rex_bits r p < 16
unfolding rex_bits
bits_below r p f =
    let a = reg_below r.shape p.reg f.reg in
    let b = x_below r.shape p.place f.place in
    let c = sum_of r.shape p.place p.low f.low f.place in
    let w = bit_below r.lead.wide in
    omega arith

scale_below : (i : Index) → index_fits i ≡ true → scale_of i < 4
scale_below index.Absent h = omega arith
scale_below (index.By i s) h = ltb-true s 4 (and_parts (not (i == 4)) (nat_lt s 4) (and_parts (nat_lt i 16) (not (i == 4) && nat_lt s 4) h).1).1

some_scale_below : (p : Location) → some_place_fits p ≡ true → place_scale p < 4
some_scale_below nowhere h = omega arith
some_scale_below (direct n) h = omega arith
some_scale_below (from_rip d) h = omega arith
some_scale_below (bare i d) h = scale_below i (and_parts _ _ h).0
some_scale_below (based b i s w d) h = scale_below i (and_parts _ _ (and_parts _ _ h).1).0

no_scale : (p : Location) → is_nowhere p ≡ true → place_scale p < 4
no_scale p h = let e : place_scale p ≡ 0 = ap place_scale (absent p h) in omega arith

place_scale_below : (m : Shape) (p : Location) → place_fits m p ≡ true → place_scale p < 4
place_scale_below shape.Plain p h = no_scale p h
place_scale_below shape.Low p h = no_scale p h
place_scale_below shape.LowNotFirst p h = no_scale p h
place_scale_below (shape.Fixed b) p h = no_scale p h
place_scale_below (shape.Digit d m) p h = some_scale_below p (and_parts _ _ h).0
place_scale_below (shape.Slash m) p h = some_scale_below p (and_parts _ _ h).0

-- fields that fit have bytes
pub are_bytes : (r : Row) (p : Fields) → row_stands r ≡ true → fields_fit r p ≡ true → AreBytes r p
are_bytes r p st h =
    let f = fit_of_fields r p h in
    let k = and_parts (opcode_stands r.map r.code (span r.shape)) (nat_le (r.code + span r.shape) 256) st in
    let l = leb-true (r.code + span r.shape) 256 k.1 in
    let n = low_width r.shape p.low f.low in
    record { bits = bits_below r p f; code = omega arith; scale = place_scale_below r.shape p.place f.place }

-- the bytes as a chain of bytes that may stand
abbrev pub chain : Row → Fields → List ℕ → List ℕ
chain r p xs = opt (first_byte p.segment p.«prefix») ++ (opt (size_byte r.lead.operand_size) ++ (opt (repeat_byte r.lead.repeat p.«prefix») ++ (opt (lock_byte p.«prefix»)
    ++ (opt (rex_byte (rex_bits r p) p.bare_rex) ++ (opt (escape_byte r.map) ++ (opt (second_escape r.map) ++ ((r.code + p.low % 8) ∷ xs)))))))

pub as_chain : (r : Row) (p : Fields) (xs : List ℕ) → bytes_of r p ++ xs ≡ chain r p (tail_of r p ++ xs)
unfolding bytes_of tail_of
as_chain r p xs = simp append_assoc

pub record Guards (r : Row) (p : Fields) (xs : List ℕ) : Type 0 where
  pub first : Guarded 1 (first_byte p.segment p.«prefix») (opt (size_byte r.lead.operand_size) ++ (opt (repeat_byte r.lead.repeat p.«prefix») ++ (opt (lock_byte p.«prefix») ++ (opt (rex_byte (rex_bits r p) p.bare_rex) ++ (opt (escape_byte r.map) ++ (opt (second_escape r.map) ++ ((r.code + p.low % 8) ∷ xs)))))))
  pub size : Guarded 2 (size_byte r.lead.operand_size) (opt (repeat_byte r.lead.repeat p.«prefix») ++ (opt (lock_byte p.«prefix») ++ (opt (rex_byte (rex_bits r p) p.bare_rex) ++ (opt (escape_byte r.map) ++ (opt (second_escape r.map) ++ ((r.code + p.low % 8) ∷ xs))))))
  pub rep : Guarded 3 (repeat_byte r.lead.repeat p.«prefix») (opt (lock_byte p.«prefix») ++ (opt (rex_byte (rex_bits r p) p.bare_rex) ++ (opt (escape_byte r.map) ++ (opt (second_escape r.map) ++ ((r.code + p.low % 8) ∷ xs)))))
  pub lock : Guarded 4 (lock_byte p.«prefix») (opt (rex_byte (rex_bits r p) p.bare_rex) ++ (opt (escape_byte r.map) ++ (opt (second_escape r.map) ++ ((r.code + p.low % 8) ∷ xs))))
  pub rex : Guarded 5 (rex_byte (rex_bits r p) p.bare_rex) (opt (escape_byte r.map) ++ (opt (second_escape r.map) ++ ((r.code + p.low % 8) ∷ xs)))
  pub escape : Guarded 6 (escape_byte r.map) (opt (second_escape r.map) ++ ((r.code + p.low % 8) ∷ xs))

pub guards : (r : Row) (p : Fields) (xs : List ℕ) → Fit r p → opcode_stands r.map r.code (span r.shape) ≡ true → Guards r p xs
guards r p xs f o =
    let escape = guard_opcode r.map r.code (span r.shape) (p.low % 8) xs o (low_width r.shape p.low f.low) in
    let rex = guard_rex (rex_bits r p) p.bare_rex _ (bits_below r p f) (above 6 5 _ _ (omega arith) escape) in
    let lock = guard_lock p.«prefix» _ (above 5 4 _ _ (omega arith) rex) in
    let rep = guard_rep r.lead.repeat p.«prefix» _ (above 4 3 _ _ (omega arith) lock) in
    let size = guard_size r.lead.operand_size _ (above 3 2 _ _ (omega arith) rep) in
    let first = guard_first p.segment p.«prefix» _ (above 2 1 _ _ (omega arith) size) in
    record { first = first; size = size; rep = rep; lock = lock; rex = rex; escape = escape }

pub head_of : (r s : Row) (a b : Fields) (p q : List ℕ) → Fit r a → Fit s b → opcode_stands r.map r.code (span r.shape) ≡ true → opcode_stands s.map s.code (span s.shape) ≡ true → bytes_of r a ++ p ≡ bytes_of s b ++ q → Head r s a b (tail_of r a ++ p) (tail_of s b ++ q)
head_of r s a b p q f g o u h =
    let x = guards r a (tail_of r a ++ p) f o in
    let y = guards s b (tail_of s b ++ q) g u in
    let joined : chain r a (tail_of r a ++ p) ≡ chain s b (tail_of s b ++ q) = sym (as_chain r a p) ∙ h ∙ as_chain s b q in
    let c1 = peel 1 _ _ _ _ x.first y.first joined in
    let c2 = peel 2 _ _ _ _ x.size y.size c1.1 in
    let c3 = peel 3 _ _ _ _ x.rep y.rep c2.1 in
    let c4 = peel 4 _ _ _ _ x.lock y.lock c3.1 in
    let c5 = peel 5 _ _ _ _ x.rex y.rex c4.1 in
    let c6 = peel 6 _ _ _ _ x.escape y.escape c5.1 in
    let c7 = map_same r.map s.map (r.code + a.low % 8) (s.code + b.low % 8) _ _ (is_opcode r.map r.code (span r.shape) (a.low % 8) o (low_width r.shape a.low f.low))
    (is_opcode s.map s.code (span s.shape) (b.low % 8) u (low_width s.shape b.low g.low)) c6.0 c6.1 in
    let c8 = byte_same _ _ _ _ c7.1 in
    record { first = c1.0; size = c2.0; rep = c3.0; lock = c4.0; rex = c5.0; map = c7.0; code = c8.0; rest = c8.1 }

eq_bits : (a b : Bool) → a ≡ b → (bit a == bit b) ≡ true
eq_bits a b e = eq-eqb (bit a) (bit b) (ap bit e)

-- a repeat byte that stands with both
none_first : (e f : Repeat) (a b : Words) → takes_none e ≡ true → takes_none f ≡ true
    → (takes_none e && takes_none f || (takes_f2 e a && takes_f2 f b || takes_f3 e a && takes_f3 f b)) ≡ true
none_first e f a b g h = rw (g, h) refl

or_second : (x y z : Bool) → y ≡ true → (x || (y || z)) ≡ true
or_second true y z h = refl
or_second false y z h = rw h refl

or_third : (x y z : Bool) → z ≡ true → (x || (y || z)) ≡ true
or_third true y z h = refl
or_third false true z h = refl
or_third false false z h = h

pub some_is : {A : Type 0} {m n : A} → Some m ≡ Some n → m ≡ n
some_is h = cc

clash : (o : Option ℕ) (m n : ℕ) → o ≡ Some m → o ≡ Some n → m ≡ n
clash o m n a b = some_is (sym a ∙ b)

clash_none : (o : Option ℕ) (n : ℕ) → o ≡ None → o ≡ Some n → ⊥
clash_none o n a b = cc

repeat_shared : (o : Option ℕ) (e f : Repeat) (a b : Words) → Stands o e a → Stands o f b
    → (takes_none e && takes_none f || (takes_f2 e a && takes_f2 f b || takes_f3 e a && takes_f3 f b)) ≡ true
repeat_shared o e f a b (inl g) (inl h) = none_first e f a b g.1 h.1
repeat_shared o e f a b (inl g) (inr (inl h)) = absurd (clash_none o 242 g.0 h.0)
repeat_shared o e f a b (inl g) (inr (inr h)) = absurd (clash_none o 243 g.0 h.0)
repeat_shared o e f a b (inr (inl g)) (inl h) = absurd (clash_none o 242 h.0 g.0)
repeat_shared o e f a b (inr (inl g)) (inr (inl h)) = or_second _ _ _ (and_from _ _ g.1 h.1)
repeat_shared o e f a b (inr (inl g)) (inr (inr h)) = (let n = clash o 242 243 g.0 h.0 in absurd (omega arith))
repeat_shared o e f a b (inr (inr g)) (inl h) = absurd (clash_none o 243 h.0 g.0)
repeat_shared o e f a b (inr (inr g)) (inr (inl h)) = (let n = clash o 243 242 g.0 h.0 in absurd (omega arith))
repeat_shared o e f a b (inr (inr g)) (inr (inr h)) = or_third _ _ _ (and_from _ _ g.1 h.1)

-- an opcode that a row leaves out for another is not the same byte with the same REX.B
not_left_out : (m n : Shape) (c d low other : ℕ) (p q : Location) → low_fits m low ≡ true → low_fits n other ≡ true → place_fits m p ≡ true → place_fits n q ≡ true
    → c + low % 8 ≡ d + other % 8 → place_b p + low / 8 ≡ place_b q + other / 8 → not (is_left_out m n && (c == d)) ≡ true
not_left_out shape.Plain shape.Plain c d low other p q f g pf qf e b = refl
not_left_out shape.Plain shape.Low c d low other p q f g pf qf e b = refl
not_left_out shape.Plain shape.LowNotFirst c d low other p q f g pf qf e b =
    let z = eqb-true low 0 f in
    let ne = eqb-false other 0 (not-true (other == 0) (and_parts (nat_lt other 16) (not (other == 0)) g).1) in
    let x = no_x p pf in
    let y = no_x q qf in
    elim (cases_Bool (c == d)) [
      | inl t ↦ (let same = eqb-true c d t in absurd (ne (omega arith)))
      | inr h ↦ rw h refl
    ]
not_left_out shape.Plain (shape.Fixed i) c d low other p q f g pf qf e b = refl
not_left_out shape.Plain (shape.Digit i j) c d low other p q f g pf qf e b = refl
not_left_out shape.Plain (shape.Slash i) c d low other p q f g pf qf e b = refl
not_left_out shape.Low n c d low other p q f g pf qf e b = refl
not_left_out shape.LowNotFirst shape.Plain c d low other p q f g pf qf e b =
    let z = eqb-true other 0 g in
    let ne = eqb-false low 0 (not-true (low == 0) (and_parts (nat_lt low 16) (not (low == 0)) f).1) in
    let x = no_x p pf in
    let y = no_x q qf in
    elim (cases_Bool (c == d)) [
      | inl t ↦ (let same = eqb-true c d t in absurd (ne (omega arith)))
      | inr h ↦ rw h refl
    ]
not_left_out shape.LowNotFirst shape.Low c d low other p q f g pf qf e b = refl
not_left_out shape.LowNotFirst shape.LowNotFirst c d low other p q f g pf qf e b = refl
not_left_out shape.LowNotFirst (shape.Fixed i) c d low other p q f g pf qf e b = refl
not_left_out shape.LowNotFirst (shape.Digit i j) c d low other p q f g pf qf e b = refl
not_left_out shape.LowNotFirst (shape.Slash i) c d low other p q f g pf qf e b = refl
not_left_out (shape.Fixed i) n c d low other p q f g pf qf e b = refl
not_left_out (shape.Digit i j) n c d low other p q f g pf qf e b = refl
not_left_out (shape.Slash i) n c d low other p q f g pf qf e b = refl

opcode_shared : (r s : Row) (a b : Fields) → Fit r a → Fit s b → r.map ≡ s.map → r.code + a.low % 8 ≡ s.code + b.low % 8
    → place_b a.place + a.low / 8 ≡ place_b b.place + b.low / 8 → share_opcode r s ≡ true
opcode_shared r s a b f g e h bit_b =
    let lj = low_width r.shape a.low f.low in
    let lk = low_width s.shape b.low g.low in
    and_from _ _ (eq-eqb (map_number r.map) (map_number s.map) (ap map_number e))
    (and_from _ _ (lt-ltb r.code (s.code + span s.shape) (omega arith))
    (and_from _ _ (lt-ltb s.code (r.code + span r.shape) (omega arith))
    (not_left_out r.shape s.shape r.code s.code a.low b.low a.place b.place f.low g.low f.place g.place h bit_b)))

-- mod, reg and rm are apart in a byte
pub record Mod (p : Location) : Type 0 where
  pub mod_below : mod_of p < 4
  pub rm_below : rm_of p < 8
  pub memory : is_memory p ≡ nat_lt (mod_of p) 3

mode_under : (w : Width) → mode w < 3
mode_under width.Absent = omega arith
mode_under width.Byte = omega arith
mode_under width.Long = omega arith

based_rm_below : (s : Bool) (b : ℕ) → based_rm s b < 8
based_rm_below true b = omega arith
based_rm_below false b = omega arith

pub mod_of_place : (p : Location) → some_place_fits p ≡ true → Mod p
mod_of_place nowhere h = cc
mod_of_place (direct n) h = record { mod_below = omega arith; rm_below = omega arith; memory = refl }
mod_of_place (from_rip d) h = record { mod_below = omega arith; rm_below = omega arith; memory = refl }
mod_of_place (bare i d) h = record { mod_below = omega arith; rm_below = omega arith; memory = refl }
mod_of_place (based b i s w d) h = let l = mode_under w in let k = based_rm_below s b in record { mod_below = omega arith; rm_below = k; memory = sym (lt-ltb (mode w) 3 l) }

parted : (m n r s k l : ℕ) → m < 4 → n < 4 → r < 8 → s < 8 → k < 8 → l < 8 → 64 * m + 8 * r + k ≡ 64 * n + 8 * s + l → (m ≡ n) × (r ≡ s) × (k ≡ l)
parted m n r s k l a b c d e f h = (omega arith, omega arith, omega arith)

pub record PlaceHead (p q : Location) (a b : ℕ) (xs ys : List ℕ) : Type 0 where
  pub mode : mod_of p ≡ mod_of q
  pub reg : a ≡ b
  pub rm : rm_of p ≡ rm_of q
  pub rest : sib_bytes p ++ (place_displacement p ++ xs) ≡ sib_bytes q ++ (place_displacement q ++ ys)

pub place_head : (p q : Location) (a b : ℕ) (xs ys : List ℕ) → some_place_fits p ≡ true → some_place_fits q ≡ true → a < 8 → b < 8
    → place_bytes a p ++ xs ≡ place_bytes b q ++ ys → PlaceHead p q a b xs ys
place_head p q a b xs ys f g la lb h =
    let x = mod_of_place p f in
    let y = mod_of_place q g in
    let heads = byte_same (64 * mod_of p + 8 * a + rm_of p) (64 * mod_of q + 8 * b + rm_of q) ((sib_bytes p ++ place_displacement p) ++ xs) ((sib_bytes q ++ place_displacement q) ++ ys) h in
    let e = parted (mod_of p) (mod_of q) a b (rm_of p) (rm_of q) x.mod_below y.mod_below la lb x.rm_below y.rm_below heads.0 in
    record { mode = e.0; reg = e.1; rm = e.2; rest = simp append_assoc at heads.1 }

same_memory : (p q : Location) → some_place_fits p ≡ true → some_place_fits q ≡ true → mod_of p ≡ mod_of q → is_memory p ≡ is_memory q
same_memory p q f g e = (mod_of_place p f).memory ∙ ap (λ (m : ℕ). nat_lt m 3) e ∙ sym ((mod_of_place q g).memory)

rm_shared : (m n : Rm) (p q : Location) → is_memory p ≡ is_memory q → rm_fits m p ≡ true → rm_fits n q ≡ true → share_rm m n ≡ true
rm_shared rm.Any n p q e f g = refl
rm_shared rm.Memory rm.Any p q e f g = refl
rm_shared rm.Register rm.Any p q e f g = refl
rm_shared rm.Memory rm.Memory p q e f g = refl
rm_shared rm.Register rm.Register p q e f g = refl
rm_shared rm.Memory rm.Register p q e f g = (let n = not-true (is_memory q) g in cc)
rm_shared rm.Register rm.Memory p q e f g = (let n = not-true (is_memory p) f in cc)

fixed_shared : (b d : ℕ) (m : Rm) (p : Location) → some_place_fits p ≡ true → rm_fits m p ≡ true → d < 8 → b ≡ 64 * mod_of p + 8 * d + rm_of p → share_fixed b d m ≡ true
fixed_shared b d rm.Any p f g l e =
    let x = mod_of_place p f in let y = x.mod_below in let z = x.rm_below in
    eq-eqb (b / 8 % 8) d (omega arith)
fixed_shared b d rm.Memory p f g l e =
    let x = mod_of_place p f in let y = x.mod_below in let z = x.rm_below in
    let under = ltb-true (mod_of p) 3 (sym x.memory ∙ g) in
    and_from _ _ (eq-eqb (b / 8 % 8) d (omega arith)) (lt-ltb b 192 (omega arith))
fixed_shared b d rm.Register p f g l e =
    let x = mod_of_place p f in let y = x.mod_below in let z = x.rm_below in
    let over = ltb-false (mod_of p) 3 (sym x.memory ∙ not-true (is_memory p) g) in
    and_from _ _ (eq-eqb (b / 8 % 8) d (omega arith)) (le-leb 192 b (omega arith))

digit_of : (d reg : ℕ) → (reg == d && nat_lt d 8) ≡ true → (reg ≡ d) × (d < 8)
digit_of d reg h = let p = both {a = reg == d} {b = nat_lt d 8} h in (eqb-true reg d p.0, ltb-true d 8 p.1)

modrm_shared : (m n : Shape) (a b : ℕ) (p q : Location) (xs ys : List ℕ) → reg_fits m a ≡ true → reg_fits n b ≡ true → place_fits m p ≡ true → place_fits n q ≡ true
    → modrm_bytes m (a % 8) p ++ xs ≡ modrm_bytes n (b % 8) q ++ ys → share_modrm m n ≡ true
modrm_shared shape.Plain n a b p q xs ys f g k l h = refl
modrm_shared shape.Low n a b p q xs ys f g k l h = refl
modrm_shared shape.LowNotFirst n a b p q xs ys f g k l h = refl
modrm_shared (shape.Fixed c) shape.Plain a b p q xs ys f g k l h = refl
modrm_shared (shape.Fixed c) shape.Low a b p q xs ys f g k l h = refl
modrm_shared (shape.Fixed c) shape.LowNotFirst a b p q xs ys f g k l h = refl
modrm_shared (shape.Digit d m) shape.Plain a b p q xs ys f g k l h = refl
modrm_shared (shape.Digit d m) shape.Low a b p q xs ys f g k l h = refl
modrm_shared (shape.Digit d m) shape.LowNotFirst a b p q xs ys f g k l h = refl
modrm_shared (shape.Slash m) shape.Plain a b p q xs ys f g k l h = refl
modrm_shared (shape.Slash m) shape.Low a b p q xs ys f g k l h = refl
modrm_shared (shape.Slash m) shape.LowNotFirst a b p q xs ys f g k l h = refl
modrm_shared (shape.Fixed c) (shape.Fixed e) a b p q xs ys f g k l h = eq-eqb c e (byte_same c e xs ys h).0
modrm_shared (shape.Fixed c) (shape.Slash n) a b p q xs ys f g k l h = refl
modrm_shared (shape.Slash m) (shape.Fixed e) a b p q xs ys f g k l h = refl
modrm_shared (shape.Fixed c) (shape.Digit d n) a b p q xs ys f g k l h =
    let v = digit_of d b g in
    let fq = and_parts (some_place_fits q) (rm_fits n q) l in
    let e = byte_same c (64 * mod_of q + 8 * (b % 8) + rm_of q) xs ((sib_bytes q ++ place_displacement q) ++ ys) h in
    let byte : c ≡ 64 * mod_of q + 8 * (b % 8) + rm_of q = e.0 in
    fixed_shared c d n q fq.0 fq.1 v.1 (omega arith)
modrm_shared (shape.Digit d m) (shape.Fixed c) a b p q xs ys f g k l h =
    let v = digit_of d a f in
    let fp = and_parts (some_place_fits p) (rm_fits m p) k in
    let e = byte_same (64 * mod_of p + 8 * (a % 8) + rm_of p) c ((sib_bytes p ++ place_displacement p) ++ xs) ys h in
    let byte : 64 * mod_of p + 8 * (a % 8) + rm_of p ≡ c = e.0 in
    fixed_shared c d m p fp.0 fp.1 v.1 (omega arith)
modrm_shared (shape.Digit d m) (shape.Digit e n) a b p q xs ys f g k l h =
    let v = digit_of d a f in
    let w = digit_of e b g in
    let fp = and_parts (some_place_fits p) (rm_fits m p) k in
    let fq = and_parts (some_place_fits q) (rm_fits n q) l in
    let hd = place_head p q (a % 8) (b % 8) xs ys fp.0 fq.0 (omega arith) (omega arith) h in
    let regs = hd.reg in
    and_from _ _ (eq-eqb d e (omega arith)) (rm_shared m n p q (same_memory p q fp.0 fq.0 hd.mode) fp.1 fq.1)
modrm_shared (shape.Digit d m) (shape.Slash n) a b p q xs ys f g k l h =
    let fp = and_parts (some_place_fits p) (rm_fits m p) k in
    let fq = and_parts (some_place_fits q) (rm_fits n q) l in
    let hd = place_head p q (a % 8) (b % 8) xs ys fp.0 fq.0 (omega arith) (omega arith) h in
    rm_shared m n p q (same_memory p q fp.0 fq.0 hd.mode) fp.1 fq.1
modrm_shared (shape.Slash m) (shape.Digit e n) a b p q xs ys f g k l h =
    let fp = and_parts (some_place_fits p) (rm_fits m p) k in
    let fq = and_parts (some_place_fits q) (rm_fits n q) l in
    let hd = place_head p q (a % 8) (b % 8) xs ys fp.0 fq.0 (omega arith) (omega arith) h in
    rm_shared m n p q (same_memory p q fp.0 fq.0 hd.mode) fp.1 fq.1
modrm_shared (shape.Slash m) (shape.Slash n) a b p q xs ys f g k l h =
    let fp = and_parts (some_place_fits p) (rm_fits m p) k in
    let fq = and_parts (some_place_fits q) (rm_fits n q) l in
    let hd = place_head p q (a % 8) (b % 8) xs ys fp.0 fq.0 (omega arith) (omega arith) h in
    rm_shared m n p q (same_memory p q fp.0 fq.0 hd.mode) fp.1 fq.1

-- the bits of REX
pub record Bits (r s : Row) (a b : Fields) : Type 0 where
  pub w : r.lead.wide ≡ s.lead.wide
  pub r_bit : a.reg / 8 ≡ b.reg / 8
  pub x : place_x a.place ≡ place_x b.place
  pub b_bit : place_b a.place + a.low / 8 ≡ place_b b.place + b.low / 8
  pub bare_rex : a.bare_rex ≡ b.bare_rex

bit_same : (a b : Bool) → bit a ≡ bit b → a ≡ b
bit_same true true h = refl
bit_same false false h = refl
bit_same true false h = absurd (omega arith)
bit_same false true h = absurd (omega arith)

pub rex_premise : (r : Row) (p : Fields) → rex_fits r p ≡ true → (not p.bare_rex || (rex_bits r p == 0)) ≡ true
rex_premise r p h = weaken (not p.bare_rex) (rex_bits r p == 0) (wants_rex p r.first || (wants_rex p r.second || wants_rex p r.third)) h
  where
    weaken : (a b c : Bool) → (a || (b && c)) ≡ true → (a || b) ≡ true
    weaken true b c h = refl
    weaken false b c h = (and_parts b c h).0

four_bits : (w v r s x y b c : ℕ) → w < 2 → v < 2 → r < 2 → s < 2 → x < 2 → y < 2 → b < 2 → c < 2 → 8 * w + 4 * r + 2 * x + b ≡ 8 * v + 4 * s + 2 * y + c
    → (w ≡ v) × (r ≡ s) × (x ≡ y) × (b ≡ c)
four_bits w v r s x y b c l1 l2 l3 l4 l5 l6 l7 l8 h = (omega arith, omega arith, omega arith, omega arith)

same_bits : (r s : Row) (a b : Fields) → Fit r a → Fit s b → rex_bits r a ≡ rex_bits s b → a.bare_rex ≡ b.bare_rex → Bits r s a b
unfolding rex_bits
same_bits r s a b f g h p =
    let ra = reg_below r.shape a.reg f.reg in
    let rb = reg_below s.shape b.reg g.reg in
    let xa = x_below r.shape a.place f.place in
    let xb = x_below s.shape b.place g.place in
    let ba = sum_of r.shape a.place a.low f.low f.place in
    let bb = sum_of s.shape b.place b.low g.low g.place in
    let e = four_bits (bit r.lead.wide) (bit s.lead.wide) (a.reg / 8) (b.reg / 8) (place_x a.place) (place_x b.place) (place_b a.place + a.low / 8) (place_b b.place + b.low / 8)
    (bit_below r.lead.wide) (bit_below s.lead.wide) (omega arith) (omega arith) xa xb ba.below bb.below h in
    record { w = bit_same r.lead.wide s.lead.wide e.0; r_bit = e.1; x = e.2; b_bit = e.3; bare_rex = p }

pub bits_of : (r s : Row) (a b : Fields) (xs ys : List ℕ) → Fit r a → Fit s b → Head r s a b xs ys → Bits r s a b
bits_of r s a b xs ys f g h =
    let e = rex_same (rex_bits r a) (rex_bits s b) a.bare_rex b.bare_rex (rex_premise r a f.rex) (rex_premise s b g.rex) h.rex in
    same_bits r s a b f g e.0 e.1

pub shared : (r s : Row) (a b : Fields) (p q : List ℕ) → Fit r a → Fit s b → Head r s a b (tail_of r a ++ p) (tail_of s b ++ q) → share_head r s ≡ true
unfolding tail_of
shared r s a b p q f g h =
    let bits = bits_of r s a b _ _ f g h in
    let st = stands r.lead.repeat r.words a.«prefix» a.segment a.place f.words in
    let su = stands s.lead.repeat s.words b.«prefix» b.segment b.place g.words in
    let su' : Stands (repeat_byte r.lead.repeat a.«prefix») s.lead.repeat s.words = subst (λ (o : Option ℕ). Stands o s.lead.repeat s.words) (sym h.rep) su in
    and_from _ _ (eq_bits r.lead.operand_size s.lead.operand_size (size_same r.lead.operand_size s.lead.operand_size h.size))
    (and_from _ _ (eq_bits r.lead.wide s.lead.wide bits.w)
    (and_from _ _ (opcode_shared r s a b f g h.map h.code bits.b_bit)
    (and_from _ _ (repeat_shared (repeat_byte r.lead.repeat a.«prefix») r.lead.repeat s.lead.repeat r.words s.words st su')
    (modrm_shared r.shape s.shape a.reg b.reg a.place b.place (immediate_bytes r.immediate a.held ++ p) (immediate_bytes s.immediate b.held ++ q) f.reg g.reg f.place g.place (simp append_assoc at h.rest)))))
