-- A place that fits is read from its bytes.
use Rattle.std.proofs.Common.{◌≡◌, ◌<◌, ℕ, ◌+◌, ◌*◌, ◌/◌, ◌%◌, ◌^◌, ◌==◌, ◌&&◌, nat_lt, List, ◌∷◌, ◌++◌, true, false, not, Some, None, refl, arith, ap, inl, inr, eq-eqb, append_assoc}
use Rattle.std.proofs.lemmas.Bool.{eqb-true, eqb-false, not-true, ltb-true, lt-ltb, and_parts, le-ltb}
use Rattle.std.proofs.lemmas.Nat.{from_le_bytes-to_le_bytes_4}
use Rattle.x86_insn.specs.declared.insns.Index.{Index}
use Rattle.x86_insn.specs.declared.insns.Index.TheVariants as index
use Rattle.x86_table.specs.declared.parts.Width.{Width}
use Rattle.x86_table.specs.declared.parts.Width.TheVariants as width
use Rattle.x86_table.specs.Fields.{Location, nowhere, direct, from_rip, bare, based}
use Rattle.x86_table.specs.Bytes.{index_high, place_x, place_b, long, displacement_bytes, mode, sib, mod_of, rm_of, sib_bytes, place_displacement, place_bytes}
use Rattle.x86_table.specs.Fits.{is_signed, long_fits, displacement_fits, index_fits, mode_fits, some_place_fits}
use Rattle.x86_table.specs.Reads.{is_known_place}
use Rattle.x86_decode.specs.Places.{signed_byte, signed_long, Numbered, long_held, long_displaced, displaced, width_of, index_in, Placed, rip_placed, bare_placed, sib_placed, memory_placed, mode_placed, place_in}
use Rattle.x86_decode.proofs.FieldFacts.{mod_of_place, signed}
use Rattle.x86_decode.proofs.HeadBytes.{apart}

-- a number and what is behind it
abbrev pub numbered : ℕ → List ℕ → Numbered
numbered v xs = record { value = v; rest = xs }

pub byte_back : (v : ℕ) → is_signed 8 64 v ≡ true → signed_byte (v % 256) ≡ v
byte_back v h = elim (signed 8 64 v h) [
  | inl l ↦ rw (lt-ltb (v % 256) 128 (omega arith)) (omega arith)
  | inr r ↦ rw (le-ltb (v % 256) 128 (omega arith)) (omega arith)
]

long_back : (v : ℕ) → is_signed 32 64 v ≡ true → signed_long (v % 2 ^ 32) ≡ v
long_back v h = elim (signed 32 64 v h) [
  | inl l ↦ rw (lt-ltb (v % 2 ^ 32) (2 ^ 31) (omega arith)) (omega arith)
  | inr r ↦ rw (le-ltb (v % 2 ^ 32) (2 ^ 31) (omega arith)) (omega arith)
]

pub long_read : (v : ℕ) (xs : List ℕ) → is_signed 32 64 v ≡ true → long_displaced (long (Some v) ++ xs) ≡ numbered v xs
long_read v xs h =
    let number : (long_held (long (Some v) ++ xs)).value ≡ v % 2 ^ 32 = from_le_bytes-to_le_bytes_4 (v % 2 ^ 32) (omega arith) in
    rw (number, long_back v h) refl

pub displacement_read : (w : Width) (v : ℕ) (xs : List ℕ) → displacement_fits w (Some v) ≡ true → displaced w (displacement_bytes w (Some v) ++ xs) ≡ numbered v xs
displacement_read width.Absent v xs h = rw (eqb-true v 0 h) refl
displacement_read width.Byte v xs h = rw (byte_back v h) refl
displacement_read width.Long v xs h = long_read v xs h

pub width_back : (w : Width) → width_of (mode w) ≡ w
width_back width.Absent = refl
width_back width.Byte = refl
width_back width.Long = refl

-- the numbers of an index that fits
record Indexed (i s : ℕ) : Type 0 where
  low : i < 16
  other : i ≡ 4 → ⊥
  scale : s < 4

indexed : (i s : ℕ) → index_fits (index.By i s) ≡ true → Indexed i s
indexed i s h =
    let p = and_parts (nat_lt i 16) (not (i == 4) && nat_lt s 4) h in
    let q = and_parts (not (i == 4)) (nat_lt s 4) p.1 in
    record { low = ltb-true i 16 p.0; other = eqb-false i 4 (not-true (i == 4) q.0); scale = ltb-true s 4 q.1 }

pub index_read : (i : Index) (low : ℕ) → index_fits i ≡ true → low < 8 → index_in (index_high i) (sib i low) ≡ i
index_read index.Absent low f l = rw (eq-eqb ((32 + low) / 8 % 8 + 8 * 0) 4 (omega arith)) refl
index_read (index.By i s) low f l =
    let x = indexed i s f in
    let scale_below = x.scale in
    let number_below = x.low in
    let number : (64 * s + 8 * (i % 8) + low) / 8 % 8 + 8 * (i / 8) ≡ i = omega arith in
    let scale : (64 * s + 8 * (i % 8) + low) / 64 ≡ s = omega arith in
    rw (number, scale, apart i 4 x.other) refl

pub sib_low : (i : Index) (low : ℕ) → low < 8 → sib i low % 8 ≡ low
sib_low index.Absent low l = omega arith
sib_low (index.By i s) low l = omega arith

-- the place and what is behind it
abbrev pub placed : Location → List ℕ → Placed
placed p xs = record { place = p; rest = xs }

no_three : (w : Width) → (mode w == 3) ≡ false
no_three width.Absent = refl
no_three width.Byte = refl
no_three width.Long = refl

no_bare : (w : Width) (b : ℕ) → mode_fits w b ≡ true → ((mode w == 0) && (b % 8 == 5)) ≡ false
no_bare width.Absent b h = not-true (b % 8 == 5) h
no_bare width.Byte b h = refl
no_bare width.Long b h = refl

-- an address with a base and a SIB byte
sib_read : (b : ℕ) (i : Index) (w : Width) (v : ℕ) (xs : List ℕ) → index_fits i ≡ true → mode_fits w b ≡ true → displacement_fits w (Some v) ≡ true
    → sib_placed (index_high i) (b / 8) (mode w) (sib i (b % 8) ∷ (displacement_bytes w (Some v) ++ xs)) ≡ placed (based b i true w (Some v)) xs
sib_read b i w v xs f m d =
    let base : b % 8 + 8 * (b / 8) ≡ b = omega arith in
    rw (sib_low i (b % 8) (omega arith), no_bare w b m, index_read i (b % 8) f (omega arith), width_back w, displacement_read w v xs d, base) refl

-- an address with a base alone
base_read : (b : ℕ) (w : Width) (v : ℕ) (xs : List ℕ) → not (b % 8 == 4) ≡ true → mode_fits w b ≡ true → displacement_fits w (Some v) ≡ true
    → memory_placed 0 (b / 8) (mode w) (b % 8) (displacement_bytes w (Some v) ++ xs) ≡ placed (based b index.Absent false w (Some v)) xs
base_read b w v xs f m d =
    let base : b % 8 + 8 * (b / 8) ≡ b = omega arith in
    rw (not-true (b % 8 == 4) f, no_bare w b m, width_back w, displacement_read w v xs d, base) refl

bare_read : (i : Index) (v : ℕ) (xs : List ℕ) → index_fits i ≡ true → long_fits (Some v) ≡ true
    → sib_placed (index_high i) 0 0 (sib i 5 ∷ (long (Some v) ++ xs)) ≡ placed (bare i (Some v)) xs
bare_read i v xs f d = rw (sib_low i 5 (omega arith), index_read i 5 f (omega arith)) (ap (bare_placed i) (long_read v xs d))

-- ModRM is parted
parts_of : (m reg rm : ℕ) → reg < 8 → rm < 8 → ((64 * m + 8 * reg + rm) / 64 ≡ m) × ((64 * m + 8 * reg + rm) % 8 ≡ rm)
parts_of m reg rm f g = (omega arith, omega arith)

-- a place that fits and is known
pub mode_read : (p : Location) (xs : List ℕ) → some_place_fits p ≡ true → is_known_place p ≡ true
    → mode_placed (place_x p) (place_b p) (mod_of p) (rm_of p) (sib_bytes p ++ (place_displacement p ++ xs)) ≡ placed p xs
mode_read nowhere xs f k = cc
mode_read (direct n) xs f k = let number : n % 8 + 8 * (n / 8) ≡ n = omega arith in rw number refl
mode_read (from_rip None) xs f k = cc
mode_read (from_rip (Some v)) xs f k = ap rip_placed (long_read v xs f)
mode_read (bare i None) xs f k = cc
mode_read (bare i (Some v)) xs f k =
    let p = and_parts (index_fits i) (long_fits (Some v)) f in
    bare_read i v xs p.0 p.1
mode_read (based b i s w None) xs f k = cc
mode_read (based b i true w (Some v)) xs f k =
    let p = and_parts (nat_lt b 16) (index_fits i && (true && (mode_fits w b && displacement_fits w (Some v)))) f in
    let q = and_parts (index_fits i) (mode_fits w b && displacement_fits w (Some v)) p.1 in
    let r = and_parts (mode_fits w b) (displacement_fits w (Some v)) q.1 in
    rw (no_three w) (sib_read b i w v xs q.0 r.0 r.1)
mode_read (based b index.Absent false w (Some v)) xs f k =
    let p = and_parts (nat_lt b 16) (not (b % 8 == 4) && (mode_fits w b && displacement_fits w (Some v))) f in
    let q = and_parts (not (b % 8 == 4)) (mode_fits w b && displacement_fits w (Some v)) p.1 in
    let r = and_parts (mode_fits w b) (displacement_fits w (Some v)) q.1 in
    rw (no_three w) (base_read b w v xs q.0 r.0 r.1)
mode_read (based b (index.By i s) false w (Some v)) xs f k =
    let p = and_parts (nat_lt b 16) (index_fits (index.By i s) && (false && (mode_fits w b && displacement_fits w (Some v)))) f in
    let q = and_parts (index_fits (index.By i s)) (false && (mode_fits w b && displacement_fits w (Some v))) p.1 in
    cc

-- so from its bytes
pub place_read : (p : Location) (reg : ℕ) (xs : List ℕ) → some_place_fits p ≡ true → is_known_place p ≡ true → reg < 8
    → place_in (place_x p) (place_b p) (place_bytes reg p ++ xs) ≡ placed p xs
unfolding place_in
place_read p reg xs f k l =
    let m = mod_of_place p f in
    let below = m.rm_below in
    let e = parts_of (mod_of p) reg (rm_of p) l below in
    rw (e.0, e.1) (simp append_assoc (mode_read p xs f k))
