-- What is read from bytes fits: places, immediates, and the register in the opcode.
use Rattle.std.proofs.Common.{◌≡◌, ◌<◌, ◌≤◌, ℕ, ◌+◌, ◌-◌, ◌*◌, ◌/◌, ◌%◌, ◌^◌, ◌==◌, ◌&&◌, ◌||◌, nat_lt, nat_le, get_or, List, [], ◌∷◌, Bool, true, false, not, if◌then◌else◌, Option, Some, refl, arith, zero, suc, inl, inr, eq-eqb}
use Rattle.std.proofs.lemmas.Bool.{cases_Bool, eqb-true, eqb-false, not-true, ltb-true, leb-true, ltb-false, lt-ltb, le-leb, le-ltb, and_parts, and_from}
use Rattle.std.specs.Int.{from_le_bytes, w16, w32, w64}
use Rattle.x86_insn.specs.declared.insns.Index.{Index}
use Rattle.x86_insn.specs.declared.insns.Index.TheVariants as index
use Rattle.x86_table.specs.declared.parts.Width.{Width}
use Rattle.x86_table.specs.declared.parts.Width.TheVariants as width
use Rattle.x86_table.specs.declared.forms.Immediate.{Immediate}
use Rattle.x86_table.specs.declared.forms.Immediate.TheVariants as immediate
use Rattle.x86_table.specs.declared.forms.Map.{Map}
use Rattle.x86_table.specs.declared.forms.Rm.{Rm}
use Rattle.x86_table.specs.declared.forms.Rm.TheVariants as rm
use Rattle.x86_table.specs.declared.forms.Shape.{Shape}
use Rattle.x86_table.specs.declared.forms.Shape.TheVariants as shape
use Rattle.x86_table.specs.declared.forms.Row.{Row}
use Rattle.x86_table.specs.Fields.{Fields, Location, nowhere, direct, from_rip, bare, based}
use Rattle.x86_table.specs.Fits.{is_signed, long_fits, displacement_fits, index_fits, sib_fits, mode_fits, some_place_fits, is_memory, rm_fits, place_fits, low_fits, immediate_fits, prefix_fits, segment_fits, reg_fits, rex_fits, fields_fit}
use Rattle.x86_decode.specs.Heads.{Head, tail_of}
use Rattle.x86_decode.specs.Places.{signed_byte, signed_long, Numbered, byte_displaced, long_held, long_displaced, displaced, width_of, index_in, Placed, rip_placed, bare_placed, based_placed, sib_placed, memory_placed, mode_placed, place_in}
use Rattle.x86_decode.specs.Immediates.{byte_held, word_held, quad_held, immediate_in}
use Rattle.x86_decode.specs.FieldReadings.{rex_value, shaped, fields_in}
use Rattle.x86_decode.specs.Admitting.{takes_mode, takes_tail, admits}
use Rattle.x86_decode.specs.Fitting.{AreRead}
use Rattle.x86_decode.proofs.HeadBytes.{apart}
use Rattle.x86_decode.proofs.SharedHeads.{admitted, near}

-- each number is a byte
abbrev pub AreAllBytes : List ℕ → Type 0
AreAllBytes xs = (i : ℕ) → get_or xs i 0 < 256

behind_first : (x : ℕ) (xs : List ℕ) → AreAllBytes (x ∷ xs) → AreAllBytes xs
behind_first x xs all i = all (suc i)

or_right : (a b : Bool) → b ≡ true → (a || b) ≡ true
or_right true b h = refl
or_right false b h = h

small : (k n v : ℕ) → v < 2 ^ (k - 1) → is_signed k n v ≡ true
small k n v h = rw (lt-ltb v (2 ^ (k - 1)) h) refl

large : (k n v : ℕ) → 2 ^ n - 2 ^ (k - 1) ≤ v → v < 2 ^ n → is_signed k n v ≡ true
large k n v g h = or_right (nat_lt v (2 ^ (k - 1))) _ (and_from _ _ (le-leb (2 ^ n - 2 ^ (k - 1)) v g) (lt-ltb v (2 ^ n) h))

-- NUMBERS

signed_byte_fits : (v : ℕ) → v < 256 → is_signed 8 64 (signed_byte v) ≡ true
signed_byte_fits v l = elim (cases_Bool (nat_lt v 128)) [
  | inl t ↦ let below = ltb-true v 128 t in let same : signed_byte v ≡ v = rw t refl in rw same (small 8 64 v (omega arith))
  | inr f ↦ let above = ltb-false v 128 f in let same : signed_byte v ≡ v + (2 ^ 64 - 2 ^ 8) = rw f refl in
      rw same (large 8 64 (v + (2 ^ 64 - 2 ^ 8)) (omega arith) (omega arith))
]

signed_long_fits : (v : ℕ) → v < 2 ^ 32 → is_signed 32 64 (signed_long v) ≡ true
signed_long_fits v l = elim (cases_Bool (nat_lt v (2 ^ 31))) [
  | inl t ↦ let below = ltb-true v (2 ^ 31) t in let same : signed_long v ≡ v = rw t refl in rw same (small 32 64 v (omega arith))
  | inr f ↦ let above = ltb-false v (2 ^ 31) f in let same : signed_long v ≡ v + (2 ^ 64 - 2 ^ 32) = rw f refl in
      rw same (large 32 64 (v + (2 ^ 64 - 2 ^ 32)) (omega arith) (omega arith))
]

cut_16_fits : (v : ℕ) → v < 256 → is_signed 8 16 (signed_byte v % 2 ^ 16) ≡ true
cut_16_fits v l = elim (cases_Bool (nat_lt v 128)) [
  | inl t ↦ let below = ltb-true v 128 t in let same : signed_byte v % 2 ^ 16 ≡ v = rw t (omega arith) in rw same (small 8 16 v (omega arith))
  | inr f ↦ let above = ltb-false v 128 f in let same : signed_byte v % 2 ^ 16 ≡ v + (2 ^ 16 - 2 ^ 8) = rw f (omega arith) in
      rw same (large 8 16 (v + (2 ^ 16 - 2 ^ 8)) (omega arith) (omega arith))
]

cut_32_fits : (v : ℕ) → v < 256 → is_signed 8 32 (signed_byte v % 2 ^ 32) ≡ true
cut_32_fits v l = elim (cases_Bool (nat_lt v 128)) [
  | inl t ↦ let below = ltb-true v 128 t in let same : signed_byte v % 2 ^ 32 ≡ v = rw t (omega arith) in rw same (small 8 32 v (omega arith))
  | inr f ↦ let above = ltb-false v 128 f in let same : signed_byte v % 2 ^ 32 ≡ v + (2 ^ 32 - 2 ^ 8) = rw f (omega arith) in
      rw same (large 8 32 (v + (2 ^ 32 - 2 ^ 8)) (omega arith) (omega arith))
]

long_below : (xs : List ℕ) → AreAllBytes xs → (long_held xs).value < 2 ^ 32
long_below [] all = omega arith
long_below (a ∷ []) all = omega arith
long_below (a ∷ b ∷ []) all = omega arith
long_below (a ∷ b ∷ c ∷ []) all = omega arith
long_below (a ∷ b ∷ c ∷ d ∷ xs) all =
    let la : a < 256 = all 0 in let lb : b < 256 = all 1 in let lc : c < 256 = all 2 in let ld : d < 256 = all 3 in omega arith

long_fits_read : (xs : List ℕ) → AreAllBytes xs → is_signed 32 64 (long_displaced xs).value ≡ true
long_fits_read xs all = signed_long_fits (long_held xs).value (long_below xs all)

byte_fits_read : (xs : List ℕ) → AreAllBytes xs → is_signed 8 64 (byte_displaced xs).value ≡ true
byte_fits_read [] all = refl
byte_fits_read (b ∷ xs) all = signed_byte_fits b (all 0)

-- PLACES

displacement_fits_read : (w : Width) (xs : List ℕ) → AreAllBytes xs → displacement_fits w (Some (displaced w xs).value) ≡ true
displacement_fits_read width.Absent xs all = refl
displacement_fits_read width.Byte xs all = byte_fits_read xs all
displacement_fits_read width.Long xs all = long_fits_read xs all

index_fits_read : (x s : ℕ) → x < 2 → s < 256 → index_fits (index_in x s) ≡ true
index_fits_read x s lx ls = elim (cases_Bool (s / 8 % 8 + 8 * x == 4)) [
  | inl t ↦ rw t refl
  | inr f ↦ rw f (and_from _ _ (lt-ltb (s / 8 % 8 + 8 * x) 16 (omega arith)) (and_from _ _ (rw f refl) (lt-ltb (s / 64) 4 (omega arith))))
]

mode_fits_read : (mode low b : ℕ) → low < 8 → ((mode == 0) && (low == 5)) ≡ false → mode_fits (width_of mode) (low + 8 * b) ≡ true
mode_fits_read mode low b l h = elim (cases_Bool (mode == 0)) [
  | inl t ↦
      let other : (low == 5) ≡ false = rw t at h in
      let same : (low + 8 * b) % 8 ≡ low = omega arith in
      rw (t, same, other) refl
  | inr f ↦ elim (cases_Bool (mode == 1)) [
    | inl t ↦ rw (f, t) refl
    | inr g ↦ rw (f, g) refl
  ]
]

-- what holds of both holds of the one that is taken
of_both : (P : Placed → Type 0) (c : Bool) (p q : Placed) → (c ≡ true → P p) → (c ≡ false → P q) → P (if c then p else q)
of_both P true p q f g = f refl
of_both P false p q f g = g refl

abbrev Named : Placed → Type 0
Named p = some_place_fits p.place ≡ true

based_named : (n : ℕ) (i : Index) (s : Bool) (w : Width) (xs : List ℕ) → n < 16 → index_fits i ≡ true → sib_fits s i n ≡ true → mode_fits w n ≡ true → AreAllBytes xs
    → Named (based_placed n i s w (displaced w xs))
based_named n i s w xs l f g h all = and_from _ _ (lt-ltb n 16 l) (and_from _ _ f (and_from _ _ g (and_from _ _ h (displacement_fits_read w xs all))))

sib_named : (x b mode : ℕ) (xs : List ℕ) → x < 2 → b < 2 → AreAllBytes xs → Named (sib_placed x b mode xs)
sib_named x b mode [] lx lb all = refl
sib_named x b mode (s ∷ xs) lx lb all =
    let byte : s < 256 = all 0 in
    let rest = behind_first s xs all in
    of_both Named ((mode == 0) && (s % 8 == 5)) (bare_placed (index_in x s) (long_displaced xs)) (based_placed (s % 8 + 8 * b) (index_in x s) true (width_of mode) (displaced (width_of mode) xs))
    (λ t. and_from _ _ (index_fits_read x s lx byte) (long_fits_read xs rest))
    (λ f. based_named (s % 8 + 8 * b) (index_in x s) true (width_of mode) xs (omega arith) (index_fits_read x s lx byte) refl (mode_fits_read mode (s % 8) b (omega arith) f) rest)

no_four : (low b : ℕ) → low < 8 → (low == 4) ≡ false → not ((low + 8 * b) % 8 == 4) ≡ true
no_four low b l f = let same : (low + 8 * b) % 8 ≡ low = omega arith in rw (same, f) refl

memory_named : (x b mode low : ℕ) (xs : List ℕ) → x < 2 → b < 2 → low < 8 → AreAllBytes xs → Named (memory_placed x b mode low xs)
memory_named x b mode low xs lx lb l all = of_both Named (low == 4) (sib_placed x b mode xs) (if (mode == 0) && (low == 5) then rip_placed (long_displaced xs)
    else based_placed (low + 8 * b) index.Absent false (width_of mode) (displaced (width_of mode) xs))
    (λ t. sib_named x b mode xs lx lb all)
    (λ f. of_both Named ((mode == 0) && (low == 5)) (rip_placed (long_displaced xs)) (based_placed (low + 8 * b) index.Absent false (width_of mode) (displaced (width_of mode) xs))
    (λ t. long_fits_read xs all)
    (λ g. based_named (low + 8 * b) index.Absent false (width_of mode) xs (omega arith) refl (no_four low b l f) (mode_fits_read mode low b l g) all))

place_named : (x b m : ℕ) (xs : List ℕ) → x < 2 → b < 2 → AreAllBytes xs → Named (place_in x b (m ∷ xs))
unfolding place_in
place_named x b m xs lx lb all = of_both Named (m / 64 == 3) (record { place = direct (m % 8 + 8 * b); rest = xs }) (memory_placed x b (m / 64) (m % 8) xs)
    (λ t. lt-ltb (m % 8 + 8 * b) 16 (omega arith))
    (λ f. memory_named x b (m / 64) (m % 8) xs lx lb (omega arith) all)

abbrev InMemory : Placed → Type 0
InMemory p = is_memory p.place ≡ true

memory_is : (x b mode low : ℕ) (xs : List ℕ) → InMemory (memory_placed x b mode low xs)
memory_is x b mode low xs = of_both InMemory (low == 4) (sib_placed x b mode xs) (if (mode == 0) && (low == 5) then rip_placed (long_displaced xs)
    else based_placed (low + 8 * b) index.Absent false (width_of mode) (displaced (width_of mode) xs))
    (λ t. sib_is x b mode xs)
    (λ f. of_both InMemory ((mode == 0) && (low == 5)) (rip_placed (long_displaced xs)) (based_placed (low + 8 * b) index.Absent false (width_of mode) (displaced (width_of mode) xs))
    (λ t. refl) (λ g. refl))
  where
    sib_is : (x b mode : ℕ) (xs : List ℕ) → InMemory (sib_placed x b mode xs)
    sib_is x b mode [] = refl
    sib_is x b mode (s ∷ xs) = of_both InMemory ((mode == 0) && (s % 8 == 5)) (bare_placed (index_in x s) (long_displaced xs))
        (based_placed (s % 8 + 8 * b) (index_in x s) true (width_of mode) (displaced (width_of mode) xs)) (λ t. refl) (λ f. refl)

rm_taken : (n : Rm) (x b m : ℕ) (xs : List ℕ) → m < 256 → takes_mode n m ≡ true → rm_fits n (place_in x b (m ∷ xs)).place ≡ true
unfolding place_in
rm_taken rm.Any x b m xs l h = refl
rm_taken rm.Memory x b m xs l h =
    let below = ltb-true m 192 h in
    let other : (m / 64 == 3) ≡ false = apart (m / 64) 3 (λ e. omega arith) in
    rw other (memory_is x b (m / 64) (m % 8) xs)
rm_taken rm.Register x b m xs l h =
    let above = leb-true 192 m h in
    let three : (m / 64 == 3) ≡ true = eq-eqb (m / 64) 3 (omega arith) in
    rw three refl

-- WHAT IS LEFT

no_bytes : AreAllBytes []
no_bytes i = omega arith

long_rest : (xs : List ℕ) → AreAllBytes xs → AreAllBytes (long_held xs).rest
long_rest [] all = no_bytes
long_rest (a ∷ []) all = no_bytes
long_rest (a ∷ b ∷ []) all = no_bytes
long_rest (a ∷ b ∷ c ∷ []) all = no_bytes
long_rest (a ∷ b ∷ c ∷ d ∷ xs) all = behind_first d xs (behind_first c (d ∷ xs) (behind_first b (c ∷ d ∷ xs) (behind_first a (b ∷ c ∷ d ∷ xs) all)))

byte_rest : (xs : List ℕ) → AreAllBytes xs → AreAllBytes (byte_displaced xs).rest
byte_rest [] all = no_bytes
byte_rest (b ∷ xs) all = behind_first b xs all

displaced_rest : (w : Width) (xs : List ℕ) → AreAllBytes xs → AreAllBytes (displaced w xs).rest
displaced_rest width.Absent xs all = all
displaced_rest width.Byte xs all = byte_rest xs all
displaced_rest width.Long xs all = long_rest xs all

abbrev LeavesBytes : Placed → Type 0
LeavesBytes p = AreAllBytes p.rest

sib_rest : (x b mode : ℕ) (xs : List ℕ) → AreAllBytes xs → LeavesBytes (sib_placed x b mode xs)
sib_rest x b mode [] all = no_bytes
sib_rest x b mode (s ∷ xs) all = of_both LeavesBytes ((mode == 0) && (s % 8 == 5)) (bare_placed (index_in x s) (long_displaced xs))
    (based_placed (s % 8 + 8 * b) (index_in x s) true (width_of mode) (displaced (width_of mode) xs))
    (λ t. long_rest xs (behind_first s xs all)) (λ f. displaced_rest (width_of mode) xs (behind_first s xs all))

memory_rest : (x b mode low : ℕ) (xs : List ℕ) → AreAllBytes xs → LeavesBytes (memory_placed x b mode low xs)
memory_rest x b mode low xs all = of_both LeavesBytes (low == 4) (sib_placed x b mode xs) (if (mode == 0) && (low == 5) then rip_placed (long_displaced xs)
    else based_placed (low + 8 * b) index.Absent false (width_of mode) (displaced (width_of mode) xs))
    (λ t. sib_rest x b mode xs all)
    (λ f. of_both LeavesBytes ((mode == 0) && (low == 5)) (rip_placed (long_displaced xs)) (based_placed (low + 8 * b) index.Absent false (width_of mode) (displaced (width_of mode) xs))
    (λ t. long_rest xs all) (λ g. displaced_rest (width_of mode) xs all))

place_rest : (x b : ℕ) (xs : List ℕ) → AreAllBytes xs → LeavesBytes (place_in x b xs)
unfolding place_in
place_rest x b [] all = no_bytes
place_rest x b (m ∷ xs) all = of_both LeavesBytes (m / 64 == 3) (record { place = direct (m % 8 + 8 * b); rest = xs }) (memory_placed x b (m / 64) (m % 8) xs)
    (λ t. behind_first m xs all) (λ f. memory_rest x b (m / 64) (m % 8) xs (behind_first m xs all))

tail_rest : (xs : List ℕ) → AreAllBytes xs → AreAllBytes (tail_of xs)
tail_rest [] all = no_bytes
tail_rest (x ∷ xs) all = behind_first x xs all

shaped_rest : (m : Shape) (above v : ℕ) (bytes : List ℕ) → AreAllBytes bytes → AreAllBytes (shaped m above v bytes).rest
shaped_rest shape.Plain above v bytes all = all
shaped_rest shape.Low above v bytes all = all
shaped_rest shape.LowNotFirst above v bytes all = all
shaped_rest (shape.Fixed b) above v bytes all = tail_rest bytes all
shaped_rest (shape.Digit d n) above v bytes all = place_rest (v / 2 % 2) (v % 2) bytes all
shaped_rest (shape.Slash n) above v bytes all = place_rest (v / 2 % 2) (v % 2) bytes all

-- THE FIELDS

place_fits_read : (m : Shape) (above v high : ℕ) (bytes : List ℕ) → AreAllBytes bytes → takes_tail m above high bytes ≡ true → place_fits m (shaped m above v bytes).place ≡ true
place_fits_read shape.Plain above v high bytes all t = refl
place_fits_read shape.Low above v high bytes all t = refl
place_fits_read shape.LowNotFirst above v high bytes all t = refl
place_fits_read (shape.Fixed b) above v high bytes all t = refl
place_fits_read (shape.Digit d n) above v high [] all t = cc
place_fits_read (shape.Digit d n) above v high (m ∷ bytes) all t =
    and_from _ _ (place_named (v / 2 % 2) (v % 2) m bytes (omega arith) (omega arith) (behind_first m bytes all))
    (rm_taken n (v / 2 % 2) (v % 2) m bytes (all 0) (and_parts (m / 8 % 8 == d) (takes_mode n m) t).1)
place_fits_read (shape.Slash n) above v high [] all t = cc
place_fits_read (shape.Slash n) above v high (m ∷ bytes) all t =
    and_from _ _ (place_named (v / 2 % 2) (v % 2) m bytes (omega arith) (omega arith) (behind_first m bytes all))
    (rm_taken n (v / 2 % 2) (v % 2) m bytes (all 0) t)

low_fits_read : (m : Shape) (above v : ℕ) (bytes : List ℕ) → above < 8 → takes_tail m above (v % 2) bytes ≡ true → low_fits m (shaped m above v bytes).low ≡ true
low_fits_read shape.Plain above v bytes l t = refl
low_fits_read shape.Low above v bytes l t = lt-ltb (above + 8 * (v % 2)) 16 (omega arith)
low_fits_read shape.LowNotFirst above v bytes l t =
    let some = eqb-false (above + v % 2) 0 (not-true (above + v % 2 == 0) t) in
    and_from _ _ (lt-ltb (above + 8 * (v % 2)) 16 (omega arith)) (rw (apart (above + 8 * (v % 2)) 0 (λ e. some (omega arith))) refl)
low_fits_read (shape.Fixed b) above v bytes l t = refl
low_fits_read (shape.Digit d n) above v bytes l t = refl
low_fits_read (shape.Slash n) above v bytes l t = refl

byte_below : (xs : List ℕ) → AreAllBytes xs → nat_lt (byte_held xs) 256 ≡ true
byte_below [] all = refl
byte_below (b ∷ xs) all = lt-ltb b 256 (all 0)

word_below : (xs : List ℕ) → AreAllBytes xs → nat_lt (word_held xs) (2 ^ 16) ≡ true
word_below [] all = refl
word_below (a ∷ []) all = refl
word_below (a ∷ b ∷ xs) all = let la : a < 256 = all 0 in let lb : b < 256 = all 1 in lt-ltb (from_le_bytes w16 (a ∷ b ∷ [])) (2 ^ 16) (omega arith)

quad_below : (xs : List ℕ) → AreAllBytes xs → nat_lt (quad_held xs) (2 ^ 64) ≡ true
quad_below [] all = refl
quad_below (a ∷ []) all = refl
quad_below (a ∷ b ∷ []) all = refl
quad_below (a ∷ b ∷ c ∷ []) all = refl
quad_below (a ∷ b ∷ c ∷ d ∷ []) all = refl
quad_below (a ∷ b ∷ c ∷ d ∷ e ∷ []) all = refl
quad_below (a ∷ b ∷ c ∷ d ∷ e ∷ f ∷ []) all = refl
quad_below (a ∷ b ∷ c ∷ d ∷ e ∷ f ∷ g ∷ []) all = refl
quad_below (a ∷ b ∷ c ∷ d ∷ e ∷ f ∷ g ∷ h ∷ xs) all =
    let la : a < 256 = all 0 in let lb : b < 256 = all 1 in let lc : c < 256 = all 2 in let ld : d < 256 = all 3 in
    let le : e < 256 = all 4 in let lf : f < 256 = all 5 in let lg : g < 256 = all 6 in let lh : h < 256 = all 7 in
    lt-ltb (from_le_bytes w64 (a ∷ b ∷ c ∷ d ∷ e ∷ f ∷ g ∷ h ∷ [])) (2 ^ 64) (omega arith)

sext_16_fits : (xs : List ℕ) → AreAllBytes xs → is_signed 8 16 ((byte_displaced xs).value % 2 ^ 16) ≡ true
sext_16_fits [] all = refl
sext_16_fits (b ∷ xs) all = cut_16_fits b (all 0)

sext_32_fits : (xs : List ℕ) → AreAllBytes xs → is_signed 8 32 ((byte_displaced xs).value % 2 ^ 32) ≡ true
sext_32_fits [] all = refl
sext_32_fits (b ∷ xs) all = cut_32_fits b (all 0)

immediate_fits_read : (m : Immediate) (xs : List ℕ) → AreAllBytes xs → immediate_fits m (Some (immediate_in m xs)) ≡ true
immediate_fits_read immediate.Absent xs all = refl
immediate_fits_read immediate.Byte xs all = byte_below xs all
immediate_fits_read immediate.Count xs all = byte_below xs all
immediate_fits_read immediate.Sext16 xs all = sext_16_fits xs all
immediate_fits_read immediate.Sext32 xs all = sext_32_fits xs all
immediate_fits_read immediate.Sext64 xs all = byte_fits_read xs all
immediate_fits_read immediate.Word xs all = word_below xs all
immediate_fits_read immediate.Long xs all = lt-ltb (long_held xs).value (2 ^ 32) (long_below xs all)
immediate_fits_read immediate.LongSext xs all = long_fits_read xs all
immediate_fits_read immediate.Quad xs all = quad_below xs all
immediate_fits_read immediate.Rel8 xs all = byte_fits_read xs all
immediate_fits_read immediate.Short xs all = byte_fits_read xs all
immediate_fits_read immediate.Rel32 xs all = long_fits_read xs all

-- so it is of all fields that are read from bytes by a row that admits their head
pub are_read : (m : Map) (h : Head) (o : ℕ) (tail : List ℕ) (r : Row) → admits m h o tail r ≡ true → AreAllBytes tail → AreRead r (fields_in r h o tail)
unfolding fields_in
are_read m h o tail r a all =
    let t = admitted m h o tail r a in
    let above = near m h o tail r a in
    record {
      low = low_fits_read r.shape (o - r.code) (rex_value h.rex) tail above t.tail;
      place = place_fits_read r.shape (o - r.code) (rex_value h.rex) (rex_value h.rex % 2) tail all t.tail;
      held = immediate_fits_read r.immediate (shaped r.shape (o - r.code) (rex_value h.rex) tail).rest (shaped_rest r.shape (o - r.code) (rex_value h.rex) tail all);
    }

-- the tests that are left
pub what_is_left : (r : Row) (p : Fields) → AreRead r p
    → fields_fit r p ≡ (prefix_fits r.lead.repeat r.words p.«prefix» p.segment p.place && (segment_fits p.segment p.place && (reg_fits r.shape p.reg && rex_fits r p)))
unfolding fields_fit
what_is_left r p a = rw (a.low, a.place, a.held) refl
