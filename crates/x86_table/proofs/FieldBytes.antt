-- Fields that fit are told by their bytes.
use Rattle.std.proofs.Common.{◌≡◌, ◌<◌, ◌≤◌, ℕ, ◌-◌, ◌/◌, ◌%◌, ◌^◌, ◌==◌, ◌&&◌, ◌||◌, nat_lt, nat_le, List, ◌∷◌, ◌++◌, Bool, true, false, not, Option, Some, None, refl, arith, sym, ap, ◌∙◌, inl, inr, ◌⊎◌, subst}
use Rattle.std.proofs.lemmas.Bool.{eqb-true, eqb-false, not-true, ltb-true, leb-true, or_cases}
use Rattle.std.specs.Int.{to_le_bytes, from_le_bytes, w16, w32, w64}
use Rattle.std.proofs.lemmas.Nat.{from_le_bytes-to_le_bytes_2, from_le_bytes-to_le_bytes_4, from_le_bytes-to_le_bytes_8}
use Rattle.x86_insn.specs.declared.insns.Index.{Index}
use Rattle.x86_insn.specs.declared.insns.Index.TheVariants as index
use Rattle.x86_table.specs.declared.forms.Immediate.{Immediate}
use Rattle.x86_table.specs.declared.forms.Immediate.TheVariants as immediate
use Rattle.x86_table.specs.declared.parts.Width.{Width}
use Rattle.x86_table.specs.declared.parts.Width.TheVariants as width
use Rattle.x86_table.specs.Fields.{Location, nowhere, direct, from_rip, bare, based}
use Rattle.x86_table.specs.Bytes.{index_high, place_x, place_b, long, displacement_bytes, mode, sib, mod_of, rm_of, sib_bytes, place_displacement, immediate_bytes}
use Rattle.x86_table.specs.Fits.{is_signed, long_fits, displacement_fits, index_fits, sib_fits, mode_fits, some_place_fits, immediate_fits}
use Rattle.x86_table.specs.Reads.{is_known, is_known_place}
use Rattle.x86_table.proofs.Peeling.{both, byte_same}

pub either : {a b : Bool} → (a || b) ≡ true → (a ≡ true) ⊎ (b ≡ true)
either {a} {b} h = or_cases a b h

pub signed : (k n v : ℕ) → is_signed k n v ≡ true → (v < 2 ^ (k - 1)) ⊎ ((2 ^ n - 2 ^ (k - 1) ≤ v) × (v < 2 ^ n))
signed k n v h = elim (either {a = nat_lt v (2 ^ (k - 1))} {b = nat_le (2 ^ n - 2 ^ (k - 1)) v && nat_lt v (2 ^ n)} h) [
  | inl l ↦ inl (ltb-true v (2 ^ (k - 1)) l)
  | inr r ↦ let p = both {a = nat_le (2 ^ n - 2 ^ (k - 1)) v} {b = nat_lt v (2 ^ n)} r in inr (leb-true (2 ^ n - 2 ^ (k - 1)) v p.0, ltb-true v (2 ^ n) p.1)
]

pub long_number : (v w : ℕ) (xs ys : List ℕ) → v < 2 ^ 32 → w < 2 ^ 32 → to_le_bytes w32 v ++ xs ≡ to_le_bytes w32 w ++ ys → (v ≡ w) × (xs ≡ ys)
long_number v w xs ys f g h =
    let bytes : to_le_bytes w32 v ≡ to_le_bytes w32 w = cc in
    (sym (from_le_bytes-to_le_bytes_4 v f) ∙ ap (from_le_bytes w32) bytes ∙ from_le_bytes-to_le_bytes_4 w g, cc)

pub word_number : (v w : ℕ) (xs ys : List ℕ) → v < 2 ^ 16 → w < 2 ^ 16 → to_le_bytes w16 v ++ xs ≡ to_le_bytes w16 w ++ ys → (v ≡ w) × (xs ≡ ys)
word_number v w xs ys f g h =
    let bytes : to_le_bytes w16 v ≡ to_le_bytes w16 w = cc in
    (sym (from_le_bytes-to_le_bytes_2 v f) ∙ ap (from_le_bytes w16) bytes ∙ from_le_bytes-to_le_bytes_2 w g, cc)

pub quad_number : (v w : ℕ) (xs ys : List ℕ) → v < 2 ^ 64 → w < 2 ^ 64 → to_le_bytes w64 v ++ xs ≡ to_le_bytes w64 w ++ ys → (v ≡ w) × (xs ≡ ys)
quad_number v w xs ys f g h =
    let bytes : to_le_bytes w64 v ≡ to_le_bytes w64 w = cc in
    (sym (from_le_bytes-to_le_bytes_8 v f) ∙ ap (from_le_bytes w64) bytes ∙ from_le_bytes-to_le_bytes_8 w g, cc)

signed_32 : (v w : ℕ) → is_signed 32 64 v ≡ true → is_signed 32 64 w ≡ true → v % 2 ^ 32 ≡ w % 2 ^ 32 → v ≡ w
signed_32 v w f g h =
    let a = signed 32 64 v f in
    let b = signed 32 64 w g in
    omega arith

along : (m n v : ℕ) → m ≡ n → is_signed 8 m v ≡ true → is_signed 8 n v ≡ true
along m n v e h = let P : ℕ → Type 0 = λ k. is_signed 8 k v ≡ true in subst P e h

signed_8 : (n v w : ℕ) → (n ≡ 16) ⊎ ((n ≡ 32) ⊎ (n ≡ 64)) → is_signed 8 n v ≡ true → is_signed 8 n w ≡ true → v % 256 ≡ w % 256 → v ≡ w
signed_8 n v w (inl e) f g h = let a = signed 8 16 v (along n 16 v e f) in let b = signed 8 16 w (along n 16 w e g) in omega arith
signed_8 n v w (inr (inl e)) f g h = let a = signed 8 32 v (along n 32 v e f) in let b = signed 8 32 w (along n 32 w e g) in omega arith
signed_8 n v w (inr (inr e)) f g h = let a = signed 8 64 v (along n 64 v e f) in let b = signed 8 64 w (along n 64 w e g) in omega arith

pub long_same : (v w : Option ℕ) (xs ys : List ℕ) → is_known v ≡ true → is_known w ≡ true → long_fits v ≡ true → long_fits w ≡ true → long v ++ xs ≡ long w ++ ys → (v ≡ w) × (xs ≡ ys)
long_same None w xs ys k l f g h = cc
long_same (Some v) None xs ys k l f g h = cc
long_same (Some v) (Some w) xs ys k l f g h =
    let p = long_number (v % 2 ^ 32) (w % 2 ^ 32) xs ys (omega arith) (omega arith) h in
    (ap Some (signed_32 v w f g p.0), p.1)

pub displacement_same : (d : Width) (v w : Option ℕ) (xs ys : List ℕ) → is_known v ≡ true → is_known w ≡ true → displacement_fits d v ≡ true → displacement_fits d w ≡ true → displacement_bytes d v ++ xs ≡ displacement_bytes d w ++ ys → (v ≡ w) × (xs ≡ ys)
displacement_same d None w xs ys k l f g h = cc
displacement_same d (Some v) None xs ys k l f g h = cc
displacement_same width.Absent (Some v) (Some w) xs ys k l f g h = (ap Some (eqb-true v 0 f ∙ sym (eqb-true w 0 g)), h)
displacement_same width.Byte (Some v) (Some w) xs ys k l f g h =
    let p = byte_same (v % 256) (w % 256) xs ys h in
    (ap Some (signed_8 64 v w (inr (inr refl)) f g p.0), p.1)
displacement_same width.Long (Some v) (Some w) xs ys k l f g h = long_same (Some v) (Some w) xs ys k l f g h

sib_same : (i j : Index) (a b : ℕ) → index_fits i ≡ true → index_fits j ≡ true → a < 8 → b < 8 → index_high i ≡ index_high j → sib i a ≡ sib j b → (i ≡ j) × (a ≡ b)
sib_same index.Absent index.Absent a b f g la lb h e = (refl, omega arith)
sib_same index.Absent (index.By i s) a b f g la lb h e =
    let p = both {a = nat_lt i 16} {b = not (i == 4) && nat_lt s 4} g in
    let q = both {a = not (i == 4)} {b = nat_lt s 4} p.1 in
    let ne = eqb-false i 4 (not-true (i == 4) q.0) in
    absurd (ne (omega arith))
sib_same (index.By i s) index.Absent a b f g la lb h e =
    let p = both {a = nat_lt i 16} {b = not (i == 4) && nat_lt s 4} f in
    let q = both {a = not (i == 4)} {b = nat_lt s 4} p.1 in
    let ne = eqb-false i 4 (not-true (i == 4) q.0) in
    absurd (ne (omega arith))
sib_same (index.By i s) (index.By j t) a b f g la lb h e =
    let p = both {a = nat_lt i 16} {b = not (i == 4) && nat_lt s 4} f in
    let q = both {a = not (i == 4)} {b = nat_lt s 4} p.1 in
    let p' = both {a = nat_lt j 16} {b = not (j == 4) && nat_lt t 4} g in
    let q' = both {a = not (j == 4)} {b = nat_lt t 4} p'.1 in
    let ls = ltb-true s 4 q.1 in
    let lt = ltb-true t 4 q'.1 in
    let same_scale : s ≡ t = omega arith in
    let same_low : i % 8 ≡ j % 8 = omega arith in
    let same_index : i ≡ j = omega arith in
    (rw (same_scale, same_index) refl, omega arith)

-- the fields of a place with a base
record BasedFits (b : ℕ) (i : Index) (s : Bool) (w : Width) (d : Option ℕ) : Type 0 where
  base : b < 16
  index : index_fits i ≡ true
  sib : sib_fits s i b ≡ true
  mode : mode_fits w b ≡ true
  disp : displacement_fits w d ≡ true

based_fits : (b : ℕ) (i : Index) (s : Bool) (w : Width) (d : Option ℕ) → some_place_fits (based b i s w d) ≡ true → BasedFits b i s w d
based_fits b i s w d h =
    let p = both {a = nat_lt b 16} {b = index_fits i && (sib_fits s i b && (mode_fits w b && displacement_fits w d))} h in
    let q = both {a = index_fits i} {b = sib_fits s i b && (mode_fits w b && displacement_fits w d)} p.1 in
    let r = both {a = sib_fits s i b} {b = mode_fits w b && displacement_fits w d} q.1 in
    let t = both {a = mode_fits w b} {b = displacement_fits w d} r.1 in
    record { base = ltb-true b 16 p.0; index = q.0; sib = r.0; mode = t.0; disp = t.1 }

mode_below : (w : Width) → mode w < 3
mode_below width.Absent = omega arith
mode_below width.Byte = omega arith
mode_below width.Long = omega arith

mode_same : (w v : Width) → mode w ≡ mode v → w ≡ v
mode_same width.Absent width.Absent h = refl
mode_same width.Absent width.Byte h = absurd (omega arith)
mode_same width.Absent width.Long h = absurd (omega arith)
mode_same width.Byte width.Absent h = absurd (omega arith)
mode_same width.Byte width.Byte h = refl
mode_same width.Byte width.Long h = absurd (omega arith)
mode_same width.Long width.Absent h = absurd (omega arith)
mode_same width.Long width.Byte h = absurd (omega arith)
mode_same width.Long width.Long h = refl

-- mod 00 is not for a base 101
zero_mode : (w : Width) (b : ℕ) → mode_fits w b ≡ true → mode w ≡ 0 → b % 8 ≡ 5 → ⊥
zero_mode width.Absent b f h e = eqb-false (b % 8) 5 (not-true (b % 8 == 5) f) e
zero_mode width.Byte b f h e = omega arith
zero_mode width.Long b f h e = omega arith

-- without SIB the base is not 100, and there is no index
no_sib : (i : Index) (b : ℕ) → sib_fits false i b ≡ true → b % 8 ≡ 4 → ⊥
no_sib index.Absent b f e = eqb-false (b % 8) 4 (not-true (b % 8 == 4) f) e
no_sib (index.By i s) b f e = cc

no_index : (i j : Index) (a b : ℕ) → sib_fits false i a ≡ true → sib_fits false j b ≡ true → i ≡ j
no_index index.Absent index.Absent a b f g = refl
no_index index.Absent (index.By j s) a b f g = cc
no_index (index.By i s) j a b f g = cc

long_place : (d e : Option ℕ) (xs ys : List ℕ) → long_fits d ≡ true → long_fits e ≡ true → is_known_place (from_rip d) ≡ true → is_known_place (from_rip e) ≡ true
    → (make : Option ℕ → Location) → long d ++ xs ≡ long e ++ ys → (make d ≡ make e) × (xs ≡ ys)
long_place None e xs ys f g k l make h = cc
long_place (Some v) None xs ys f g k l make h = cc
long_place (Some v) (Some w) xs ys f g k l make h = let p = long_same (Some v) (Some w) xs ys refl refl f g h in (ap make p.0, p.1)

bare_known : (i : Index) (d : Option ℕ) → is_known_place (bare i d) ≡ true → is_known d ≡ true
bare_known i None h = cc
bare_known i (Some v) h = refl

based_known : (b : ℕ) (i : Index) (s : Bool) (w : Width) (d : Option ℕ) → is_known_place (based b i s w d) ≡ true → is_known d ≡ true
based_known b i s w None h = cc
based_known b i s w (Some v) h = refl

bare_same : (i j : Index) (d e : Option ℕ) (xs ys : List ℕ) → some_place_fits (bare i d) ≡ true → some_place_fits (bare j e) ≡ true → is_known_place (bare i d) ≡ true → is_known_place (bare j e) ≡ true
    → index_high i ≡ index_high j → sib i 5 ∷ (long d ++ xs) ≡ sib j 5 ∷ (long e ++ ys) → (bare i d ≡ bare j e) × (xs ≡ ys)
bare_same i j d e xs ys f g k l x h =
    let fi = both {a = index_fits i} {b = long_fits d} f in
    let gj = both {a = index_fits j} {b = long_fits e} g in
    let heads = byte_same (sib i 5) (sib j 5) (long d ++ xs) (long e ++ ys) h in
    let ix = sib_same i j 5 5 fi.0 gj.0 (omega arith) (omega arith) x heads.0 in
    let off = long_same d e xs ys (bare_known i d k) (bare_known j e l) fi.1 gj.1 heads.1 in
    (rw (ix.0, off.0) refl, off.1)

bare_based : (i j : Index) (d e : Option ℕ) (c : ℕ) (v : Width) (xs ys : List ℕ) → some_place_fits (bare i d) ≡ true → some_place_fits (based c j true v e) ≡ true
    → index_high i ≡ index_high j → 0 ≡ mode v → sib i 5 ∷ (long d ++ xs) ≡ sib j (c % 8) ∷ (displacement_bytes v e ++ ys) → ⊥
bare_based i j d e c v xs ys f g x m h =
    let fi = both {a = index_fits i} {b = long_fits d} f in
    let fit = based_fits c j true v e g in
    let heads = byte_same (sib i 5) (sib j (c % 8)) (long d ++ xs) (displacement_bytes v e ++ ys) h in
    let ix = sib_same i j 5 (c % 8) fi.0 fit.index (omega arith) (omega arith) x heads.0 in
    zero_mode v c fit.mode (sym m) (sym ix.1)

based_true : (a c : ℕ) (i j : Index) (w v : Width) (d e : Option ℕ) (xs ys : List ℕ) → some_place_fits (based a i true w d) ≡ true → some_place_fits (based c j true v e) ≡ true
    → is_known_place (based a i true w d) ≡ true → is_known_place (based c j true v e) ≡ true → index_high i ≡ index_high j → a / 8 ≡ c / 8 → mode w ≡ mode v
    → sib i (a % 8) ∷ (displacement_bytes w d ++ xs) ≡ sib j (c % 8) ∷ (displacement_bytes v e ++ ys) → (based a i true w d ≡ based c j true v e) × (xs ≡ ys)
based_true a c i j w v d e xs ys f g k l x b m h =
    let ff = based_fits a i true w d f in
    let gg = based_fits c j true v e g in
    let heads = byte_same (sib i (a % 8)) (sib j (c % 8)) (displacement_bytes w d ++ xs) (displacement_bytes v e ++ ys) h in
    let ix = sib_same i j (a % 8) (c % 8) ff.index gg.index (omega arith) (omega arith) x heads.0 in
    let low : a % 8 ≡ c % 8 = ix.1 in
    let number : a ≡ c = omega arith in
    let modes : w ≡ v = mode_same w v m in
    let rest : displacement_bytes w d ++ xs ≡ displacement_bytes w e ++ ys = rw (← modes) at heads.1 in
    let fits_e : displacement_fits w e ≡ true = rw modes gg.disp in
    let off = displacement_same w d e xs ys (based_known a i true w d k) (based_known c j true v e l) ff.disp fits_e rest in
    (rw (ix.0, off.0, number, modes) refl, off.1)

based_false : (a c : ℕ) (i j : Index) (w v : Width) (d e : Option ℕ) (xs ys : List ℕ) → some_place_fits (based a i false w d) ≡ true → some_place_fits (based c j false v e) ≡ true
    → is_known_place (based a i false w d) ≡ true → is_known_place (based c j false v e) ≡ true → a / 8 ≡ c / 8 → mode w ≡ mode v → a % 8 ≡ c % 8
    → displacement_bytes w d ++ xs ≡ displacement_bytes v e ++ ys → (based a i false w d ≡ based c j false v e) × (xs ≡ ys)
based_false a c i j w v d e xs ys f g k l b m low h =
    let ff = based_fits a i false w d f in
    let gg = based_fits c j false v e g in
    let number : a ≡ c = omega arith in
    let modes : w ≡ v = mode_same w v m in
    let rest : displacement_bytes w d ++ xs ≡ displacement_bytes w e ++ ys = rw (← modes) at h in
    let fits_e : displacement_fits w e ≡ true = rw modes gg.disp in
    let ix = no_index i j a c ff.sib gg.sib in
    let off = displacement_same w d e xs ys (based_known a i false w d k) (based_known c j false v e l) ff.disp fits_e rest in
    (rw (ix, off.0, number, modes) refl, off.1)

-- mod, rm and the rest fix the place
pub place_same : (p q : Location) (xs ys : List ℕ) → some_place_fits p ≡ true → some_place_fits q ≡ true → is_known_place p ≡ true → is_known_place q ≡ true
    → place_x p ≡ place_x q → place_b p ≡ place_b q → mod_of p ≡ mod_of q → rm_of p ≡ rm_of q
    → sib_bytes p ++ (place_displacement p ++ xs) ≡ sib_bytes q ++ (place_displacement q ++ ys) → (p ≡ q) × (xs ≡ ys)
place_same nowhere q xs ys f g k l x b m r h = cc
place_same (direct n) nowhere xs ys f g k l x b m r h = cc
place_same (direct n) (direct o) xs ys f g k l x b m r h = (ap direct (omega arith), h)
place_same (direct n) (from_rip e) xs ys f g k l x b m r h = absurd (omega arith)
place_same (direct n) (bare j e) xs ys f g k l x b m r h = absurd (omega arith)
place_same (direct n) (based c j t v e) xs ys f g k l x b m r h = (let lt = mode_below v in absurd (omega arith))
place_same (from_rip d) nowhere xs ys f g k l x b m r h = cc
place_same (from_rip d) (direct o) xs ys f g k l x b m r h = absurd (omega arith)
place_same (from_rip d) (from_rip e) xs ys f g k l x b m r h = long_place d e xs ys f g k l from_rip h
place_same (from_rip d) (bare j e) xs ys f g k l x b m r h = absurd (omega arith)
place_same (from_rip d) (based c j true v e) xs ys f g k l x b m r h = absurd (omega arith)
place_same (from_rip d) (based c j false v e) xs ys f g k l x b m r h = (let fit = based_fits c j false v e g in absurd (zero_mode v c fit.mode (sym m) (sym r)))
place_same (bare i d) nowhere xs ys f g k l x b m r h = cc
place_same (bare i d) (direct o) xs ys f g k l x b m r h = absurd (omega arith)
place_same (bare i d) (from_rip e) xs ys f g k l x b m r h = absurd (omega arith)
place_same (bare i d) (bare j e) xs ys f g k l x b m r h = bare_same i j d e xs ys f g k l x h
place_same (bare i d) (based c j true v e) xs ys f g k l x b m r h = absurd (bare_based i j d e c v xs ys f g x m h)
place_same (bare i d) (based c j false v e) xs ys f g k l x b m r h = (let fit = based_fits c j false v e g in absurd (no_sib j c fit.sib (sym r)))
place_same (based a i s w d) nowhere xs ys f g k l x b m r h = cc
place_same (based a i s w d) (direct o) xs ys f g k l x b m r h = (let lt = mode_below w in absurd (omega arith))
place_same (based a i true w d) (from_rip e) xs ys f g k l x b m r h = absurd (omega arith)
place_same (based a i false w d) (from_rip e) xs ys f g k l x b m r h = (let fit = based_fits a i false w d f in absurd (zero_mode w a fit.mode m r))
place_same (based a i true w d) (bare j e) xs ys f g k l x b m r h = absurd (bare_based j i e d a w ys xs g f (sym x) (sym m) (sym h))
place_same (based a i false w d) (bare j e) xs ys f g k l x b m r h = (let fit = based_fits a i false w d f in absurd (no_sib i a fit.sib r))
place_same (based a i true w d) (based c j true v e) xs ys f g k l x b m r h = based_true a c i j w v d e xs ys f g k l x b m h
place_same (based a i true w d) (based c j false v e) xs ys f g k l x b m r h = (let fit = based_fits c j false v e g in absurd (no_sib j c fit.sib (sym r)))
place_same (based a i false w d) (based c j true v e) xs ys f g k l x b m r h = (let fit = based_fits a i false w d f in absurd (no_sib i a fit.sib r))
place_same (based a i false w d) (based c j false v e) xs ys f g k l x b m r h = based_false a c i j w v d e xs ys f g k l b m r h

plain_byte : (v w : ℕ) (xs ys : List ℕ) → nat_lt v 256 ≡ true → nat_lt w 256 ≡ true → (v % 256) ∷ xs ≡ (w % 256) ∷ ys → (Some v ≡ Some w) × (xs ≡ ys)
plain_byte v w xs ys f g h =
    let a = ltb-true v 256 f in
    let b = ltb-true w 256 g in
    let p = byte_same (v % 256) (w % 256) xs ys h in
    let e : v % 256 ≡ w % 256 = p.0 in
    (ap Some (omega arith), p.1)

pub held_same : (i : Immediate) (v w : Option ℕ) (xs ys : List ℕ) → is_known v ≡ true → is_known w ≡ true → immediate_fits i v ≡ true → immediate_fits i w ≡ true → immediate_bytes i v ++ xs ≡ immediate_bytes i w ++ ys → (v ≡ w) × (xs ≡ ys)
held_same i None w xs ys k l f g h = cc
held_same i (Some v) None xs ys k l f g h = cc
held_same immediate.Absent (Some v) (Some w) xs ys k l f g h = (ap Some (eqb-true v 0 f ∙ sym (eqb-true w 0 g)), h)
held_same immediate.Byte (Some v) (Some w) xs ys k l f g h = plain_byte v w xs ys f g h
held_same immediate.Count (Some v) (Some w) xs ys k l f g h = plain_byte v w xs ys f g h
held_same immediate.Sext16 (Some v) (Some w) xs ys k l f g h =
    let p = byte_same (v % 256) (w % 256) xs ys h in
    (ap Some (signed_8 16 v w (inl refl) f g p.0), p.1)
held_same immediate.Sext32 (Some v) (Some w) xs ys k l f g h =
    let p = byte_same (v % 256) (w % 256) xs ys h in
    (ap Some (signed_8 32 v w (inr (inl refl)) f g p.0), p.1)
held_same immediate.Sext64 (Some v) (Some w) xs ys k l f g h =
    let p = byte_same (v % 256) (w % 256) xs ys h in
    (ap Some (signed_8 64 v w (inr (inr refl)) f g p.0), p.1)
held_same immediate.Word (Some v) (Some w) xs ys k l f g h =
    let p = word_number (v % 2 ^ 16) (w % 2 ^ 16) xs ys (omega arith) (omega arith) h in
    let a = ltb-true v (2 ^ 16) f in let b = ltb-true w (2 ^ 16) g in (ap Some (omega arith), p.1)
held_same immediate.Long (Some v) (Some w) xs ys k l f g h =
    let p = long_number (v % 2 ^ 32) (w % 2 ^ 32) xs ys (omega arith) (omega arith) h in
    let a = ltb-true v (2 ^ 32) f in let b = ltb-true w (2 ^ 32) g in (ap Some (omega arith), p.1)
held_same immediate.LongSext (Some v) (Some w) xs ys k l f g h = long_same (Some v) (Some w) xs ys k l f g h
held_same immediate.Quad (Some v) (Some w) xs ys k l f g h =
    let p = quad_number v w xs ys (ltb-true v (2 ^ 64) f) (ltb-true w (2 ^ 64) g) h in
    (ap Some p.0, p.1)
held_same immediate.Rel8 (Some v) (Some w) xs ys k l f g h =
    let p = byte_same (v % 256) (w % 256) xs ys h in
    (ap Some (signed_8 64 v w (inr (inr refl)) f g p.0), p.1)
held_same immediate.Short (Some v) (Some w) xs ys k l f g h =
    let p = byte_same (v % 256) (w % 256) xs ys h in
    (ap Some (signed_8 64 v w (inr (inr refl)) f g p.0), p.1)
held_same immediate.Rel32 (Some v) (Some w) xs ys k l f g h = long_same (Some v) (Some w) xs ys k l f g h
