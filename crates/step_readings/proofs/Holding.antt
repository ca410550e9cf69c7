-- The bytes of a field are those of a value that it holds: as it is, or sign-extended.
use Rattle.std.proofs.Common.{◌≡◌, ℕ, ◌+◌, ◌-◌, ◌%◌, ◌^◌, ◌<◌, ◌||◌, nat_lt, Bool, true, false, cond, List, [], ◌∷◌, length, refl, sym, ap, subst, inl, inr, arith, ◌∙◌}
use Rattle.std.proofs.lemmas.Bool.Decides.{nat_tests}
use Rattle.std.proofs.lemmas.Nat.{le_bytes_2, le_bytes_4, le_bytes_8}
use Rattle.std.specs.Int.{from_le_bytes, to_le_bytes, w16, w32, w64}
use Rattle.x86_table.specs.Fits.{is_signed}
use Rattle.x86_insn.specs.declared.amounts.FieldKind.{FieldKind}
use Rattle.x86_insn.specs.declared.amounts.FieldKind.TheVariants as kind
use Rattle.x86_parts.specs.Filling.{low_bytes}
use Rattle.step_readings.specs.Held.{AreBytes, IsHeld, AnyBytesAreHeld}

-- a number below 2 ^ n, sign-extended to 64 bits
abbrev extended : ℕ → ℕ → ℕ → ℕ
extended half top v = cond (nat_lt v half) v (v + (2 ^ 64 - top))

extends_1 : (v : ℕ) → v < 2 ^ 8 → (extended (2 ^ 7) (2 ^ 8) v < 2 ^ 64) × (is_signed 8 64 (extended (2 ^ 7) (2 ^ 8) v) ≡ true) × (extended (2 ^ 7) (2 ^ 8) v % 256 ≡ v)
extends_1 v h = (grind (arith, nat_tests), grind (arith, nat_tests), grind (arith, nat_tests))

extends_2 : (v : ℕ) → v < 2 ^ 16 → (extended (2 ^ 15) (2 ^ 16) v < 2 ^ 64) × (is_signed 16 64 (extended (2 ^ 15) (2 ^ 16) v) ≡ true) × (extended (2 ^ 15) (2 ^ 16) v % 2 ^ 16 ≡ v)
extends_2 v h = (grind (arith, nat_tests), grind (arith, nat_tests), grind (arith, nat_tests))

extends_4 : (v : ℕ) → v < 2 ^ 32 → (extended (2 ^ 31) (2 ^ 32) v < 2 ^ 64) × (is_signed 32 64 (extended (2 ^ 31) (2 ^ 32) v) ≡ true) × (extended (2 ^ 31) (2 ^ 32) v % 2 ^ 32 ≡ v)
extends_4 v h = (grind (arith, nat_tests), grind (arith, nat_tests), grind (arith, nat_tests))

extends_8 : (v : ℕ) → v < 2 ^ 64 → is_signed 64 64 v ≡ true
extends_8 v h = grind (arith, nat_tests)

-- a number as bytes, and back
pub record Number (size top : ℕ) (bytes : List ℕ) : Type 0 where
  pub value : ℕ
  pub small : value < top
  pub low : low_bytes size value ≡ bytes

number_1 : (bytes : List ℕ) → length bytes ≡ 1 → AreBytes bytes → Number 1 (2 ^ 8) bytes
number_1 [] l b = absurd (omega arith)
number_1 (a ∷ []) l b = let p = b 0 in record { value = a; small = p; low = ap (λ x. x ∷ []) (omega arith) }
number_1 (a ∷ c ∷ bytes) l b = absurd (omega arith)

number_2 : (bytes : List ℕ) → length bytes ≡ 2 → AreBytes bytes → Number 2 (2 ^ 16) bytes
number_2 [] l b = absurd (omega arith)
number_2 (a ∷ []) l b = absurd (omega arith)
number_2 (a ∷ c ∷ []) l b =
    let p = b 0 in
    let q = b 1 in
    let small : from_le_bytes w16 (a ∷ c ∷ []) < 2 ^ 16 = omega arith in
    let same : from_le_bytes w16 (a ∷ c ∷ []) % 2 ^ 16 ≡ from_le_bytes w16 (a ∷ c ∷ []) = omega arith in
    record { value = from_le_bytes w16 (a ∷ c ∷ []); small = small; low = le_bytes_2 (a ∷ c ∷ []) (from_le_bytes w16 (a ∷ c ∷ []) % 2 ^ 16) refl b same }
number_2 (a ∷ c ∷ d ∷ bytes) l b = absurd (omega arith)

pub number_4 : (bytes : List ℕ) → length bytes ≡ 4 → AreBytes bytes → Number 4 (2 ^ 32) bytes
number_4 (a ∷ c ∷ d ∷ e ∷ []) l b =
    let p = b 0 in
    let q = b 1 in
    let r = b 2 in
    let s = b 3 in
    let small : from_le_bytes w32 (a ∷ c ∷ d ∷ e ∷ []) < 2 ^ 32 = omega arith in
    let same : from_le_bytes w32 (a ∷ c ∷ d ∷ e ∷ []) % 2 ^ 32 ≡ from_le_bytes w32 (a ∷ c ∷ d ∷ e ∷ []) = omega arith in
    record { value = from_le_bytes w32 (a ∷ c ∷ d ∷ e ∷ []); small = small; low = le_bytes_4 (a ∷ c ∷ d ∷ e ∷ []) (from_le_bytes w32 (a ∷ c ∷ d ∷ e ∷ []) % 2 ^ 32) refl b same }
number_4 [] l b = absurd (omega arith)
number_4 (a ∷ []) l b = absurd (omega arith)
number_4 (a ∷ c ∷ []) l b = absurd (omega arith)
number_4 (a ∷ c ∷ d ∷ []) l b = absurd (omega arith)
number_4 (a ∷ c ∷ d ∷ e ∷ f ∷ bytes) l b = absurd (omega arith)

number_8 : (bytes : List ℕ) → length bytes ≡ 8 → AreBytes bytes → Number 8 (2 ^ 64) bytes
number_8 (a ∷ c ∷ d ∷ e ∷ f ∷ g ∷ h ∷ i ∷ []) l b =
    let p = b 0 in
    let q = b 1 in
    let r = b 2 in
    let s = b 3 in
    let t = b 4 in
    let u = b 5 in
    let v = b 6 in
    let w = b 7 in
    let small : from_le_bytes w64 (a ∷ c ∷ d ∷ e ∷ f ∷ g ∷ h ∷ i ∷ []) < 2 ^ 64 = omega arith in
    let same : from_le_bytes w64 (a ∷ c ∷ d ∷ e ∷ f ∷ g ∷ h ∷ i ∷ []) % 2 ^ 64 ≡ from_le_bytes w64 (a ∷ c ∷ d ∷ e ∷ f ∷ g ∷ h ∷ i ∷ []) = omega arith in
    record { value = from_le_bytes w64 (a ∷ c ∷ d ∷ e ∷ f ∷ g ∷ h ∷ i ∷ []); small = small; low = le_bytes_8 (a ∷ c ∷ d ∷ e ∷ f ∷ g ∷ h ∷ i ∷ []) (from_le_bytes w64 (a ∷ c ∷ d ∷ e ∷ f ∷ g ∷ h ∷ i ∷ []) % 2 ^ 64) refl b same }
number_8 [] l b = absurd (omega arith)
number_8 (a ∷ []) l b = absurd (omega arith)
number_8 (a ∷ c ∷ []) l b = absurd (omega arith)
number_8 (a ∷ c ∷ d ∷ []) l b = absurd (omega arith)
number_8 (a ∷ c ∷ d ∷ e ∷ []) l b = absurd (omega arith)
number_8 (a ∷ c ∷ d ∷ e ∷ f ∷ []) l b = absurd (omega arith)
number_8 (a ∷ c ∷ d ∷ e ∷ f ∷ g ∷ []) l b = absurd (omega arith)
number_8 (a ∷ c ∷ d ∷ e ∷ f ∷ g ∷ h ∷ []) l b = absurd (omega arith)
number_8 (a ∷ c ∷ d ∷ e ∷ f ∷ g ∷ h ∷ i ∷ j ∷ bytes) l b = absurd (omega arith)

first_of : (a b : Bool) → a ≡ true → (a || b) ≡ true
first_of true b h = refl
first_of false b h = cc

below : (a b : ℕ) → a < b → nat_lt a b ≡ true
below a b h = grind (arith, nat_tests)

-- by kinds: as it is, or sign-extended
held_1 : (k : FieldKind) (bytes : List ℕ) → Number 1 (2 ^ 8) bytes → IsHeld k 1 bytes
held_1 kind.Plain bytes n = let s = n.small in record { value = n.value; within = omega arith; holds = first_of _ _ (below n.value (2 ^ 8) s); bytes_are = n.low }
held_1 kind.Signed bytes n = let e = extends_1 n.value n.small in record { value = extended (2 ^ 7) (2 ^ 8) n.value; within = e.0; holds = e.1; bytes_are = ap (λ x. x ∷ []) (e.2 ∙ let s = n.small in omega arith) ∙ n.low }
held_1 kind.Address bytes n = let e = extends_1 n.value n.small in record { value = extended (2 ^ 7) (2 ^ 8) n.value; within = e.0; holds = e.1; bytes_are = ap (λ x. x ∷ []) (e.2 ∙ let s = n.small in omega arith) ∙ n.low }
held_1 kind.Branch bytes n = let e = extends_1 n.value n.small in record { value = extended (2 ^ 7) (2 ^ 8) n.value; within = e.0; holds = e.1; bytes_are = ap (λ x. x ∷ []) (e.2 ∙ let s = n.small in omega arith) ∙ n.low }
held_1 kind.Number bytes n = let s = n.small in record { value = n.value; within = omega arith; holds = refl; bytes_are = n.low }

signed_2 : (bytes : List ℕ) (n : Number 2 (2 ^ 16) bytes) → to_le_bytes w16 (extended (2 ^ 15) (2 ^ 16) n.value % 2 ^ 16) ≡ bytes
signed_2 bytes n = let e = extends_2 n.value n.small in ap (to_le_bytes w16) (e.2 ∙ let s = n.small in omega arith) ∙ n.low

held_2 : (k : FieldKind) (bytes : List ℕ) → Number 2 (2 ^ 16) bytes → IsHeld k 2 bytes
held_2 kind.Plain bytes n = let s = n.small in record { value = n.value; within = omega arith; holds = first_of _ _ (below n.value (2 ^ 16) s); bytes_are = n.low }
held_2 kind.Signed bytes n = let e = extends_2 n.value n.small in record { value = extended (2 ^ 15) (2 ^ 16) n.value; within = e.0; holds = e.1; bytes_are = signed_2 bytes n }
held_2 kind.Address bytes n = let e = extends_2 n.value n.small in record { value = extended (2 ^ 15) (2 ^ 16) n.value; within = e.0; holds = e.1; bytes_are = signed_2 bytes n }
held_2 kind.Branch bytes n = let e = extends_2 n.value n.small in record { value = extended (2 ^ 15) (2 ^ 16) n.value; within = e.0; holds = e.1; bytes_are = signed_2 bytes n }
held_2 kind.Number bytes n = let s = n.small in record { value = n.value; within = omega arith; holds = refl; bytes_are = n.low }

signed_4 : (bytes : List ℕ) (n : Number 4 (2 ^ 32) bytes) → to_le_bytes w32 (extended (2 ^ 31) (2 ^ 32) n.value % 2 ^ 32) ≡ bytes
signed_4 bytes n = let e = extends_4 n.value n.small in ap (to_le_bytes w32) (e.2 ∙ let s = n.small in omega arith) ∙ n.low

held_4 : (k : FieldKind) (bytes : List ℕ) → Number 4 (2 ^ 32) bytes → IsHeld k 4 bytes
held_4 kind.Plain bytes n = let s = n.small in record { value = n.value; within = omega arith; holds = first_of _ _ (below n.value (2 ^ 32) s); bytes_are = n.low }
held_4 kind.Signed bytes n = let e = extends_4 n.value n.small in record { value = extended (2 ^ 31) (2 ^ 32) n.value; within = e.0; holds = e.1; bytes_are = signed_4 bytes n }
held_4 kind.Address bytes n = let e = extends_4 n.value n.small in record { value = extended (2 ^ 31) (2 ^ 32) n.value; within = e.0; holds = e.1; bytes_are = signed_4 bytes n }
held_4 kind.Branch bytes n = let e = extends_4 n.value n.small in record { value = extended (2 ^ 31) (2 ^ 32) n.value; within = e.0; holds = e.1; bytes_are = signed_4 bytes n }
held_4 kind.Number bytes n = let s = n.small in record { value = n.value; within = omega arith; holds = refl; bytes_are = n.low }

held_8 : (k : FieldKind) (bytes : List ℕ) → Number 8 (2 ^ 64) bytes → IsHeld k 8 bytes
held_8 kind.Plain bytes n = record { value = n.value; within = n.small; holds = first_of _ _ (below n.value (2 ^ 64) n.small); bytes_are = n.low }
held_8 kind.Signed bytes n = record { value = n.value; within = n.small; holds = extends_8 n.value n.small; bytes_are = n.low }
held_8 kind.Address bytes n = record { value = n.value; within = n.small; holds = extends_8 n.value n.small; bytes_are = n.low }
held_8 kind.Branch bytes n = record { value = n.value; within = n.small; holds = extends_8 n.value n.small; bytes_are = n.low }
held_8 kind.Number bytes n = record { value = n.value; within = n.small; holds = refl; bytes_are = n.low }

pub any_held : AnyBytesAreHeld
any_held k size bytes (inl e) l b = subst (λ n. IsHeld k n bytes) (sym e) (held_1 k bytes (number_1 bytes (l ∙ e) b))
any_held k size bytes (inr (inl e)) l b = subst (λ n. IsHeld k n bytes) (sym e) (held_2 k bytes (number_2 bytes (l ∙ e) b))
any_held k size bytes (inr (inr (inl e))) l b = subst (λ n. IsHeld k n bytes) (sym e) (held_4 k bytes (number_4 bytes (l ∙ e) b))
any_held k size bytes (inr (inr (inr e))) l b = subst (λ n. IsHeld k n bytes) (sym e) (held_8 k bytes (number_8 bytes (l ∙ e) b))
