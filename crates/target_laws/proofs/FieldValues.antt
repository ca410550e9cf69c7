-- The values of fields over plain bytes, as bytes of encodings.
use Rattle.std.proofs.Common.{◌≡◌, ℕ, ◌-◌, ◌/◌, ◌%◌, ◌^◌, ◌<◌, ◌&&◌, ◌||◌, inl, inr, nat_lt, nat_le, Bool, true, false, length, refl, sym, ap, ◌∙◌, arith}
use Rattle.std.specs.Int.{to_le_bytes, w16, w32, w64}
use Rattle.std.proofs.lemmas.Bool.{lt-ltb}
use Rattle.std.proofs.lemmas.Bool.Decides.{nat_tests}
use Rattle.asm_frags.specs.declared.fields.FieldSize.{FieldSize}
use Rattle.asm_frags.specs.declared.fields.FieldSize.TheVariants.{One, Two, Four, Eight}
use Rattle.asm_frags.specs.Fields.{width, fits_signed, low_bytes}
use Rattle.asm_place.specs.Coding.{field_size}
use Rattle.x86_insn.specs.declared.amounts.FieldKind.TheVariants as kind
use Rattle.x86_encode.specs.FieldPlaces.{IsWidth}
use Rattle.x86_parts.specs.Filling.{kind_holds, low_bytes as bytes_of_low}

-- the low bytes of a value are those of its remainder
two_bytes : (v : ℕ) → low_bytes Two v ≡ to_le_bytes w16 (v % 2 ^ 16)
unfolding low_bytes
two_bytes v =
    let a : v % 256 ≡ v % 2 ^ 16 % 256 = omega arith in
    let b : v / 256 % 256 ≡ v % 2 ^ 16 / 256 % 256 = omega arith in
    cc (a, b)

four_bytes : (v : ℕ) → low_bytes Four v ≡ to_le_bytes w32 (v % 2 ^ 32)
unfolding low_bytes
four_bytes v =
    let a : v % 256 ≡ v % 2 ^ 32 % 256 = omega arith in
    let b : v / 256 % 256 ≡ v % 2 ^ 32 / 256 % 256 = omega arith in
    let c : v / 65536 % 256 ≡ v % 2 ^ 32 / 65536 % 256 = omega arith in
    let d : v / 16777216 % 256 ≡ v % 2 ^ 32 / 16777216 % 256 = omega arith in
    cc (a, b, c, d)

eight_bytes : (v : ℕ) → v < 2 ^ 64 → low_bytes Eight v ≡ to_le_bytes w64 (v % 2 ^ 64)
unfolding low_bytes
eight_bytes v low = let same : v % 2 ^ 64 ≡ v = omega (arith, low) in ap (to_le_bytes w64) (sym same)

-- both ways to take the low bytes give the same
pub low_same : (size : FieldSize) (v : ℕ) → v < 2 ^ 64 → low_bytes size v ≡ bytes_of_low (width size) v
unfolding low_bytes
low_same One v low = refl
low_same Two v low = two_bytes v
low_same Four v low = four_bytes v
low_same Eight v low = eight_bytes v low

-- there are as many as the field has
pub low_length : (size : FieldSize) (v : ℕ) → length (low_bytes size v) ≡ width size
unfolding low_bytes
low_length One v = refl
low_length Two v = refl
low_length Four v = refl
low_length Eight v = refl

signed_test : (a b d : Bool) → d ≡ true → (a || b) ≡ true → (a || (b && d)) ≡ true
signed_test true b d low is = refl
signed_test false true d low is = low
signed_test false false d low is = absurd cc

half_test : (v : ℕ) → v < 2 ^ 64 → (nat_lt v (2 ^ 63) || (nat_le (2 ^ 64 - 2 ^ 63) v && nat_lt v (2 ^ 64))) ≡ true
half_test v low = signed_test (nat_lt v (2 ^ 63)) (nat_le (2 ^ 64 - 2 ^ 63) v) (nat_lt v (2 ^ 64)) (lt-ltb v (2 ^ 64) low) (halves v)
  where
    halves : (v : ℕ) → (nat_lt v (2 ^ 63) || nat_le (2 ^ 64 - 2 ^ 63) v) ≡ true
    halves v = grind (arith, nat_tests)

-- a distance that a field of a section holds is one that the field of an encoding holds
pub branch_holds : (size : FieldSize) (v : ℕ) → v < 2 ^ 64 → fits_signed size v ≡ true → kind_holds kind.Branch (width size) v ≡ true
unfolding fits_signed
branch_holds One v low is = signed_test (nat_lt v (2 ^ 7)) (nat_le (2 ^ 64 - 2 ^ 7) v) (nat_lt v (2 ^ 64)) (lt-ltb v (2 ^ 64) low) is
branch_holds Two v low is = signed_test (nat_lt v (2 ^ 15)) (nat_le (2 ^ 64 - 2 ^ 15) v) (nat_lt v (2 ^ 64)) (lt-ltb v (2 ^ 64) low) is
branch_holds Four v low is = signed_test (nat_lt v (2 ^ 31)) (nat_le (2 ^ 64 - 2 ^ 31) v) (nat_lt v (2 ^ 64)) (lt-ltb v (2 ^ 64) low) is
branch_holds Eight v low is = half_test v low

-- a field of an encoding has as many bytes as that of a section
pub same_width : (size : ℕ) → IsWidth size → width (field_size size) ≡ size
same_width size (inl is) = ap (λ n. width (field_size n)) is ∙ sym is
same_width size (inr (inl is)) = ap (λ n. width (field_size n)) is ∙ sym is
same_width size (inr (inr (inl is))) = ap (λ n. width (field_size n)) is ∙ sym is
same_width size (inr (inr (inr is))) = ap (λ n. width (field_size n)) is ∙ sym is
