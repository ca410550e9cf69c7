-- The values in the fields of an instruction: their bytes, and that the fields hold them.
use Rattle.std.proofs.Common.{◌≡◌, ℕ, ◌-◌, ◌/◌, ◌%◌, ◌^◌, ◌<◌, ◌&&◌, ◌||◌, nat_lt, nat_le, Bool, true, false, length, refl, sym, ap, arith}
use Rattle.std.specs.Int.{to_le_bytes, w16, w32, w64}
use Rattle.std.proofs.lemmas.Bool.{lt-ltb}
use Rattle.std.proofs.lemmas.Bool.Decides.{nat_tests}
use Rattle.asm_frags.specs.declared.fields.FieldSize.{FieldSize}
use Rattle.asm_frags.specs.declared.fields.FieldSize.TheVariants.{One, Two, Four, Eight}
use Rattle.asm_frags.specs.Fields.{width, fits, fits_signed, holds, low_bytes}
use Rattle.x86_insn.specs.declared.amounts.FieldKind.{FieldKind}
use Rattle.x86_insn.specs.declared.amounts.FieldKind.TheVariants as kind
use Rattle.x86_parts.specs.Filling.{kind_holds, low_bytes as bytes_of_low}

-- THE BYTES

-- the low bytes of a value are those of its remainder
two_bytes : (v : ℕ) → low_bytes Two v ≡ to_le_bytes w16 (v % 2 ^ 16)
unfolding low_bytes
two_bytes v =
    let a : v % 256 ≡ v % 2 ^ 16 % 256 = omega arith in
    let b : v / 256 % 256 ≡ v % 2 ^ 16 / 256 % 256 = omega arith in
    cc (a, b)

four_bytes : (v : ℕ) → low_bytes Four v ≡ to_le_bytes w32 (v % 2 ^ 32)
unfolding low_bytes
four_bytes v =
    let a : v % 256 ≡ v % 2 ^ 32 % 256 = omega arith in
    let b : v / 256 % 256 ≡ v % 2 ^ 32 / 256 % 256 = omega arith in
    let c : v / 65536 % 256 ≡ v % 2 ^ 32 / 65536 % 256 = omega arith in
    let d : v / 16777216 % 256 ≡ v % 2 ^ 32 / 16777216 % 256 = omega arith in
    cc (a, b, c, d)

eight_bytes : (v : ℕ) → v < 2 ^ 64 → low_bytes Eight v ≡ to_le_bytes w64 (v % 2 ^ 64)
unfolding low_bytes
eight_bytes v low = let same : v % 2 ^ 64 ≡ v = omega (arith, low) in ap (to_le_bytes w64) (sym same)

-- both ways to take the low bytes give the same
pub low_same : (size : FieldSize) (v : ℕ) → v < 2 ^ 64 → low_bytes size v ≡ bytes_of_low (width size) v
unfolding low_bytes
low_same One v low = refl
low_same Two v low = two_bytes v
low_same Four v low = four_bytes v
low_same Eight v low = eight_bytes v low

-- there are as many as the field has
pub low_length : (size : FieldSize) (v : ℕ) → length (low_bytes size v) ≡ width size
unfolding low_bytes
low_length One v = refl
low_length Two v = refl
low_length Four v = refl
low_length Eight v = refl

-- WHAT A FIELD HOLDS

plain_test : (a b c d : Bool) → d ≡ true → (a || b) ≡ true → (a || (c || (b && d))) ≡ true
plain_test true b c d low is = refl
plain_test false true true d low is = refl
plain_test false true false d low is = low
plain_test false false c d low is = absurd cc

signed_test : (a b d : Bool) → d ≡ true → (a || b) ≡ true → (a || (b && d)) ≡ true
signed_test true b d low is = refl
signed_test false true d low is = low
signed_test false false d low is = absurd cc

whole_test : (a c : Bool) → a ≡ true → (a || c) ≡ true
whole_test true c is = refl
whole_test false c is = absurd cc

half_test : (v : ℕ) → v < 2 ^ 64 → (nat_lt v (2 ^ 63) || (nat_le (2 ^ 64 - 2 ^ 63) v && nat_lt v (2 ^ 64))) ≡ true
half_test v low = signed_test (nat_lt v (2 ^ 63)) (nat_le (2 ^ 64 - 2 ^ 63) v) (nat_lt v (2 ^ 64)) (lt-ltb v (2 ^ 64) low) (halves v)
  where
    halves : (v : ℕ) → (nat_lt v (2 ^ 63) || nat_le (2 ^ 64 - 2 ^ 63) v) ≡ true
    halves v = grind (arith, nat_tests)

signed_held : (size : FieldSize) (v : ℕ) → v < 2 ^ 64 → fits_signed size v ≡ true → kind_holds kind.Signed (width size) v ≡ true
unfolding fits_signed
signed_held One v low is = signed_test (nat_lt v (2 ^ 7)) (nat_le (2 ^ 64 - 2 ^ 7) v) (nat_lt v (2 ^ 64)) (lt-ltb v (2 ^ 64) low) is
signed_held Two v low is = signed_test (nat_lt v (2 ^ 15)) (nat_le (2 ^ 64 - 2 ^ 15) v) (nat_lt v (2 ^ 64)) (lt-ltb v (2 ^ 64) low) is
signed_held Four v low is = signed_test (nat_lt v (2 ^ 31)) (nat_le (2 ^ 64 - 2 ^ 31) v) (nat_lt v (2 ^ 64)) (lt-ltb v (2 ^ 64) low) is
signed_held Eight v low is = half_test v low

plain_held : (size : FieldSize) (v : ℕ) → v < 2 ^ 64 → fits size v ≡ true → kind_holds kind.Plain (width size) v ≡ true
unfolding fits
plain_held One v low is = plain_test (nat_lt v (2 ^ 8)) (nat_le (2 ^ 64 - 2 ^ 7) v) (nat_lt v (2 ^ 7)) (nat_lt v (2 ^ 64)) (lt-ltb v (2 ^ 64) low) is
plain_held Two v low is = plain_test (nat_lt v (2 ^ 16)) (nat_le (2 ^ 64 - 2 ^ 15) v) (nat_lt v (2 ^ 15)) (nat_lt v (2 ^ 64)) (lt-ltb v (2 ^ 64) low) is
plain_held Four v low is = plain_test (nat_lt v (2 ^ 32)) (nat_le (2 ^ 64 - 2 ^ 31) v) (nat_lt v (2 ^ 31)) (nat_lt v (2 ^ 64)) (lt-ltb v (2 ^ 64) low) is
plain_held Eight v low is = whole_test (nat_lt v (2 ^ 64)) _ (lt-ltb v (2 ^ 64) low)

-- a value that a field of the section holds is one that the field of the encoding holds
pub holds_same : (k : FieldKind) (size : FieldSize) (v : ℕ) → v < 2 ^ 64 → holds k size v ≡ true → kind_holds k (width size) v ≡ true
holds_same kind.Plain size v low is = plain_held size v low is
holds_same kind.Signed size v low is = signed_held size v low is
holds_same kind.Address size v low is = signed_held size v low is
holds_same kind.Branch size v low is = signed_held size v low is
holds_same kind.Number size v low is = refl

-- each field holds 0
zero_fits : (size : FieldSize) → fits size 0 ≡ true
unfolding fits
zero_fits One = refl
zero_fits Two = refl
zero_fits Four = refl
zero_fits Eight = refl

zero_fits_signed : (size : FieldSize) → fits_signed size 0 ≡ true
unfolding fits_signed
zero_fits_signed One = refl
zero_fits_signed Two = refl
zero_fits_signed Four = refl
zero_fits_signed Eight = refl

pub holds_zero : (k : FieldKind) (size : FieldSize) → holds k size 0 ≡ true
holds_zero kind.Plain size = zero_fits size
holds_zero kind.Signed size = zero_fits_signed size
holds_zero kind.Address size = zero_fits_signed size
holds_zero kind.Branch size = zero_fits_signed size
holds_zero kind.Number size = refl
