-- An immediate that fits is read from its bytes.
use Rattle.std.proofs.Common.{◌≡◌, ℕ, ◌%◌, ◌^◌, List, ◌++◌, true, Some, refl, arith, ap, inl, inr}
use Rattle.std.proofs.lemmas.Bool.{eqb-true, ltb-true, lt-ltb, le-ltb}
use Rattle.std.proofs.lemmas.Nat.{from_le_bytes-to_le_bytes_2, from_le_bytes-to_le_bytes_4, from_le_bytes-to_le_bytes_8}
use Rattle.x86_table.specs.declared.forms.Immediate.{Immediate}
use Rattle.x86_table.specs.declared.forms.Immediate.TheVariants as immediate
use Rattle.x86_table.specs.Bytes.{immediate_bytes}
use Rattle.x86_table.specs.Fits.{is_signed, immediate_fits}
use Rattle.x86_decode.specs.Places.{signed_byte, Numbered}
use Rattle.x86_decode.specs.Immediates.{immediate_in}
use Rattle.x86_decode.proofs.FieldFacts.{signed}
use Rattle.x86_decode.proofs.PlaceBytes.{byte_back, long_read}

sext_16 : (v : ℕ) → is_signed 8 16 v ≡ true → signed_byte (v % 256) % 2 ^ 16 ≡ v
sext_16 v h = elim (signed 8 16 v h) [
  | inl l ↦ rw (lt-ltb (v % 256) 128 (omega arith)) (omega arith)
  | inr r ↦ rw (le-ltb (v % 256) 128 (omega arith)) (omega arith)
]

sext_32 : (v : ℕ) → is_signed 8 32 v ≡ true → signed_byte (v % 256) % 2 ^ 32 ≡ v
sext_32 v h = elim (signed 8 32 v h) [
  | inl l ↦ rw (lt-ltb (v % 256) 128 (omega arith)) (omega arith)
  | inr r ↦ rw (le-ltb (v % 256) 128 (omega arith)) (omega arith)
]

pub immediate_read : (m : Immediate) (v : ℕ) (xs : List ℕ) → immediate_fits m (Some v) ≡ true → immediate_in m (immediate_bytes m (Some v) ++ xs) ≡ v
immediate_read immediate.Absent v xs h = rw (eqb-true v 0 h) refl
immediate_read immediate.Byte v xs h = let l = ltb-true v 256 h in let e : v % 256 ≡ v = omega arith in rw e refl
immediate_read immediate.Count v xs h = let l = ltb-true v 256 h in let e : v % 256 ≡ v = omega arith in rw e refl
immediate_read immediate.Sext16 v xs h = rw (sext_16 v h) refl
immediate_read immediate.Sext32 v xs h = rw (sext_32 v h) refl
immediate_read immediate.Sext64 v xs h = rw (byte_back v h) refl
immediate_read immediate.Word v xs h =
    let l = ltb-true v (2 ^ 16) h in
    let e : v % 2 ^ 16 ≡ v = omega arith in
    rw (e, from_le_bytes-to_le_bytes_2 v l) refl
immediate_read immediate.Long v xs h =
    let l = ltb-true v (2 ^ 32) h in
    let e : v % 2 ^ 32 ≡ v = omega arith in
    rw (e, from_le_bytes-to_le_bytes_4 v l) refl
immediate_read immediate.LongSext v xs h = ap (λ (n : Numbered). n.value) (long_read v xs h)
immediate_read immediate.Quad v xs h = let l = ltb-true v (2 ^ 64) h in rw (from_le_bytes-to_le_bytes_8 v l) refl
immediate_read immediate.Rel8 v xs h = rw (byte_back v h) refl
immediate_read immediate.Short v xs h = rw (byte_back v h) refl
immediate_read immediate.Rel32 v xs h = ap (λ (n : Numbered). n.value) (long_read v xs h)
