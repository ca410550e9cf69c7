-- The bytes of a jump read as it.
use Rattle.std.proofs.Common.{◌≡◌, ℕ, ◌+◌, ◌%◌, ◌^◌, ◌<◌, ◌∷◌, [], true, false, Option, Some, None, List, length, refl, sym, ap, ◌∙◌, subst, arith}
use Rattle.std.proofs.lemmas.Bool.Decides.{nat_tests}
use Rattle.std.proofs.lemmas.Nat.{from_le_bytes-to_le_bytes_4}
use Rattle.std.specs.Prelude.{◌==◌, slice_get}
use Rattle.std.specs.Int.{to_le_bytes, w32}
use Rattle.item_bytes.specs.declared.jumps.Condition.{Condition}
use Rattle.item_bytes.specs.Jumps.{sign_extended, short_opcode, number_of, short_jump, near_jump, jump_bytes, jump_distance}
use Rattle.x86_insn.specs.declared.insns.Prefix.TheVariants as prefix
use Rattle.x86_table.specs.declared.forms.Immediate.TheVariants as immediate
use Rattle.x86_table.specs.declared.forms.Map.TheVariants as map
use Rattle.x86_table.specs.declared.forms.Row.{Row}
use Rattle.x86_table.specs.Rows.{the_rows}
use Rattle.x86_table.specs.Fields.{Fields, nowhere}
use Rattle.x86_table.specs.Bytes.{bytes_of, rex_bits, rex_byte}
use Rattle.x86_table.specs.Fits.{is_signed, fits, fields_fit}
use Rattle.x86_table.specs.Reads.{Reads, meaning}
use Rattle.x86_table.specs.declared.mnemonics.integers.TheConstants.{XCHG}
use Rattle.jump_laws.specs.JumpReadings.{jump_name, jump_over, JumpCodesRead}
use Rattle.jump_laws.proofs.JumpRows.{jump_row, short_row, near_row, index_of, short_found, near_found, no_exchange}

-- the fields of a jump over this distance
abbrev held : ℕ → Fields
held distance = record { «prefix» = prefix.Absent; segment = None; bare_rex = false; reg = 0; low = 0; place = nowhere; held = Some distance }

-- a sign extended number is one of so many bits
byte_signed : (n : ℕ) → n < 2 ^ 8 → is_signed 8 64 (sign_extended (2 ^ 7) n) ≡ true
byte_signed n low = grind (arith, nat_tests)

long_signed : (n : ℕ) → n < 2 ^ 32 → is_signed 32 64 (sign_extended (2 ^ 31) n) ≡ true
long_signed n low = grind (arith, nat_tests)

short_fits : (name code v : ℕ) → is_signed 8 64 v ≡ true → fits (jump_row name map.One code immediate.Short) (held v) ≡ true
unfolding fits fields_fit bytes_of rex_bits rex_byte
short_fits name code v is = rw is refl

near_fits : (name code v : ℕ) → is_signed 32 64 v ≡ true → fits (jump_row name map.One code immediate.Rel32) (held v) ≡ true
unfolding fits fields_fit bytes_of rex_bits rex_byte
near_fits name code v is = rw is refl

near_if_fits : (name code v : ℕ) → is_signed 32 64 v ≡ true → fits (jump_row name map.Two code immediate.Rel32) (held v) ≡ true
unfolding fits fields_fit bytes_of rex_bits rex_byte
near_if_fits name code v is = rw is refl

short_means : (name code v : ℕ) → (name == XCHG) ≡ false → meaning (jump_row name map.One code immediate.Short) (held v) ≡ jump_over name 2 v
unfolding meaning bytes_of rex_bits rex_byte
short_means name code v other = rw other refl

near_means : (name code v : ℕ) → (name == XCHG) ≡ false → meaning (jump_row name map.One code immediate.Rel32) (held v) ≡ jump_over name 5 v
unfolding meaning bytes_of rex_bits rex_byte
near_means name code v other = rw other refl

near_if_means : (name code v : ℕ) → (name == XCHG) ≡ false → meaning (jump_row name map.Two code immediate.Rel32) (held v) ≡ jump_over name 6 v
unfolding meaning bytes_of rex_bits rex_byte
near_if_means name code v other = rw other refl

short_row_bytes : (name code v : ℕ) → bytes_of (jump_row name map.One code immediate.Short) (held v) ≡ code ∷ (v % 256) ∷ []
unfolding bytes_of rex_bits rex_byte
short_row_bytes name code v = let same : code + 0 ≡ code = omega arith in ap (λ n. n ∷ (v % 256) ∷ []) same

near_row_bytes : (name code v : ℕ) → bytes_of (jump_row name map.One code immediate.Rel32) (held v) ≡ code ∷ to_le_bytes w32 (v % 2 ^ 32)
unfolding bytes_of rex_bits rex_byte
near_row_bytes name code v = let same : code + 0 ≡ code = omega arith in ap (λ n. n ∷ to_le_bytes w32 (v % 2 ^ 32)) same

near_if_row_bytes : (name code v : ℕ) → bytes_of (jump_row name map.Two code immediate.Rel32) (held v) ≡ 0x0f ∷ code ∷ to_le_bytes w32 (v % 2 ^ 32)
unfolding bytes_of rex_bits rex_byte
near_if_row_bytes name code v = let same : code + 0 ≡ code = omega arith in ap (λ n. 0x0f ∷ n ∷ to_le_bytes w32 (v % 2 ^ 32)) same

-- the low bits of a sign extended number are the number
byte_kept : (n : ℕ) → n < 2 ^ 8 → sign_extended (2 ^ 7) n % 256 ≡ n
byte_kept n low = grind (arith, nat_tests)

long_kept : (n : ℕ) → n < 2 ^ 32 → sign_extended (2 ^ 31) n % 2 ^ 32 ≡ n
long_kept n low = grind (arith, nat_tests)

-- the row of this index has these bytes for a distance, and shows the jump over it
record IsJumpBy (index : ℕ) (r : Row) (name : ℕ) (bytes : List ℕ) (distance : ℕ) : Type 0 where
  found : slice_get the_rows index ≡ Some r
  fit : fits r (held distance) ≡ true
  are : bytes_of r (held distance) ≡ bytes
  means : meaning r (held distance) ≡ jump_over name (length bytes) distance

jump_reads : (index : ℕ) (r : Row) (name : ℕ) (bytes : List ℕ) (distance : ℕ) → IsJumpBy index r name bytes distance
    → Reads bytes (jump_over name (length bytes) distance)
jump_reads index r name bytes distance is = (
  index,
  r,
  held distance,
  record { found = is.found; fit = is.fit; held_known = refl; place_known = refl; bytes_are = sym is.are; insn_is = sym is.means },
)

short_reads : (condition : Option Condition) (distance : ℕ)
    → Reads (short_jump condition distance) (jump_over (jump_name condition) 2 (sign_extended (2 ^ 7) (distance % 2 ^ 8)))
short_reads condition distance =
    let n = distance % 2 ^ 8 in
    let low : n < 2 ^ 8 = omega arith in
    let v = sign_extended (2 ^ 7) n in
    jump_reads (index_of condition) (short_row condition) (jump_name condition) (short_jump condition distance) v (record {
      found = short_found condition;
      fit = short_fits (jump_name condition) (short_opcode condition) v (byte_signed n low);
      are = short_row_bytes (jump_name condition) (short_opcode condition) v ∙ ap (λ b. short_opcode condition ∷ b ∷ []) (byte_kept n low);
      means = short_means (jump_name condition) (short_opcode condition) v (no_exchange condition);
    })

near_reads : (condition : Option Condition) (distance : ℕ)
    → Reads (near_jump condition distance)
    (jump_over (jump_name condition) (length (near_jump condition distance)) (sign_extended (2 ^ 31) (distance % 2 ^ 32)))
near_reads None distance =
    let n = distance % 2 ^ 32 in
    let low : n < 2 ^ 32 = omega arith in
    let v = sign_extended (2 ^ 31) n in
    jump_reads (index_of None + 1) (near_row None) (jump_name None) (near_jump None distance) v (record {
      found = near_found None;
      fit = near_fits (jump_name None) 0xe9 v (long_signed n low);
      are = near_row_bytes (jump_name None) 0xe9 v ∙ ap (λ b. 0xe9 ∷ to_le_bytes w32 b) (long_kept n low);
      means = near_means (jump_name None) 0xe9 v (no_exchange None);
    })
near_reads (Some condition) distance =
    let n = distance % 2 ^ 32 in
    let low : n < 2 ^ 32 = omega arith in
    let v = sign_extended (2 ^ 31) n in
    let name = jump_name (Some condition) in
    let code = 0x80 + number_of condition in
    jump_reads (index_of (Some condition) + 1) (near_row (Some condition)) name (near_jump (Some condition) distance) v (record {
      found = near_found (Some condition);
      fit = near_if_fits name code v (long_signed n low);
      are = near_if_row_bytes name code v ∙ ap (λ b. 0x0f ∷ code ∷ to_le_bytes w32 b) (long_kept n low);
      means = near_if_means name code v (no_exchange (Some condition));
    })

-- the last bytes hold the distance
short_held : (condition : Option Condition) (distance : ℕ) → jump_distance false (short_jump condition distance) ≡ sign_extended (2 ^ 7) (distance % 2 ^ 8)
unfolding jump_distance
short_held condition distance = refl

near_held : (condition : Option Condition) (distance : ℕ) → jump_distance true (near_jump condition distance) ≡ sign_extended (2 ^ 31) (distance % 2 ^ 32)
unfolding jump_distance
near_held None distance = ap (sign_extended (2 ^ 31)) (from_le_bytes-to_le_bytes_4 (distance % 2 ^ 32) (omega arith))
near_held (Some condition) distance = ap (sign_extended (2 ^ 31)) (from_le_bytes-to_le_bytes_4 (distance % 2 ^ 32) (omega arith))

pub codes_read : JumpCodesRead
unfolding jump_bytes
codes_read condition false distance =
    subst (λ v. Reads (short_jump condition distance) (jump_over (jump_name condition) 2 v)) (sym (short_held condition distance)) (short_reads condition distance)
codes_read condition true distance =
    subst (λ v. Reads (near_jump condition distance) (jump_over (jump_name condition) (length (near_jump condition distance)) v))
    (sym (near_held condition distance)) (near_reads condition distance)
