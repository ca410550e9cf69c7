-- Four bytes of a number, and what follows them.
use Rattle.std.proofs.Common.{◌≡◌, ℕ, ◌+◌, ◌*◌, ◌^◌, ◌%◌, ◌/◌, List, ◌++◌, Some, length, drop, refl, ap, arith}
use Rattle.asm_frags.specs.declared.fields.FieldSize.TheVariants.{Four}
use Rattle.asm_frags.specs.Fields.{low_bytes}
use Rattle.cfi_rows.specs.Instructions.{four_bytes_of}

pub four_long : (value : ℕ) → length (low_bytes Four value) ≡ 4
unfolding low_bytes
four_long value = refl

-- they tell their number, and what follows
pub four_told : (value : ℕ) (rest : List ℕ) → four_bytes_of (low_bytes Four value ++ rest) ≡ Some (value % 2 ^ 32, rest)
unfolding low_bytes
four_told value rest =
    let sum : value % 256 + value / 256 % 256 * 256 + value / 65536 % 256 * 65536 + value / 16777216 % 256 * 16777216 ≡ value % 2 ^ 32 = omega arith in
    ap (λ (n : ℕ). Some (n, rest)) sum

pub four_behind : (value : ℕ) (rest : List ℕ) → drop 4 (low_bytes Four value ++ rest) ≡ rest
unfolding low_bytes
four_behind value rest = refl
