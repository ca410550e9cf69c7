-- Signed numbers by their bounds.
use Rattle.std.proofs.Common.{◌≡◌, ℕ, ◌^◌, ◌<◌, ℤ, pos, negsuc, neg_ℤ, ◌≤ℤ◌, ◌<ℤ◌, List, ◌++◌, Some, arith}
use Rattle.leb128.specs.Digits.{sleb_bytes}
use Rattle.leb128.specs.Numbers.{NumbersReadBack}
use Rattle.leb128.specs.Reading.{sleb}

pub signed_reads : (numbers : NumbersReadBack) (number : ℤ) (tail : List ℕ) → neg_ℤ (pos (2 ^ 63)) ≤ℤ number → number <ℤ pos (2 ^ 63)
    → sleb (sleb_bytes number ++ tail) ≡ Some (number, tail)
signed_reads numbers (pos number) tail low high = numbers.signed (pos number) tail (let short : number < 2 ^ 63 = grind arith in short)
signed_reads numbers (negsuc number) tail low high = numbers.signed (negsuc number) tail (let short : number < 2 ^ 63 = grind arith in short)
