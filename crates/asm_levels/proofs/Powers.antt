-- Powers of two up to the 30th, and what is left over by them.
use Rattle.std.proofs.Common.{ℕ, ◌%◌, ◌^◌, ◌<◌, ◌≤◌, arith}
use Rattle.std.proofs.Math.Nat.{pow-le-pow_right, mod-lt}
use Rattle.std.proofs.lemmas.Nat.{pow_pos}

pub power_small : (log : ℕ) → log ≤ 30 → 2 ^ log ≤ 1073741824
power_small log within = let two : 0 < 2 = omega arith in pow-le-pow_right two within

-- what is left over by a power of two is below the 30th
pub rest_small : (log x : ℕ) → log ≤ 30 → x % 2 ^ log ≤ 1073741824
rest_small log x within =
    let above : 2 ^ log ≤ 1073741824 = power_small log within in
    let below : x % 2 ^ log < 2 ^ log = mod-lt x (pow_pos log) in
    omega arith
