-- The padding is below the alignment.
use Rattle.std.proofs.Common.{◌≡◌, ◌-◌, ◌*◌, ◌%◌, ◌^◌, ◌≤◌, arith}
use Rattle.asm_levels.proofs.Powers.{power_small, rest_small}
use Rattle.asm_levels.proofs.shifts.padding_within.Goals as goal

pub returns-then-bytes-most-clause-within : goal.returns-then-bytes-most-clause-within
returns-then-bytes-most-clause-within c =
    let within : 2 ^ c.args.log ≤ 1073741824 = power_small c.args.log c.requires in
    let same : 1 * 2 ^ c.args.log % 18446744073709551616 ≡ 2 ^ c.args.log = omega arith in
    rw same (rest_small c.args.log (2 ^ c.args.log - c.args.address % 2 ^ c.args.log) c.requires)
