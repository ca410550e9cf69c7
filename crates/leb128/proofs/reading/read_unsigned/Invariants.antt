use Rattle.std.proofs.Common.{◌≡◌, ◌+◌, ◌-◌, drop, Some}
use Rattle.leb128.specs.Reading.{uleb}
use Rattle.leb128.proofs.reading.read_unsigned.Given as goal

abbrev pub invariant-loop-done : goal.invariant-loop-done
invariant-loop-done l = uleb (drop (l.end - l.done) l.bytes) ≡ Some (l.value, drop (l.end + 1) l.bytes)
