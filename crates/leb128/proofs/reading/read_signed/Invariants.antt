use Rattle.std.proofs.Common.{◌≡◌, ◌+◌, ◌-◌, drop, Some}
use Rattle.leb128.specs.Reading.{sleb}
use Rattle.leb128.proofs.reading.read_signed.Given as goal

abbrev pub invariant-loop-done : goal.invariant-loop-done
invariant-loop-done l = sleb (drop (l.end - l.done) l.bytes) ≡ Some (l.value, drop (l.end + 1) l.bytes)
