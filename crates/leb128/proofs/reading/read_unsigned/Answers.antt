use Rattle.std.proofs.Common.{rules, ◌+◌, drop, sym}
use Rattle.leb128.proofs.LongLemmas.{gives_up}
use Rattle.leb128.proofs.reading.read_unsigned.Goals as goal

-- the number is too large where what was read of it is
pub returns-then-value-clause-value : goal.returns-then-value-clause-value
returns-then-value-clause-value c =
    sym (gives_up c.last_digit-end.result c.loop-done.done c.loop-done.value c.args.bytes.now (drop (c.last_digit-end.result + 1) c.args.bytes.now)
    (search rules) (search rules) c.last_digit-end.ensures.before (search rules) c.loop-done.invariant)
