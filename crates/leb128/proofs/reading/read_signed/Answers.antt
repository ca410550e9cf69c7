use Rattle.std.proofs.Common.{arith, rules, ◌∙◌, ◌+◌, ap, sym, drop, Some, w64}
use Rattle.std.proofs.lemmas.Int.{to_z-of_z}
use Rattle.leb128.proofs.SignedLongLemmas.{goes_on}
use Rattle.leb128.proofs.reading.read_signed.Goals as goal

-- one byte further from the end
pub loop-done-preserved : goal.loop-done-preserved
loop-done-preserved c =
    goes_on c.last_digit-end.result c.loop-done.done c.loop-done.value c.in_ok-value.value c.args.bytes.now (drop (c.last_digit-end.result + 1) c.args.bytes.now)
    (search rules) (search rules) c.last_digit-end.ensures.before (search rules) (first_of (search (rules, c.loop-done.value-is), grind (arith, c.loop-done.invariant, c.loop-done.value-is)))
    ∙ ap (λ z. Some (z, drop (c.last_digit-end.result + 1) c.args.bytes.now)) (sym (to_z-of_z w64 c.in_ok-value.value (search rules)))
