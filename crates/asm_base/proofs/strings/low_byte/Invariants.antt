-- The digits to come, behind the low bits so far, give those of the number.
use Rattle.std.proofs.Common.{◌≡◌, ◌<◌, ◌%◌, drop}
use Rattle.asm_base.specs.Digits.{number_after}
use Rattle.asm_base.proofs.strings.low_byte.Given as goal

abbrev pub invariant-loop-digit : goal.invariant-loop-digit
invariant-loop-digit l = record {
  low : l.low < 256;
  same : number_after l.radix l.low (drop l.digit-index l.digits) % 256 ≡ number_after l.radix 0 l.digits % 256;
}
