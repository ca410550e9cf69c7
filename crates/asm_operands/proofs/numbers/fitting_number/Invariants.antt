-- The digits so far, and those to come, give the number of all.
use Rattle.std.proofs.Common.{◌≡◌, ◌<◌, ◌^◌, drop}
use Rattle.std.specs.List.{list_all}
use Rattle.asm_base.specs.Digits.{is_digit_of, number_after}
use Rattle.asm_operands.proofs.numbers.fitting_number.Given as goal

abbrev pub invariant-loop-byte : goal.invariant-loop-byte
invariant-loop-byte l = record {
  value : number_after l.radix l.number (drop l.byte-index l.digits) ≡ number_after l.radix 0 l.digits;
  all : list_all (is_digit_of l.radix) (drop l.byte-index l.digits) ≡ list_all (is_digit_of l.radix) l.digits;
  low : l.number < l.radix ^ l.byte-index;
}
