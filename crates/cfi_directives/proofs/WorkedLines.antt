-- The worked directives compute.
use Rattle.std.proofs.Common.{refl}
use Rattle.leb128.specs.Digits.{uleb_bytes}
use Rattle.cfi_directives.specs.WorkedDirectives.{WorkedDirectives}

pub worked : WorkedDirectives
unfolding uleb_bytes
worked = record {
  whole = refl;
  rows = refl;
  two = refl;
  in_two_sections = refl;
  slot = refl;
  slot_bytes = refl;
  no_slot = refl;
  no_slot_outside = refl;
  no_slot_elsewhere = refl;
  no_value = refl;
  plain = refl;
  below = refl;
  below_odd = refl;
  relative = refl;
  relative_at_first = refl;
  relative_far = refl;
  relative_outside = refl;
  adjusted = refl;
  adjusted_far = refl;
  adjusted_outside = refl;
  restored = refl;
  rules = refl;
  pointed = refl;
  pointed_again = refl;
  unpointed = refl;
  pointed_elsewhere = refl;
  pointed_outside = refl;
  many = refl;
  unremembered = refl;
  within = refl;
  within_elsewhere = refl;
  stop_elsewhere = refl;
  other_section = refl;
  row_outside = refl;
  stop_outside = refl;
  stop_twice = refl;
}
