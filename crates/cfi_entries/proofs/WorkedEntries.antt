-- The worked rows, bytes and differences compute so.
use Rattle.std.proofs.Common.{refl}
use Rattle.cfi_rows.specs.Instructions.{extended, nop_or_advance, register_rule, state_or_cfa, signed_or_value}
use Rattle.cfi_entries.specs.Places.{row_in_force}
use Rattle.cfi_rows.specs.Pointers.{encoding_of}
use Rattle.cfi_rows.specs.Commons.{common_of}
use Rattle.leb128.specs.Digits.{uleb_bytes, sleb_bytes}
use Rattle.cfi_entries.specs.WorkedRows.{FrameRows, OtherRows, PointerRows, WorkedCommons, WorkedDifferences, WrittenBytes}

pub frame_rows : FrameRows
unfolding extended nop_or_advance register_rule state_or_cfa signed_or_value row_in_force common_of encoding_of uleb_bytes sleb_bytes
frame_rows = record {
  entry = refl;
  pushed_now = refl;
  pushed_still = refl;
  framed_now = refl;
  popped = refl;
  end = refl;
}

pub other_rows : OtherRows
unfolding extended nop_or_advance register_rule state_or_cfa signed_or_value row_in_force common_of encoding_of uleb_bytes sleb_bytes
other_rows = record {
  changed_now = refl;
  restored = refl;
  no_advance = refl;
  before_one = refl;
  behind_one = refl;
  before_two = refl;
  behind_two = refl;
  behind_four = refl;
  before_third = refl;
  behind_third = refl;
  before_fourth = refl;
  behind_fourth = refl;
  long_number = refl;
  below_cfa = refl;
  above_cfa = refl;
  far_below = refl;
  too_far_below = refl;
  far_above = refl;
  too_far_above = refl;
  long_register = refl;
  long_register_64 = refl;
  in_register_64 = refl;
  cut_short = refl;
  unended = refl;
  past_the_end = refl;
  unrestored_past = refl;
  register_64_past = refl;
  cfa_expression = refl;
  expression = refl;
  value_expression = refl;
  arguments_size = refl;
  set_loc = refl;
  register_64 = refl;
  nothing_remembered = refl;
  many_remembered = refl;
  few_remembered = refl;
  remembered_again = refl;
  wide_offset = refl;
  short_length = refl;
  long_form = refl;
  augmented = refl;
  other_common = refl;
  no_entry = refl;
}

pub pointer_rows : PointerRows
unfolding extended nop_or_advance register_rule state_or_cfa signed_or_value row_in_force common_of encoding_of uleb_bytes sleb_bytes
pointer_rows = record {
  personality_passed = refl;
  lsda_passed = refl;
  both_passed = refl;
  wide_passed = refl;
  two_sizes_passed = refl;
  any_personality = refl;
  lsda_missing = refl;
  lsda_alone_missing = refl;
  lsda_unsaid = refl;
  lsda_too_long = refl;
  lsda_too_short = refl;
  lsda_as_personality = refl;
  other_pointer = refl;
  other_letters = refl;
  other_order = refl;
  other_data = refl;
  more_data = refl;
  no_nops = refl;
  needless_nops = refl;
}

pub written_bytes : WrittenBytes
unfolding extended nop_or_advance register_rule state_or_cfa signed_or_value row_in_force common_of encoding_of uleb_bytes sleb_bytes
written_bytes = record {
  cfa = refl;
  cfa_below = refl;
  cfa_of_no_register = refl;
  cfa_unfactored = refl;
  cfa_register = refl;
  cfa_offset = refl;
  cfa_112 = refl;
  cfa_127 = refl;
  cfa_128 = refl;
  cfa_far = refl;
  cfa_offset_below = refl;
  cfa_504_below = refl;
  cfa_512_below = refl;
  slot = refl;
  no_slot = refl;
  slot_here = refl;
  slot_above = refl;
  slot_512_above = refl;
  slot_far_above = refl;
  value = refl;
  value_above = refl;
  undefined = refl;
  same_value = refl;
  register = refl;
  unspecified = refl;
  restored = refl;
}

pub common_entries : WorkedCommons
common_entries = record {
  plain = refl;
  lsda = refl;
  two_sizes = refl;
  personality = refl;
  both = refl;
  wide = refl;
}

pub differences : WorkedDifferences
unfolding extended nop_or_advance register_rule state_or_cfa signed_or_value row_in_force common_of encoding_of uleb_bytes sleb_bytes
differences = record {
  push = refl;
  move = refl;
  pop = refl;
  stay = refl;
}
