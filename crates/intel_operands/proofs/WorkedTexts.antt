-- The worked operands are read so.
use Rattle.std.proofs.Common.{refl}
use Rattle.asm_base.specs.Tokens.{is_long_operator, token_kind, token_length, tokens_from}
use Rattle.asm_base.specs.ByteClasses.{is_blank, is_name_start, is_name_byte, is_operator_byte}
use Rattle.asm_base.specs.Dividing.{comment_length, quoted_length, is_plain, piece_kind, piece_length, pieces_from}
use Rattle.asm_base.specs.Digits.{digit_of, number_after}
use Rattle.asm_base.specs.Strings.{low_byte, escape_length, control_byte, escaped_byte, string_value_from}
use Rattle.expr_texts.specs.Operators.{prefix_by, operator_byte, operator_bytes, operator_by, level_of}
use Rattle.expr_texts.specs.Leaves.{character_code, digits_leaf, leaf_of}
use Rattle.expr_texts.specs.Numbers.{numeral, spelled_number}
use Rattle.expr_texts.specs.Reading.{whole, operand_of, reading, reading_more, reading_of, read_at, read_more}
use Rattle.asm_expr.specs.Trees.{height}
use Rattle.att_operands.specs.Registers.{register_names, register_of}
use Rattle.att_operands.specs.Marks.{mark_by, ends_by}
use Rattle.att_operands.specs.Addresses.{scale_by}
use Rattle.att_operands.specs.Values.{suffix_by, names_by, numbers_by, before_name, without_suffix, value_at}
use Rattle.intel_sums.specs.Parts.{part_ends, part_in, address_of}
use Rattle.intel_sums.specs.Sums.{is_loose, is_register, kept, with_token}
use Rattle.intel_sums.specs.OtherRegisters.{is_other_register}
use Rattle.intel_operands.specs.Words.{is_word, bits_of}
use Rattle.intel_operands.specs.OperandTexts.{value_of, has_register, lone_register, segment_of, has_bracket, closes_bracket, bracketed, sized, outline_of, operand_of as text_operand, is_no_comma, operand_at}
use Rattle.intel_operands.specs.Symbols.{is_symbol, has_symbol, is_numeric, are_numbers, names_place}
use Rattle.intel_operands.specs.WorkedOperands.{WorkedSums, WorkedPlain, WorkedRefusals, WorkedOperands}

sums_worked : WorkedSums
unfolding is_long_operator token_kind token_length tokens_from is_blank is_name_start is_name_byte is_operator_byte comment_length quoted_length is_plain piece_kind piece_length pieces_from digit_of number_after low_byte escape_length control_byte escaped_byte string_value_from prefix_by operator_byte operator_bytes operator_by level_of character_code digits_leaf leaf_of numeral spelled_number whole operand_of reading reading_more reading_of read_at read_more height register_names register_of mark_by ends_by scale_by suffix_by names_by numbers_by before_name without_suffix value_at is_word bits_of part_ends part_in address_of is_loose is_register kept with_token value_of has_register is_other_register is_symbol has_symbol is_numeric are_numbers names_place lone_register segment_of has_bracket closes_bracket bracketed sized outline_of text_operand is_no_comma operand_at
sums_worked = record {
  scaled = refl;
  stack_last = refl;
  stack_first = refl;
  first_is_base = refl;
  scale_first = refl;
  frame = refl;
  before = refl;
  from_rip = refl;
  added = refl;
  table = refl;
  between = refl;
  enclosed = refl;
  got = refl;
  absolute = refl;
  quoted = refl;
  called = refl;
}

plain_worked : WorkedPlain
unfolding is_long_operator token_kind token_length tokens_from is_blank is_name_start is_name_byte is_operator_byte comment_length quoted_length is_plain piece_kind piece_length pieces_from digit_of number_after low_byte escape_length control_byte escaped_byte string_value_from prefix_by operator_byte operator_bytes operator_by level_of character_code digits_leaf leaf_of numeral spelled_number whole operand_of reading reading_more reading_of read_at read_more height register_names register_of mark_by ends_by scale_by suffix_by names_by numbers_by before_name without_suffix value_at is_word bits_of part_ends part_in address_of is_loose is_register kept with_token value_of has_register is_other_register is_symbol has_symbol is_numeric are_numbers names_place lone_register segment_of has_bracket closes_bracket bracketed sized outline_of text_operand is_no_comma operand_at
plain_worked = record {
  long = refl;
  negative = refl;
  symbol = refl;
  moved_symbol = refl;
  suffixed_symbol = refl;
  sized_symbol = refl;
  address = refl;
  flat = refl;
  segmented = refl;
  local = refl;
  jumped = refl;
  ahead = refl;
  indirect = refl;
  indirect_memory = refl;
}

refusals_worked : WorkedRefusals
unfolding is_long_operator token_kind token_length tokens_from is_blank is_name_start is_name_byte is_operator_byte comment_length quoted_length is_plain piece_kind piece_length pieces_from digit_of number_after low_byte escape_length control_byte escaped_byte string_value_from prefix_by operator_byte operator_bytes operator_by level_of character_code digits_leaf leaf_of numeral spelled_number whole operand_of reading reading_more reading_of read_at read_more height register_names register_of mark_by ends_by scale_by suffix_by names_by numbers_by before_name without_suffix value_at is_word bits_of part_ends part_in address_of is_loose is_register kept with_token value_of has_register is_other_register is_symbol has_symbol is_numeric are_numbers names_place lone_register segment_of has_bracket closes_bracket bracketed sized outline_of text_operand is_no_comma operand_at
refusals_worked = record {
  third = refl;
  wrong_scale = refl;
  stack_index = refl;
  rip_index = refl;
  short_base = refl;
  less = refl;
  in_parentheses = refl;
  compared = refl;
  twice = refl;
  open_bracket = refl;
  behind_bracket = refl;
  register_sum = refl;
  address_of_register = refl;
  nothing = refl;
  other_size = refl;
  added_nothing = refl;
  empty = refl;
  led = refl;
  due = refl;
  wide = refl;
  control = refl;
  segment_name = refl;
  control_in_sum = refl;
  product = refl;
  difference = refl;
  sized_number = refl;
}

pub worked : WorkedOperands
worked = record { sums = sums_worked; plain = plain_worked; refusals = refusals_worked }
