-- The worked operands are read so.
use Rattle.std.proofs.Common.{refl}
use Rattle.asm_base.specs.Tokens.{is_long_operator, token_kind, token_length, tokens_from}
use Rattle.asm_base.specs.ByteClasses.{is_blank, is_name_start, is_name_byte, is_operator_byte}
use Rattle.asm_base.specs.Dividing.{comment_length, quoted_length, is_plain, piece_kind, piece_length, pieces_from}
use Rattle.asm_base.specs.Digits.{digit_of, number_after}
use Rattle.asm_base.specs.Strings.{low_byte, escape_length, control_byte, escaped_byte, string_value_from}
use Rattle.expr_texts.specs.Operators.{prefix_by, operator_byte, operator_bytes, operator_by, level_of}
use Rattle.expr_texts.specs.Leaves.{character_code, digits_leaf, leaf_of}
use Rattle.expr_texts.specs.Numbers.{numeral, spelled_number}
use Rattle.expr_texts.specs.Reading.{whole, operand_of, reading, reading_more, reading_of, read_at, read_more}
use Rattle.asm_expr.specs.Trees.{height}
use Rattle.att_operands.specs.Registers.{register_names, register_of}
use Rattle.att_operands.specs.Marks.{mark_by, ends_by, begins_by}
use Rattle.att_operands.specs.Addresses.{scale_by, index_at, address_at}
use Rattle.att_operands.specs.Values.{suffix_by, names_by, numbers_by, before_name, without_suffix, value_at, begun_at}
use Rattle.att_operands.specs.OperandTexts.{displaced, memory_at, place_at, operand_at}
use Rattle.att_operands.specs.WorkedOperands.{WorkedOperands}

pub worked : WorkedOperands
unfolding is_long_operator token_kind token_length tokens_from is_blank is_name_start is_name_byte is_operator_byte comment_length quoted_length is_plain piece_kind piece_length pieces_from digit_of number_after low_byte escape_length control_byte escaped_byte string_value_from prefix_by operator_byte operator_bytes operator_by level_of character_code digits_leaf leaf_of numeral spelled_number whole operand_of reading reading_more reading_of read_at read_more height register_names register_of mark_by ends_by begins_by scale_by index_at address_at suffix_by names_by numbers_by before_name without_suffix value_at begun_at displaced memory_at place_at operand_at
worked = record {
  long = refl;
  high = refl;
  negative = refl;
  frame = refl;
  scaled = refl;
  unbased = refl;
  lone_scale = refl;
  segmented = refl;
  got = refl;
  local = refl;
  local_before = refl;
  called = refl;
  called_ahead = refl;
  indirect = refl;
  immediate_of_branch = refl;
  stack_index = refl;
  rip_index = refl;
  short_base = refl;
  third = refl;
  wide_scale = refl;
  scale_of_base = refl;
  no_scale = refl;
  lone_two = refl;
  unknown_suffix = refl;
  numbered = refl;
  late_suffix = refl;
  labelled = refl;
  taken_away = refl;
  inner_suffix = refl;
  unstarred = refl;
  unstarred_memory = refl;
  starred = refl;
  empty = refl;
  due = refl;
  due_at_end = refl;
  wide = refl;
  unclosed = refl;
}
