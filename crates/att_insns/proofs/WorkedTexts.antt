-- The worked instructions are read so.
use Rattle.std.proofs.Common.{refl}
use Rattle.asm_base.specs.Tokens.{is_long_operator, token_kind, token_length, tokens_from}
use Rattle.asm_base.specs.ByteClasses.{is_blank, is_name_start, is_name_byte, is_operator_byte}
use Rattle.asm_base.specs.Dividing.{comment_length, quoted_length, is_plain, piece_kind, piece_length, pieces_from}
use Rattle.asm_base.specs.Digits.{digit_of, number_after}
use Rattle.asm_base.specs.Strings.{low_byte, escape_length, control_byte, escaped_byte, string_value_from}
use Rattle.expr_texts.specs.Operators.{prefix_by, operator_byte, operator_bytes, operator_by, level_of}
use Rattle.expr_texts.specs.Leaves.{character_code, digits_leaf, leaf_of}
use Rattle.expr_texts.specs.Numbers.{numeral, spelled_number}
use Rattle.expr_texts.specs.Reading.{whole, operand_of, reading, reading_more, reading_of, read_at, read_more}
use Rattle.asm_expr.specs.Trees.{height}
use Rattle.x86_table.specs.Rows.{the_rows}
use Rattle.x86_lookup.specs.Names.{the_att_names}
use Rattle.x86_lookup.specs.Mnemonics.{whole_mnemonic, att_mnemonic}
use Rattle.att_operands.specs.Registers.{register_names, register_of}
use Rattle.att_operands.specs.Marks.{mark_by, ends_by, begins_by}
use Rattle.att_operands.specs.Addresses.{scale_by, index_at, address_at}
use Rattle.att_operands.specs.Values.{suffix_by, names_by, numbers_by, before_name, without_suffix, value_at, begun_at}
use Rattle.att_operands.specs.OperandTexts.{displaced, memory_at, place_at, operand_at}
use Rattle.x86_lookup.specs.Forms.{takes_all}
use Rattle.att_insns.specs.Sizes.{size_left}
use Rattle.att_insns.specs.Sources.{from_unsized}
use Rattle.att_insns.specs.Heads.{head_of}
use Rattle.att_insns.specs.Reading.{with_all, insn_of}
use Rattle.att_insns.specs.WorkedInsns.{WorkedPlain, WorkedBranches, WorkedRules, WorkedMnemonics, WorkedRefusals, WorkedInsns}

plain_worked : WorkedPlain
unfolding is_long_operator token_kind token_length tokens_from is_blank is_name_start is_name_byte is_operator_byte comment_length quoted_length is_plain piece_kind piece_length pieces_from digit_of number_after low_byte escape_length control_byte escaped_byte string_value_from prefix_by operator_byte operator_bytes operator_by level_of character_code digits_leaf leaf_of numeral spelled_number whole operand_of reading reading_more reading_of read_at read_more height register_names register_of mark_by ends_by begins_by scale_by index_at address_at suffix_by names_by numbers_by before_name without_suffix value_at begun_at displaced memory_at place_at operand_at the_rows the_att_names takes_all size_left from_unsized whole_mnemonic att_mnemonic head_of with_all insn_of
plain_worked = record {
  none = refl;
  upper = refl;
  by_register = refl;
  long_move = refl;
  wide = refl;
  scaled = refl;
  lea_rip = refl;
  both_values = refl;
  got = refl;
  thread_got = refl;
  thread_offset = refl;
  wide_immediate = refl;
  other_sizes = refl;
  one_size = refl;
  checked = refl;
}

branches_worked : WorkedBranches
unfolding is_long_operator token_kind token_length tokens_from is_blank is_name_start is_name_byte is_operator_byte comment_length quoted_length is_plain piece_kind piece_length pieces_from digit_of number_after low_byte escape_length control_byte escaped_byte string_value_from prefix_by operator_byte operator_bytes operator_by level_of character_code digits_leaf leaf_of numeral spelled_number whole operand_of reading reading_more reading_of read_at read_more height register_names register_of mark_by ends_by begins_by scale_by index_at address_at suffix_by names_by numbers_by before_name without_suffix value_at begun_at displaced memory_at place_at operand_at the_rows the_att_names takes_all size_left from_unsized whole_mnemonic att_mnemonic head_of with_all insn_of
branches_worked = record {
  jump = refl;
  jumped = refl;
  jumped_if = refl;
  notracked = refl;
  called_through = refl;
  called = refl;
  looped = refl;
  returns = refl;
  repeated = refl;
  locked = refl;
  locked_register = refl;
}

rules_worked : WorkedRules
unfolding is_long_operator token_kind token_length tokens_from is_blank is_name_start is_name_byte is_operator_byte comment_length quoted_length is_plain piece_kind piece_length pieces_from digit_of number_after low_byte escape_length control_byte escaped_byte string_value_from prefix_by operator_byte operator_bytes operator_by level_of character_code digits_leaf leaf_of numeral spelled_number whole operand_of reading reading_more reading_of read_at read_more height register_names register_of mark_by ends_by begins_by scale_by index_at address_at suffix_by names_by numbers_by before_name without_suffix value_at begun_at displaced memory_at place_at operand_at the_rows the_att_names takes_all size_left from_unsized whole_mnemonic att_mnemonic head_of with_all insn_of
rules_worked = record {
  with_xmm0 = refl;
  xmm0_left_out = refl;
  exchanged = refl;
  accumulator = refl;
  accumulator_last = refl;
  tested = refl;
  tested_register = refl;
  not_turned = refl;
  shifted = refl;
  shifted_by = refl;
  shifted_double = refl;
  shifted_double_by = refl;
  shifted_memory = refl;
  multiplied = refl;
  compared = refl;
  moved = refl;
  moved_quad = refl;
  converted = refl;
  converted_quad = refl;
}

mnemonics_worked : WorkedMnemonics
unfolding is_long_operator token_kind token_length tokens_from is_blank is_name_start is_name_byte is_operator_byte comment_length quoted_length is_plain piece_kind piece_length pieces_from digit_of number_after low_byte escape_length control_byte escaped_byte string_value_from prefix_by operator_byte operator_bytes operator_by level_of character_code digits_leaf leaf_of numeral spelled_number whole operand_of reading reading_more reading_of read_at read_more height register_names register_of mark_by ends_by begins_by scale_by index_at address_at suffix_by names_by numbers_by before_name without_suffix value_at begun_at displaced memory_at place_at operand_at the_rows the_att_names takes_all size_left from_unsized whole_mnemonic att_mnemonic head_of with_all insn_of
mnemonics_worked = record {
  own = refl;
  own_long = refl;
  from_byte = refl;
  from_word = refl;
  from_long = refl;
  by_letter = refl;
  no_such_source = refl;
  one_source = refl;
  lettered = refl;
  lettered_jump = refl;
  other_letter = refl;
  two_letters = refl;
  other_memory = refl;
}

refusals_worked : WorkedRefusals
unfolding is_long_operator token_kind token_length tokens_from is_blank is_name_start is_name_byte is_operator_byte comment_length quoted_length is_plain piece_kind piece_length pieces_from digit_of number_after low_byte escape_length control_byte escaped_byte string_value_from prefix_by operator_byte operator_bytes operator_by level_of character_code digits_leaf leaf_of numeral spelled_number whole operand_of reading reading_more reading_of read_at read_more height register_names register_of mark_by ends_by begins_by scale_by index_at address_at suffix_by names_by numbers_by before_name without_suffix value_at begun_at displaced memory_at place_at operand_at the_rows the_att_names takes_all size_left from_unsized whole_mnemonic att_mnemonic head_of with_all insn_of
refusals_worked = record {
  unknown = refl;
  numbered = refl;
  alone = refl;
  twice = refl;
  jump_without_star = refl;
  stack_index = refl;
  nothing_behind = refl;
  nothing_between = refl;
  four = refl;
  left_over = refl;
  first_fault = refl;
  no_size = refl;
  no_shift_size = refl;
  no_source_size = refl;
  no_letter = refl;
  letter_behind_letter = refl;
}

pub worked : WorkedInsns
worked = record { plain = plain_worked; branches = branches_worked; rules = rules_worked; mnemonics = mnemonics_worked; refusals = refusals_worked }
