-- The worked instructions are read so.
use Rattle.std.proofs.Common.{refl}
use Rattle.asm_base.specs.Tokens.{is_long_operator, token_kind, token_length, tokens_from}
use Rattle.asm_base.specs.ByteClasses.{is_blank, is_name_start, is_name_byte, is_operator_byte}
use Rattle.asm_base.specs.Dividing.{comment_length, quoted_length, is_plain, piece_kind, piece_length, pieces_from}
use Rattle.asm_base.specs.Digits.{digit_of, number_after}
use Rattle.asm_base.specs.Strings.{low_byte, escape_length, control_byte, escaped_byte, string_value_from}
use Rattle.expr_texts.specs.Operators.{prefix_by, operator_byte, operator_bytes, operator_by, level_of}
use Rattle.expr_texts.specs.Leaves.{character_code, digits_leaf, leaf_of}
use Rattle.expr_texts.specs.Numbers.{numeral, spelled_number}
use Rattle.expr_texts.specs.Reading.{whole, operand_of, reading, reading_more, reading_of, read_at, read_more}
use Rattle.asm_expr.specs.Trees.{height}
use Rattle.x86_table.specs.Rows.{the_rows}
use Rattle.x86_lookup.specs.Names.{the_intel_names}
use Rattle.att_operands.specs.Registers.{register_names, register_of}
use Rattle.att_operands.specs.Marks.{mark_by, ends_by}
use Rattle.att_operands.specs.Addresses.{scale_by}
use Rattle.att_operands.specs.Values.{suffix_by, names_by, numbers_by, before_name, without_suffix, value_at}
use Rattle.intel_sums.specs.Parts.{part_ends, part_in, address_of}
use Rattle.intel_sums.specs.OtherRegisters.{is_other_register}
use Rattle.intel_sums.specs.Sums.{is_loose, is_register, kept, with_token}
use Rattle.intel_operands.specs.Words.{is_word, bits_of}
use Rattle.intel_operands.specs.Symbols.{is_symbol, has_symbol, is_numeric, are_numbers, names_place}
use Rattle.intel_operands.specs.OperandTexts.{value_of, has_register, lone_register, segment_of, has_bracket, closes_bracket, bracketed, sized, outline_of, operand_of as text_operand, is_no_comma, operand_at}
use Rattle.att_insns.specs.Sources.{from_unsized}
use Rattle.x86_lookup.specs.Forms.{takes_all, takes_sized}
use Rattle.intel_insns.specs.Sizes.{size_left}
use Rattle.intel_insns.specs.Heads.{mnemonic_of, head_of}
use Rattle.intel_insns.specs.Reading.{with_all, insn_of}
use Rattle.intel_insns.specs.WorkedInsns.{WorkedPlain, WorkedBranches, WorkedRules, WorkedRefusals, WorkedInsns}

plain_worked : WorkedPlain
unfolding is_long_operator token_kind token_length tokens_from is_blank is_name_start is_name_byte is_operator_byte comment_length quoted_length is_plain piece_kind piece_length pieces_from digit_of number_after low_byte escape_length control_byte escaped_byte string_value_from prefix_by operator_byte operator_bytes operator_by level_of character_code digits_leaf leaf_of numeral spelled_number whole operand_of reading reading_more reading_of read_at read_more height register_names register_of mark_by ends_by scale_by suffix_by names_by numbers_by before_name without_suffix value_at is_word bits_of part_ends part_in address_of is_loose is_register kept with_token value_of has_register is_other_register is_symbol has_symbol is_numeric are_numbers names_place lone_register segment_of has_bracket closes_bracket bracketed sized outline_of text_operand is_no_comma operand_at the_rows the_intel_names takes_all from_unsized takes_sized size_left mnemonic_of head_of with_all insn_of
plain_worked = record {
  none = refl;
  upper = refl;
  scaled = refl;
  address = refl;
  symbol = refl;
  stack_base = refl;
  stack_last = refl;
  lea_rip = refl;
  segment_alone = refl;
  other_memory = refl;
  vector_memory = refl;
  long_default = refl;
}

branches_worked : WorkedBranches
unfolding is_long_operator token_kind token_length tokens_from is_blank is_name_start is_name_byte is_operator_byte comment_length quoted_length is_plain piece_kind piece_length pieces_from digit_of number_after low_byte escape_length control_byte escaped_byte string_value_from prefix_by operator_byte operator_bytes operator_by level_of character_code digits_leaf leaf_of numeral spelled_number whole operand_of reading reading_more reading_of read_at read_more height register_names register_of mark_by ends_by scale_by suffix_by names_by numbers_by before_name without_suffix value_at is_word bits_of part_ends part_in address_of is_loose is_register kept with_token value_of has_register is_other_register is_symbol has_symbol is_numeric are_numbers names_place lone_register segment_of has_bracket closes_bracket bracketed sized outline_of text_operand is_no_comma operand_at the_rows the_intel_names takes_all from_unsized takes_sized size_left mnemonic_of head_of with_all insn_of
branches_worked = record {
  jump = refl;
  jumped = refl;
  jumped_if = refl;
  jumped_through = refl;
  called_through = refl;
  called_in_brackets = refl;
  notracked = refl;
  repeated = refl;
  string = refl;
  locked = refl;
}

rules_worked : WorkedRules
unfolding is_long_operator token_kind token_length tokens_from is_blank is_name_start is_name_byte is_operator_byte comment_length quoted_length is_plain piece_kind piece_length pieces_from digit_of number_after low_byte escape_length control_byte escaped_byte string_value_from prefix_by operator_byte operator_bytes operator_by level_of character_code digits_leaf leaf_of numeral spelled_number whole operand_of reading reading_more reading_of read_at read_more height register_names register_of mark_by ends_by scale_by suffix_by names_by numbers_by before_name without_suffix value_at is_word bits_of part_ends part_in address_of is_loose is_register kept with_token value_of has_register is_other_register is_symbol has_symbol is_numeric are_numbers names_place lone_register segment_of has_bracket closes_bracket bracketed sized outline_of text_operand is_no_comma operand_at the_rows the_intel_names takes_all from_unsized takes_sized size_left mnemonic_of head_of with_all insn_of
rules_worked = record {
  accumulator = refl;
  accumulator_last = refl;
  from_byte = refl;
  from_word = refl;
  from_long = refl;
  only_byte = refl;
  shifted = refl;
  multiplied = refl;
  with_xmm0 = refl;
  xmm0_left_out = refl;
  moved = refl;
  vector_move = refl;
}

refusals_worked : WorkedRefusals
unfolding is_long_operator token_kind token_length tokens_from is_blank is_name_start is_name_byte is_operator_byte comment_length quoted_length is_plain piece_kind piece_length pieces_from digit_of number_after low_byte escape_length control_byte escaped_byte string_value_from prefix_by operator_byte operator_bytes operator_by level_of character_code digits_leaf leaf_of numeral spelled_number whole operand_of reading reading_more reading_of read_at read_more height register_names register_of mark_by ends_by scale_by suffix_by names_by numbers_by before_name without_suffix value_at is_word bits_of part_ends part_in address_of is_loose is_register kept with_token value_of has_register is_other_register is_symbol has_symbol is_numeric are_numbers names_place lone_register segment_of has_bracket closes_bracket bracketed sized outline_of text_operand is_no_comma operand_at the_rows the_intel_names takes_all from_unsized takes_sized size_left mnemonic_of head_of with_all insn_of
refusals_worked = record {
  unknown = refl;
  no_size = refl;
  no_source = refl;
  nothing_behind = refl;
  four = refl;
  first_fault = refl;
  signed = refl;
}

pub worked : WorkedInsns
worked = record { plain = plain_worked; branches = branches_worked; rules = rules_worked; refusals = refusals_worked }
