-- The worked statements compute.
use Rattle.std.proofs.Common.{refl}
use Rattle.asm_base.specs.ByteClasses.{is_blank, is_name_start, is_name_byte, is_operator_byte}
use Rattle.asm_base.specs.Digits.{digit_of, number_after}
use Rattle.asm_base.specs.Dividing.{comment_length, quoted_length, is_plain, piece_kind, piece_length}
use Rattle.asm_base.specs.Tokens.{is_long_operator, token_kind, token_length, tokens_from}
use Rattle.asm_expr.specs.Arithmetic.{combined}
use Rattle.asm_expr.specs.Forms.{with_term, with_terms}
use Rattle.asm_expr.specs.Linear.{unary_form, binary_form, linear}
use Rattle.asm_expr.specs.Settled.{put_all, settled}
use Rattle.asm_expr.specs.Trees.{height}
use Rattle.asm_operands.specs.Expressions.{expression_of, form_in, constant_in}
use Rattle.asm_operands.specs.Operands.{each}
use Rattle.expr_texts.specs.Leaves.{digits_leaf, leaf_of}
use Rattle.expr_texts.specs.Numbers.{numeral, spelled_number}
use Rattle.expr_texts.specs.Operators.{prefix_by, operator_byte, operator_bytes, operator_by, level_of}
use Rattle.expr_texts.specs.Reading.{whole, operand_of, read_at, read_more, reading}
use Rattle.asm_line_tables.specs.Parts.{option_named}
use Rattle.asm_line_tables.specs.Placing.{known_numbers}
use Rattle.asm_line_tables.specs.WorkedStatements.{WorkedStatements}
use Rattle.asm_line_tables.specs.Words.{loc_words}

pub worked : WorkedStatements
unfolding is_blank is_name_start is_name_byte is_operator_byte digit_of number_after comment_length quoted_length is_plain piece_kind piece_length is_long_operator token_kind token_length tokens_from unary_form binary_form linear combined with_term with_terms put_all settled height expression_of form_in constant_in each digits_leaf leaf_of numeral spelled_number prefix_by operator_byte operator_bytes operator_by level_of whole operand_of read_at read_more reading option_named known_numbers loc_words
worked = record {
  column = λ known. refl;
  no_column = λ known. refl;
  options = λ known. refl;
  marks = λ known. refl;
  twice = λ known. refl;
  sums = λ known. refl;
  parentheses = λ known. refl;
  greatest = λ known. refl;
  too_great = λ known. refl;
  great_file = λ known. refl;
  no_truth = λ known. refl;
  no_line = λ known. refl;
  no_value = λ known. refl;
  no_option = λ known. refl;
  other_name = λ known. refl;
  comma = λ known. refl;
}
