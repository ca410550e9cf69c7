-- What the tokens behind `.loc` say, worked out by hand (GNU as manual, ".loc").
use Rattle.std.specs.Prelude.{◌≡◌, ℕ, true, false, List, None, Some, codes, Result, Ok, Err}
use Rattle.asm_base.specs.Refusals.{◌>>=◌}
use Rattle.asm_base.specs.Tokens.{tokens_of}
use Rattle.asm_expr.specs.Knowledge.{Knowledge}
use Rattle.asm_operands.specs.declared.place_faults.PlaceCause.{PlaceCause}
use Rattle.asm_operands.specs.declared.place_faults.PlaceCause.TheVariants.{BadOperand, BadExpression, OutOfRange}
use Rattle.line_directives.specs.declared.loc_lines.LocLine.{LocLine}
use Rattle.asm_line_tables.specs.Numbers.{loc_line}
use Rattle.asm_line_tables.specs.Placing.{known_numbers}
use Rattle.asm_line_tables.specs.Words.{loc_words}

-- the row that a text behind `.loc` means, by what is known where it stands
abbrev pub said : Knowledge → List ℕ → Result LocLine PlaceCause
said known text = loc_words (tokens_of text) >>= λ words. known_numbers known words >>= λ numbers. Ok (loc_line numbers words.marks)

-- the text means this, whatever is known
abbrev pub Says : List ℕ → Result LocLine PlaceCause → Type 0
Says text row = (known : Knowledge) → said known text ≡ row

-- a row of file 1
abbrev pub row : ℕ → ℕ → LocLine
row line column = record {
  file = 1;
  line = line;
  column = column;
  is_stmt = None;
  isa = None;
  discriminator = 0;
  basic_block = false;
  prologue_end = false;
  epilogue_begin = false;
}

pub record WorkedStatements : Type 0 where
  pub column : Says (codes "1 3 5") (Ok (row 3 5))
  pub no_column : Says (codes "1 4") (Ok (row 4 0))
  pub options : Says (codes "1 23 is_stmt 0 discriminator 2") (Ok (record (row 23 0) { is_stmt = Some false; discriminator = 2 }))
  pub marks : Says (codes "1 2 9 epilogue_begin prologue_end basic_block isa 1")
      (Ok (record (row 2 9) { isa = Some 1; basic_block = true; prologue_end = true; epilogue_begin = true }))
  -- the last one holds
  pub twice : Says (codes "1 2 is_stmt 0 is_stmt 1") (Ok (record (row 2 0) { is_stmt = Some true }))
  -- an expression goes on until a value stands behind a value
  pub sums : Says (codes "1 2 -1+3 7") (Ok (row 4 7))
  pub parentheses : Says (codes "1(2)(3)") (Ok (row 2 3))
  pub greatest : Says (codes "1 2147483647") (Ok (row 2147483647 0))
  pub too_great : Says (codes "1 2147483648") (Err OutOfRange)
  pub great_file : Says (codes "65536 1") (Err OutOfRange)
  pub no_truth : Says (codes "1 2 is_stmt 2") (Err OutOfRange)
  pub no_line : Says (codes "1") (Err BadExpression)
  pub no_value : Says (codes "1 2 isa") (Err BadExpression)
  pub no_option : Says (codes "1 2 3 4") (Err BadOperand)
  pub other_name : Says (codes "1 2 view") (Err BadOperand)
  pub comma : Says (codes "1, 2") (Err BadOperand)
