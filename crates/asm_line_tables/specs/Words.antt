-- What stands in a `.loc`, and in a `.file` with a number, read from left to right (GNU as manual, ".loc", ".file").
use Rattle.std.specs.Prelude.{ℕ, zero, suc, ◌==◌, true, false, List, [], ◌∷◌, ◌++◌, Option, None, Some, if◌then◌else◌, Result, Ok, Err}
use Rattle.std.specs.List.{list_any}
use Rattle.asm_base.specs.Refusals.{◌>>=◌}
use Rattle.asm_base.specs.Tokens.{SpelledToken}
use Rattle.asm_expr.specs.Trees.{Tree}
use Rattle.asm_operands.specs.declared.place_faults.PlaceCause.{PlaceCause}
use Rattle.asm_operands.specs.declared.place_faults.PlaceCause.TheVariants.{BadOperand}
use Rattle.asm_operands.specs.Expressions.{expression_of}
use Rattle.asm_operands.specs.Operands.{is_name, string_of}
use Rattle.asm_line_tables.specs.declared.words.LocMark.{LocMark}
use Rattle.asm_line_tables.specs.declared.words.LocMark.TheVariants.{BasicBlock, PrologueEnd, EpilogueBegin}
use Rattle.asm_line_tables.specs.declared.words.LocMarks.{LocMarks}
use Rattle.asm_line_tables.specs.declared.words.LocOption.{LocOption}
use Rattle.asm_line_tables.specs.declared.words.LocOption.TheVariants.{Mark, Value}
use Rattle.asm_line_tables.specs.declared.words.LocValue.{LocValue}
use Rattle.asm_line_tables.specs.declared.words.LocValue.TheVariants.{File, Line, Column}
use Rattle.asm_line_tables.specs.Parts.{front_length, front, behind_front, option_of}

-- `.loc`

-- no mark stands
abbrev pub no_marks : LocMarks
no_marks = record { basic_block = false; prologue_end = false; epilogue_begin = false }

-- the marks with one more
abbrev pub with_mark : LocMark → LocMarks → LocMarks
with_mark BasicBlock marks = record marks { basic_block = true }
with_mark PrologueEnd marks = record marks { prologue_end = true }
with_mark EpilogueBegin marks = record marks { epilogue_begin = true }

-- what a `.loc` says: the marks, and its expressions in their order, each with what it is the value of
pub record LocWords : Type 0 where
  pub marks : LocMarks
  pub kinds : List LocValue
  pub trees : List Tree

-- nothing is said
abbrev pub no_words : LocWords
no_words = record { marks = no_marks; kinds = []; trees = [] }

-- a mark is said too
abbrev pub marked : LocMark → LocWords → LocWords
marked mark words = record words { marks = with_mark mark words.marks }

-- the value of an expression is said too
abbrev pub valued : LocValue → Tree → LocWords → LocWords
valued kind tree words = record words { kinds = words.kinds ++ kind ∷ []; trees = words.trees ++ tree ∷ [] }

-- the words with the expression at the front, which is such a value, and what stands behind it
abbrev pub value_read : LocValue → List SpelledToken → LocWords → Result (LocWords × List SpelledToken) PlaceCause
value_read kind tokens words = expression_of (front tokens) >>= λ tree. Ok (valued kind tree words, behind_front tokens)

-- the words with an option, by what its name is, and what stands behind it: a mark stands alone, and behind any other name an expression has to stand
abbrev pub option_read : Option LocOption → List SpelledToken → LocWords → Result (LocWords × List SpelledToken) PlaceCause
option_read None rest words = Err BadOperand
option_read (Some (Mark mark)) rest words = Ok (marked mark words, rest)
option_read (Some (Value kind)) rest words = value_read kind rest words

-- how many tokens of what stands behind an option's name it has
abbrev pub option_length : Option LocOption → List SpelledToken → ℕ
option_length None rest = 0
option_length (Some (Mark mark)) rest = 0
option_length (Some (Value kind)) rest = front_length rest

-- options up to the last token, of which the first few are left out
abbrev pub options_from : ℕ → LocWords → List SpelledToken → Result LocWords PlaceCause
options_from left_out words [] = Ok words
options_from (suc left_out) words (token ∷ rest) = options_from left_out words rest
options_from zero words (token ∷ rest) =
    option_read (option_of token) rest words >>= λ read. options_from (option_length (option_of token) rest) read.0 rest

-- the column, which may be missing: what stands behind the line is one unless it begins with a name
abbrev pub column_read : List SpelledToken → LocWords → Result (LocWords × List SpelledToken) PlaceCause
column_read [] words = Ok (words, [])
column_read (token ∷ rest) words = if is_name token then Ok (words, token ∷ rest) else value_read Column (token ∷ rest) words

-- a file number, a line, a column where one stands, and options
unfoldable pub loc_words : List SpelledToken → Result LocWords PlaceCause
loc_words tokens =
    value_read File tokens no_words >>= λ file. value_read Line file.1 file.0 >>= λ line. column_read line.1 line.0 >>= λ column.
    options_from 0 column.0 column.1

-- `.file` WITH A NUMBER

-- what a `.file` with a number says: the number, the directory where it has one, and the name
pub record FileWords : Type 0 where
  pub number : Tree
  pub directory : Option (List ℕ)
  pub name : List ℕ

-- a path, if it has no zero byte
abbrev pub checked_path : List ℕ → Result (List ℕ) PlaceCause
checked_path path = if list_any (λ byte. byte == 0) path then Err BadOperand else Ok path

-- a string that is a path
unfoldable pub path_of : List SpelledToken → Result (List ℕ) PlaceCause
path_of operand = string_of operand >>= checked_path

-- a name alone, or a directory and a name
abbrev pub paths_of : List SpelledToken → Result (Option (List ℕ) × List ℕ) PlaceCause
paths_of [] = Err BadOperand
paths_of (name ∷ []) = path_of (name ∷ []) >>= λ path. Ok (None, path)
paths_of (directory ∷ name ∷ []) = path_of (directory ∷ []) >>= λ one. path_of (name ∷ []) >>= λ path. Ok (Some one, path)
paths_of (one ∷ two ∷ three ∷ rest) = Err BadOperand

-- a number, and a name with a directory before it or without
unfoldable pub file_words : List SpelledToken → Result FileWords PlaceCause
file_words tokens =
    expression_of (front tokens) >>= λ tree. paths_of (behind_front tokens) >>= λ paths.
    Ok (record { number = tree; directory = paths.0; name = paths.1 })
