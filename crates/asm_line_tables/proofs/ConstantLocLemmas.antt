-- A `.loc` of numbers alone is its row.
use Rattle.std.proofs.Common.{◌≡◌, ℕ, Bool, true, false, cond, List, [], ◌∷◌, ◌++◌, ◌-◌, map, length, drop, Option, None, Some, Result, Ok, refl, sym, ap, ◌∙◌, subst, append_assoc, append-nil}
use Rattle.std.specs.Prelude.{not}
use Rattle.asm_base.specs.Refusals.{◌>>=◌}
use Rattle.asm_base.specs.Tokens.{SpelledToken}
use Rattle.asm_operands.specs.declared.place_faults.PlaceCause.{PlaceCause}
use Rattle.asm_operands.specs.Operands.{is_name}
use Rattle.asm_uses.specs.declared.tables.Naming.{Naming}
use Rattle.asm_uses.specs.Tables.{Table, naming_of}
use Rattle.asm_values.specs.ConstantOperands.{no_naming}
use Rattle.asm_values.specs.State.{with_table, with_names, known_here}
use Rattle.asm_line_tables.specs.declared.words.LocMarks.{LocMarks}
use Rattle.asm_line_tables.specs.declared.words.LocNumbers.{LocNumbers}
use Rattle.asm_line_tables.specs.declared.words.LocOption.{LocOption}
use Rattle.asm_line_tables.specs.declared.words.LocOption.TheVariants.{Mark, Value}
use Rattle.asm_line_tables.specs.declared.words.LocValue.{LocValue}
use Rattle.asm_line_tables.specs.declared.words.LocValue.TheVariants.{File, Line, Column}
use Rattle.asm_line_tables.specs.Constants.{AddsNumber, has_column, AddsColumn, AddsOption, with_words, AreNumbers, AddsOptions, IsConstantLoc}
use Rattle.asm_line_tables.specs.Numbers.{no_numbers, loc_line}
use Rattle.asm_line_tables.specs.Parts.{behind_front, option_of}
use Rattle.asm_line_tables.specs.Placing.{take_loc, place_loc_words, place_loc}
use Rattle.asm_line_tables.specs.Words.{LocWords, no_words, no_marks, valued, value_read, option_read, option_length, options_from, column_read, loc_words}
use Rattle.asm_line_tables.proofs.NumberLemmas.{no_number, one_number, more_numbers, nothing_named, known_so}
use Rattle.asm_line_tables.proofs.OptionLemmas.{option_and_more, left_by}

-- a number is read
number_read : (kind : LocValue) (tokens behind : List SpelledToken) (before after : LocNumbers) (words : LocWords) (one : AddsNumber kind tokens behind before after)
    → value_read kind tokens words ≡ Ok (valued kind one.one.tree words, behind)
number_read kind tokens behind before after words one =
    ap (λ read. read >>= λ tree. Ok (valued kind tree words, behind_front tokens)) one.one.reads
    ∙ ap (λ rest. Ok (valued kind one.one.tree words, rest)) (sym one.one.rest)

-- OPTIONS

-- no option is read yet
pub no_option : (tokens left : List SpelledToken) (numbers : LocNumbers) (marks : LocMarks) → tokens ≡ left → marks ≡ no_marks → AddsOptions tokens left numbers numbers marks
no_option tokens left numbers marks is none = record {
  kinds = [];
  trees = [];
  numbers = no_number numbers;
  reads = λ words unmarked.
      ap (options_from 0 words) is
      ∙ ap (λ (same : LocWords). options_from 0 same left)
      (λ i. record { marks = (unmarked ∙ sym none) i; kinds = sym (append-nil words.kinds) i; trees = sym (append-nil words.trees) i });
}

-- an option more
pub option_more : (tokens left rest behind : List SpelledToken) (name : SpelledToken) (before numbers after : LocNumbers) (marks_before marks : LocMarks)
    → left ≡ name ∷ rest → AddsOptions tokens left before numbers marks_before → AddsOption (option_of name) rest behind numbers after marks_before marks
    → AddsOptions tokens behind before after marks
option_more tokens left rest behind name before numbers after marks_before marks is so = by (option_of name) refl
  where
    on : (words : LocWords) (option : Option LocOption) → option_of name ≡ option → options_from 0 words left
        ≡ (option_read option rest words >>= λ (read : LocWords × List SpelledToken). options_from 0 read.0 read.1)
    on words option named =
        ap (options_from 0 words) is ∙ option_and_more words name rest
        ∙ ap (λ (option : Option LocOption). option_read option rest words >>= λ (read : LocWords × List SpelledToken). options_from 0 read.0 read.1) named

    by : (option : Option LocOption) → option_of name ≡ option → AddsOption option rest behind numbers after marks_before marks → AddsOptions tokens behind before after marks
    by None named adds = absurd adds
    by (Some (Mark mark)) named (behind_is, numbers_are, marks_are) = record {
      kinds = so.kinds;
      trees = so.trees;
      numbers = subst (λ (last : LocNumbers). AreNumbers so.kinds so.trees before last) (sym numbers_are) so.numbers;
      reads = λ words unmarked.
          let read : LocWords = with_words marks_before so.kinds so.trees words in
          so.reads words unmarked ∙ on read (Some (Mark mark)) named
          ∙ ap (λ (these : LocMarks). options_from 0 (with_words these so.kinds so.trees words) rest) (sym marks_are)
          ∙ ap (options_from 0 (with_words marks so.kinds so.trees words)) (sym behind_is);
    }
    by (Some (Value kind)) named (one, marks_are) = record {
      kinds = so.kinds ++ kind ∷ [];
      trees = so.trees ++ one.one.tree ∷ [];
      numbers = more_numbers so.kinds (kind ∷ []) so.trees (one.one.tree ∷ []) before numbers after so.numbers (one_number kind rest behind numbers after one);
      reads = λ words unmarked.
          let read : LocWords = with_words marks_before so.kinds so.trees words in
          so.reads words unmarked ∙ on read (Some (Value kind)) named
          ∙ ap (λ (made : Result (LocWords × List SpelledToken) PlaceCause). made >>= λ (read : LocWords × List SpelledToken). options_from 0 read.0 read.1)
          (number_read kind rest behind numbers after read one)
          ∙ ap (λ (same : LocWords). options_from 0 same behind)
          (λ i. record { marks = sym marks_are i; kinds = append_assoc words.kinds so.kinds (kind ∷ []) i; trees = append_assoc words.trees so.trees (one.one.tree ∷ []) i });
    }

-- how many tokens of what stands behind an option's name it has
behind_option : (option : Option LocOption) (rest behind : List SpelledToken) (numbers after : LocNumbers) (marks_before marks : LocMarks)
    → AddsOption option rest behind numbers after marks_before marks → behind ≡ drop (option_length option rest) rest
behind_option None rest behind numbers after marks_before marks adds = absurd adds
behind_option (Some (Mark mark)) rest behind numbers after marks_before marks (behind_is, numbers_are, marks_are) = behind_is
behind_option (Some (Value kind)) rest behind numbers after marks_before marks (one, marks_are) = one.one.rest

-- the same of the tokens of the program, by how many are left
pub option_left : {X : Type 0} (spell : X → SpelledToken) (tokens rest behind : List X) (name : X) (at : ℕ) → drop at tokens ≡ name ∷ rest
    → (before numbers after : LocNumbers) (marks_before marks : LocMarks)
    → AddsOptions (map spell tokens) (map spell (drop at tokens)) before numbers marks_before
    → AddsOption (option_of (spell name)) (map spell rest) (map spell behind) numbers after marks_before marks
    → AddsOptions (map spell tokens) (map spell (drop (length tokens - length behind) tokens)) before after marks
option_left spell tokens rest behind name at front_is before numbers after marks_before marks so one =
    subst (λ (left : List SpelledToken). AddsOptions (map spell tokens) left before after marks)
    (sym (left_by spell tokens rest behind name at front_is (option_length (option_of (spell name)) (map spell rest))
    (behind_option (option_of (spell name)) (map spell rest) (map spell behind) numbers after marks_before marks one)))
    (option_more (map spell tokens) (map spell (drop at tokens)) (map spell rest) (map spell behind) (spell name) before numbers after marks_before marks
    (ap (map spell) front_is) so one)

-- ALL

-- the words up to the options
record FrontRead (tokens behind : List SpelledToken) (words : LocWords) (last : LocNumbers) : Type 0 where
  pub read : LocWords
  pub unmarked : read.marks ≡ no_marks
  pub reads : column_read tokens words ≡ Ok (read, behind)
  pub numbers : AreNumbers read.kinds read.trees no_numbers last

column_so : (tokens behind : List SpelledToken) (words : LocWords) (before after : LocNumbers) → words.marks ≡ no_marks → AreNumbers words.kinds words.trees no_numbers before
    → AddsColumn (has_column tokens) tokens behind before after → FrontRead tokens behind words after
column_so [] behind words before after unmarked are = λ (behind_is, numbers_are). record {
  read = words;
  unmarked = unmarked;
  reads = ap (λ rest. Ok (words, rest)) (sym behind_is);
  numbers = subst (λ (last : LocNumbers). AreNumbers words.kinds words.trees no_numbers last) (sym numbers_are) are;
}
column_so (token ∷ rest) behind words before after unmarked are = by (is_name token) refl
  where
    by : (test : Bool) → is_name token ≡ test → AddsColumn (not test) (token ∷ rest) behind before after → FrontRead (token ∷ rest) behind words after
    by true name (behind_is, numbers_are) = record {
      read = words;
      unmarked = unmarked;
      reads = ap (λ test. cond test (Ok (words, token ∷ rest)) (value_read Column (token ∷ rest) words)) name ∙ ap (λ rest. Ok (words, rest)) (sym behind_is);
      numbers = subst (λ (last : LocNumbers). AreNumbers words.kinds words.trees no_numbers last) (sym numbers_are) are;
    }
    by false other one = record {
      read = valued Column one.one.tree words;
      unmarked = unmarked;
      reads = ap (λ test. cond test (Ok (words, token ∷ rest)) (value_read Column (token ∷ rest) words)) other ∙ number_read Column (token ∷ rest) behind before after words one;
      numbers = more_numbers words.kinds (Column ∷ []) words.trees (one.one.tree ∷ []) no_numbers before after are (one_number Column (token ∷ rest) behind before after one);
    }

-- words that are numbers alone are their row
row_so : (tokens : List SpelledToken) (words : LocWords) (numbers : LocNumbers) → loc_words tokens ≡ Ok words → AreNumbers words.kinds words.trees no_numbers numbers
    → IsConstantLoc tokens (loc_line numbers words.marks)
unfolding place_loc
row_so tokens words numbers reads are = record {
  places = λ pos placed.
      ap (λ (read : Result LocWords PlaceCause). read >>= λ words. place_loc_words (naming_of words.trees placed.table) words (with_names pos words.trees placed)) reads
      ∙ ap (λ (naming : Naming). place_loc_words naming words (with_names pos words.trees placed)) (nothing_named words.trees placed.table are.names)
      ∙ ap (λ (table : Table). place_loc_words (no_naming placed.table) words (with_table placed table)) (are.names.names pos placed.table)
      ∙ ap (λ (made : Result LocNumbers PlaceCause). made >>= λ numbers. take_loc (no_naming placed.table) (loc_line numbers words.marks) placed)
      (known_so (known_here placed) words numbers are);
}

pub constant_row : (tokens behind_file behind_line options : List SpelledToken) (start one two three last : LocNumbers) (marks : LocMarks) → start ≡ no_numbers
    → AddsNumber File tokens behind_file start one → AddsNumber Line behind_file behind_line one two
    → AddsColumn (has_column behind_line) behind_line options two three → AddsOptions options [] three last marks
    → IsConstantLoc tokens (loc_line last marks)
unfolding loc_words
constant_row tokens behind_file behind_line options start one two three last marks begins begun line column more =
    let file : AddsNumber File tokens behind_file no_numbers one = subst (λ (first : LocNumbers). AddsNumber File tokens behind_file first one) begins begun in
    let first : LocWords = valued File file.one.tree no_words in
    let second : LocWords = valued Line line.one.tree first in
    let are : AreNumbers second.kinds second.trees no_numbers two =
    more_numbers (File ∷ []) (Line ∷ []) (file.one.tree ∷ []) (line.one.tree ∷ []) no_numbers one two
    (one_number File tokens behind_file no_numbers one file) (one_number Line behind_file behind_line one two line) in
    let third : FrontRead behind_line options second three = column_so behind_line options second two three refl are column in
    row_so tokens (with_words marks more.kinds more.trees third.read) last
    (ap (λ (made : Result (LocWords × List SpelledToken) PlaceCause). made >>= λ file. value_read Line file.1 file.0 >>= λ line. column_read line.1 line.0 >>= λ column.
    options_from 0 column.0 column.1) (number_read File tokens behind_file no_numbers one no_words file)
    ∙ ap (λ (made : Result (LocWords × List SpelledToken) PlaceCause). made >>= λ line. column_read line.1 line.0 >>= λ column.
    options_from 0 column.0 column.1) (number_read Line behind_file behind_line one two first line)
    ∙ ap (λ (made : Result (LocWords × List SpelledToken) PlaceCause). made >>= λ column. options_from 0 column.0 column.1) third.reads
    ∙ more.reads third.read third.unmarked)
    (more_numbers third.read.kinds more.kinds third.read.trees more.trees no_numbers three last third.numbers more.numbers)
