-- The definition of expansion computed on sources written out.
use Rattle.std.specs.Prelude.{◌≡◌, ℕ, ◌-◌, List, [], ◌∷◌, ◌++◌, codes, false, if◌then◌else◌, None, Some, Result, Ok, Err, refl, slice_index}
use Rattle.std.specs.Str.{bytes_eq, is_utf8, chars}
use Rattle.std.specs.Fmt.{digits}
use Rattle.asm_base.specs.ByteClasses.{is_blank, is_name_start, is_name_byte, is_operator_byte}
use Rattle.asm_base.specs.Dividing.{comment_length, quoted_length, piece_kind, piece_length, pieces_from}
use Rattle.asm_base.specs.Tokens.{SpelledToken, is_long_operator, token_kind, token_length, tokens_from}
use Rattle.asm_base.specs.Strings.{string_value_from}
use Rattle.asm_base.specs.Inputs.{Contents}
use Rattle.asm_base.specs.declared.positions.Pos.{Pos}
use Rattle.asm_lines.specs.LineNumbers.{line_of}
use Rattle.asm_lines.specs.Intervals.{trimmed}
use Rattle.asm_lines.specs.Faults.{nul_found, source_found}
use Rattle.asm_lines.specs.Statements.{statements_in, statements_of}
use Rattle.asm_lines.specs.NextStatements.{TokenStatement}
use Rattle.macro_texts.specs.TokenTexts.{text_of, value_text}
use Rattle.macro_texts.specs.Parameters.{parameter_of, parameters_of}
use Rattle.macro_texts.specs.Arguments.{filled_once, call_arguments}
use Rattle.macro_texts.specs.Putting.{argument_named, put_by, put_from}
use Rattle.macro_words.specs.declared.causes.MacroCause.{MacroCause}
use Rattle.macro_words.specs.declared.causes.MacroCause.TheVariants.{BadMacroLine, MissingArgument, UnclosedBlock, EndWithoutBeginning, NestedTooDeeply, MacroAlreadyDefined, UnclosedString, ValueNotKnown}
use Rattle.macro_words.specs.Words.{the_words, word_of}
use Rattle.macro_words.specs.Statements.{word_in, made_statements}
use Rattle.macro_blocks.specs.Blocks.{depth_behind, stops, cut}
use Rattle.macro_words.specs.Conditions.{Knowledge, repeat_count, holds}
use Rattle.macro_words.specs.Branches.{verdict}
use Rattle.macro_words.specs.Files.{FileFault, file_statements}
use Rattle.asm_macro.specs.Expansion.{started, conditional, branch_end, conditional_end, repeat, each, define, call, purge, after_call, exit, include, head, turn}
use Rattle.asm_macro.specs.Placing.{Step, steps}
use Rattle.asm_macro.specs.Placing as pair

-- a number of one digit is known, and no symbol is defined
abbrev value_told : List SpelledToken → Result ℕ MacroCause
value_told [] = Err ValueNotKnown
value_told (token ∷ rest) = Ok (slice_index token.bytes 0 - 48)

abbrev told : List (List ℕ) → Knowledge
told placed = record { value = value_told; is_defined = λ operands. Ok false }

-- a placer that keeps the texts of statements
abbrev kept : List (List ℕ) → TokenStatement → Result (List (List ℕ)) ℕ
kept placed statement = Ok (placed ++ text_of statement.tokens ∷ [])

-- one file is there beside the source
abbrev contents : Contents
contents name = if bytes_eq name (codes "b.inc") then Some (codes "nop\n.endif") else None

-- what a sample shows: the texts of the statements that were handed out, or the fault
data Seen : Type 0 where
  ended : List (List ℕ) → Seen
  fails : MacroCause → Pos → Seen
  misses : List (List ℕ) → Seen
  other : Seen

-- what is shown of a step
abbrev seen : Step (List (List ℕ)) ℕ → Seen
seen (pair.ended files texts) = ended texts
seen (pair.fails files cause pos texts) = fails cause pos
seen (pair.misses files) = misses files
seen _ = other

-- what comes of a source after so many turns
abbrev begun_by : ℕ → Result (List TokenStatement) FileFault → Seen
begun_by n (Ok statements) = seen (steps kept told (Some contents) n (started ([] ∷ []) statements) [])
begun_by n (Err fault) = other

abbrev expanded : ℕ → List ℕ → Seen
expanded n source = begun_by n (file_statements 0 source)

abbrev at : ℕ → ℕ → Pos
at file line = record { file = file; line = line }

two_copies : expanded 9 (codes ".rept 2\nnop\n.endr") ≡ ended ((codes "nop") ∷ (codes "nop") ∷ [])
unfolding is_blank is_name_start is_name_byte is_operator_byte is_long_operator comment_length quoted_length piece_kind piece_length token_kind token_length tokens_from pieces_from line_of trimmed nul_found source_found statements_in statements_of value_text parameter_of parameters_of filled_once call_arguments argument_named put_by put_from the_words word_of word_in made_statements depth_behind stops cut holds repeat_count verdict conditional branch_end conditional_end repeat each define call purge after_call exit include head turn steps file_statements
two_copies = refl

-- without copies or without a body
no_copies : expanded 9 (codes ".rept 0\nnop\n.endr\n.rept 2\n.endr\nret") ≡ ended ((codes "ret") ∷ [])
unfolding is_blank is_name_start is_name_byte is_operator_byte is_long_operator comment_length quoted_length piece_kind piece_length token_kind token_length tokens_from pieces_from line_of trimmed nul_found source_found statements_in statements_of value_text parameter_of parameters_of filled_once call_arguments argument_named put_by put_from the_words word_of word_in made_statements depth_behind stops cut holds repeat_count verdict conditional branch_end conditional_end repeat each define call purge after_call exit include head turn steps file_statements
no_copies = refl

calls : expanded 12 (codes ".macro t a, b=3\n.byte \\a+\\b\n.endm\nt 1\nt b=1,a=4") ≡ ended ((codes ".byte 1+3") ∷ (codes ".byte 4+1") ∷ [])
unfolding is_blank is_name_start is_name_byte is_operator_byte is_long_operator comment_length quoted_length piece_kind piece_length token_kind token_length tokens_from pieces_from line_of trimmed nul_found source_found statements_in statements_of value_text parameter_of parameters_of filled_once call_arguments argument_named put_by put_from the_words word_of word_in made_statements depth_behind stops cut holds repeat_count verdict conditional branch_end conditional_end repeat each define call purge after_call exit include head turn steps file_statements
calls = refl

values : expanded 12 (codes ".irp x,1,2\n.byte \\x\n.endr\n.irpc c,56\n.byte \\c\n.endr") ≡ ended ((codes ".byte 1") ∷ (codes ".byte 2") ∷ (codes ".byte 5") ∷ (codes ".byte 6") ∷ [])
unfolding is_blank is_name_start is_name_byte is_operator_byte is_long_operator comment_length quoted_length piece_kind piece_length token_kind token_length tokens_from pieces_from line_of trimmed nul_found source_found statements_in statements_of value_text parameter_of parameters_of filled_once call_arguments argument_named put_by put_from the_words word_of word_in made_statements depth_behind stops cut holds repeat_count verdict conditional branch_end conditional_end repeat each define call purge after_call exit include head turn steps file_statements
values = refl

-- in a call `\@` is the number of the call, also in a repeat, and elsewhere how many calls began
call_numbers : expanded 20 (codes ".macro m\n.irp x,1\n.byte \\\\()@\n.endr\n.endm\nm\nm\n.irp x,1\n.byte \\@\n.endr") ≡ ended ((codes ".byte 0") ∷ (codes ".byte 1") ∷ (codes ".byte 2") ∷ [])
unfolding is_blank is_name_start is_name_byte is_operator_byte is_long_operator comment_length quoted_length piece_kind piece_length token_kind token_length tokens_from pieces_from line_of trimmed nul_found source_found statements_in statements_of value_text parameter_of parameters_of filled_once call_arguments argument_named put_by put_from the_words word_of word_in made_statements depth_behind stops cut holds repeat_count verdict conditional branch_end conditional_end repeat each define call purge after_call exit include head turn steps file_statements digits
call_numbers = refl

other_branch : expanded 9 (codes ".ifdef q\n.byte 1\n.else\n.byte 2\n.endif") ≡ ended ((codes ".byte 2") ∷ [])
unfolding is_blank is_name_start is_name_byte is_operator_byte is_long_operator comment_length quoted_length piece_kind piece_length token_kind token_length tokens_from pieces_from line_of trimmed nul_found source_found statements_in statements_of value_text parameter_of parameters_of filled_once call_arguments argument_named put_by put_from the_words word_of word_in made_statements depth_behind stops cut holds repeat_count verdict conditional branch_end conditional_end repeat each define call purge after_call exit include head turn steps file_statements
other_branch = refl

-- what is not chosen is passed over, with the blocks in it
branches : expanded 9 (codes ".if 0\n.if 1\nnop\n.endif\n.elseif 1\nret\n.else\nnop\n.endif") ≡ ended ((codes "ret") ∷ [])
unfolding is_blank is_name_start is_name_byte is_operator_byte is_long_operator comment_length quoted_length piece_kind piece_length token_kind token_length tokens_from pieces_from line_of trimmed nul_found source_found statements_in statements_of value_text parameter_of parameters_of filled_once call_arguments argument_named put_by put_from the_words word_of word_in made_statements depth_behind stops cut holds repeat_count verdict conditional branch_end conditional_end repeat each define call purge after_call exit include head turn steps file_statements
branches = refl

exits : expanded 20 (codes ".macro e\n.byte 1\n.exitm\n.byte 2\n.endm\ne\n.rept 2\n.rept 2\n.byte 3\n.endr\n.endr") ≡ ended ((codes ".byte 1") ∷ (codes ".byte 3") ∷ (codes ".byte 3") ∷ (codes ".byte 3") ∷ (codes ".byte 3") ∷ [])
unfolding is_blank is_name_start is_name_byte is_operator_byte is_long_operator comment_length quoted_length piece_kind piece_length token_kind token_length tokens_from pieces_from line_of trimmed nul_found source_found statements_in statements_of value_text parameter_of parameters_of filled_once call_arguments argument_named put_by put_from the_words word_of word_in made_statements depth_behind stops cut holds repeat_count verdict conditional branch_end conditional_end repeat each define call purge after_call exit include head turn steps file_statements
exits = refl

-- all that began in the call ends with it
exit_leaves_repeats : expanded 20 (codes ".macro e\n.rept 2\nnop\n.if 1\n.exitm\n.endif\n.endr\nret\n.endm\ne\nhlt") ≡ ended ((codes "nop") ∷ (codes "hlt") ∷ [])
unfolding is_blank is_name_start is_name_byte is_operator_byte is_long_operator comment_length quoted_length piece_kind piece_length token_kind token_length tokens_from pieces_from line_of trimmed nul_found source_found statements_in statements_of value_text parameter_of parameters_of filled_once call_arguments argument_named put_by put_from the_words word_of word_in made_statements depth_behind stops cut holds repeat_count verdict conditional branch_end conditional_end repeat each define call purge after_call exit include head turn steps file_statements
exit_leaves_repeats = refl

labels : expanded 12 (codes "x: .macro q\n.endm\ny: q\n.quad x, y") ≡ ended ((codes "x:") ∷ (codes "y:") ∷ (codes ".quad x, y") ∷ [])
unfolding is_blank is_name_start is_name_byte is_operator_byte is_long_operator comment_length quoted_length piece_kind piece_length token_kind token_length tokens_from pieces_from line_of trimmed nul_found source_found statements_in statements_of value_text parameter_of parameters_of filled_once call_arguments argument_named put_by put_from the_words word_of word_in made_statements depth_behind stops cut holds repeat_count verdict conditional branch_end conditional_end repeat each define call purge after_call exit include head turn steps file_statements
labels = refl

-- labels before the end of what is passed over or of a body are dropped
labels_of_ends : expanded 9 (codes ".if 0\nz: .endif\n.rept 1\nnop\nz: .endr") ≡ ended ((codes "nop") ∷ [])
unfolding is_blank is_name_start is_name_byte is_operator_byte is_long_operator comment_length quoted_length piece_kind piece_length token_kind token_length tokens_from pieces_from line_of trimmed nul_found source_found statements_in statements_of value_text parameter_of parameters_of filled_once call_arguments argument_named put_by put_from the_words word_of word_in made_statements depth_behind stops cut holds repeat_count verdict conditional branch_end conditional_end repeat each define call purge after_call exit include head turn steps file_statements
labels_of_ends = refl

-- a name that is assigned or defined is no call; one that is forgotten neither
own_names : expanded 12 (codes ".macro m\nnop\n.endm\nm = 3\nm: ret\n.purgem m\nm") ≡ ended ((codes "m = 3") ∷ (codes "m: ret") ∷ (codes "m") ∷ [])
unfolding is_blank is_name_start is_name_byte is_operator_byte is_long_operator comment_length quoted_length piece_kind piece_length token_kind token_length tokens_from pieces_from line_of trimmed nul_found source_found statements_in statements_of value_text parameter_of parameters_of filled_once call_arguments argument_named put_by put_from the_words word_of word_in made_statements depth_behind stops cut holds repeat_count verdict conditional branch_end conditional_end repeat each define call purge after_call exit include head turn steps file_statements
own_names = refl

-- comments are no part of a body and of an argument
comments : expanded 12 (codes ".macro m a\n.byte \\a /* \\a */ # x\n.endm\nm 1 /* */ + 2") ≡ ended ((codes ".byte 1 + 2") ∷ [])
unfolding is_blank is_name_start is_name_byte is_operator_byte is_long_operator comment_length quoted_length piece_kind piece_length token_kind token_length tokens_from pieces_from line_of trimmed nul_found source_found statements_in statements_of value_text parameter_of parameters_of filled_once call_arguments argument_named put_by put_from the_words word_of word_in made_statements depth_behind stops cut holds repeat_count verdict conditional branch_end conditional_end repeat each define call purge after_call exit include head turn steps file_statements
comments = refl

-- an argument moves the bounds of statements
bounds : expanded 12 (codes ".macro m a\n.byte \\a\n.endm\nm \"1;nop\"") ≡ ended ((codes ".byte 1") ∷ (codes "nop") ∷ [])
unfolding is_blank is_name_start is_name_byte is_operator_byte is_long_operator comment_length quoted_length piece_kind piece_length token_kind token_length tokens_from pieces_from line_of trimmed nul_found source_found statements_in statements_of value_text parameter_of parameters_of filled_once call_arguments argument_named put_by put_from the_words word_of word_in made_statements depth_behind stops cut holds repeat_count verdict conditional branch_end conditional_end repeat each define call purge after_call exit include head turn steps file_statements
bounds = refl

missing : expanded 12 (codes ".macro v a:req, r:vararg\n.ascii \"\\a,\\r\"\n.endm\nv 1,2,3\nv") ≡ fails MissingArgument (at 0 5)
unfolding is_blank is_name_start is_name_byte is_operator_byte is_long_operator comment_length quoted_length piece_kind piece_length token_kind token_length tokens_from pieces_from line_of trimmed nul_found source_found statements_in statements_of value_text parameter_of parameters_of filled_once call_arguments argument_named put_by put_from the_words word_of word_in made_statements depth_behind stops cut holds repeat_count verdict conditional branch_end conditional_end repeat each define call purge after_call exit include head turn steps file_statements
missing = refl

-- the lines of what is made have a fault: it stands at the call
unclosed_string : expanded 9 (codes ".macro m a\n.byte \\a\n.endm\nm \"\\\"\"") ≡ fails UnclosedString (at 0 4)
unfolding is_blank is_name_start is_name_byte is_operator_byte is_long_operator comment_length quoted_length piece_kind piece_length token_kind token_length tokens_from pieces_from line_of trimmed nul_found source_found statements_in statements_of value_text parameter_of parameters_of filled_once call_arguments argument_named put_by put_from the_words word_of word_in made_statements depth_behind stops cut holds repeat_count verdict conditional branch_end conditional_end repeat each define call purge after_call exit include head turn steps file_statements
unclosed_string = refl

end_alone : expanded 3 (codes ".endm") ≡ fails EndWithoutBeginning (at 0 1)
unfolding is_blank is_name_start is_name_byte is_operator_byte is_long_operator comment_length quoted_length piece_kind piece_length token_kind token_length tokens_from pieces_from line_of trimmed nul_found source_found statements_in statements_of value_text parameter_of parameters_of filled_once call_arguments argument_named put_by put_from the_words word_of word_in made_statements depth_behind stops cut holds repeat_count verdict conditional branch_end conditional_end repeat each define call purge after_call exit include head turn steps file_statements
end_alone = refl

twice : expanded 9 (codes ".macro m\n.endm\n.macro m\n.endm") ≡ fails MacroAlreadyDefined (at 0 3)
unfolding is_blank is_name_start is_name_byte is_operator_byte is_long_operator comment_length quoted_length piece_kind piece_length token_kind token_length tokens_from pieces_from line_of trimmed nul_found source_found statements_in statements_of value_text parameter_of parameters_of filled_once call_arguments argument_named put_by put_from the_words word_of word_in made_statements depth_behind stops cut holds repeat_count verdict conditional branch_end conditional_end repeat each define call purge after_call exit include head turn steps file_statements
twice = refl

forgotten : expanded 9 (codes ".macro m\n.endm\n.purgem m\n.macro m\n.endm") ≡ ended ([])
unfolding is_blank is_name_start is_name_byte is_operator_byte is_long_operator comment_length quoted_length piece_kind piece_length token_kind token_length tokens_from pieces_from line_of trimmed nul_found source_found statements_in statements_of value_text parameter_of parameters_of filled_once call_arguments argument_named put_by put_from the_words word_of word_in made_statements depth_behind stops cut holds repeat_count verdict conditional branch_end conditional_end repeat each define call purge after_call exit include head turn steps file_statements
forgotten = refl

exit_outside : expanded 3 (codes ".exitm") ≡ fails EndWithoutBeginning (at 0 1)
unfolding is_blank is_name_start is_name_byte is_operator_byte is_long_operator comment_length quoted_length piece_kind piece_length token_kind token_length tokens_from pieces_from line_of trimmed nul_found source_found statements_in statements_of value_text parameter_of parameters_of filled_once call_arguments argument_named put_by put_from the_words word_of word_in made_statements depth_behind stops cut holds repeat_count verdict conditional branch_end conditional_end repeat each define call purge after_call exit include head turn steps file_statements
exit_outside = refl

-- the outermost block that is open
open_conditional : expanded 9 (codes "nop\n.if 1\n.rept 1\nnop") ≡ fails UnclosedBlock (at 0 2)
unfolding is_blank is_name_start is_name_byte is_operator_byte is_long_operator comment_length quoted_length piece_kind piece_length token_kind token_length tokens_from pieces_from line_of trimmed nul_found source_found statements_in statements_of value_text parameter_of parameters_of filled_once call_arguments argument_named put_by put_from the_words word_of word_in made_statements depth_behind stops cut holds repeat_count verdict conditional branch_end conditional_end repeat each define call purge after_call exit include head turn steps file_statements
open_conditional = refl

open_in_a_copy : expanded 9 (codes ".rept 2\n.if 1\n.endr\n.endif\n.endif") ≡ fails UnclosedBlock (at 0 1)
unfolding is_blank is_name_start is_name_byte is_operator_byte is_long_operator comment_length quoted_length piece_kind piece_length token_kind token_length tokens_from pieces_from line_of trimmed nul_found source_found statements_in statements_of value_text parameter_of parameters_of filled_once call_arguments argument_named put_by put_from the_words word_of word_in made_statements depth_behind stops cut holds repeat_count verdict conditional branch_end conditional_end repeat each define call purge after_call exit include head turn steps file_statements
open_in_a_copy = refl

-- a body that begins in one copy and ends in the next
body_over_copies : expanded 9 (codes ".rept 2\n.if 0\n.endm\n.endif\n.macro w\n.endr") ≡ fails EndWithoutBeginning (at 0 1)
unfolding is_blank is_name_start is_name_byte is_operator_byte is_long_operator comment_length quoted_length piece_kind piece_length token_kind token_length tokens_from pieces_from line_of trimmed nul_found source_found statements_in statements_of value_text parameter_of parameters_of filled_once call_arguments argument_named put_by put_from the_words word_of word_in made_statements depth_behind stops cut holds repeat_count verdict conditional branch_end conditional_end repeat each define call purge after_call exit include head turn steps file_statements
body_over_copies = refl

-- a conditional of a file does not end in another
other_file : expanded 9 (codes ".if 1\n.include \"b.inc\"\n.endif") ≡ fails EndWithoutBeginning (at 1 2)
unfolding is_blank is_name_start is_name_byte is_operator_byte is_long_operator comment_length quoted_length piece_kind piece_length token_kind token_length tokens_from pieces_from line_of trimmed nul_found source_found statements_in statements_of value_text parameter_of parameters_of filled_once call_arguments argument_named put_by put_from the_words word_of word_in made_statements depth_behind stops cut holds repeat_count verdict conditional branch_end conditional_end repeat each define call purge after_call exit include head turn steps file_statements string_value_from is_utf8 chars lib.Utf8.encode
other_file = refl

no_file : expanded 5 (codes ".include \"none.inc\"") ≡ misses ([] ∷ codes "none.inc" ∷ [])
unfolding is_blank is_name_start is_name_byte is_operator_byte is_long_operator comment_length quoted_length piece_kind piece_length token_kind token_length tokens_from pieces_from line_of trimmed nul_found source_found statements_in statements_of value_text parameter_of parameters_of filled_once call_arguments argument_named put_by put_from the_words word_of word_in made_statements depth_behind stops cut holds repeat_count verdict conditional branch_end conditional_end repeat each define call purge after_call exit include head turn steps file_statements string_value_from is_utf8 chars lib.Utf8.encode
no_file = refl

bad_line : expanded 5 (codes ".include b") ≡ fails BadMacroLine (at 0 1)
unfolding is_blank is_name_start is_name_byte is_operator_byte is_long_operator comment_length quoted_length piece_kind piece_length token_kind token_length tokens_from pieces_from line_of trimmed nul_found source_found statements_in statements_of value_text parameter_of parameters_of filled_once call_arguments argument_named put_by put_from the_words word_of word_in made_statements depth_behind stops cut holds repeat_count verdict conditional branch_end conditional_end repeat each define call purge after_call exit include head turn steps file_statements
bad_line = refl

-- 64 calls may be open
nested_calls : expanded 80 (codes ".macro m\nm\n.endm\nm") ≡ fails NestedTooDeeply (at 0 4)
unfolding is_blank is_name_start is_name_byte is_operator_byte is_long_operator comment_length quoted_length piece_kind piece_length token_kind token_length tokens_from pieces_from line_of trimmed nul_found source_found statements_in statements_of value_text parameter_of parameters_of filled_once call_arguments argument_named put_by put_from the_words word_of word_in made_statements depth_behind stops cut holds repeat_count verdict conditional branch_end conditional_end repeat each define call purge after_call exit include head turn steps file_statements
nested_calls = refl
