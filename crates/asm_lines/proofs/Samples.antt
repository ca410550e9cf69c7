-- The definitions computed on sources written out.
use Rattle.std.specs.Prelude.{◌≡◌, ℕ, List, [], ◌∷◌, ◌++◌, codes, Ok, Err, refl}
use Rattle.asm_base.specs.ByteClasses.{is_blank}
use Rattle.asm_base.specs.Dividing.{comment_length, piece_kind, piece_length, pieces_from, quoted_length}
use Rattle.asm_lines.specs.declared.faults.LineCause.TheVariants.{NulByte, UnclosedString, UnclosedComment}
use Rattle.asm_lines.specs.LineNumbers.{line_of}
use Rattle.asm_lines.specs.Intervals.{trimmed}
use Rattle.asm_lines.specs.Faults.{nul_found, source_found}
use Rattle.asm_lines.specs.Statements.{StatementAt, statements_in, statements_of}

abbrev at : ℕ → List ℕ → StatementAt
at line bytes = record { file = 7; line = line; bytes = bytes }

nothing : statements_of 7 [] ≡ Ok []
unfolding is_blank comment_length piece_kind piece_length pieces_from quoted_length line_of trimmed nul_found source_found statements_in statements_of
nothing = refl

blanks : statements_of 7 (codes "\r\n\n  f:\t\r\n\tret") ≡ Ok (at 3 (codes "f:") ∷ at 4 (codes "ret") ∷ [])
unfolding is_blank comment_length piece_kind piece_length pieces_from quoted_length line_of trimmed nul_found source_found statements_in statements_of
blanks = refl

-- of two carriage returns the first stands before no line feed
two_returns : statements_of 7 (codes "a\r\r\n") ≡ Ok (at 1 (codes "a\r") ∷ [])
unfolding is_blank comment_length piece_kind piece_length pieces_from quoted_length line_of trimmed nul_found source_found statements_in statements_of
two_returns = refl

one_line : statements_of 7 (codes ".byte '/,'#;nop/*x*/;ret # c\n") ≡ Ok (at 1 (codes ".byte '/,'#") ∷ at 1 (codes "nop") ∷ at 1 (codes "ret") ∷ [])
unfolding is_blank comment_length piece_kind piece_length pieces_from quoted_length line_of trimmed nul_found source_found statements_in statements_of
one_line = refl

-- a comment parts tokens, and counts the lines that it spans
comments : statements_of 7 (codes "no/**/p;/* a\nb */ foo\nx") ≡ Ok (at 1 (codes "no/**/p") ∷ at 2 (codes "foo") ∷ at 3 (codes "x") ∷ [])
unfolding is_blank comment_length piece_kind piece_length pieces_from quoted_length line_of trimmed nul_found source_found statements_in statements_of
comments = refl

-- the blank of a character is no blank
character : statements_of 7 (codes ".byte ' \n") ≡ Ok (at 1 (codes ".byte ' ") ∷ [])
unfolding is_blank comment_length piece_kind piece_length pieces_from quoted_length line_of trimmed nul_found source_found statements_in statements_of
character = refl

strings : statements_of 7 (codes "\"a b\": nop\n.ascii \";#\\\"/*\";ret") ≡ Ok (at 1 (codes "\"a b\": nop") ∷ at 2 (codes ".ascii \";#\\\"/*\"") ∷ at 2 (codes "ret") ∷ [])
unfolding is_blank comment_length piece_kind piece_length pieces_from quoted_length line_of trimmed nul_found source_found statements_in statements_of
strings = refl

open_string : statements_of 7 (codes ".ascii \"ab") ≡ Err (UnclosedString 1)
unfolding is_blank comment_length piece_kind piece_length pieces_from quoted_length line_of trimmed nul_found source_found statements_in statements_of
open_string = refl

open_comment : statements_of 7 (codes "nop\n/* x") ≡ Err (UnclosedComment 2)
unfolding is_blank comment_length piece_kind piece_length pieces_from quoted_length line_of trimmed nul_found source_found statements_in statements_of
open_comment = refl

nul : statements_of 7 (codes "nop\n\n# " ++ 0 ∷ []) ≡ Err (NulByte 3)
unfolding is_blank comment_length piece_kind piece_length pieces_from quoted_length line_of trimmed nul_found source_found statements_in statements_of
nul = refl

-- the first of two faults in order of place
nul_in_comment : statements_of 7 (codes "\n/* " ++ 0 ∷ []) ≡ Err (UnclosedComment 2)
unfolding is_blank comment_length piece_kind piece_length pieces_from quoted_length line_of trimmed nul_found source_found statements_in statements_of
nul_in_comment = refl

nul_before_string : statements_of 7 (0 ∷ codes "\n\"") ≡ Err (NulByte 1)
unfolding is_blank comment_length piece_kind piece_length pieces_from quoted_length line_of trimmed nul_found source_found statements_in statements_of
nul_before_string = refl
