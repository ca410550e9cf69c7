-- The definitions of tokens, computed at samples.
use Rattle.std.proofs.Common.{◌≡◌, ℕ, true, false, List, [], ◌∷◌, refl}
use Rattle.std.specs.Prelude.{codes}
use Rattle.std.specs.List.{list_all, list_any}
use Rattle.asm_base.specs.declared.tokens.TokenKind.{TokenKind}
use Rattle.asm_base.specs.declared.tokens.TokenKind.TheVariants.{Name, Digits, Character, String, Operator, Other}
use Rattle.asm_base.specs.declared.pieces.PieceKind.{PieceKind}
use Rattle.asm_base.specs.declared.pieces.PieceKind.TheVariants as piece
use Rattle.asm_base.specs.ByteClasses.{is_blank, is_name_start, is_name_byte, is_operator_byte}
use Rattle.asm_base.specs.Pieces.{Piece}
use Rattle.asm_base.specs.Dividing.{comment_length, quoted_length, piece_kind, piece_length, pieces_from, pieces_of}
use Rattle.asm_base.specs.Tokens.{SpelledToken, is_long_operator, token_kind, token_length, tokens_from, tokens_of}
use Rattle.asm_base.specs.Digits.{digit_of, number_after}
use Rattle.asm_base.specs.Strings.{low_byte, escape_length, control_byte, escaped_byte, string_value, string_value_from}

-- a token in one row: its offset, its class, its bytes
abbrev token : ℕ → TokenKind → List ℕ → SpelledToken
token start kind bytes = record { kind = kind; bytes = bytes; start = start }

label : tokens_of (codes "f: .byte 1, 0x41") ≡
    token 0 Name (codes "f") ∷ token 1 Operator (codes ":") ∷ token 3 Name (codes ".byte") ∷ token 9 Digits (codes "1") ∷ token 10 Operator (codes ",") ∷ token 12 Digits (codes "0x41") ∷ []
unfolding is_blank is_name_start is_name_byte is_operator_byte is_long_operator comment_length quoted_length piece_kind piece_length token_kind token_length tokens_from
label = refl

operands : tokens_of (codes "mov $1,%eax") ≡
    token 0 Name (codes "mov") ∷ token 4 Operator (codes "$") ∷ token 5 Digits (codes "1") ∷ token 6 Operator (codes ",") ∷ token 7 Operator (codes "%") ∷ token 8 Name (codes "eax") ∷ []
unfolding is_blank is_name_start is_name_byte is_operator_byte is_long_operator comment_length quoted_length piece_kind piece_length token_kind token_length tokens_from
operands = refl

longest : tokens_of (codes "a<<=b") ≡
    token 0 Name (codes "a") ∷ token 1 Operator (codes "<<") ∷ token 3 Operator (codes "=") ∷ token 4 Name (codes "b") ∷ []
unfolding is_blank is_name_start is_name_byte is_operator_byte is_long_operator comment_length quoted_length piece_kind piece_length token_kind token_length tokens_from
longest = refl

character : tokens_of (codes "'a'") ≡ token 0 Character (codes "'a") ∷ token 2 Other (codes "'") ∷ []
unfolding is_blank is_name_start is_name_byte is_operator_byte is_long_operator comment_length quoted_length piece_kind piece_length token_kind token_length tokens_from
character = refl

escape : tokens_of (codes "\"a\\\"b\" c") ≡ token 0 String (codes "\"a\\\"b\"") ∷ token 7 Name (codes "c") ∷ []
unfolding is_blank is_name_start is_name_byte is_operator_byte is_long_operator comment_length quoted_length piece_kind piece_length token_kind token_length tokens_from
escape = refl

unclosed : tokens_of (codes "\"a#") ≡ token 0 Other (codes "\"a#") ∷ []
unfolding is_blank is_name_start is_name_byte is_operator_byte is_long_operator comment_length quoted_length piece_kind piece_length token_kind token_length tokens_from
unclosed = refl

commented : tokens_of (codes "no/*'*/p/**/+/ *") ≡ token 0 Name (codes "no") ∷ token 7 Name (codes "p") ∷ token 12 Operator (codes "+") ∷ token 13 Operator (codes "/") ∷ token 15 Operator (codes "*") ∷ []
unfolding is_blank is_name_start is_name_byte is_operator_byte is_long_operator comment_length quoted_length piece_kind piece_length token_kind token_length tokens_from
commented = refl

quote : tokens_of (codes "'a''") ≡ token 0 Character (codes "'a") ∷ token 2 Character (codes "''") ∷ []
unfolding is_blank is_name_start is_name_byte is_operator_byte is_long_operator comment_length quoted_length piece_kind piece_length token_kind token_length tokens_from
quote = refl

operator_bytes : list_all is_operator_byte (codes "!%&()*+,-/:<=>@^|~$[]{}?\\`") ≡ true
unfolding is_operator_byte
operator_bytes = refl

other_bytes : list_any is_operator_byte (codes "\"'#; azAZ09") ≡ false
unfolding is_operator_byte
other_bytes = refl

abbrev at : ℕ → PieceKind → List ℕ → Piece
at start kind bytes = record { start = start; kind = kind; bytes = bytes }

-- comments, a character that begins none, and ends of statements
pieces : pieces_of (codes "';/*\n*/;#;\n") ≡
    at 0 piece.Character (codes "';") ∷ at 2 piece.BlockComment (codes "/*\n*/") ∷ at 7 piece.Semicolon (codes ";") ∷ at 8 piece.LineComment (codes "#;") ∷ at 10 piece.LineFeed (codes "\n") ∷ []
unfolding is_blank comment_length quoted_length piece_kind piece_length pieces_from
pieces = refl

-- a block comment does not nest, and its `/*` has no `*` of the `*/`
unnested : pieces_of (codes "/*/**/*/") ≡ at 0 piece.BlockComment (codes "/*/**/") ∷ at 6 piece.Other (codes "*") ∷ at 7 piece.Other (codes "/") ∷ []
unfolding is_blank comment_length quoted_length piece_kind piece_length pieces_from
unnested = refl

open_comment : pieces_of (codes "a/*/") ≡ at 0 piece.Other (codes "a") ∷ at 1 piece.OpenComment (codes "/*/") ∷ []
unfolding is_blank comment_length quoted_length piece_kind piece_length pieces_from
open_comment = refl

strings : pieces_of (codes "\"a;\\\"\"\"\\\n") ≡ at 0 piece.String (codes "\"a;\\\"\"") ∷ at 6 piece.OpenString (codes "\"\\") ∷ at 8 piece.LineFeed (codes "\n") ∷ []
unfolding is_blank comment_length quoted_length piece_kind piece_length pieces_from
strings = refl

returns : pieces_of (codes "\r\r\n'\r") ≡ at 0 piece.Other (codes "\r") ∷ at 1 piece.Blank (codes "\r") ∷ at 2 piece.LineFeed (codes "\n") ∷ at 3 piece.Character (codes "'\r") ∷ []
unfolding is_blank comment_length quoted_length piece_kind piece_length pieces_from
returns = refl

-- a quote before the end of the line begins no character
quotes : pieces_of (codes "'\n'") ≡ at 0 piece.Other (codes "'") ∷ at 1 piece.LineFeed (codes "\n") ∷ at 2 piece.Other (codes "'") ∷ []
unfolding is_blank comment_length quoted_length piece_kind piece_length pieces_from
quotes = refl

controls : string_value (codes "a\\b\\f\\n\\r\\t\\\\\\\"\\q") ≡ 97 ∷ 8 ∷ 12 ∷ 10 ∷ 13 ∷ 9 ∷ 92 ∷ 34 ∷ 113 ∷ []
unfolding digit_of number_after low_byte escape_length control_byte escaped_byte string_value_from
controls = refl

-- three octal digits at most, and all hexadecimal digits, of which the low 8 bits count
digits : string_value (codes "\\1234\\18\\777\\x41\\x1234g\\x") ≡ 83 ∷ 52 ∷ 1 ∷ 56 ∷ 255 ∷ 65 ∷ 52 ∷ 103 ∷ 0 ∷ []
unfolding digit_of number_after low_byte escape_length control_byte escaped_byte string_value_from
digits = refl
