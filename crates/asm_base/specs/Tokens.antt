-- The tokens of a statement (GNU as manual, chapter 3, "Syntax").
use Rattle.std.specs.Prelude.{ℕ, zero, suc, ◌+◌, ◌-◌, Bool, false, if◌then◌else◌, nat_eq, List, [], ◌∷◌, take, codes}
use Rattle.std.specs.List.{list_any, prefix_len, starts_with}
use Rattle.std.specs.Char.{is_ascii_digit}
use Rattle.asm_base.specs.ByteClasses.{is_name_start, is_name_byte, is_operator_byte}
use Rattle.asm_base.specs.Pieces.{is_space}
use Rattle.asm_base.specs.Dividing.{piece_kind, piece_length}
use Rattle.asm_base.specs.declared.pieces.PieceKind.{PieceKind}
use Rattle.asm_base.specs.declared.pieces.PieceKind.TheVariants as piece
use Rattle.asm_base.specs.declared.tokens.TokenKind.{TokenKind}
use Rattle.asm_base.specs.declared.tokens.TokenKind.TheVariants.{Name, Digits, Character, String, Operator, Other}
use Rattle.asm_base.specs.declared.tokens.Token.{Token}

-- a token as a value: its class, its bytes, and its offset in the statement
pub record SpelledToken : Type 0 where
  pub kind : TokenKind
  pub bytes : List ℕ
  pub start : ℕ

-- what a token of the program spells
abbrev pub spelled : Token → SpelledToken
spelled token = record { kind = token.kind; bytes = token.bytes.now; start = token.start }

-- the operators of two bytes
abbrev pub long_operators : List (List ℕ)
long_operators =
    codes "<<" ∷ codes ">>" ∷ codes "==" ∷ codes "<>" ∷ codes "!=" ∷ codes ">=" ∷ codes "<=" ∷ codes "&&" ∷ codes "||" ∷ []

-- the byte and the one after it are one of them
unfoldable pub is_long_operator : ℕ → List ℕ → Bool
is_long_operator first [] = false
is_long_operator first (second ∷ rest) =
    list_any (starts_with nat_eq (first ∷ second ∷ [])) long_operators

-- the class of a token that is no word, by its first byte and its piece
abbrev pub kind_by_piece : ℕ → PieceKind → TokenKind
kind_by_piece first piece.Character = Character
kind_by_piece first piece.String = String
kind_by_piece first piece.Other = if is_operator_byte first then Operator else Other
kind_by_piece first _ = Other

-- the same of any token
abbrev pub token_kind_by : ℕ → PieceKind → TokenKind
token_kind_by first kind =
    if is_name_start first then Name else (if is_ascii_digit first then Digits else kind_by_piece first kind)

-- the class of the token that begins with this byte
unfoldable pub token_kind : ℕ → List ℕ → TokenKind
token_kind first rest = token_kind_by first (piece_kind first rest)

-- how many bytes a token of this class has; one that is no word and no operator is a whole piece
unfoldable pub token_length : TokenKind → ℕ → List ℕ → ℕ
token_length Name first rest = 1 + prefix_len is_name_byte rest
token_length Digits first rest = 1 + prefix_len is_name_byte rest
token_length Operator first rest = if is_long_operator first rest then 2 else 1
token_length _ first rest = piece_length (piece_kind first rest) rest

-- the token that begins with this byte, at this offset
abbrev pub first_token : ℕ → ℕ → List ℕ → SpelledToken
first_token start first rest =
    let kind = token_kind first rest in
    record { kind = kind; bytes = take (token_length kind first rest) (first ∷ rest); start = start }

-- the tokens of the bytes from this offset on, the first few of which are left out
unfoldable pub tokens_from : ℕ → ℕ → List ℕ → List SpelledToken
tokens_from left_out offset [] = []
tokens_from (suc left_out) offset (byte ∷ rest) = tokens_from left_out (suc offset) rest
tokens_from zero offset (byte ∷ rest) =
    if is_space (piece_kind byte rest) then tokens_from (piece_length (piece_kind byte rest) rest - 1) (suc offset) rest
    else (first_token offset byte rest ∷ tokens_from (token_length (token_kind byte rest) byte rest - 1) (suc offset) rest)

-- the tokens of a statement
abbrev pub tokens_of : List ℕ → List SpelledToken
tokens_of = tokens_from 0 0
