-- What stands in front of a text: a space, a token, the end of a statement, or what does not close.
use Rattle.std.specs.Prelude.{◌≡◌, ℕ, ◌+◌, ◌<◌, ◌≤◌, Bool, true, false, List, drop, get_or}
use Rattle.asm_base.specs.Dividing.{piece_kind, piece_length}
use Rattle.asm_base.specs.declared.pieces.PieceKind.{PieceKind}
use Rattle.asm_base.specs.declared.pieces.PieceKind.TheVariants as piece
use Rattle.asm_base.specs.Tokens.{token_kind, token_length}
use Rattle.asm_lexemes.specs.declared.lexemes.Lexeme.{Lexeme}
use Rattle.asm_lexemes.specs.declared.lexemes.Lexeme.TheVariants.{LineEnd, StatementEnd, Blank, LineComment, BlockComment, Token, Unclosed}

-- the piece is a string or a comment that does not close
abbrev pub is_unclosed : PieceKind → Bool
is_unclosed piece.OpenComment = true
is_unclosed piece.OpenString = true
is_unclosed _ = false

-- tokens are made of the piece: it is no space, ends no statement, and closes
abbrev pub makes_tokens : PieceKind → Bool
makes_tokens piece.Character = true
makes_tokens piece.String = true
makes_tokens piece.Other = true
makes_tokens _ = false

-- the lexeme is what stands in front, with its length
abbrev pub StandsInFront : ℕ → List ℕ → Lexeme → Type 0
StandsInFront first rest LineEnd = piece_kind first rest ≡ piece.LineFeed
StandsInFront first rest StatementEnd = piece_kind first rest ≡ piece.Semicolon
StandsInFront first rest Blank = piece_kind first rest ≡ piece.Blank
StandsInFront first rest (LineComment n) =
    (piece_kind first rest ≡ piece.LineComment) × (n ≡ piece_length (piece_kind first rest) rest)
StandsInFront first rest (BlockComment n) =
    (piece_kind first rest ≡ piece.BlockComment) × (n ≡ piece_length (piece_kind first rest) rest)
StandsInFront first rest (Token kind n) =
    (makes_tokens (piece_kind first rest) ≡ true) × (kind ≡ token_kind first rest)
    × (n ≡ token_length (token_kind first rest) first rest)
StandsInFront first rest Unclosed = is_unclosed (piece_kind first rest) ≡ true

-- the lexeme is what stands at this offset, by the byte there and those behind it
abbrev pub StandsAt : List ℕ → ℕ → Lexeme → Type 0
StandsAt source at lexeme = StandsInFront (get_or source at 0) (drop (at + 1) source) lexeme

-- the lexeme has at least one byte, and no more than there are
abbrev pub FitsIn : ℕ → Lexeme → Type 0
FitsIn most LineEnd = 1 ≤ most
FitsIn most StatementEnd = 1 ≤ most
FitsIn most Blank = 1 ≤ most
FitsIn most (LineComment n) = (0 < n) × (n ≤ most)
FitsIn most (BlockComment n) = (0 < n) × (n ≤ most)
FitsIn most (Token kind n) = (0 < n) × (n ≤ most)
FitsIn most Unclosed = 1 ≤ most
