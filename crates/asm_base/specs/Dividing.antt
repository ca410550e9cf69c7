-- The division of a text into its pieces, computed from its front.
use Rattle.std.specs.Prelude.{ℕ, zero, suc, ◌+◌, ◌-◌, Bool, true, false, not, ◌&&◌, ◌||◌, ◌==◌, if◌then◌else◌, nat_lt, List, [], ◌∷◌, length, take, drop}
use Rattle.std.specs.List.{position_or_len}
use Rattle.asm_base.specs.ByteClasses.{is_feed, is_blank, begins_with, line_goes_on}
use Rattle.asm_base.specs.Pieces.{Piece, is_blank_before}
use Rattle.asm_base.specs.declared.pieces.PieceKind.{PieceKind}
use Rattle.asm_base.specs.declared.pieces.PieceKind.TheVariants.{LineFeed, Semicolon, Blank, LineComment, BlockComment, OpenComment, Character, String, OpenString, Other}

-- how many bytes stand before the first line feed, or all
abbrev pub line_length : List ℕ → ℕ
line_length bytes = position_or_len is_feed bytes

-- how many bytes stand before the first `*/`, or all
unfoldable pub comment_length : List ℕ → ℕ
comment_length [] = 0
comment_length (byte ∷ rest) =
    if byte == 42 && begins_with 47 rest then 0 else suc (comment_length rest)

-- how many bytes stand before the first unescaped `"` or the end of the line; the flag says that the first byte is escaped
unfoldable pub quoted_length : Bool → List ℕ → ℕ
quoted_length escaped [] = 0
quoted_length true (byte ∷ rest) = if is_feed byte then 0 else suc (quoted_length false rest)
quoted_length false (byte ∷ rest) =
    if is_feed byte || byte == 34 then 0 else suc (quoted_length (byte == 92) rest)

-- of what begins with `/*`, by what follows that
abbrev pub comment_kind : List ℕ → PieceKind
comment_kind inner =
    if nat_lt (comment_length inner) (length inner) then BlockComment else OpenComment

-- of what begins with `"`, by what follows that
abbrev pub string_kind : List ℕ → PieceKind
string_kind rest =
    if begins_with 34 (drop (quoted_length false rest) rest) then String else OpenString

-- the byte is a piece of the class `Other` whatever follows it
unfoldable pub is_plain : ℕ → Bool
is_plain byte =
    not (is_feed byte || byte == 59 || is_blank byte || byte == 13 || byte == 35 || byte == 47
    || byte == 39 || byte == 34)

-- the class of the piece that begins with this byte
unfoldable pub piece_kind : ℕ → List ℕ → PieceKind
piece_kind first rest =
    if is_feed first then LineFeed
    else (if first == 59 then Semicolon
    else (if is_blank_before first rest then Blank
    else (if first == 35 then LineComment
    else (if first == 47 && begins_with 42 rest then comment_kind (drop 1 rest)
    else (if first == 39 && line_goes_on rest then Character
    else (if first == 34 then string_kind rest
    else Other))))))

-- how many bytes a piece of this class has, by what follows its first byte
unfoldable pub piece_length : PieceKind → List ℕ → ℕ
piece_length LineComment rest = 1 + line_length rest
piece_length BlockComment rest = 4 + comment_length (drop 1 rest)
piece_length OpenComment rest = 1 + length rest
piece_length Character rest = 2
piece_length String rest = 2 + quoted_length false rest
piece_length OpenString rest = 1 + quoted_length false rest
piece_length _ rest = 1

-- the piece that begins with this byte, at this offset
abbrev pub first_piece : ℕ → ℕ → List ℕ → Piece
first_piece start first rest =
    let kind = piece_kind first rest in
    record { kind = kind; bytes = take (piece_length kind rest) (first ∷ rest); start = start }

-- the pieces of the bytes from this offset on, the first few of which are left out
unfoldable pub pieces_from : ℕ → ℕ → List ℕ → List Piece
pieces_from left_out start [] = []
pieces_from (suc left_out) start (byte ∷ rest) = pieces_from left_out (suc start) rest
pieces_from zero start (byte ∷ rest) =
    first_piece start byte rest ∷ pieces_from (piece_length (piece_kind byte rest) rest - 1) (suc start) rest

-- the pieces of a text
abbrev pub pieces_of : List ℕ → List Piece
pieces_of = pieces_from 0 0
