-- The pieces of a text, and its division into them (GNU as manual, chapter 3, "Syntax").
use Rattle.std.specs.Prelude.{◌≡◌, ◌≢◌, ℕ, ◌+◌, Bool, false, true, ◌==◌, ◌&&◌, ◌||◌, List, [], ◌∷◌, ◌++◌, codes, length, All, ◌⊎◌}
use Rattle.asm_base.specs.ByteClasses.{is_feed, is_blank, begins_with, line_goes_on}
use Rattle.asm_base.specs.declared.pieces.PieceKind.{PieceKind}
use Rattle.asm_base.specs.declared.pieces.PieceKind.TheVariants.{LineFeed, Semicolon, Blank, LineComment, BlockComment, OpenComment, Character, String, OpenString, Other}

-- a piece: its class, its bytes, and the offset of its first byte in the text
pub record Piece : Type 0 where
  pub kind : PieceKind
  pub bytes : List ℕ
  pub start : ℕ

-- the piece stands between tokens: a blank or a comment
abbrev pub is_space : PieceKind → Bool
is_space Blank = true
is_space LineComment = true
is_space BlockComment = true
is_space OpenComment = true
is_space _ = false

-- the piece is a comment, closed or not
abbrev pub is_comment : PieceKind → Bool
is_comment LineComment = true
is_comment BlockComment = true
is_comment OpenComment = true
is_comment _ = false

-- the piece stands between statements
abbrev pub ends_statement : PieceKind → Bool
ends_statement LineFeed = true
ends_statement Semicolon = true
ends_statement _ = false

-- a blank, before what follows it: a carriage return is one before a line feed
abbrev pub is_blank_before : ℕ → List ℕ → Bool
is_blank_before byte rest = is_blank byte || (byte == 13 && begins_with 10 rest)

-- the line ends here, or the text does
abbrev pub EndsLine : List ℕ → Type 0
EndsLine rest = line_goes_on rest ≡ false

-- no line feed stands in the bytes
abbrev pub IsOnLine : List ℕ → Type 0
IsOnLine bytes = All (λ byte. is_feed byte ≡ false) bytes

-- a `*/` stands in the bytes
abbrev pub has_close : List ℕ → Bool
has_close [] = false
has_close (byte ∷ rest) = (byte == 42 && begins_with 47 rest) || has_close rest

-- what a string may hold: no line feed, and a `"` or a `\` only behind a `\` of its own
pub data IsQuoted : List ℕ → Type 0 where
  empty : IsQuoted []
  plain : (byte : ℕ) (rest : List ℕ) → is_feed byte ≡ false → byte ≢ 34 → byte ≢ 92
      → IsQuoted rest → IsQuoted (byte ∷ rest)
  escape : (byte : ℕ) (rest : List ℕ) → is_feed byte ≡ false → IsQuoted rest
      → IsQuoted (92 ∷ byte ∷ rest)

-- the same, where a `\` may stand last
abbrev pub IsOpenQuoted : List ℕ → Type 0
IsOpenQuoted bytes =
    IsQuoted bytes ⊎ ((front : List ℕ) × (bytes ≡ front ++ 92 ∷ []) × IsQuoted front)

-- the byte, before what follows it, begins a piece of a class of its own
abbrev pub begins_class : ℕ → List ℕ → Bool
begins_class byte rest =
    is_feed byte || byte == 59 || is_blank_before byte rest || byte == 35
    || (byte == 47 && begins_with 42 rest) || (byte == 39 && line_goes_on rest) || byte == 34

-- the bytes are a piece of this class, before what follows them; a block comment ends at its first `*/`
abbrev pub IsPiece : PieceKind → List ℕ → List ℕ → Type 0
IsPiece LineFeed bytes rest = bytes ≡ codes "\n"
IsPiece Semicolon bytes rest = bytes ≡ codes ";"
IsPiece Blank bytes rest = (byte : ℕ) × (bytes ≡ byte ∷ []) × (is_blank_before byte rest ≡ true)
IsPiece LineComment bytes rest =
    (inner : List ℕ) × (bytes ≡ codes "#" ++ inner) × IsOnLine inner × EndsLine rest
IsPiece BlockComment bytes rest =
    (inner : List ℕ) × (bytes ≡ codes "/*" ++ inner ++ codes "*/")
    × (has_close (inner ++ codes "*") ≡ false)
IsPiece OpenComment bytes rest =
    (inner : List ℕ) × (bytes ≡ codes "/*" ++ inner) × (has_close inner ≡ false) × (rest ≡ [])
IsPiece Character bytes rest =
    (byte : ℕ) × (bytes ≡ codes "'" ++ byte ∷ []) × (is_feed byte ≡ false)
IsPiece String bytes rest =
    (inner : List ℕ) × (bytes ≡ codes "\"" ++ inner ++ codes "\"") × IsQuoted inner
IsPiece OpenString bytes rest =
    (inner : List ℕ) × (bytes ≡ codes "\"" ++ inner) × IsOpenQuoted inner × EndsLine rest
IsPiece Other bytes rest = (byte : ℕ) × (bytes ≡ byte ∷ []) × (begins_class byte rest ≡ false)

-- the text from this offset on is these pieces, one after the other
abbrev pub IsDivisionFrom : ℕ → List ℕ → List Piece → Type 0
IsDivisionFrom start text [] = text ≡ []
IsDivisionFrom start text (piece ∷ pieces) =
    (rest : List ℕ) × (text ≡ piece.bytes ++ rest) × (piece.start ≡ start)
    × IsPiece piece.kind piece.bytes rest × IsDivisionFrom (start + length piece.bytes) rest pieces

-- the text is these pieces, one after the other
abbrev pub IsDivision : List ℕ → List Piece → Type 0
IsDivision text pieces = IsDivisionFrom 0 text pieces
