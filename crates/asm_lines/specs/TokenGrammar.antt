-- The grammar of tokens: the bytes of a statement are spaces and tokens, one after the other, and each token is the
-- longest of its class (GNU as manual, chapter 3, "Syntax").
use Rattle.std.specs.Prelude.{◌≡◌, ℕ, ◌+◌, Bool, true, false, List, [], ◌∷◌, ◌++◌, length, All, ◌⊎◌}
use Rattle.std.specs.Char.{is_ascii_digit}
use Rattle.asm_base.specs.ByteClasses.{is_name_start, is_name_byte, is_operator_byte}
use Rattle.asm_base.specs.Pieces.{IsPiece, begins_class, is_space}
use Rattle.asm_base.specs.Tokens.{SpelledToken, is_long_operator}
use Rattle.asm_base.specs.declared.pieces.PieceKind.{PieceKind}
use Rattle.asm_base.specs.declared.pieces.PieceKind.TheVariants as piece
use Rattle.asm_base.specs.declared.tokens.TokenKind.{TokenKind}
use Rattle.asm_base.specs.declared.tokens.TokenKind.TheVariants.{Name, Digits, Character, String, Operator, Other}

-- a name goes on: a byte stands in front that continues it
abbrev pub name_goes_on : List ℕ → Bool
name_goes_on [] = false
name_goes_on (first ∷ rest) = is_name_byte first

-- the bytes continue a name, and what follows them does not
abbrev pub IsNameTail : List ℕ → List ℕ → Type 0
IsNameTail bytes rest = All (λ byte. is_name_byte byte ≡ true) bytes × (name_goes_on rest ≡ false)

-- the byte, before what follows it, is a piece of its own, and begins no name and no number
abbrev pub IsMarkByte : ℕ → List ℕ → Type 0
IsMarkByte byte rest =
    (begins_class byte rest ≡ false) × (is_name_start byte ≡ false) × (is_ascii_digit byte ≡ false)

-- the bytes are one of the operators of two bytes
abbrev pub IsLongOperator : List ℕ → Type 0
IsLongOperator bytes =
    (first : ℕ) × (second : ℕ) × (bytes ≡ first ∷ second ∷ []) × (is_long_operator first (second ∷ []) ≡ true)

-- the byte is an operator, and none of two bytes begins with it before what follows
abbrev pub IsShortOperator : List ℕ → List ℕ → Type 0
IsShortOperator bytes rest =
    (byte : ℕ) × (bytes ≡ byte ∷ []) × IsMarkByte byte rest × (is_operator_byte byte ≡ true)
    × (is_long_operator byte rest ≡ false)

-- the byte begins no token of another class
abbrev pub IsStrayByte : List ℕ → List ℕ → Type 0
IsStrayByte bytes rest =
    (byte : ℕ) × (bytes ≡ byte ∷ []) × IsMarkByte byte rest × (is_operator_byte byte ≡ false)

-- the bytes are a token of this class, before what follows them; a line feed and a `;`, which stand in no statement, are
-- of the class `Other`
abbrev pub IsToken : TokenKind → List ℕ → List ℕ → Type 0
IsToken Name bytes rest =
    (first : ℕ) × (tail : List ℕ) × (bytes ≡ first ∷ tail) × (is_name_start first ≡ true) × IsNameTail tail rest
IsToken Digits bytes rest =
    (first : ℕ) × (tail : List ℕ) × (bytes ≡ first ∷ tail) × (is_ascii_digit first ≡ true) × IsNameTail tail rest
IsToken Character bytes rest = IsPiece piece.Character bytes rest
IsToken String bytes rest = IsPiece piece.String bytes rest
IsToken Operator bytes rest = IsLongOperator bytes ⊎ IsShortOperator bytes rest
IsToken Other bytes rest =
    IsStrayByte bytes rest
    ⊎ (IsPiece piece.OpenString bytes rest ⊎ (IsPiece piece.LineFeed bytes rest ⊎ IsPiece piece.Semicolon bytes rest))

-- the text from this offset on is these tokens, one after the other, with spaces before, between and behind them
pub data AreTokens : ℕ → List ℕ → List SpelledToken → Type 0 where
  nothing : (start : ℕ) → AreTokens start [] []
  space : (start : ℕ) (text : List ℕ) (tokens : List SpelledToken) (kind : PieceKind) (bytes rest : List ℕ)
      → text ≡ bytes ++ rest → IsPiece kind bytes rest → is_space kind ≡ true
      → AreTokens (start + length bytes) rest tokens → AreTokens start text tokens
  token : (start : ℕ) (text : List ℕ) (tokens : List SpelledToken) (kind : TokenKind) (bytes rest : List ℕ)
      → text ≡ bytes ++ rest → IsToken kind bytes rest
      → AreTokens (start + length bytes) rest tokens
      → AreTokens start text (record { kind = kind; bytes = bytes; start = start } ∷ tokens)
