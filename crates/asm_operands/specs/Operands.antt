-- The operands of directives: what stands between commas, and the names and strings that operands are.
use Rattle.std.specs.Prelude.{ℕ, ◌&&◌, Bool, true, false, List, [], ◌∷◌, ◌++◌, codes, if◌then◌else◌, Result, Ok, Err, ◌==◌, ◌||◌}
use Rattle.std.specs.List.{slice_split, list_all}
use Rattle.std.specs.Str.{bytes_eq}
use Rattle.asm_operands.specs.declared.place_faults.PlaceCause.{PlaceCause}
use Rattle.asm_operands.specs.declared.place_faults.PlaceCause.TheVariants.{BadOperand}
use Rattle.asm_base.specs.declared.tokens.TokenKind.{TokenKind}
use Rattle.asm_base.specs.declared.tokens.TokenKind.TheVariants.{Name, String, Digits}
use Rattle.asm_base.specs.Tokens.{SpelledToken}
use Rattle.asm_base.specs.Strings.{string_value}
use Rattle.asm_base.specs.Refusals.{◌>>=◌}
use Rattle.expr_texts.specs.Leaves.{between_quotes, is_symbol_name}
use Rattle.asm_base.specs.Digits.{is_digit_of}

-- the class of names without quotes
abbrev pub is_name_kind : TokenKind → Bool
is_name_kind Name = true
is_name_kind _ = false

-- a name, and a string in place of one
abbrev pub names_symbol_kind : TokenKind → Bool
names_symbol_kind Name = true
names_symbol_kind String = true
names_symbol_kind _ = false

-- the token is a name without quotes
abbrev pub is_name : SpelledToken → Bool
is_name token = is_name_kind token.kind

-- the token may name a symbol
abbrev pub names_symbol : SpelledToken → Bool
names_symbol token = names_symbol_kind token.kind

-- `.` without quotes is the place of its statement, and names no symbol (GNU as manual, "The Special Dot Symbol")
abbrev pub is_dot : SpelledToken → Bool
is_dot token = is_name token && bytes_eq token.bytes (codes ".")

-- the first token is `.` without quotes
abbrev pub begins_with_place : List SpelledToken → Bool
begins_with_place [] = false
begins_with_place (token ∷ rest) = is_dot token

-- the token is this one mark of punctuation
abbrev pub is_mark : ℕ → SpelledToken → Bool
is_mark mark token = bytes_eq token.bytes (mark ∷ [])

-- the token is the comma between operands
abbrev pub is_comma : SpelledToken → Bool
is_comma token = is_mark 44 token

-- the name, if it can stand in a string table
unfoldable pub checked_name : List ℕ → Result (List ℕ) PlaceCause
checked_name name = if is_symbol_name name then Ok name else Err BadOperand

-- the name that a token of this class gives a symbol
abbrev pub name_by_kind : TokenKind → List ℕ → Result (List ℕ) PlaceCause
name_by_kind Name bytes = Ok bytes
name_by_kind String bytes = checked_name (string_value (between_quotes bytes))
name_by_kind _ bytes = Err BadOperand

-- the name that a token gives a symbol, in quotes or not (GNU as manual, "Symbol Names")
unfoldable pub symbol_name : SpelledToken → Result (List ℕ) PlaceCause
symbol_name token = name_by_kind token.kind token.bytes

-- a name alone
unfoldable pub name_of : List SpelledToken → Result (List ℕ) PlaceCause
name_of [] = Err BadOperand
name_of (token ∷ []) = symbol_name token
name_of (token ∷ more ∷ rest) = Err BadOperand

-- what the string of a token stands for
abbrev pub string_by_kind : TokenKind → List ℕ → Result (List ℕ) PlaceCause
string_by_kind String bytes = Ok (string_value (between_quotes bytes))
string_by_kind _ bytes = Err BadOperand

-- a string alone (GNU as manual, "Strings")
unfoldable pub string_of : List SpelledToken → Result (List ℕ) PlaceCause
string_of [] = Err BadOperand
string_of (token ∷ []) = string_by_kind token.kind token.bytes
string_of (token ∷ more ∷ rest) = Err BadOperand

-- the operands of a directive: what stands between commas, or none where nothing stands
abbrev pub operands_of : List SpelledToken → List (List SpelledToken)
operands_of [] = []
operands_of (token ∷ rest) = slice_split is_comma (token ∷ rest)

-- what each gives, or the first fault
unfoldable pub each : {A B : Type 0} → (A → Result B PlaceCause) → List A → Result (List B) PlaceCause
each give [] = Ok []
each give (one ∷ more) = give one >>= λ first. each give more >>= λ others. Ok (first ∷ others)

-- what operands give, behind what stands before it
unfoldable pub behind : {A : Type 0} → List A → Result (List A) PlaceCause → Result (List A) PlaceCause
behind front rest = rest >>= λ others. Ok (front ++ others)

-- the zero byte that ends a string, where it is asked for
abbrev pub end_byte : Bool → List ℕ
end_byte false = []
end_byte true = 0 ∷ []

-- the bytes that strings stand for, one after the other, each with a zero byte behind it where that is asked for
unfoldable pub joined_strings : Bool → List (List SpelledToken) → Result (List ℕ) PlaceCause
joined_strings ended [] = Ok []
joined_strings ended (operand ∷ operands) =
    string_of operand >>= λ string. joined_strings ended operands >>= λ others. Ok ((string ++ end_byte ended) ++ others)

-- an operand by what it has to be, where it has to be there
abbrev pub needed : {A : Type 0} → (List SpelledToken → Result A PlaceCause) → List (List SpelledToken) → Result (A × List (List SpelledToken)) PlaceCause
needed give [] = Err BadOperand
needed give (operand ∷ operands) = give operand >>= λ made. Ok (made, operands)

-- an equals sign behind a name makes an assignment
abbrev pub is_assignment : List SpelledToken → Bool
is_assignment [] = false
is_assignment (token ∷ rest) = is_mark 61 token

-- the name begins as those of directives do
abbrev pub begins_with_dot : List ℕ → Bool
begins_with_dot [] = false
begins_with_dot (byte ∷ bytes) = byte == 46

-- decimal digits, which name a numeric label
abbrev pub number_by : TokenKind → List ℕ → Bool
number_by Digits bytes = list_all (is_digit_of 10) bytes
number_by _ bytes = false

-- the token is the number of a numeric label
abbrev pub is_number : SpelledToken → Bool
is_number token = number_by token.kind token.bytes

-- a name, quoted or not, or a number, and a colon
abbrev pub is_label : SpelledToken → SpelledToken → Bool
is_label first second = (names_symbol first || is_number first) && is_mark 58 second

-- a label stands in front
abbrev pub begins_with_label : List SpelledToken → Bool
begins_with_label [] = false
begins_with_label (first ∷ []) = false
begins_with_label (first ∷ second ∷ rest) = is_label first second
