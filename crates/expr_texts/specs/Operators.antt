-- Operators and parentheses, their tokens, and how tightly operators bind (GNU as manual, "Operators", with the precedence stated here).
use Rattle.std.specs.Prelude.{ℕ, ◌==◌, Bool, List, [], ◌∷◌, if◌then◌else◌, Option, Some, None, codes}
use Rattle.std.specs.Str.{bytes_eq}
use Rattle.asm_base.specs.declared.tokens.TokenKind.{TokenKind}
use Rattle.asm_base.specs.declared.tokens.TokenKind.TheVariants.{Operator}
use Rattle.asm_base.specs.Tokens.{SpelledToken}
use Rattle.asm_expr.specs.declared.trees.UnaryOp.{UnaryOp}
use Rattle.asm_expr.specs.declared.trees.UnaryOp.TheVariants.{Minus, Complement}
use Rattle.asm_expr.specs.declared.trees.BinaryOp.{BinaryOp}
use Rattle.asm_expr.specs.declared.trees.BinaryOp.TheVariants.{Mul, Div, Rem, Shl, Shr, Or, And, Xor, OrNot, Add, Sub, Eq, Ne, Lt, Gt, Le, Ge, BothTrue, OneTrue}

-- the bytes of a token that is an operator or a mark of punctuation, and none of any other
abbrev pub mark_by : TokenKind → List ℕ → List ℕ
mark_by Operator bytes = bytes
mark_by _ bytes = []

-- the bytes of an operator or a mark of punctuation
abbrev pub mark_of : SpelledToken → List ℕ
mark_of token = mark_by token.kind token.bytes

-- `(`
abbrev pub opens : SpelledToken → Bool
opens token = bytes_eq (mark_of token) (codes "(")

-- `)`
abbrev pub closes : SpelledToken → Bool
closes token = bytes_eq (mark_of token) (codes ")")

-- `-` and `~`
abbrev pub prefix_byte : ℕ → Option UnaryOp
prefix_byte byte = if byte == 45 then Some Minus else (if byte == 126 then Some Complement else None)

-- the prefix operator that these bytes spell
unfoldable pub prefix_by : List ℕ → Option UnaryOp
prefix_by [] = None
prefix_by (byte ∷ []) = prefix_byte byte
prefix_by (first ∷ second ∷ others) = None

-- `*`, `/`, `%`, `|`, `&`, `^`, `!`, `+`, `-`, `<` and `>`
unfoldable pub operator_byte : ℕ → Option BinaryOp
operator_byte byte =
    if byte == 42 then Some Mul
    else (if byte == 47 then Some Div
    else (if byte == 37 then Some Rem
    else (if byte == 124 then Some Or
    else (if byte == 38 then Some And
    else (if byte == 94 then Some Xor
    else (if byte == 33 then Some OrNot
    else (if byte == 43 then Some Add
    else (if byte == 45 then Some Sub
    else (if byte == 60 then Some Lt
    else (if byte == 62 then Some Gt else None))))))))))

-- what begins with `<`: `<<`, `<>` and `<=`
abbrev pub below_byte : ℕ → Option BinaryOp
below_byte byte = if byte == 60 then Some Shl else (if byte == 62 then Some Ne else (if byte == 61 then Some Le else None))

-- what begins with `>`: `>>` and `>=`
abbrev pub above_byte : ℕ → Option BinaryOp
above_byte byte = if byte == 62 then Some Shr else (if byte == 61 then Some Ge else None)

-- `<<`, `<>`, `<=`, `>>`, `>=`, `==`, `!=`, `&&` and `||`
unfoldable pub operator_bytes : ℕ → ℕ → Option BinaryOp
operator_bytes first second =
    if first == 60 then below_byte second
    else (if first == 62 then above_byte second
    else (if first == 61 then (if second == 61 then Some Eq else None)
    else (if first == 33 then (if second == 61 then Some Ne else None)
    else (if first == 38 then (if second == 38 then Some BothTrue else None)
    else (if first == 124 then (if second == 124 then Some OneTrue else None) else None)))))

-- the operator between two operands that these bytes spell
unfoldable pub operator_by : List ℕ → Option BinaryOp
operator_by [] = None
operator_by (byte ∷ []) = operator_byte byte
operator_by (first ∷ second ∷ []) = operator_bytes first second
operator_by (first ∷ second ∷ third ∷ others) = None

-- the operator that a token is before an operand
abbrev pub prefix_of : SpelledToken → Option UnaryOp
prefix_of token = prefix_by (mark_of token)

-- the operator that a token is between two operands
abbrev pub operator_of : SpelledToken → Option BinaryOp
operator_of token = operator_by (mark_of token)

-- how tightly an operator binds its operands
unfoldable pub level_of : BinaryOp → ℕ
level_of Mul = 6
level_of Div = 6
level_of Rem = 6
level_of Shl = 6
level_of Shr = 6
level_of Or = 5
level_of And = 5
level_of Xor = 5
level_of OrNot = 5
level_of Add = 4
level_of Sub = 4
level_of Eq = 3
level_of Ne = 3
level_of Lt = 3
level_of Gt = 3
level_of Le = 3
level_of Ge = 3
level_of BothTrue = 2
level_of OneTrue = 1

-- a prefix operator binds tightest
abbrev pub prefix_level : ℕ
prefix_level = 7
