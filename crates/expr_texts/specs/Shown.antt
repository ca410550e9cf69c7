-- The text of an expression with the fewest parentheses, which reads as the expression again.
use Rattle.std.specs.Prelude.{◌≡◌, ℕ, ◌+◌, ◌/◌, ◌%◌, ◌^◌, ◌<◌, ◌==◌, ◌&&◌, not, Bool, true, false, List, [], ◌∷◌, ◌++◌, flat_map, length, nat_le, nat_lt, if◌then◌else◌, codes, Ok}
use Rattle.std.specs.List.{list_all}
use Rattle.std.specs.Str.{bytes_eq}
use Rattle.std.specs.Fmt.{decimal}
use Rattle.asm_base.specs.ByteClasses.{is_name_start, is_name_byte}
use Rattle.asm_base.specs.Tokens.{tokens_of}
use Rattle.asm_expr.specs.declared.trees.Written.{Written}
use Rattle.asm_expr.specs.declared.trees.Written.TheVariants.{Plain, Back, Next}
use Rattle.asm_expr.specs.declared.trees.UnaryOp.{UnaryOp}
use Rattle.asm_expr.specs.declared.trees.UnaryOp.TheVariants.{Minus, Complement}
use Rattle.asm_expr.specs.declared.trees.BinaryOp.{BinaryOp}
use Rattle.asm_expr.specs.declared.trees.BinaryOp.TheVariants.{Mul, Div, Rem, Shl, Shr, Or, And, Xor, OrNot, Add, Sub, Eq, Ne, Lt, Gt, Le, Ge, BothTrue, OneTrue}
use Rattle.asm_expr.specs.Trees.{Tree, number, name, here, unary, binary}
use Rattle.expr_texts.specs.Operators.{level_of, prefix_level}
use Rattle.expr_texts.specs.Leaves.{is_symbol_name}
use Rattle.expr_texts.specs.Reading.{reading_of}

-- a text, and how tightly what it shows holds together
pub record ShownPiece : Type 0 where
  pub text : List ℕ
  pub level : ℕ

-- a text that holds together so tightly
abbrev pub piece : List ℕ → ℕ → ShownPiece
piece text level = record { text = text; level = level }

-- the name is a word of its own, and not the place
abbrev pub is_word : List ℕ → Bool
is_word [] = false
is_word (first ∷ rest) = is_name_start first && list_all is_name_byte rest && not (bytes_eq (first ∷ rest) (codes "."))

-- a byte of a string: itself, or three octal digits behind a backslash
abbrev pub stands_for_itself : ℕ → Bool
stands_for_itself byte = nat_le 32 byte && nat_le byte 126 && not (byte == 34) && not (byte == 92)

-- what stands for a byte in a string
abbrev pub escape : ℕ → List ℕ
escape byte = if stands_for_itself byte then (byte ∷ []) else (92 ∷ (48 + byte / 8 / 8) ∷ (48 + byte / 8 % 8) ∷ (48 + byte % 8) ∷ [])

-- a text between quotes
abbrev pub quoted : List ℕ → List ℕ
quoted text = 34 ∷ (flat_map escape text ++ (34 ∷ []))

-- the text of a name
abbrev pub written_text : Written → List ℕ
written_text (Plain text) = if is_word text then text else quoted text
written_text (Back n) = decimal n ++ codes "b"
written_text (Next n) = decimal n ++ codes "f"

-- the text of a prefix operator
abbrev pub prefix_text : UnaryOp → List ℕ
prefix_text Minus = codes "-"
prefix_text Complement = codes "~"

-- an operator with blanks round it
unfoldable pub operator_text : BinaryOp → List ℕ
operator_text Mul = codes " * "
operator_text Div = codes " / "
operator_text Rem = codes " % "
operator_text Shl = codes " << "
operator_text Shr = codes " >> "
operator_text Or = codes " | "
operator_text And = codes " & "
operator_text Xor = codes " ^ "
operator_text OrNot = codes " ! "
operator_text Add = codes " + "
operator_text Sub = codes " - "
operator_text Eq = codes " == "
operator_text Ne = codes " != "
operator_text Lt = codes " < "
operator_text Gt = codes " > "
operator_text Le = codes " <= "
operator_text Ge = codes " >= "
operator_text BothTrue = codes " && "
operator_text OneTrue = codes " || "

-- a text in parentheses, unless it holds together as tightly as it has to
abbrev pub enclosed_text : ℕ → ShownPiece → List ℕ
enclosed_text level shown = if nat_le level shown.level then shown.text else (40 ∷ (shown.text ++ (41 ∷ [])))

-- a prefix operator before its operand
abbrev pub unary_piece : UnaryOp → ShownPiece → ShownPiece
unary_piece op operand = piece (prefix_text op ++ enclosed_text prefix_level operand) prefix_level

-- an operator between its operands, of which the right one binds more tightly
abbrev pub binary_piece : BinaryOp → ShownPiece → ShownPiece → ShownPiece
binary_piece op left right =
    piece (enclosed_text (level_of op) left ++ (operator_text op ++ enclosed_text (level_of op + 1) right)) (level_of op)

-- what shows an expression
unfoldable pub piece_of : Tree → ShownPiece
piece_of (number n) = piece (decimal n) prefix_level
piece_of (name written) = piece (written_text written) prefix_level
piece_of here = piece (codes ".") prefix_level
piece_of (unary op operand) = unary_piece op (piece_of operand)
piece_of (binary op left right) = binary_piece op (piece_of left) (piece_of right)

-- the text of an expression
abbrev pub shown : Tree → List ℕ
shown tree = (piece_of tree).text

-- the number fits in a byte
abbrev pub is_byte : ℕ → Bool
is_byte n = nat_lt n 256

-- the name can be written: its number fits in 64 bits, or it has some bytes, and none of them is 0
abbrev pub IsWritable : Written → Type 0
IsWritable (Plain text) = (is_symbol_name text ≡ true) × (list_all is_byte text ≡ true)
IsWritable (Back n) = n < 2 ^ 64
IsWritable (Next n) = n < 2 ^ 64

-- all numbers and names of the expression can be written
abbrev pub IsShowable : Tree → Type 0
IsShowable (number n) = n < 2 ^ 64
IsShowable (name written) = IsWritable written
IsShowable here = Unit {0}
IsShowable (unary op operand) = IsShowable operand
IsShowable (binary op left right) = IsShowable left × IsShowable right

-- the text of the expression is read as the expression, whole
abbrev pub IsReadBack : Tree → Type 0
IsReadBack tree = reading_of (tokens_of (shown tree)) 0 ≡ Ok (record { tree = tree; next = length (tokens_of (shown tree)) })
