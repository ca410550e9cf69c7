-- Numbers in decimal with their sign, and places from the first byte of an instruction (GNU as manual, "Expressions").
use Rattle.std.specs.Prelude.{ℕ, ◌-◌, ◌^◌, nat_lt, Bool, List, [], ◌∷◌, Option, Some, None, codes, if◌then◌else◌}
use Rattle.std.specs.Fmt.{decimal}
use Rattle.asm_expr.specs.declared.trees.UnaryOp.TheVariants.{Minus}
use Rattle.asm_expr.specs.declared.trees.BinaryOp.TheVariants.{Add, Sub}
use Rattle.asm_expr.specs.Trees.{Tree, number, here, unary, binary}
use Rattle.att_operands.specs.Values.{ValueText}
use Rattle.att_texts.specs.Pieces.{PrintedPiece, word, mark}

-- a number below half the range is itself, and others stand for negative ones
abbrev pub is_positive : ℕ → ℕ → Bool
is_positive bits value = nat_lt value (2 ^ (bits - 1))

-- the number of so many bits, in pieces
unfoldable pub number_pieces : ℕ → ℕ → List PrintedPiece
number_pieces bits value =
    if is_positive bits value then word (decimal value) ∷ [] else mark 45 ∷ word (decimal (2 ^ bits - value)) ∷ []

-- the same as an expression
unfoldable pub number_tree : ℕ → ℕ → Tree
number_tree bits value = if is_positive bits value then number value else unary Minus (number (2 ^ bits - value))

-- a place, as `.+n` or `.-n`
unfoldable pub place_pieces : ℕ → List PrintedPiece
place_pieces value =
    if is_positive 64 value then word (codes ".") ∷ mark 43 ∷ word (decimal value) ∷ []
    else word (codes ".") ∷ mark 45 ∷ word (decimal (2 ^ 64 - value)) ∷ []

-- the same as an expression
unfoldable pub place_tree : ℕ → Tree
place_tree value =
    if is_positive 64 value then binary Add here (number value) else binary Sub here (number (2 ^ 64 - value))

-- the value that is known
abbrev pub value_of : Option ℕ → ℕ
value_of None = 0
value_of (Some value) = value

-- a value without a suffix
abbrev pub bare : Tree → ValueText
bare tree = record { tree = tree; suffix = None }
