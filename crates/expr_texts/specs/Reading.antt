-- The reading of an expression from its tokens: the tree and the tokens behind it, or the first fault from the left.
use Rattle.std.specs.Prelude.{ℕ, zero, suc, ◌+◌, ◌-◌, List, [], ◌∷◌, length, drop, nat_lt, nat_le, if◌then◌else◌, Option, Some, None, Result, Ok, Err}
use Rattle.asm_base.specs.Tokens.{SpelledToken}
use Rattle.asm_expr.specs.declared.faults.ExprCause.{ExprCause}
use Rattle.asm_expr.specs.declared.faults.ExprCause.TheVariants.{BadExpression, ExpressionTooDeep}
use Rattle.asm_expr.specs.declared.trees.UnaryOp.{UnaryOp}
use Rattle.asm_expr.specs.declared.trees.BinaryOp.{BinaryOp}
use Rattle.asm_expr.specs.Trees.{Tree, unary, binary, height}
use Rattle.asm_base.specs.Refusals.{◌>>=◌}
use Rattle.expr_texts.specs.Operators.{opens, closes, prefix_of, operator_of, level_of, prefix_level}
use Rattle.expr_texts.specs.Leaves.{leaf_of}

-- the most parentheses and prefix operators that are open at one place
abbrev pub most_open : ℕ
most_open = 64

-- the most nodes that stand one above the other
abbrev pub most_height : ℕ
most_height = 256

-- a tree that was read, and the tokens behind it
pub record Reading : Type 0 where
  pub tree : Tree
  pub rest : List SpelledToken

-- what a reading answers
abbrev pub Read : Type 0
Read = Result Reading ExprCause

-- a tree that was read, and the tokens behind it
abbrev pub read : Tree → List SpelledToken → Reading
read tree rest = record { tree = tree; rest = rest }

-- a node that is complete, unless it is too high
unfoldable pub whole : Tree → List SpelledToken → Read
whole tree rest = if nat_lt most_height (height tree) then Err ExpressionTooDeep else Ok (read tree rest)

-- a tree in parentheses, which have to close
abbrev pub closed_by : Tree → List SpelledToken → Read
closed_by tree [] = Err BadExpression
closed_by tree (token ∷ rest) = if closes token then Ok (read tree rest) else Err BadExpression

-- what was read in parentheses, which have to close
abbrev pub closed : Reading → Read
closed inner = closed_by inner.tree inner.rest

-- one construct more is open, unless those are too many
abbrev pub deeper : ℕ → Read → Read
deeper depth inner = if nat_lt depth most_open then inner else Err ExpressionTooDeep

-- an operand that begins with no parenthesis: a prefix operator with its operand, or a number or a name
abbrev pub unopened : (ℕ → ℕ → List SpelledToken → Read) → ℕ → SpelledToken → List SpelledToken → Option UnaryOp → Read
unopened below depth token rest None = leaf_of token >>= (λ tree. Ok (read tree rest))
unopened below depth token rest (Some op) = deeper depth (below prefix_level (depth + 1) rest >>= (λ operand. whole (unary op operand.tree) operand.rest))

-- the operand that begins with this token, where `below` reads what stands in it
unfoldable pub operand_of : (ℕ → ℕ → List SpelledToken → Read) → ℕ → SpelledToken → List SpelledToken → Read
operand_of below depth token rest =
    if opens token then deeper depth (below 1 (depth + 1) rest >>= closed) else unopened below depth token rest (prefix_of token)

-- the operator that a token is, if it binds at least so tightly
abbrev pub operator_from : ℕ → Option BinaryOp → Option BinaryOp
operator_from level None = None
operator_from level (Some op) = if nat_le level (level_of op) then Some op else None

-- the operator that a token is, if it binds at least so tightly
abbrev pub operator_at : ℕ → SpelledToken → Option BinaryOp
operator_at level token = operator_from level (operator_of token)

-- a tree goes on where an operator follows
abbrev pub follow : Option BinaryOp → Read → (BinaryOp → Read) → Read
follow None stop more = stop
follow (Some op) stop more = more op

-- an expression of operators that bind at least so tightly, where so many constructs are open; the first number bounds the tokens that are left
unfoldable mutual
  pub read_at : ℕ → ℕ → ℕ → List SpelledToken → Read
  read_at fuel level depth [] = Err BadExpression
  read_at zero level depth (token ∷ rest) = Err BadExpression
  read_at (suc fuel) level depth (token ∷ rest) = operand_of (read_at fuel) depth token rest >>= (λ left. read_more fuel level depth left.tree left.rest)

  pub read_more : ℕ → ℕ → ℕ → Tree → List SpelledToken → Read
  read_more fuel level depth left [] = Ok (read left [])
  read_more zero level depth left (token ∷ rest) = Ok (read left (token ∷ rest))
  read_more (suc fuel) level depth left (token ∷ rest) =
      follow (operator_at level token) (Ok (read left (token ∷ rest)))
      (λ op. read_at fuel (level_of op + 1) depth rest >>= (λ right. whole (binary op left right.tree) right.rest)
      >>= (λ joined. read_more fuel level depth joined.tree joined.rest))

-- an expression at the front of the tokens, of operators that bind at least so tightly, where so many constructs are open
unfoldable pub reading : ℕ → ℕ → List SpelledToken → Read
reading level depth tokens = read_at (length tokens) level depth tokens

-- what follows a tree that was read, with as much as the tokens need
unfoldable pub reading_more : ℕ → ℕ → Tree → List SpelledToken → Read
reading_more level depth left tokens = read_more (length tokens) level depth left tokens

-- a tree that was read, and the index of the first token behind it
pub record ReadTree : Type 0 where
  pub tree : Tree
  pub next : ℕ

-- the expression that begins at this token
unfoldable pub reading_of : List SpelledToken → ℕ → Result ReadTree ExprCause
reading_of tokens at = reading 1 0 (drop at tokens) >>= (λ found. Ok (record { tree = found.tree; next = length tokens - length found.rest }))
