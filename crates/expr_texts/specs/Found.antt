-- What a call of the parser finds in the tokens of the program, by the reading of an expression.
use Rattle.std.specs.Prelude.{◌≡◌, ℕ, ◌<◌, ◌≤◌, List, [], ◌∷◌, length, map, drop, Option, None, Result, Ok, Err}
use Rattle.asm_base.specs.declared.tokens.Token.{Token}
use Rattle.asm_base.specs.Tokens.{SpelledToken, spelled}
use Rattle.asm_base.specs.declared.refusals.Refusal.{Refusal}
use Rattle.asm_base.specs.declared.refusals.Refusal.TheVariants.{Fault, NoMemory}
use Rattle.asm_base.specs.Refusals.{Fails}
use Rattle.asm_expr.specs.declared.faults.ExprCause.{ExprCause}
use Rattle.asm_expr.specs.declared.faults.ExprCause.TheVariants.{BadExpression, ExpressionTooDeep}
use Rattle.asm_expr.specs.declared.trees.Expr.{Expr}
use Rattle.asm_expr.specs.declared.trees.BinaryOp.{BinaryOp}
use Rattle.expr_texts.specs.declared.parsing.Found.{Found}
use Rattle.asm_expr.specs.Trees.{Tree, tree_of, height}
use Rattle.expr_texts.specs.Reading.{Read, Reading, ReadTree, most_height, operand_of, operator_at, reading}

-- the tokens from this one on
abbrev pub spelled_from : List Token → ℕ → List SpelledToken
spelled_from tokens at = map spelled (drop at tokens)

-- the expression, and the tokens behind it
abbrev pub front_of : List Token → (Expr × ℕ) → Reading
front_of tokens found = record { tree = tree_of found.0; rest = spelled_from tokens found.1 }

-- the expression and the index, as values
abbrev pub read_tree : (Expr × ℕ) → ReadTree
read_tree found = record { tree = tree_of found.0; next = found.1 }

-- the operand that begins with the first of the tokens
unfoldable pub operand_in : ℕ → List SpelledToken → Read
operand_in depth [] = Err BadExpression
operand_in depth (token ∷ rest) = operand_of reading depth token rest

-- the first of the tokens as an operator that binds at least so tightly
unfoldable pub operator_in : ℕ → List SpelledToken → Option BinaryOp
operator_in level [] = None
operator_in level (token ∷ rest) = operator_at level token

-- the height of a tree that was found is told, and is not too much
pub record IsLow (found : Found) : Type 0 where
  pub height : found.height ≡ height (tree_of found.expr)
  pub low : found.height ≤ most_height

-- what was found behind this index
pub record IsFound (tokens : List Token) (at : ℕ) (wanted : Read) (found : Found) : Type 0 where
  pub value : wanted ≡ Ok (record { tree = tree_of found.expr; rest = spelled_from tokens found.next })
  pub low : IsLow found
  pub later : at < found.next
  pub within : found.next ≤ length tokens

-- a call finds what is wanted, or has its fault, unless memory ran out
abbrev pub Finds : List Token → ℕ → Read → Result Found (Refusal ExprCause) → Type 0
Finds tokens at wanted (Ok found) = IsFound tokens at wanted found
Finds tokens at wanted (Err refusal) = Fails refusal wanted

-- the node is complete, unless it is too high
pub record IsNode (node : Tree) (behind : ℕ) (found : Found) : Type 0 where
  pub tree : tree_of found.expr ≡ node
  pub next : found.next ≡ behind
  pub low : IsLow found

-- a node is complete, or too high, unless memory ran out
abbrev pub CompletesNode : Tree → ℕ → Result Found (Refusal ExprCause) → Type 0
CompletesNode tree next (Ok found) = IsNode tree next found
CompletesNode tree next (Err (Fault fault)) = (fault ≡ ExpressionTooDeep) × (most_height < height tree)
CompletesNode tree next (Err NoMemory) = Unit {0}
