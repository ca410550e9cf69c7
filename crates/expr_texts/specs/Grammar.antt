-- The grammar of expressions: from a tree to its texts, which are lists of tokens (GNU as manual, "Expressions").
use Rattle.std.specs.Prelude.{◌≡◌, ℕ, suc, ◌+◌, ◌≤◌, Bool, true, false, List, [], ◌∷◌, ◌++◌, length, drop, is_some, Ok, Some}
use Rattle.asm_base.specs.Tokens.{SpelledToken}
use Rattle.asm_expr.specs.declared.trees.UnaryOp.{UnaryOp}
use Rattle.asm_expr.specs.declared.trees.BinaryOp.{BinaryOp}
use Rattle.asm_expr.specs.Trees.{Tree, unary, binary, height}
use Rattle.expr_texts.specs.Operators.{opens, closes, prefix_of, operator_of, level_of, prefix_level}
use Rattle.expr_texts.specs.Leaves.{leaf_of}
use Rattle.expr_texts.specs.Reading.{most_open, most_height, ReadTree, reading_of}

-- The text writes the tree where operators have to bind at least so tightly, with at most so many parentheses and prefix operators open at one place.
pub data Writes : (most : ℕ) (tree : Tree) (level : ℕ) (text : List SpelledToken) → Type 0 where
  -- a number, a name or the place is one token
  leaf : (most level : ℕ) (tree : Tree) (token : SpelledToken) → leaf_of token ≡ Ok tree → Writes most tree level (token ∷ [])
  -- a prefix operator stands before its operand, which binds as tightly
  prefixed : (most level : ℕ) (op : UnaryOp) (operand : Tree) (token : SpelledToken) (text : List SpelledToken) → prefix_of token ≡ Some op
      → Writes most operand prefix_level text → Writes (suc most) (unary op operand) level (token ∷ text)
  -- an operator stands between its operands: the left one binds at least as tightly, and the right one more tightly
  between : (most level : ℕ) (op : BinaryOp) (left right : Tree) (token : SpelledToken) (before behind text : List SpelledToken)
      → level ≤ level_of op → operator_of token ≡ Some op → Writes most left (level_of op) before → Writes most right (level_of op + 1) behind
      → text ≡ before ++ (token ∷ behind) → Writes most (binary op left right) level text
  -- parentheses may stand round any text, and let any operator bind
  enclosed : (most level : ℕ) (tree : Tree) (opening closing : SpelledToken) (inside text : List SpelledToken) → opens opening ≡ true → closes closing ≡ true
      → Writes most tree 1 inside → text ≡ opening ∷ (inside ++ (closing ∷ [])) → Writes (suc most) tree level text

-- the text writes the tree, and both are within the limits
pub record IsTextOf (tree : Tree) (text : List SpelledToken) : Type 0 where
  pub writes : Writes most_open tree 1 text
  pub low : height tree ≤ most_height

-- an operator between operands stands in front
abbrev pub operator_follows : List SpelledToken → Bool
operator_follows [] = false
operator_follows (token ∷ rest) = is_some (operator_of token)

-- the tokens from this one on begin with a text of the tree that was found, up to where no operator follows
pub record IsFoundIn (tokens : List SpelledToken) (at : ℕ) (found : ReadTree) : Type 0 where
  pub text : List SpelledToken
  pub behind : List SpelledToken
  pub stands : drop at tokens ≡ text ++ behind
  pub next : found.next ≡ at + length text
  pub is_text : IsTextOf found.tree text
  pub ends : operator_follows behind ≡ false

-- the tokens with a text among them, of which the reading from its first one on has to give the tree
abbrev pub IsReadAs : Tree → List SpelledToken → List SpelledToken → List SpelledToken → Type 0
IsReadAs tree before text behind = reading_of (before ++ (text ++ behind)) (length before) ≡ Ok (record { tree = tree; next = length before + length text })
