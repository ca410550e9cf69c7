-- Where an expression fails: the first place from the left where no text goes on, or where a text is beyond the limits (GNU as manual, "Expressions").
use Rattle.std.specs.Prelude.{◌≡◌, ℕ, suc, ◌+◌, ◌<◌, ◌≤◌, ◌||◌, Bool, true, false, List, [], ◌∷◌, ◌++◌, is_some, Some, None, Err}
use Rattle.asm_base.specs.Tokens.{SpelledToken}
use Rattle.asm_expr.specs.declared.faults.ExprCause.{ExprCause}
use Rattle.asm_expr.specs.declared.faults.ExprCause.TheVariants.{BadExpression, NumberTooWide, ExpressionTooDeep}
use Rattle.asm_expr.specs.declared.trees.UnaryOp.{UnaryOp}
use Rattle.asm_expr.specs.declared.trees.BinaryOp.{BinaryOp}
use Rattle.asm_expr.specs.Trees.{Tree, unary, binary, height}
use Rattle.expr_texts.specs.Operators.{opens, closes, prefix_of, operator_of, level_of, prefix_level}
use Rattle.expr_texts.specs.Leaves.{leaf_of}
use Rattle.expr_texts.specs.Reading.{most_open, most_height, reading}
use Rattle.expr_texts.specs.Grammar.{Writes, operator_follows}
use Rattle.expr_texts.specs.Found.{operator_in}

-- `)` stands in front
abbrev pub closing_follows : List SpelledToken → Bool
closing_follows [] = false
closing_follows (token ∷ rest) = closes token

-- the token opens a construct: it is `(` or a prefix operator
abbrev pub opens_more : SpelledToken → Bool
opens_more token = opens token || is_some (prefix_of token)

-- An expression whose operators bind at least so tightly, and in which at most so many constructs may be open at one place, fails at the front of the tokens.
pub data Fails : (most level : ℕ) (tokens : List SpelledToken) (cause : ExprCause) → Type 0 where
  -- nothing stands where an operand has to
  ended : (most level : ℕ) → Fails most level [] BadExpression
  -- the token begins no operand
  no_operand : (most level : ℕ) (token : SpelledToken) (rest : List SpelledToken) → opens token ≡ false → prefix_of token ≡ None
      → leaf_of token ≡ Err BadExpression → Fails most level (token ∷ rest) BadExpression
  -- the number that the token spells is too wide
  too_wide : (most level : ℕ) (token : SpelledToken) (rest : List SpelledToken) → opens token ≡ false → prefix_of token ≡ None
      → leaf_of token ≡ Err NumberTooWide → Fails most level (token ∷ rest) NumberTooWide
  -- no construct more may be open
  too_open : (level : ℕ) (token : SpelledToken) (rest : List SpelledToken) → opens_more token ≡ true → Fails 0 level (token ∷ rest) ExpressionTooDeep
  -- the operand of a prefix operator fails
  after_prefix : (most level : ℕ) (op : UnaryOp) (token : SpelledToken) (rest : List SpelledToken) (cause : ExprCause) → prefix_of token ≡ Some op
      → Fails most prefix_level rest cause → Fails (suc most) level (token ∷ rest) cause
  -- a prefix operator and its operand are too high together
  prefix_high : (most level : ℕ) (op : UnaryOp) (operand : Tree) (token : SpelledToken) (text behind rest : List SpelledToken) → prefix_of token ≡ Some op
      → Writes most operand prefix_level text → height operand ≤ most_height → most_height < height (unary op operand) → rest ≡ text ++ behind
      → Fails (suc most) level (token ∷ rest) ExpressionTooDeep
  -- what stands in parentheses fails
  in_parentheses : (most level : ℕ) (token : SpelledToken) (rest : List SpelledToken) (cause : ExprCause) → opens token ≡ true
      → Fails most 1 rest cause → Fails (suc most) level (token ∷ rest) cause
  -- behind what stands in parentheses, where it does not go on, there is no `)`
  unclosed : (most level : ℕ) (tree : Tree) (token : SpelledToken) (text behind rest : List SpelledToken) → opens token ≡ true
      → Writes most tree 1 text → height tree ≤ most_height → operator_follows behind ≡ false → closing_follows behind ≡ false → rest ≡ text ++ behind
      → Fails (suc most) level (token ∷ rest) BadExpression
  -- the right operand of an operator fails
  after_operator : (most level : ℕ) (op : BinaryOp) (left : Tree) (token : SpelledToken) (before behind tokens : List SpelledToken) (cause : ExprCause)
      → level ≤ level_of op → operator_of token ≡ Some op → Writes most left (level_of op) before → height left ≤ most_height
      → Fails most (level_of op + 1) behind cause → tokens ≡ before ++ (token ∷ behind) → Fails most level tokens cause
  -- an operator and its operands, of which the right one does not go on, are too high together
  operator_high : (most level : ℕ) (op : BinaryOp) (left right : Tree) (token : SpelledToken) (before text behind tokens : List SpelledToken)
      → level ≤ level_of op → operator_of token ≡ Some op → Writes most left (level_of op) before → height left ≤ most_height
      → Writes most right (level_of op + 1) text → height right ≤ most_height → operator_in (level_of op + 1) behind ≡ None
      → most_height < height (binary op left right) → tokens ≡ before ++ (token ∷ (text ++ behind)) → Fails most level tokens ExpressionTooDeep

-- the expression at the front of the tokens fails, for this cause
abbrev pub FailsAt : List SpelledToken → ExprCause → Type 0
FailsAt tokens cause = Fails most_open 1 tokens cause

-- the reading of the tokens has this fault exactly where the expression at their front fails for it
pub record HasFaultExactly (tokens : List SpelledToken) (cause : ExprCause) : Type 0 where
  pub fails : reading 1 0 tokens ≡ Err cause → FailsAt tokens cause
  pub refused : FailsAt tokens cause → reading 1 0 tokens ≡ Err cause
