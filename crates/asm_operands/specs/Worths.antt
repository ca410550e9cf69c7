-- What the parts of an expression are worth to who reads it: numbers, or what is known of names besides.
use Rattle.std.specs.Prelude.{◌≡◌, ◌≤◌, ℕ, false, List, [], length, take, Option, None, Some, Ok}
use Rattle.std.specs.List.{list_any}
use Rattle.asm_base.specs.Tokens.{SpelledToken}
use Rattle.asm_expr.specs.declared.trees.UnaryOp.{UnaryOp}
use Rattle.asm_expr.specs.declared.trees.BinaryOp.{BinaryOp}
use Rattle.asm_expr.specs.Arithmetic.{combined}
use Rattle.asm_expr.specs.Forms.{constant_form}
use Rattle.asm_expr.specs.Knowledge.{Knowledge}
use Rattle.asm_expr.specs.Linear.{linear}
use Rattle.asm_expr.specs.NamesOf.{names_of}
use Rattle.asm_expr.specs.Trees.{Tree, unary, binary, height}
use Rattle.expr_texts.specs.Leaves.{leaf_of}
use Rattle.expr_texts.specs.Operators.{operator_of}
use Rattle.expr_texts.specs.Reading.{read, reading}
use Rattle.asm_operands.specs.declared.constants.FrontValue.{FrontValue}
use Rattle.asm_operands.specs.Commas.{is_comma}

-- the tree names nothing, and its linear form is this number, whatever is known
pub record IsConstantTree (tree : Tree) (value : ℕ) : Type 0 where
  pub form : (known : Knowledge) → linear known tree ≡ Ok (constant_form value)
  pub names : names_of tree ≡ []

-- a value that is found is what the operator gives that the token is
abbrev pub FindsValue : SpelledToken → ℕ → ℕ → Option ℕ → Type 0
FindsValue token a b (Some value) = (op : BinaryOp) → operator_of token ≡ Some op → combined op a b ≡ Ok value
FindsValue token a b None = Unit {0}

-- the token is a leaf that is worth this, and is no comma
pub record IsLeafWorth {V : Type 0} (Worth : Tree → V → Type 0) (token : SpelledToken) (value : V) : Type 0 where
  pub tree : Tree
  pub is : leaf_of token ≡ Ok tree
  pub lone : height tree ≡ 1
  pub worth : Worth tree value
  pub apart : is_comma token ≡ false

-- a value that is found is that of the leaf; where none is found nothing is said
abbrev pub FindsLeafWorth : {V : Type 0} → (Tree → V → Type 0) → SpelledToken → Option V → Type 0
FindsLeafWorth Worth token (Some value) = IsLeafWorth Worth token value
FindsLeafWorth Worth token None = Unit {0}

-- a value that is found is what a prefix operator makes of any tree that is worth the one below
abbrev pub FindsTurned : {V : Type 0} → (Tree → V → Type 0) → UnaryOp → V → Option V → Type 0
FindsTurned Worth op below (Some value) = (tree : Tree) → Worth tree below → Worth (unary op tree) value
FindsTurned Worth op below None = Unit {0}

-- a value that is found is what the operator that the token is makes of any trees that are worth these
abbrev pub FindsJoined : {V : Type 0} → (Tree → V → Type 0) → SpelledToken → V → V → Option V → Type 0
FindsJoined Worth token one other (Some value) =
    (op : BinaryOp) (left right : Tree) → operator_of token ≡ Some op → Worth left one → Worth right other → Worth (binary op left right) value
FindsJoined Worth token one other None = Unit {0}

-- the tokens are one expression that is worth this
pub record IsWorth {V : Type 0} (Worth : Tree → V → Type 0) (tokens : List SpelledToken) (value : V) : Type 0 where
  pub tree : Tree
  pub reads : reading 1 0 tokens ≡ Ok (read tree [])
  pub worth : Worth tree value

-- so many tokens at the front are such an expression, and none of them is a comma
pub record IsFrontWorth {V : Type 0} (Worth : Tree → V → Type 0) (tokens : List SpelledToken) (found : FrontValue V) : Type 0 where
  pub within : found.length ≤ length tokens
  pub one : IsWorth Worth (take found.length tokens) found.value
  pub apart : list_any is_comma (take found.length tokens) ≡ false

-- a value that is found is at the front of the tokens; where none is found nothing is said
abbrev pub FindsFrontWorth : {V : Type 0} → (Tree → V → Type 0) → List SpelledToken → Option (FrontValue V) → Type 0
FindsFrontWorth Worth tokens (Some found) = IsFrontWorth Worth tokens found
FindsFrontWorth Worth tokens None = Unit {0}
