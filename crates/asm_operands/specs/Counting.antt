-- Expressions whose leaves are worth something, which count a value as they are read.
use Rattle.std.specs.Prelude.{◌≡◌, ℕ, suc, ◌-◌, ◌<◌, ◌≤◌, List, [], ◌∷◌, length, take, get_or, false, Option, None, Some, Ok, Err}
use Rattle.asm_base.specs.declared.tokens.Token.{Token}
use Rattle.asm_base.specs.Tokens.{SpelledToken, spelled}
use Rattle.asm_expr.specs.declared.faults.ExprCause.TheVariants.{BadExpression}
use Rattle.asm_expr.specs.Trees.{Tree, height}
use Rattle.expr_texts.specs.Reading.{Reading, Read, read, operand_of, read_at, read_more}
use Rattle.expr_texts.specs.Found.{spelled_from}
use Rattle.asm_operands.specs.declared.constants.Counted.{Counted}
use Rattle.asm_operands.specs.Levels.{token_level}
use Rattle.asm_operands.specs.Commas.{is_comma}

-- the tree is worth this, and has at most so many nodes one above the other
pub record Counts {V : Type 0} (Worth : Tree → V → Type 0) (tree : Tree) (value : V) (most : ℕ) : Type 0 where
  pub worth : Worth tree value
  pub low : height tree ≤ most

-- the operand at the front of the tokens, what stands in it read in so many steps
unfoldable pub operand_in : ℕ → ℕ → List SpelledToken → Read
operand_in steps depth [] = Err BadExpression
operand_in steps depth (token ∷ rest) = operand_of (read_at steps) depth token rest

-- how tightly the operator that the first of the tokens is binds, and 0 where it is none
unfoldable pub first_level : List SpelledToken → ℕ
first_level [] = 0
first_level (token ∷ rest) = token_level token

-- in as many steps as there are tokens, or more, the operand at their front is read so
abbrev pub ReadsOperand : ℕ → List SpelledToken → Reading → Type 0
ReadsOperand depth tokens found = (steps : ℕ) → length tokens ≤ suc steps → operand_in steps depth tokens ≡ Ok found

-- likewise an expression of operators that bind at least so tightly
abbrev pub ReadsExpression : ℕ → ℕ → List SpelledToken → Reading → Type 0
ReadsExpression level depth tokens found = (steps : ℕ) → length tokens ≤ steps → read_at steps level depth tokens ≡ Ok found

-- likewise what follows a tree that was read
abbrev pub ReadsMore : ℕ → ℕ → Tree → List SpelledToken → Reading → Type 0
ReadsMore level depth left tokens found = (steps : ℕ) → length tokens ≤ steps → read_more steps level depth left tokens ≡ Ok found

-- from this index on a tree is read in this way that counts what was found, no higher than the number of its tokens
pub record IsRead {V : Type 0} (Worth : Tree → V → Type 0) (Reads : List SpelledToken → Reading → Type 0) (tokens : List Token) (at : ℕ) (found : Counted V) : Type 0 where
  pub tree : Tree
  pub reads : Reads (spelled_from tokens at) (read tree (spelled_from tokens found.next))
  pub counts : Counts Worth tree found.value (found.next - at)
  pub later : at < found.next
  pub within : found.next ≤ length tokens
  pub level : found.level ≡ first_level (spelled_from tokens found.next)

-- the tokens can be cut at this index, where something was read up to the other one: no operator stands there
pub record IsCut (tokens : List Token) (next cut : ℕ) : Type 0 where
  pub behind : next ≤ cut
  pub within : cut ≤ length tokens
  pub plain : first_level (spelled_from tokens cut) ≡ 0

-- none of the tokens between these indices is a comma
abbrev pub AreApart : List Token → ℕ → ℕ → Type 0
AreApart tokens at next = (i : ℕ) (unless : Token) → at ≤ i → i < next → is_comma (spelled (get_or tokens i unless)) ≡ false

-- from this index on a tree is read that counts what was found, also where the tokens are cut behind it, and no comma is in it
pub record IsCounted {V : Type 0} (Worth : Tree → V → Type 0) (Reads : List SpelledToken → Reading → Type 0) (tokens : List Token) (at : ℕ) (found : Counted V) : Type 0 where
  pub later : at < found.next
  pub within : found.next ≤ length tokens
  pub level : found.level ≡ first_level (spelled_from tokens found.next)
  pub apart : AreApart tokens at found.next
  pub each : (cut : ℕ) → IsCut tokens found.next cut → IsRead Worth Reads (take cut tokens) at found

-- what is found counts so; where nothing is found nothing is said
abbrev pub FindsCounted : {V : Type 0} → (Tree → V → Type 0) → (List SpelledToken → Reading → Type 0) → List Token → ℕ → Option (Counted V) → Type 0
FindsCounted Worth Reads tokens at (Some found) = IsCounted Worth Reads tokens at found
FindsCounted Worth Reads tokens at None = Unit {0}

-- an expression of operators that bind at least so tightly is counted from this index up to the other one, where it ends
pub record IsExpression {V : Type 0} (Worth : Tree → V → Type 0) (level depth : ℕ) (tokens : List Token) (at next : ℕ) (value : V) : Type 0 where
  pub counted : IsCounted Worth (ReadsExpression level depth) tokens at (record { value = value; next = next; level = first_level (spelled_from tokens next) })
  pub ends : first_level (spelled_from tokens next) < level

-- a value that is found is that of such an expression
abbrev pub FindsExpression : {V : Type 0} → (Tree → V → Type 0) → ℕ → ℕ → List Token → ℕ → ℕ → Option V → Type 0
FindsExpression Worth level depth tokens at next (Some value) = IsExpression Worth level depth tokens at next value
FindsExpression Worth level depth tokens at next None = Unit {0}
