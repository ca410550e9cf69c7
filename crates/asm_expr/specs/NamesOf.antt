-- The names of an expression, from left to right, and what a visitor answers part by part that gathers them.
use Rattle.std.specs.Prelude.{◌≡◌, ℕ, List, [], ◌∷◌, ◌++◌, Result, Ok, Err}
use Rattle.asm_base.specs.declared.refusals.Refusal.{Refusal}
use Rattle.asm_base.specs.declared.refusals.Refusal.TheVariants.{NoMemory}
use Rattle.asm_base.specs.Refusals.{◌>>=◌}
use Rattle.asm_expr.specs.declared.faults.ExprCause.{ExprCause}
use Rattle.asm_expr.specs.declared.trees.Written.{Written}
use Rattle.asm_expr.specs.declared.trees.UnaryOp.{UnaryOp}
use Rattle.asm_expr.specs.declared.trees.BinaryOp.{BinaryOp}
use Rattle.asm_expr.specs.Trees.{Tree, number, name, here, unary, binary}

-- the names of an expression, from left to right
abbrev pub names_of : Tree → List Written
names_of (number value) = []
names_of (name written) = written ∷ []
names_of here = []
names_of (unary op operand) = names_of operand
names_of (binary op left right) = names_of left ++ names_of right

-- whether memory sufficed so far
abbrev pub Gathered : Type 0
Gathered = Result (Unit {0}) (Refusal ExprCause)

-- the names stand behind those that were there, unless memory ran out
abbrev pub Gathers : List Written → Gathered → List Written → List Written → Type 0
Gathers before (Ok done) after more = after ≡ before ++ more
Gathers before (Err refusal) after more = refusal ≡ NoMemory

module _ {V : Type 0} (has : V → List Written) where
  -- a number has no names
  abbrev pub NumGathers : V → ℕ → Gathered → V → Type 0
  NumGathers before value answer after = Gathers (has before) answer (has after) []

  -- a name is the one name of its part
  abbrev pub NameGathers : V → Written → Gathered → V → Type 0
  NameGathers before written answer after = Gathers (has before) answer (has after) (written ∷ [])

  -- the place of the statement is no name
  abbrev pub HereGathers : V → Gathered → V → Type 0
  HereGathers before answer after = Gathers (has before) answer (has after) []

  -- a prefix operator has the names of its operand
  abbrev pub UnaryGathers : V → UnaryOp → Gathered → Gathered → V → Type 0
  UnaryGathers before op operand answer after = (has after ≡ has before) × (answer ≡ operand)

  -- an operator has the names of its operands
  abbrev pub BinaryGathers : V → BinaryOp → Gathered → Gathered → Gathered → V → Type 0
  BinaryGathers before op left right answer after = (has after ≡ has before) × (answer ≡ (left >>= (λ _. right)))
