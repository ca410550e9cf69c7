-- What a visitor answers part by part that makes the linear form of an expression.
use Rattle.std.specs.Prelude.{◌≡◌, ℕ, Result, Ok}
use Rattle.asm_base.specs.declared.refusals.Refusal.{Refusal}
use Rattle.asm_base.specs.Refusals.{Returns}
use Rattle.asm_expr.specs.declared.faults.ExprCause.{ExprCause}
use Rattle.asm_expr.specs.declared.trees.Written.{Written}
use Rattle.asm_expr.specs.declared.trees.UnaryOp.{UnaryOp}
use Rattle.asm_expr.specs.declared.trees.BinaryOp.{BinaryOp}
use Rattle.asm_expr.specs.Forms.{Form, constant_form}
use Rattle.asm_expr.specs.Knowledge.{Told, Knowledge}
use Rattle.asm_expr.specs.Linear.{form_of, unary_form, binary_form}
use Rattle.asm_expr.specs.Following.{Follows, FollowsBoth}

-- what is known by the members of a bound
abbrev pub knowledge_by : {K : Type 0} → (K → ℕ → Told) → (K → Written → ℕ) → (K → ℕ) → K → Knowledge
knowledge_by told meant place known = record { told = told known; meant = meant known; place = place known }

-- what is answered for a part of an expression
abbrev pub Answer : Type 0
Answer = Result Form (Refusal ExprCause)

module _ {V : Type 0} (knows : V → Knowledge) where
  -- the visitor knows what it knew, and the answer is the wanted one
  pub record AnswersWanted (before : V) (answer : Answer) (after : V) (wanted : Result Form ExprCause) : Type 0 where
    pub same : knows after ≡ knows before
    pub given : Returns answer wanted

  -- a number answers itself
  abbrev pub NumGives : V → ℕ → Answer → V → Type 0
  NumGives before value answer after = AnswersWanted before answer after (Ok (constant_form value))

  -- a name answers what its symbol stands for
  abbrev pub NameGives : V → Written → Answer → V → Type 0
  NameGives before written answer after = AnswersWanted before answer after (Ok (form_of (knows before).told ((knows before).meant written)))

  -- the place of the statement answers what its symbol stands for
  abbrev pub HereGives : V → Answer → V → Type 0
  HereGives before answer after = AnswersWanted before answer after (Ok (form_of (knows before).told (knows before).place))

  -- a prefix operator answers the refusal of its operand, or the form
  abbrev pub UnaryGives : V → UnaryOp → Answer → Answer → V → Type 0
  UnaryGives before op operand answer after =
      (knows after ≡ knows before) × Follows operand (unary_form (knows before).told op) answer

  -- an operator answers the refusal of its left operand, or that of its right one, or the form
  abbrev pub BinaryGives : V → BinaryOp → Answer → Answer → Answer → V → Type 0
  BinaryGives before op left right answer after =
      (knows after ≡ knows before) × FollowsBoth left right (binary_form (knows before).told op) answer
