-- What a visitor answers part by part that shows an expression.
use Rattle.std.specs.Prelude.{ℕ, Result, Ok}
use Rattle.asm_base.specs.declared.refusals.Refusal.{Refusal}
use Rattle.asm_base.specs.Refusals.{Returns}
use Rattle.asm_expr.specs.declared.faults.ExprCause.{ExprCause}
use Rattle.asm_expr.specs.declared.trees.Written.{Written}
use Rattle.asm_expr.specs.declared.trees.UnaryOp.{UnaryOp}
use Rattle.asm_expr.specs.declared.trees.BinaryOp.{BinaryOp}
use Rattle.asm_expr.specs.Trees.{number, name, here}
use Rattle.asm_expr.specs.Following.{Follows, FollowsBoth}
use Rattle.expr_texts.specs.Shown.{ShownPiece, piece_of, unary_piece, binary_piece}

-- what is shown of a part of an expression
abbrev pub ShownAnswer : Type 0
ShownAnswer = Result ShownPiece (Refusal ExprCause)

module _ {V : Type 0} where
  -- a number is shown by itself
  abbrev pub NumShows : V → ℕ → ShownAnswer → V → Type 0
  NumShows before value answer after = Returns answer (Ok (piece_of (number value)))

  -- a name is shown by itself
  abbrev pub NameShows : V → Written → ShownAnswer → V → Type 0
  NameShows before written answer after = Returns answer (Ok (piece_of (name written)))

  -- the place of the statement is shown as `.`
  abbrev pub HereShows : V → ShownAnswer → V → Type 0
  HereShows before answer after = Returns answer (Ok (piece_of here))

  -- a prefix operator is shown before its operand
  abbrev pub UnaryShows : V → UnaryOp → ShownAnswer → ShownAnswer → V → Type 0
  UnaryShows before op operand answer after = Follows operand (λ below. Ok (unary_piece op below)) answer

  -- an operator is shown between its operands
  abbrev pub BinaryShows : V → BinaryOp → ShownAnswer → ShownAnswer → ShownAnswer → V → Type 0
  BinaryShows before op left right answer after = FollowsBoth left right (λ one other. Ok (binary_piece op one other)) answer
