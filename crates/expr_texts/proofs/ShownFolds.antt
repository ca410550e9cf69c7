-- A visitor that shows part by part shows the whole.
use Rattle.std.proofs.Common.{◌≡◌, ℕ, List, Ok, Err}
use Rattle.asm_base.specs.declared.refusals.Refusal.{Refusal}
use Rattle.asm_base.specs.declared.refusals.Refusal.TheVariants.{Fault, NoMemory}
use Rattle.asm_base.specs.Refusals.{Fails, Returns}
use Rattle.asm_expr.specs.declared.faults.ExprCause.{ExprCause}
use Rattle.asm_expr.specs.Trees.{Tree, number, name, here, unary, binary}
use Rattle.asm_expr.specs.Following.{Follows, FollowsBoth}
use Rattle.asm_expr.specs.Folds.{Folds}
use Rattle.expr_texts.specs.Shown.{ShownPiece, piece_of, unary_piece, binary_piece}
use Rattle.expr_texts.specs.Showing.{ShownAnswer, NumShows, NameShows, HereShows, UnaryShows, BinaryShows}

-- what follows on a part that is shown is shown
shown_after : (below : ShownAnswer) (shown : ShownPiece) (next : ShownPiece → ShownPiece) (answer : ShownAnswer) → Returns below (Ok shown) → Follows below (λ made. Ok (next made)) answer → Returns answer (Ok (next shown))
shown_after (Ok made) shown next answer is step = let same : shown ≡ made = cc in rw same step
shown_after (Err (Fault fault)) shown next answer is step = absurd cc
shown_after (Err NoMemory) shown next answer is step = rw step tt

shown_after_both : (left : ShownAnswer) (one : ShownPiece) (right : ShownAnswer) (other : ShownPiece) (next : ShownPiece → ShownPiece → ShownPiece) (answer : ShownAnswer)
    → Returns left (Ok one) → Returns right (Ok other) → FollowsBoth left right (λ a b. Ok (next a b)) answer → Returns answer (Ok (next one other))
shown_after_both (Ok made) one right other next answer is shown step = let same : one ≡ made = cc in rw same (shown_after right other (next made) answer shown step)
shown_after_both (Err (Fault fault)) one right other next answer is shown step = absurd cc
shown_after_both (Err NoMemory) one right other next answer is shown step = rw step tt

module _ {V : Type 0} where
  pub folds_shown : (tree : Tree) (first : V) (answer : ShownAnswer) (last : V) → Folds NumShows NameShows HereShows UnaryShows BinaryShows tree first answer last → Returns answer (Ok (piece_of tree))
  unfolding piece_of
  folds_shown (number value) first answer last folds = folds
  folds_shown (name written) first answer last folds = folds
  folds_shown here first answer last folds = folds
  folds_shown (unary op operand) first answer last folds =
      shown_after folds.1 (piece_of operand) (unary_piece op) answer (folds_shown operand first folds.1 folds.0 folds.2) folds.3
  folds_shown (binary op left right) first answer last folds =
      shown_after_both folds.2 (piece_of left) folds.3 (piece_of right) (binary_piece op) answer
      (folds_shown left first folds.2 folds.0 folds.4) (folds_shown right folds.0 folds.3 folds.1 folds.5) folds.6

pub text_given : (answer : ShownAnswer) (wanted made : ShownPiece) → answer ≡ Ok made → Returns answer (Ok wanted) → wanted ≡ made
text_given (Ok other) wanted made is gives = cc
text_given (Err fault) wanted made is gives = cc

fails_any : (refusal : Refusal ExprCause) (wanted : ShownPiece) (text : List ℕ) → Fails refusal (Ok wanted) → Fails refusal (Ok text)
fails_any (Fault fault) wanted text fails = cc
fails_any NoMemory wanted text fails = tt

pub text_fails : (answer : ShownAnswer) (wanted : ShownPiece) (refusal : Refusal ExprCause) (text : List ℕ) → answer ≡ Err refusal → Returns answer (Ok wanted) → Fails refusal (Ok text)
text_fails (Ok other) wanted refusal text is gives = absurd cc
text_fails (Err other) wanted refusal text is gives = let same : other ≡ refusal = cc in fails_any refusal wanted text (rw same at gives)
