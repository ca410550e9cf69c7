-- A visitor that answers part by part what makes the linear form gives the linear form of the whole.
use Rattle.std.proofs.Common.{◌≡◌, ℕ, Result, Ok, Err, refl, ◌∙◌}
use Rattle.asm_base.specs.declared.refusals.Refusal.{Refusal}
use Rattle.asm_base.specs.declared.refusals.Refusal.TheVariants.{Fault, NoMemory}
use Rattle.asm_base.specs.Refusals.{◌>>=◌, Fails, Returns}
use Rattle.asm_expr.specs.declared.faults.ExprCause.{ExprCause}
use Rattle.asm_expr.specs.Following.{Follows, FollowsBoth}
use Rattle.asm_expr.specs.Trees.{Tree, number, name, here, unary, binary}
use Rattle.asm_expr.specs.Folds.{Folds}
use Rattle.asm_expr.specs.Forms.{Form}
use Rattle.asm_expr.specs.Knowledge.{Knowledge}
use Rattle.asm_expr.specs.Linear.{linear, unary_form, binary_form, value_of}
use Rattle.asm_expr.specs.Evaluating.{Answer, AnswersWanted, NumGives, NameGives, HereGives, UnaryGives, BinaryGives}
use Rattle.asm_expr.proofs.RefusedSteps.{fails_after}

-- what follows on an answer is what follows on what was wanted
pub returns_after : {A B F : Type 0} (answer : Result A (Refusal F)) (wanted : Result A F) (next : A → Result B F) (given : Result B (Refusal F))
    → Returns answer wanted → Follows answer next given → Returns given (wanted >>= next)
returns_after (Ok made) wanted next given is step = rw is step
returns_after (Err (Fault fault)) wanted next given is step = rw (is, step) refl
returns_after (Err NoMemory) wanted next given is step = rw step tt

-- the same, where a second answer comes between
pub returns_after_both : {A B C F : Type 0} (left : Result A (Refusal F)) (wanted_left : Result A F) (right : Result B (Refusal F)) (wanted_right : Result B F) (next : A → B → Result C F) (given : Result C (Refusal F))
    → Returns left wanted_left → Returns right wanted_right → FollowsBoth left right next given → Returns given (wanted_left >>= (λ a. wanted_right >>= next a))
returns_after_both (Ok made) wanted_left right wanted_right next given is other step = rw is (returns_after right wanted_right (next made) given other step)
returns_after_both (Err (Fault fault)) wanted_left right wanted_right next given is other step = rw (is, step) refl
returns_after_both (Err NoMemory) wanted_left right wanted_right next given is other step = rw step tt

module _ {V : Type 0} (knows : V → Knowledge) where
  pub folds_linear : (tree : Tree) (first : V) (answer : Answer) (last : V)
      → Folds (NumGives knows) (NameGives knows) (HereGives knows) (UnaryGives knows) (BinaryGives knows) tree first answer last
      → AnswersWanted knows first answer last (linear (knows first) tree)
  unfolding linear
  folds_linear (number value) first answer last folds = folds
  folds_linear (name written) first answer last folds = folds
  folds_linear here first answer last folds = folds
  folds_linear (unary op operand) first answer last folds =
      let below = folds_linear operand first folds.1 folds.0 folds.2 in
      record {
        same = folds.3.0 ∙ below.same;
        given = returns_after folds.1 (linear (knows first) operand) (unary_form (knows first).told op) answer below.given (rw below.same at folds.3.1);
      }
  folds_linear (binary op left right) first answer last folds =
      let one = folds_linear left first folds.2 folds.0 folds.4 in
      let other = folds_linear right folds.0 folds.3 folds.1 folds.5 in
      record {
        same = folds.6.0 ∙ other.same ∙ one.same;
        given =
            returns_after_both folds.2 (linear (knows first) left) folds.3 (linear (knows first) right) (binary_form (knows first).told op) answer one.given (rw one.same at other.given)
            (rw (other.same ∙ one.same) at folds.6.1);
      }

-- the value of what a fold gives
pub value_given : (answer : Answer) (wanted : Result Form ExprCause) (made : Form) (given : Result ℕ (Refusal ExprCause))
    → answer ≡ Ok made → Returns answer wanted → Returns given (value_of made) → Returns given (wanted >>= value_of)
value_given (Ok other) wanted made given is returns value = let same : other ≡ made = cc in rw (returns, same) value
value_given (Err refusal) wanted made given is returns value = absurd cc

-- the refusal of a fold
pub value_fails : (answer : Answer) (wanted : Result Form ExprCause) (refusal : Refusal ExprCause)
    → answer ≡ Err refusal → Returns answer wanted → Fails refusal (wanted >>= value_of)
value_fails (Ok made) wanted refusal is returns = absurd cc
value_fails (Err other) wanted refusal is returns = let same : other ≡ refusal = cc in fails_after refusal wanted value_of (wanted >>= value_of) refl (rw same at returns)
