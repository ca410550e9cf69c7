-- What steps stand on, one after the other, that succeed or fail together.
use Rattle.std.proofs.Common.{◌≡◌, Result, Ok, Err, refl, ap, ◌∙◌}
use Rattle.asm_base.specs.declared.refusals.Refusal.{Refusal}
use Rattle.asm_base.specs.declared.refusals.Refusal.TheVariants.{Fault, NoMemory}
use Rattle.asm_base.specs.Refusals.{◌>>=◌, Fails}
use Rattle.asm_expr.specs.declared.faults.ExprCause.{ExprCause}

-- a step that succeeds, and the one behind it
pub record Steps {A B : Type 0} (first : Result A ExprCause) (next : A → Result B ExprCause) (last : B) : Type 0 where
  pub middle : A
  pub begins : first ≡ Ok middle
  pub ends : next middle ≡ Ok last

pub steps : {A B : Type 0} (first : Result A ExprCause) (next : A → Result B ExprCause) (last : B) → (first >>= next) ≡ Ok last → Steps first next last
steps (Ok middle) next last is = record { middle = middle; begins = refl; ends = is }
steps (Err fault) next last is = cc

-- of two steps that fail together, the first fails, or the second behind it
pub data Broken {A B : Type 0} (first : Result A ExprCause) (next : A → Result B ExprCause) (cause : ExprCause) : Type 0 where
  at_first : first ≡ Err cause → Broken first next cause
  at_next : (middle : A) → first ≡ Ok middle → next middle ≡ Err cause → Broken first next cause

pub broken : {A B : Type 0} (first : Result A ExprCause) (next : A → Result B ExprCause) (cause : ExprCause) → (first >>= next) ≡ Err cause → Broken first next cause
broken (Ok middle) next cause is = at_next middle refl is
broken (Err fault) next cause is = let same : fault ≡ cause = cc in at_first (ap Err same)

-- what the first step is refused for, both are refused for
pub fails_after : {A B : Type 0} (refusal : Refusal ExprCause) (first : Result A ExprCause) (next : A → Result B ExprCause) (wanted : Result B ExprCause)
    → wanted ≡ (first >>= next) → Fails refusal first → Fails refusal wanted
fails_after (Fault fault) first next wanted is fails = is ∙ ap (λ r. r >>= next) fails
fails_after NoMemory first next wanted is fails = tt
