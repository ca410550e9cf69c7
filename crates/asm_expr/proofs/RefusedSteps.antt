-- A step that is refused ends the steps, and what steps stand on that succeed or fail together.
use Rattle.std.proofs.Common.{◌≡◌, Result, Ok, Err, refl, sym, ap, ◌∙◌}
use Rattle.std.specs.Result.{MatchResult, IsErrAnd}
use Rattle.std.proofs.lemmas.Result.{err_from_is_err_and}
use Rattle.asm_base.specs.declared.refusals.Refusal.{Refusal}
use Rattle.asm_base.specs.declared.refusals.Refusal.TheVariants.{Fault, NoMemory}
use Rattle.asm_base.specs.Refusals.{◌>>=◌, Fails, Returns}
use Rattle.asm_expr.specs.declared.faults.ExprCause.{ExprCause}

-- what the first step is refused for, all of them are refused for
pub fails_after : {A B F : Type 0} (refusal : Refusal F) (first : Result A F) (next : A → Result B F) (wanted : Result B F)
    → wanted ≡ (first >>= next) → Fails refusal first → Fails refusal wanted
fails_after (Fault fault) first next wanted is fails = is ∙ ap (λ r. r >>= next) fails
fails_after NoMemory first next wanted is fails = tt

-- a call that wants no memory answers what is due, and its fault is the refusal
pub fault_raised : {T F : Type 0} (answer due : Result T F) (given : Result T (Refusal F)) → answer ≡ due
    → MatchResult answer (λ value. given ≡ Ok value) (λ fault. IsErrAnd given (λ refusal. refusal ≡ Fault fault)) → Returns given due
fault_raised (Ok value) due given is raised = rw raised (sym is)
fault_raised (Err fault) due given is raised = let p = err_from_is_err_and given raised in rw (p.1, p.2) (sym is)

-- what a step that succeeds stands on
pub record Steps {A B : Type 0} (first : Result A ExprCause) (next : A → Result B ExprCause) (last : B) : Type 0 where
  pub middle : A
  pub begins : first ≡ Ok middle
  pub ends : next middle ≡ Ok last

pub steps : {A B : Type 0} (first : Result A ExprCause) (next : A → Result B ExprCause) (last : B) → (first >>= next) ≡ Ok last → Steps first next last
steps (Ok middle) next last is = record { middle = middle; begins = refl; ends = is }
steps (Err fault) next last is = cc

-- of two steps that fail together, the first fails, or the second behind it
pub data Broken {A B : Type 0} (first : Result A ExprCause) (next : A → Result B ExprCause) (cause : ExprCause) : Type 0 where
  at_first : first ≡ Err cause → Broken first next cause
  at_next : (middle : A) → first ≡ Ok middle → next middle ≡ Err cause → Broken first next cause

pub broken : {A B : Type 0} (first : Result A ExprCause) (next : A → Result B ExprCause) (cause : ExprCause) → (first >>= next) ≡ Err cause → Broken first next cause
broken (Ok middle) next cause is = at_next middle refl is
broken (Err fault) next cause is = let same : fault ≡ cause = cc in at_first (ap Err same)
