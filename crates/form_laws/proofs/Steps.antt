-- Steps one after the other: what is known of what they make.
use Rattle.std.proofs.Common.{◌≡◌, Bool, true, false, cond, Result, Ok, Err, refl, ap}
use Rattle.std.specs.Result.{IfOk}
use Rattle.std.proofs.lemmas.Result.{IfOk-at_ok}
use Rattle.asm_base.specs.Refusals.{◌>>=◌}

-- what is known of what a step makes
pub record Fine {A E : Type 0} (P : A → Type 0) (result : Result A E) : Type 0 where
  pub holds : IfOk result P

-- a step that makes this
pub made : {A E : Type 0} {P : A → Type 0} (x : A) → P x → Fine {E = E} P (Ok x)
made x is = record { holds = is }

-- a step that is refused makes nothing
pub refused : {A E : Type 0} {P : A → Type 0} (fault : E) → Fine {A = A} P (Err fault)
refused fault = record { holds = tt }

-- what is known by a law
pub known : {A E : Type 0} {P : A → Type 0} (result : Result A E) → IfOk result P → Fine P result
known result is = record { holds = is }

-- and what follows from what is known
pub weaker : {A E : Type 0} {P Q : A → Type 0} {r : Result A E} → Fine P r → ((x : A) → P x → Q x) → Fine Q r
weaker {r = Ok x} first more = made x (more x first.holds)
weaker {r = Err fault} first more = refused fault

-- a step after another
pub step : {A B E : Type 0} {P : A → Type 0} {Q : B → Type 0} {r : Result A E} {f : A → Result B E}
    → Fine P r → ((x : A) → P x → Fine Q (f x)) → Fine Q (r >>= f)
step {r = Ok x} first later = later x first.holds
step {r = Err fault} first later = refused fault

-- a step after one of which nothing is to be known
pub after : {A B E : Type 0} {Q : B → Type 0} (r : Result A E) {f : A → Result B E} → ((x : A) → Fine Q (f x)) → Fine Q (r >>= f)
after (Ok x) later = later x
after (Err fault) later = refused fault

-- two branches, whatever the test says
pub either : {A E : Type 0} {P : A → Type 0} (test : Bool) {r s : Result A E} → Fine P r → Fine P s → Fine P (cond test r s)
either true one other = one
either false one other = other

-- a step makes what it answers
pub given : {A E : Type 0} (r : Result A E) → Fine (λ x. r ≡ Ok x) r
given (Ok x) = made x refl
given (Err fault) = refused fault

-- what is known of an answer
pub held : {A E : Type 0} {P : A → Type 0} {r : Result A E} (x : A) → r ≡ Ok x → Fine P r → P x
held {P = P} x is fine = IfOk-at_ok P is fine.holds

module _ {A E : Type 0} where
  -- no fault is an answer
  pub err-ok : {C : Type 0} (fault : E) (x : A) → ◌≡◌ {A = Result A E} (Err fault) (Ok x) → C
  err-ok fault x is = absurd (cc)

  pub same_Ok : (x y : A) → ◌≡◌ {A = Result A E} (Ok x) (Ok y) → x ≡ y
  same_Ok x y is = ap (λ (r : Result A E). elim r [ Ok made ↦ made | Err fault ↦ x ]) is

module _ {A B E C : Type 0} where
  -- two steps that answer: the first does, and so does the second from there
  pub both_ok : (r : Result A E) (f : A → Result B E) (y : B) → (r >>= f) ≡ Ok y → ((x : A) → r ≡ Ok x → f x ≡ Ok y → C) → C
  both_ok (Ok x) f y is go = go x refl is
  both_ok (Err fault) f y is go = err-ok fault y is
