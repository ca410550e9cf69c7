-- What holds of all elements of lists, and what holds of answers.
use Rattle.std.proofs.Common.{Bool, true, false, cond, List, [], ◌∷◌, Option, None, Some, Result, Ok, Err, IfSome, IfOk, All, find}
use Rattle.std.specs.List.{cons_option, filter_map, flat_map}
use Rattle.std.proofs.lemmas.List.Elements.{All-nil, All-cons, All-head, All-tail, All-append}
use Rattle.asm_base.specs.Refusals.{◌>>=◌}

module _ {X : Type 0} (P : X → Type 0) where
  pub either_all : (test : Bool) (one other : List X) → All P one → All P other → All P (cond test one other)
  either_all true one other first second = first
  either_all false one other first second = second

  -- what is found in a list
  pub found_one : (test : X → Bool) (xs : List X) → All P xs → IfSome (find test xs) P
  found_one test [] all = tt
  found_one test (x ∷ xs) all = by (test x) (found_one test xs (All-tail P x xs all))
    where
      by : (b : Bool) → IfSome (find test xs) P → IfSome (cond b (Some x) (find test xs)) P
      by true later = All-head P x xs all
      by false later = later

  onto_some : (one : Option X) (xs : List X) → IfSome one P → All P xs → All P (cons_option one xs)
  onto_some None xs is all = all
  onto_some (Some x) xs is all = All-cons P x xs is all

  module _ {Y : Type 0} where
    -- what elements of another list become, where they become any
    pub each_some : (h : Y → Option X) (ys : List Y) → ((y : Y) → IfSome (h y) P) → All P (filter_map h ys)
    each_some h [] each = All-nil P
    each_some h (y ∷ ys) each = onto_some (h y) (filter_map h ys) (each y) (each_some h ys each)

    -- the lists that elements of another list become
    pub each_list : (Q : Y → Type 0) (h : Y → List X) (ys : List Y) → ((y : Y) → Q y → All P (h y)) → All Q ys → All P (flat_map h ys)
    each_list Q h [] each all = All-nil P
    each_list Q h (y ∷ ys) each all =
        All-append P (h y) (flat_map h ys) (each y (All-head Q y ys all)) (each_list Q h ys each (All-tail Q y ys all))

module _ {A B F : Type 0} (P : A → Type 0) (Q : B → Type 0) where
  -- one step after the other
  pub step_ok : (made : Result A F) (step : A → Result B F) → IfOk made P → ((x : A) → P x → IfOk (step x) Q) → IfOk (made >>= step) Q
  step_ok (Ok x) step is each = each x is
  step_ok (Err fault) step is each = tt

pub either_ok : {A F : Type 0} (P : A → Type 0) (test : Bool) (one other : Result A F) → IfOk one P → IfOk other P → IfOk (cond test one other) P
either_ok P true one other first second = first
either_ok P false one other first second = second

-- what is there or not
pub either_way : {X : Type 0} (P : Option X → Type 0) (found : Option X) → P None → ((x : X) → P (Some x)) → P found
either_way P None none some = none
either_way P (Some x) none some = some x
