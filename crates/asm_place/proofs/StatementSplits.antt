-- Placing statements in two parts.
use Rattle.std.proofs.Common.{◌≡◌, List, [], ◌∷◌, ◌++◌, fold, Result, Ok, Err, refl, ap}
use Rattle.asm_lines.specs.NextStatements.{TokenStatement}
use Rattle.asm_lines.specs.Placing.{placed_next, placed_in_order}
use Rattle.asm_base.specs.Refusals.{◌>>=◌}
use Rattle.asm_values.specs.State.{Placed}
use Rattle.asm_place.specs.Sources.{place, place_all}
use Rattle.asm_place.specs.declared.place_faults.FaultAt.{FaultAt}

module _ {A E : Type 0} where
  -- no fault is an answer
  pub err-ok : {C : Type 0} (fault : E) (x : A) → ◌≡◌ {A = Result A E} (Err fault) (Ok x) → C
  err-ok fault x is = absurd (cc)

  pub same_Ok : (x y : A) → ◌≡◌ {A = Result A E} (Ok x) (Ok y) → x ≡ y
  same_Ok x y is = ap (λ (r : Result A E). elim r [ Ok made ↦ made | Err fault ↦ x ]) is

module _ {A B E C : Type 0} where
  -- two steps that answer: the first does, and so does the second from there
  pub both_ok : (r : Result A E) (f : A → Result B E) (y : B) → (r >>= f) ≡ Ok y → ((x : A) → r ≡ Ok x → f x ≡ Ok y → C) → C
  both_ok (Ok x) f y is go = go x refl is
  both_ok (Err fault) f y is go = err-ok fault y is

split_step : (r : Result Placed FaultAt) (xs ys : List TokenStatement) → ((x : Placed) → place_all (xs ++ ys) x ≡ (place_all xs x >>= place_all ys))
    → (r >>= place_all (xs ++ ys)) ≡ ((r >>= place_all xs) >>= place_all ys)
split_step (Ok x) xs ys later = later x
split_step (Err fault) xs ys later = refl

-- all statements are the first ones and then the others
pub all_split : (xs ys : List TokenStatement) (placed : Placed) → place_all (xs ++ ys) placed ≡ (place_all xs placed >>= place_all ys)
unfolding place_all
all_split [] ys placed = refl
all_split (s ∷ xs) ys placed = split_step (place s placed) xs ys (all_split xs ys)

module _ {S F : Type 0} (placed : S → TokenStatement → Result S F) where
  -- behind a fault nothing is placed
  stopped : (fault : F) (statements : List TokenStatement) → fold (placed_next placed) (Err fault) statements ≡ Err fault
  stopped fault [] = refl
  stopped fault (s ∷ later) = stopped fault later

-- the statements behind one are placed on what it placed, or not at all
behind_one : (answer : Result Placed FaultAt) (later : List TokenStatement)
    → ((x : Placed) → placed_in_order (λ placed statement. place statement placed) x later ≡ place_all later x)
    → fold (placed_next (λ placed statement. place statement placed)) answer later ≡ (answer >>= place_all later)
unfolding placed_in_order
behind_one (Ok x) later in_turn = in_turn x
behind_one (Err fault) later in_turn = stopped (λ placed statement. place statement placed) fault later

-- statements that are placed as they are handed out are placed in order
pub in_order : (statements : List TokenStatement) (before : Placed)
    → placed_in_order (λ placed statement. place statement placed) before statements ≡ place_all statements before
unfolding placed_in_order place_all
in_order [] before = refl
in_order (s ∷ later) before = behind_one (place s before) later (in_order later)
