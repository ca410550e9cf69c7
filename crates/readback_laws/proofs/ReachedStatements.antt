-- Statements are placed in two parts: those before one that is reached, and it with those behind it.
use Rattle.std.proofs.Common.{◌≡◌, ℕ, Bool, List, [], ◌∷◌, ◌++◌, Option, Result, Ok, Err, refl, sym, ap, ◌∙◌}
use Rattle.asm_base.specs.Refusals.{◌>>=◌}
use Rattle.asm_lines.specs.NextStatements.{TokenStatement}
use Rattle.cfi_directives.specs.declared.frames.Frame.{Frame}
use Rattle.asm_values.specs.State.{Placed, nothing_placed}
use Rattle.asm_place.specs.Sources.{place, place_all}
use Rattle.asm_place.specs.declared.place_faults.FaultAt.{FaultAt}
use Rattle.readback_laws.specs.Origins.{Origin, IsReached, AreReached}

split_step : (answer : Result Placed FaultAt) (xs ys : List TokenStatement) → ((placed : Placed) → place_all (xs ++ ys) placed ≡ (place_all xs placed >>= place_all ys))
    → (answer >>= place_all (xs ++ ys)) ≡ ((answer >>= place_all xs) >>= place_all ys)
split_step (Ok placed) xs ys later = later placed
split_step (Err fault) xs ys later = refl

-- all statements are the first ones and then the others
pub all_split : (xs ys : List TokenStatement) (placed : Placed) → place_all (xs ++ ys) placed ≡ (place_all xs placed >>= place_all ys)
unfolding place_all
all_split [] ys placed = refl
all_split (s ∷ xs) ys placed = split_step (place s placed) xs ys (all_split xs ys)

module _ (no_warn : Bool) (worked_out : Option (List Frame)) (handed : List TokenStatement) (object : List ℕ) (from : Origin no_warn worked_out handed object) where
  -- all statements are placed: those before one that is reached, it, and those behind it
  pub all_placed : (s : TokenStatement) (placed : Placed) (reached : IsReached no_warn handed s placed)
      → place_all (reached.before ++ s ∷ reached.after) (nothing_placed no_warn) ≡ Ok from.whole
  all_placed s placed reached = sym (ap (λ list. place_all list (nothing_placed no_warn)) reached.all) ∙ from.places

  before_placed : (before after : List TokenStatement) (s : TokenStatement) (all : handed ≡ before ++ s ∷ after) (answer : Result Placed FaultAt)
      → place_all before (nothing_placed no_warn) ≡ answer → (answer >>= place_all (s ∷ after)) ≡ Ok from.whole
      → (placed : Placed) × IsReached no_warn handed s placed
  before_placed before after s all (Ok placed) is whole = (placed, record { before = before; after = after; all = all; places = is })
  before_placed before after s all (Err fault) is whole = absurd cc

  pub are_reached : AreReached no_warn handed
  are_reached before after s all =
      let empty = nothing_placed no_warn in
      before_placed before after s all (place_all before empty) refl
      (sym (all_split before (s ∷ after) empty) ∙ sym (ap (λ list. place_all list empty) all) ∙ from.places)
