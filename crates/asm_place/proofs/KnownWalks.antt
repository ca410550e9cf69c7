-- Statements of operands whose values are known where they stand.
use Rattle.std.proofs.Common.{◌≡◌, ℕ, List, Result, refl, subst}
use Rattle.asm_operands.specs.declared.place_faults.PlaceCause.{PlaceCause}
use Rattle.asm_operands.specs.Expressions.{up_to_three_listed, up_to_three_trees, up_to_three_forms, up_to_three_constants}
use Rattle.asm_base.specs.Tokens.{SpelledToken}
use Rattle.asm_base.specs.declared.positions.Pos.{Pos}
use Rattle.asm_values.specs.KnownOperands.{KnownOperands, known_operands}
use Rattle.asm_values.specs.State.{Placed, with_names, known_here}
use Rattle.asm_place.specs.SymbolPlaces.{PlacesStand}
use Rattle.asm_place.proofs.Walks.{Fine, made, after}
use Rattle.asm_place.proofs.PlaceSteps.{count, Gains, Closes, Walks, closed, names_gain}

-- the names of operands are asked for, counted from what was placed before
pub record AreAsked (placed : Placed) (given : KnownOperands) : Type 0 where
  pub gains : Gains placed given.placed
  pub base : given.naming.before ≡ count placed

-- a statement of known operands that closes
pub given_walk : (placed : Placed) (given : KnownOperands) (r : Result Placed PlaceCause) → AreAsked placed given → Fine (Closes given.naming.before given.placed) r → Walks placed r
given_walk placed given r asked closes = closed placed given.placed r asked.gains (subst (λ base. Fine (Closes base given.placed) r) asked.base closes)

pub known_walk : (pos : Pos) (placed : Placed) (most : ℕ) (operands : List (List SpelledToken)) → PlacesStand placed → Fine (AreAsked placed) (known_operands pos placed most operands)
unfolding known_operands
known_walk pos placed most operands stands =
    after (up_to_three_trees most operands)
    (λ trees. after (up_to_three_forms (known_here (with_names pos (up_to_three_listed trees) placed)) trees)
    (λ forms. after (up_to_three_constants forms) (λ values. made _ (record { gains = names_gain pos (up_to_three_listed trees) placed stands; base = refl }))))
