-- Two symbols of a form, of which one counts once and the other minus once.
use Rattle.std.specs.Prelude.{◌-◌, ◌^◌, ◌==◌, ◌&&◌, List, [], ◌∷◌, Option, None, Some, if◌then◌else◌}
use Rattle.asm_expr.specs.declared.forms.Term.{Term}
use Rattle.row_distances.specs.declared.pairs.Pair.{Pair}

-- the symbols of two terms, of which one counts once and the other minus once
abbrev pub pair_in : Term → Term → Option Pair
pair_in one other =
    if (one.coefficient == 1) && (other.coefficient == 2 ^ 64 - 1) then Some (record { ahead = one.symbol; behind = other.symbol })
    else if (one.coefficient == 2 ^ 64 - 1) && (other.coefficient == 1) then Some (record { ahead = other.symbol; behind = one.symbol }) else None

-- the same, where there are two terms
abbrev pub pair_of : List Term → Option Pair
pair_of [] = None
pair_of (one ∷ []) = None
pair_of (one ∷ other ∷ []) = pair_in one other
pair_of (one ∷ other ∷ third ∷ more) = None
