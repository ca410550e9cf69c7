-- Operands whose values have to be known where their statement stands.
use Rattle.std.specs.Prelude.{ℕ, List, Result, Ok}
use Rattle.asm_operands.specs.declared.place_faults.PlaceCause.{PlaceCause}
use Rattle.asm_base.specs.declared.positions.Pos.{Pos}
use Rattle.asm_base.specs.Tokens.{SpelledToken}
use Rattle.asm_expr.specs.Trees.{Tree}
use Rattle.asm_uses.specs.declared.tables.Naming.{Naming}
use Rattle.asm_operands.specs.declared.up_to_three.UpToThree.{UpToThree}
use Rattle.asm_base.specs.Refusals.{◌>>=◌}
use Rattle.asm_uses.specs.Tables.{naming_of}
use Rattle.asm_values.specs.State.{Placed, known_here, with_names}
use Rattle.asm_operands.specs.Expressions.{up_to_three_listed, up_to_three_trees, up_to_three_forms, up_to_three_constants}

-- the values of the expressions of a directive, and what is placed once each of their names has a symbol
pub record KnownOperands : Type 0 where
  pub naming : Naming
  pub placed : Placed
  pub values : UpToThree ℕ

-- the values of expressions, each of which has to be known once each name has a symbol: the forms of all are made before a value is asked for
abbrev pub known_values : UpToThree Tree → Naming → Placed → Result KnownOperands PlaceCause
known_values trees naming named =
    up_to_three_forms (known_here named) trees >>= λ forms. up_to_three_constants forms >>= λ values.
    Ok (record { naming = naming; placed = named; values = values })

-- operands whose values have to be known: all are read before a form is made
unfoldable pub known_operands : Pos → Placed → ℕ → List (List SpelledToken) → Result KnownOperands PlaceCause
known_operands pos placed most operands =
    up_to_three_trees most operands >>= λ trees.
    known_values trees (naming_of (up_to_three_listed trees) placed.table) (with_names pos (up_to_three_listed trees) placed)
