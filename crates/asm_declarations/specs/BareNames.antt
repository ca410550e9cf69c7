-- Operands that are a name without quotes, or such a name and a kind.
use Rattle.std.specs.Prelude.{ℕ, Bool, List, Result}
use Rattle.asm_base.specs.Refusals.{◌>>=◌}
use Rattle.asm_base.specs.declared.positions.Pos.{Pos}
use Rattle.asm_expr.specs.declared.naming.Name.TheVariants.{Plain}
use Rattle.asm_symbols.specs.declared.entries.SymbolAttribute.{SymbolAttribute}
use Rattle.asm_operands.specs.declared.place_faults.PlaceCause.{PlaceCause}
use Rattle.asm_values.specs.State.{Placed, with_table, unless_dot}
use Rattle.asm_uses.specs.Attributes.{say_one}

-- it is said of the symbol of the name, unless the statement names a symbol by `.`
abbrev pub say_name : Pos → SymbolAttribute → List ℕ → Bool → Placed → Result Placed PlaceCause
say_name pos attribute name dot placed = say_one pos attribute (Plain name) placed.table >>= λ table. unless_dot dot (with_table placed table)
