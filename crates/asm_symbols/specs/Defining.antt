-- How a label, common space or space of this object defines a symbol.
use Rattle.std.specs.Prelude.{ℕ, Option, None, Some, Result, Ok, Err, slice_get}
use Rattle.asm_expr.specs.declared.naming.Name.{Name}
use Rattle.asm_symbols.specs.declared.entries.Symbol.{Symbol}
use Rattle.asm_symbols.specs.declared.entries.Meaning.{Meaning}
use Rattle.asm_symbols.specs.declared.entries.Meaning.TheVariants as meaning
use Rattle.asm_symbols.specs.declared.entries.Definition.{Definition}
use Rattle.asm_symbols.specs.declared.entries.Definition.TheVariants.{Label, Common, Space}
use Rattle.asm_base.specs.declared.causes.SymCause.{SymCause}
use Rattle.asm_base.specs.declared.causes.SymCause.TheVariants.{SymbolAlreadyDefined, BadSymbolUse}
use Rattle.asm_symbols.specs.SymbolMap.{SymbolMap, changed, with_meaning}
use Rattle.asm_symbols.specs.Counting.{counts_after}
use Rattle.asm_base.specs.Refusals.{◌>>=◌}

-- what a definition makes of a symbol that is undefined
abbrev pub meant : Definition → Meaning
meant (Label spot) = meaning.Label spot
meant (Common size align) = meaning.Common size align
meant (Space spot) = meaning.Space spot

-- what a definition makes of a symbol that is this already
abbrev pub redefined : Meaning → Definition → Result Meaning SymCause
redefined meaning.Undefined what = Ok (meant what)
redefined (meaning.Label spot) what = Err SymbolAlreadyDefined
redefined (meaning.Space spot) what = Err SymbolAlreadyDefined
redefined (meaning.Common size align) what = Err BadSymbolUse
redefined (meaning.Assigned form) (Label spot) = Err SymbolAlreadyDefined
redefined (meaning.Assigned form) (Common size align) = Err BadSymbolUse
redefined (meaning.Assigned form) (Space spot) = Err BadSymbolUse

-- the map where the symbol is this
abbrev pub with_defined : SymbolMap → ℕ → Name → Definition → Meaning → SymbolMap
with_defined map index name what made = record map { symbols = changed (with_meaning made) map.symbols index; counts = counts_after name what map.counts }

-- the map where the symbol that is found is defined so
abbrev pub defined_by : Option Symbol → SymbolMap → ℕ → Definition → Result SymbolMap SymCause
defined_by None map index what = Err BadSymbolUse
defined_by (Some symbol) map index what = redefined symbol.meaning what >>= λ made. Ok (with_defined map index symbol.name what made)

-- the map where the symbol at this index is defined so
unfoldable pub defined : SymbolMap → ℕ → Definition → Result SymbolMap SymCause
defined map index what = defined_by (slice_get map.symbols index) map index what
