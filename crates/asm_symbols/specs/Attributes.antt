-- The bindings, kinds, sizes and visibilities that are said of symbols.
use Rattle.std.specs.Prelude.{ℕ, ◌+◌, Bool, true, false, Option, None, Some, Result, Ok, Err, slice_get}
use Rattle.asm_expr.specs.Forms.{Form}
use Rattle.asm_symbols.specs.declared.entries.Symbol.{Symbol}
use Rattle.asm_symbols.specs.declared.entries.Meaning.{Meaning}
use Rattle.asm_symbols.specs.declared.entries.Meaning.TheVariants as meaning
use Rattle.asm_symbols.specs.declared.entries.Binding.{Binding}
use Rattle.asm_symbols.specs.declared.entries.Binding.TheVariants.{Local, Global, Weak}
use Rattle.asm_symbols.specs.declared.entries.Kind.{Kind}
use Rattle.asm_symbols.specs.declared.entries.Visibility.{Visibility}
use Rattle.asm_base.specs.declared.causes.SymCause.{SymCause}
use Rattle.asm_base.specs.declared.causes.SymCause.TheVariants.{BadSymbolUse}
use Rattle.asm_symbols.specs.SymbolMap.{SymbolMap, changed, with_symbol}
use Rattle.asm_base.specs.Refusals.{◌>>=◌}

-- the binding of a symbol that has this one already: weak wins over global, and neither goes with local
abbrev pub rebound : Option Binding → Binding → Result Binding SymCause
rebound None binding = Ok binding
rebound (Some Local) Local = Ok Local
rebound (Some Local) Global = Err BadSymbolUse
rebound (Some Local) Weak = Err BadSymbolUse
rebound (Some Global) Local = Err BadSymbolUse
rebound (Some Global) Global = Ok Global
rebound (Some Global) Weak = Ok Weak
rebound (Some Weak) Local = Err BadSymbolUse
rebound (Some Weak) Global = Ok Weak
rebound (Some Weak) Weak = Ok Weak

-- the binding is STB_WEAK
abbrev pub is_weak : Option Binding → Bool
is_weak None = false
is_weak (Some Local) = false
is_weak (Some Global) = false
is_weak (Some Weak) = true

-- a common symbol is never local
abbrev pub bound_as : Meaning → Option Binding → Binding → Result Binding SymCause
bound_as (meaning.Common size align) before Local = Err BadSymbolUse
bound_as _ before binding = rebound before binding

-- the symbol has this binding
abbrev pub with_binding : Binding → Symbol → Symbol
with_binding binding symbol = record symbol { binding = Some binding }

-- the symbol is of this kind
abbrev pub with_kind : Kind → Symbol → Symbol
with_kind kind symbol = record symbol { kind = Some kind }

-- the symbol has this size, which is the one of this number among the sizes that are said
abbrev pub with_size : Form → ℕ → Symbol → Symbol
with_size size number symbol = record symbol { size = Some size; sized = number }

-- the symbol is as visible as this
abbrev pub with_visibility : Visibility → Symbol → Symbol
with_visibility visibility symbol = record symbol { visibility = Some visibility }

-- the map where the symbol has this size, and one size more is said
abbrev pub with_next_size : Form → SymbolMap → ℕ → SymbolMap
with_next_size size map index = record map { symbols = changed (with_size size (map.sizes + 1)) map.symbols index; sizes = map.sizes + 1 }

-- the map where the symbol that is found is bound so
abbrev pub bound_by : Option Symbol → SymbolMap → ℕ → Binding → Result SymbolMap SymCause
bound_by None map index binding = Err BadSymbolUse
bound_by (Some symbol) map index binding = bound_as symbol.meaning symbol.binding binding >>= λ made. Ok (with_symbol (with_binding made) map index)

-- the map where the symbol at this index is bound so
unfoldable pub bound : SymbolMap → ℕ → Binding → Result SymbolMap SymCause
bound map index binding = bound_by (slice_get map.symbols index) map index binding
