-- What is said of symbols: attributes and kinds, sizes, and definitions as space.
use Rattle.std.specs.Prelude.{ℕ, List, [], ◌∷◌, ◌++◌, Result, Ok, Option, None, Some, slice_get}
use Rattle.asm_operands.specs.declared.place_faults.PlaceCause.{PlaceCause}
use Rattle.asm_base.specs.declared.positions.Pos.{Pos}
use Rattle.asm_expr.specs.declared.naming.Name.{Name}
use Rattle.asm_expr.specs.Forms.{Form, constant_form}
use Rattle.asm_symbols.specs.declared.entries.Kind.{Kind}
use Rattle.asm_symbols.specs.declared.entries.Kind.TheVariants.{Object}
use Rattle.asm_base.specs.declared.causes.SymCause.{SymCause}
use Rattle.asm_symbols.specs.SymbolMap.{SymbolMap, with_symbol}
use Rattle.asm_symbols.specs.Attributes.{bound, with_kind, with_next_size, with_visibility}
use Rattle.asm_uses.specs.declared.tables.Naming.{Naming}
use Rattle.asm_symbols.specs.declared.entries.SymbolAttribute.{SymbolAttribute}
use Rattle.asm_symbols.specs.declared.entries.SymbolAttribute.TheVariants.{Bind, See}
use Rattle.asm_base.specs.Refusals.{◌>>=◌}
use Rattle.asm_operands.specs.Results.{all_steps}
use Rattle.asm_uses.specs.Tables.{Table, change_named, with_map, changed_by, allowed}
use Rattle.std.specs.Option.{option_map_or}
use Rattle.asm_symbols.specs.declared.entries.Definition.{Definition}
use Rattle.asm_symbols.specs.Defining.{defined}

-- a binding or a visibility is said of a symbol
abbrev pub said : SymbolAttribute → SymbolMap → ℕ → Result SymbolMap SymCause
said (Bind binding) map index = bound map index binding
said (See visibility) map index = Ok (with_symbol (with_visibility visibility) map index)

-- it is said of one name
abbrev pub say_one : Pos → SymbolAttribute → Name → Table → Result Table PlaceCause
say_one pos attribute name table = change_named pos (said attribute) name table

-- it is said of each name
unfoldable pub say_all : Pos → SymbolAttribute → List Name → Table → Result Table PlaceCause
say_all pos attribute names table = all_steps (say_one pos attribute) names table

-- the symbol is of this kind from now on
abbrev pub kind_said : Kind → SymbolMap → ℕ → Result SymbolMap SymCause
kind_said kind map index = Ok (with_symbol (with_kind kind) map index)

-- the size is said of the symbol at this place
abbrev pub sized : Pos → Form → Table × ℕ → Table
sized pos form found = record (with_map found.0 (with_next_size form found.0.symbols found.1)) { sized = found.0.sized ++ (found.1, pos) ∷ [] }

-- what a symbol names that is space: an object, unless something else was said
abbrev pub kind_or_object : Option Kind → Kind
kind_or_object None = Object
kind_or_object (Some kind) = kind

-- the kind of the symbol at this index, which is an object unless something else was said
abbrev pub space_kind : SymbolMap → ℕ → Kind
space_kind map index = option_map_or (λ symbol. kind_or_object symbol.kind) (slice_get map.symbols index) Object

-- the symbol has this size, and is an object unless something else was said
abbrev pub as_space : ℕ → SymbolMap → ℕ → SymbolMap
as_space size map index = with_symbol (with_kind (space_kind map index)) (with_next_size (constant_form size) map index) index

-- the symbol is defined so, and has this size
abbrev pub spaced : ℕ → Definition → Table × ℕ → Result Table PlaceCause
spaced size what found = changed_by (λ map index. defined map index what) found >>= λ made. Ok (with_map made (as_space size made.symbols found.1))

-- the same, and then the names of the statement are allowed or refused
unfoldable pub define_space : Naming → ℕ → ℕ → Definition → Table → Result Table PlaceCause
define_space naming symbol size what table = spaced size what (table, symbol) >>= allowed naming
