-- The symbols of a source, and where each is named.
use Rattle.std.specs.Prelude.{ℕ, nat_eq, nat_lt, nat_le, Bool, true, ◌&&◌, ◌||◌, List, [], ◌∷◌, ◌++◌, length, Option, None, Some, Result, Ok, Err, if◌then◌else◌}
use Rattle.std.specs.List.{list_all}
use Rattle.asm_operands.specs.declared.place_faults.PlaceCause.{PlaceCause}
use Rattle.asm_operands.specs.declared.place_faults.PlaceCause.TheVariants.{BadSymbolUse}
use Rattle.asm_uses.specs.declared.tables.Naming.{Naming}
use Rattle.asm_base.specs.declared.positions.Pos.{Pos}
use Rattle.asm_expr.specs.declared.naming.Name.{Name}
use Rattle.asm_expr.specs.Trees.{Tree}
use Rattle.asm_expr.specs.Trees as expr
use Rattle.asm_base.specs.declared.causes.SymCause.{SymCause}
use Rattle.asm_symbols.specs.SymbolMap.{SymbolMap, nothing_named}
use Rattle.asm_symbols.specs.Interning.{is_within_limits, interned, named, with_file}
use Rattle.asm_symbols.specs.Counting.{meant_name, may_be_meant, next_named}
use Rattle.asm_base.specs.Refusals.{◌>>=◌}
use Rattle.asm_operands.specs.LayerFaults.{of_symbols}

-- the symbol map; for each symbol where it is first named; and where the sizes of symbols are said, in order, each with its symbol's index
pub record Table : Type 0 where
  pub symbols : SymbolMap
  pub named : List Pos
  pub sized : List (ℕ × Pos)

-- no symbol is named
abbrev pub no_table : Table
no_table = record { symbols = nothing_named; named = []; sized = [] }

-- where the size of the symbol at this index is said last among these, or else what was found before
abbrev pub said_last : Option Pos → ℕ → List (ℕ × Pos) → Option Pos
said_last found index [] = found
said_last found index (said ∷ rest) = said_last (if nat_eq said.0 index then Some said.1 else found) index rest

-- where the size of the symbol at this index is said last
abbrev pub last_sized : ℕ → List (ℕ × Pos) → Option Pos
last_sized index sized = said_last None index sized

-- the map in which a name was asked for at this place: one that is new is named here first
abbrev pub named_in : Pos → Table → SymbolMap → Table
named_in pos table map = record {
  symbols = map;
  named = if nat_lt (length table.symbols.symbols) (length map.symbols) then (table.named ++ pos ∷ []) else table.named;
  sized = table.sized;
}

-- another map of the same names
abbrev pub with_map : Table → SymbolMap → Table
with_map table map = record table { symbols = map }

-- a name that was asked for at this place, and its symbol
abbrev pub found_in : Pos → Table → Result (SymbolMap × ℕ) SymCause → Result (Table × ℕ) PlaceCause
found_in pos table found = of_symbols found >>= λ pair. Ok (named_in pos table pair.0, pair.1)

-- the symbol of the name, which is put last if it is new
unfoldable pub symbol_of : Pos → Name → Table → Result (Table × ℕ) PlaceCause
symbol_of pos name table = found_in pos table (named table.symbols name)

-- the symbol of the next instance of a numeric label
unfoldable pub next_symbol : Pos → ℕ → Table → Result (Table × ℕ) PlaceCause
next_symbol pos number table = found_in pos table (next_named table.symbols number)

-- a change of one symbol, where the map takes it
abbrev pub changed_by : (SymbolMap → ℕ → Result SymbolMap SymCause) → Table × ℕ → Result Table PlaceCause
changed_by change found = of_symbols (change found.0.symbols found.1) >>= λ map. Ok (with_map found.0 map)

-- a change of the symbol of a name
abbrev pub change_named : Pos → (SymbolMap → ℕ → Result SymbolMap SymCause) → Name → Table → Result Table PlaceCause
change_named pos change name table = symbol_of pos name table >>= changed_by change

-- the name of a file more
abbrev pub file_named : Name → Table → Result Table PlaceCause
file_named name table = of_symbols (with_file table.symbols name) >>= λ map. Ok (with_map table map)

-- the name has a symbol, whatever room there is: one that is new is named here first
unfoldable pub with_name : Pos → Name → Table → Table
with_name pos name table = named_in pos table (interned table.symbols name)

-- each name of an expression has a symbol, from left to right
unfoldable pub with_tree : Pos → Tree → Table → Table
with_tree pos (expr.number value) table = table
with_tree pos (expr.name written) table = with_name pos (meant_name table.symbols.counts written) table
with_tree pos expr.here table = table
with_tree pos (expr.unary op operand) table = with_tree pos operand table
with_tree pos (expr.binary op left right) table = with_tree pos right (with_tree pos left table)

-- those of several expressions
unfoldable pub with_trees : Pos → List Tree → Table → Table
with_trees pos [] table = table
with_trees pos (tree ∷ trees) table = with_trees pos trees (with_tree pos tree table)

-- each `Nb` of an expression means a label that came before
unfoldable pub is_meant : List (ℕ × ℕ) → Tree → Bool
is_meant counts (expr.number value) = true
is_meant counts (expr.name written) = may_be_meant counts written
is_meant counts expr.here = true
is_meant counts (expr.unary op operand) = is_meant counts operand
is_meant counts (expr.binary op left right) = is_meant counts left && is_meant counts right

-- each of several expressions
unfoldable pub are_meant : List (ℕ × ℕ) → List Tree → Bool
are_meant counts trees = list_all (is_meant counts) trees

-- how many symbols there are, and whether each `Nb` of these expressions means a label that came before
abbrev pub naming_of : List Tree → Table → Naming
naming_of trees table = record { before = length table.symbols.symbols; meant = are_meant table.symbols.counts trees }

-- the names are allowed where each means a symbol, and where the symbols that came since keep the limits
unfoldable pub allowed : Naming → Table → Result Table PlaceCause
allowed naming table =
    if naming.meant && (nat_le (length table.symbols.symbols) naming.before || is_within_limits table.symbols) then Ok table else Err BadSymbolUse
