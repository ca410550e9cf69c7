-- How a name becomes a symbol, and what room there is for names.
use Rattle.std.specs.Prelude.{ℕ, ◌+◌, ◌^◌, ◌&&◌, nat_lt, nat_le, Bool, [], ◌∷◌, ◌++◌, length, map, sum_by, Option, None, Some, is_some, unwrap_or, Result, Ok, Err, if◌then◌else◌}
use Rattle.asm_expr.specs.declared.naming.Name.{Name}
use Rattle.asm_expr.specs.declared.naming.Name.TheVariants as naming
use Rattle.asm_symbols.specs.declared.entries.Symbol.{Symbol}
use Rattle.asm_symbols.specs.declared.entries.Meaning.TheVariants.{Undefined}
use Rattle.asm_base.specs.declared.causes.SymCause.{SymCause}
use Rattle.asm_base.specs.declared.causes.SymCause.TheVariants.{BadSymbolUse}
use Rattle.asm_symbols.specs.SymbolMap.{SymbolMap, names, index_of}

-- the bytes that a name takes: those of a text, and a zero byte
abbrev pub name_size : Name → ℕ
name_size (naming.Plain text) = length text + 1
name_size (naming.Numeric number instance) = 0
name_size (naming.Place section item offset) = 0

-- the bytes that all names take
abbrev pub names_size : SymbolMap → ℕ
names_size map = sum_by name_size (names map.symbols) + sum_by name_size map.files

-- whether there are at most 2^24 symbols and files, and at most 2^31 bytes of names
abbrev pub is_within_limits : SymbolMap → Bool
is_within_limits map = nat_le (length map.symbols + length map.files) (2 ^ 24) && nat_le (names_size map) (2 ^ 31)

-- whether there is room for one more name: at most 2^24 symbols and files, and at most 2^31 bytes
abbrev pub has_room : SymbolMap → Name → Bool
has_room map name = nat_lt (length map.symbols + length map.files) (2 ^ 24) && nat_le (names_size map + name_size name) (2 ^ 31)

-- the bytes of all names with one more, if their number fits in 64 bits
abbrev pub bytes_with : SymbolMap → Name → Option ℕ
bytes_with map name = if nat_lt (names_size map + name_size name) (2 ^ 64) then Some (names_size map + name_size name) else None

-- the bytes of all names with one more, if there is room for it
abbrev pub room_for : SymbolMap → Name → Option ℕ
room_for map name = if has_room map name then Some (names_size map + name_size name) else None

-- a symbol of which nothing is known
abbrev pub undefined : Name → Symbol
undefined name = record { name = name; meaning = Undefined; binding = None; kind = None; size = None; sized = 0; visibility = None }

-- the map with a symbol more
abbrev pub with_name : SymbolMap → Name → SymbolMap
with_name map name = record map { symbols = map.symbols ++ undefined name ∷ [] }

-- the map with a symbol more of this name, and its index, if there is room for it
abbrev pub added : SymbolMap → Name → Result (SymbolMap × ℕ) SymCause
added map name = if has_room map name then Ok (with_name map name, length map.symbols) else Err BadSymbolUse

-- the map where the name is a symbol's, and the symbol's index
unfoldable pub named : SymbolMap → Name → Result (SymbolMap × ℕ) SymCause
named map name = named_by (index_of name (names map.symbols)) map name
  where
    named_by : Option ℕ → SymbolMap → Name → Result (SymbolMap × ℕ) SymCause
    named_by (Some index) map name = Ok (map, index)
    named_by None map name = added map name

-- the map where the name is a symbol's, whatever room there is
unfoldable pub interned : SymbolMap → Name → SymbolMap
interned map name = if is_some (index_of name (names map.symbols)) then map else with_name map name

-- the number of a name's symbol, which is that of the next symbol where there is none
unfoldable pub number_of : SymbolMap → Name → ℕ
number_of map name = unwrap_or (index_of name (names map.symbols)) (length map.symbols)

-- the map with the name of a file more
unfoldable pub with_file : SymbolMap → Name → Result SymbolMap SymCause
with_file map name = if has_room map name then Ok (record map { files = map.files ++ name ∷ [] }) else Err BadSymbolUse
