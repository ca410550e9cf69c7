-- Common symbols, and space in `.bss` (GNU as manual, ".comm", ".lcomm").
use Rattle.std.specs.Prelude.{ℕ, ◌^◌, Bool, true, false, List, length, Option, None, Some, Result, Ok, slice_get}
use Rattle.std.specs.Option.{option_map_or}
use Rattle.asm_operands.specs.declared.place_faults.PlaceCause.{PlaceCause}
use Rattle.asm_uses.specs.declared.tables.Naming.{Naming}
use Rattle.asm_base.specs.declared.positions.Pos.{Pos}
use Rattle.asm_base.specs.Tokens.{SpelledToken}
use Rattle.asm_expr.specs.declared.naming.Name.{Name}
use Rattle.asm_expr.specs.declared.naming.Name.TheVariants as naming
use Rattle.item_contents.specs.declared.contents.Content.TheVariants as content
use Rattle.item_contents.specs.ItemParts.{zeros_up_to}
use Rattle.asm_symbols.specs.declared.entries.Binding.{Binding}
use Rattle.asm_symbols.specs.declared.entries.Binding.TheVariants.{Local, Global, Weak}
use Rattle.asm_symbols.specs.declared.entries.Definition.TheVariants.{Common, Space}
use Rattle.asm_symbols.specs.SymbolMap.{SymbolMap}
use Rattle.asm_symbols.specs.Interning.{number_of}
use Rattle.asm_base.specs.Refusals.{◌>>=◌}
use Rattle.asm_uses.specs.Tables.{with_name}
use Rattle.asm_uses.specs.Places.{spot_at}
use Rattle.asm_values.specs.State.{Placed, with_table, unless_dot, push_into}
use Rattle.asm_operands.specs.Operands.{begins_with_place, name_of, operands_of, needed}
use Rattle.asm_values.specs.KnownOperands.{KnownOperands, known_operands}
use Rattle.asm_words.specs.Spaces.{space_of, log_of, space_size}
use Rattle.asm_uses.specs.Attributes.{define_space}

-- the number of `.bss`
abbrev pub bss : ℕ
bss = 2

-- the binding is said, and is local
abbrev pub is_local_binding : Option Binding → Bool
is_local_binding (Some Local) = true
is_local_binding (Some Global) = false
is_local_binding (Some Weak) = false
is_local_binding None = false

-- the symbol at this index was said to be local
unfoldable pub is_said_local : SymbolMap → ℕ → Bool
is_said_local map index = option_map_or (λ symbol. is_local_binding symbol.binding) (slice_get map.symbols index) false

-- zeros up to a multiple of 2 ^ log in `.bss`, and then so many more, which are the symbol's
unfoldable pub with_space : Pos → Naming → ℕ → ℕ → ℕ → Placed → Result Placed PlaceCause
with_space pos naming symbol size log placed =
    space_of size 0 >>= λ space. push_into pos bss (content.Align (zeros_up_to log)) placed >>= λ aligned.
    push_into pos bss space aligned >>= λ pushed.
    define_space naming symbol size (Space (spot_at aligned.sections bss)) pushed.table >>= λ table. Ok (with_table pushed table)

-- space that the linker finds
unfoldable pub with_common : Naming → ℕ → ℕ → ℕ → Placed → Result Placed PlaceCause
with_common naming symbol size log placed =
    define_space naming symbol size (Common size (2 ^ log)) placed.table >>= λ table. Ok (with_table placed table)

-- the number of a name's symbol, and the values of the expressions behind it: the size and the alignment that are said
pub record SpaceWords : Type 0 where
  pub symbol : ℕ
  pub given : KnownOperands

-- what is placed, once the name has a symbol
abbrev pub with_own : Pos → Name → Placed → Placed
with_own pos name placed = with_table placed (with_name pos name placed.table)

-- the symbols that are new count from before the statement's own name
abbrev pub counted_from : ℕ → KnownOperands → KnownOperands
counted_from before given = record given { naming = record { before = before; meant = given.naming.meant } }

-- the operands of `.comm` and `.lcomm`: a name, and at most so many expressions
unfoldable pub space_words : Pos → Placed → ℕ → List SpelledToken → Result SpaceWords PlaceCause
space_words pos placed most tokens =
    needed name_of (operands_of tokens) >>= λ name. known_operands pos (with_own pos (naming.Plain name.0) placed) most name.1 >>= λ given.
    Ok (record {
      symbol = number_of placed.table.symbols (naming.Plain name.0);
      given = counted_from (length placed.table.symbols.symbols) given;
    })

-- space of this object, or space that the linker finds
abbrev pub place_space : Bool → Pos → Naming → ℕ → ℕ → ℕ → Placed → Result Placed PlaceCause
place_space true pos naming symbol size log placed = with_space pos naming symbol size log placed
place_space false pos naming symbol size log placed = with_common naming symbol size log placed

-- the space of the symbol of the words
abbrev pub space_by : Bool → Pos → SpaceWords → ℕ → ℕ → Result Placed PlaceCause
space_by is_local pos words size log = place_space is_local pos words.given.naming words.symbol size log words.given.placed

-- `.comm`: of a symbol that is local the space is this object's
unfoldable pub place_comm : Pos → List SpelledToken → Placed → Result Placed PlaceCause
place_comm pos tokens placed =
    space_words pos placed 2 tokens >>= λ words. space_size words.given.values.first >>= λ size. log_of words.given.values.second size >>= λ log.
    space_by (is_said_local words.given.placed.table.symbols words.symbol) pos words size log >>= unless_dot (begins_with_place tokens)

-- `.lcomm`
unfoldable pub place_lcomm : Pos → List SpelledToken → Placed → Result Placed PlaceCause
place_lcomm pos tokens placed =
    space_words pos placed 1 tokens >>= λ words. space_size words.given.values.first >>= λ size. log_of None size >>= λ log.
    space_by true pos words size log >>= unless_dot (begins_with_place tokens)
