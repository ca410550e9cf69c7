-- What counts and conditions know where they stand: the value of an expression, and whether a symbol is defined.
use Rattle.std.specs.Prelude.{ℕ, ◌-◌, ◌^◌, ◌==◌, Bool, true, false, List, [], ◌∷◌, unwrap_or, slice_get, option_and_then, if◌then◌else◌, Result, Ok, Err}
use Rattle.std.specs.List.{position_or_len}
use Rattle.std.specs.Option.{option_map_or}
use Rattle.std.specs.Str.{bytes_eq}
use Rattle.asm_base.specs.Tokens.{SpelledToken}
use Rattle.asm_base.specs.Refusals.{◌>>=◌}
use Rattle.asm_expr.specs.declared.naming.Name.TheVariants as naming
use Rattle.asm_expr.specs.declared.trees.Written.{Written}
use Rattle.asm_expr.specs.declared.trees.Written.TheVariants.{Plain, Back, Next}
use Rattle.asm_expr.specs.Knowledge.{Knowledge}
use Rattle.asm_expr.specs.Linear.{known_now}
use Rattle.asm_expr.specs.NamesOf.{names_of}
use Rattle.asm_expr.specs.Trees.{Tree}
use Rattle.asm_symbols.specs.declared.entries.Meaning.{Meaning}
use Rattle.asm_symbols.specs.declared.entries.Meaning.TheVariants.{Undefined}
use Rattle.asm_symbols.specs.SymbolMap.{SymbolMap, names, index_of}
use Rattle.asm_symbols.specs.Counting.{meant_name}
use Rattle.asm_operands.specs.declared.place_faults.PlaceCause.{PlaceCause}
use Rattle.asm_operands.specs.declared.place_faults.PlaceCause.TheVariants as placing
use Rattle.asm_operands.specs.ExprFaults.{in_statement}
use Rattle.asm_operands.specs.Expressions.{expression_of}
use Rattle.asm_operands.specs.Operands.{is_dot, name_of}
use Rattle.asm_values.specs.State.{Placed, known_here}
use Rattle.macro_words.specs.Conditions as macros
use Rattle.macro_words.specs.declared.causes.MacroCause.{MacroCause}
use Rattle.macro_words.specs.declared.causes.MacroCause.TheVariants as expansion

-- a fault of the operands of a line of expansion: what is no one expression, or no one name, makes a bad line
abbrev pub line_cause : PlaceCause → MacroCause
line_cause placing.BadExpression = expansion.BadExpression
line_cause placing.NumberTooWide = expansion.NumberTooWide
line_cause placing.ExpressionTooDeep = expansion.ExpressionTooDeep
line_cause placing.DivisionByZero = expansion.DivisionByZero
line_cause placing.ValueNotKnown = expansion.ValueNotKnown
line_cause placing.NotASumOfSymbols = expansion.NotASumOfSymbols
line_cause _ = expansion.BadMacroLine

-- what operands give, with a fault as one of expansion
abbrev pub in_line : {A : Type 0} → Result A PlaceCause → Result A MacroCause
in_line (Ok made) = Ok made
in_line (Err cause) = Err (line_cause cause)

-- both are one name as it is written
abbrev pub same_written : Written → Written → Bool
same_written (Plain text) (Plain other) = bytes_eq text other
same_written (Back number) (Back other) = number == other
same_written (Next number) (Next other) = number == other
same_written _ _ = false

-- a name without a symbol counts as a symbol of its own, by where the expression names it first: from the last number down, where no symbol stands
abbrev pub own_number : List Written → Written → ℕ
own_number written name = 2 ^ 32 - 1 - position_or_len (same_written name) written

-- the symbol that a name of an expression with these names means: an expression that is only evaluated gives no name a symbol
unfoldable pub meant_among : List Written → SymbolMap → Written → ℕ
meant_among written map name = unwrap_or (index_of (meant_name map.counts name) (names map.symbols)) (own_number written name)

-- what is known of an expression with these names, beside these symbols
abbrev pub known_with : List Written → SymbolMap → Knowledge → Knowledge
known_with written map known = record known { meant = meant_among written map }

-- what is known where the next statement stands, of an expression with these names
abbrev pub known_among : List Written → Placed → Knowledge
known_among written placed = known_with written placed.table.symbols (known_here placed)

-- the value of an expression, which has to be known where the next statement stands
abbrev pub tree_value : Placed → Tree → Result ℕ PlaceCause
tree_value placed tree = in_statement (known_now (known_among (names_of tree) placed) tree)

-- the value of the one expression that these tokens are
unfoldable pub value_told : Placed → List SpelledToken → Result ℕ MacroCause
value_told placed tokens = in_line (expression_of tokens >>= tree_value placed)

-- the symbol is a label, space, or assigned
abbrev pub is_defined_by : Meaning → Bool
is_defined_by Undefined = false
is_defined_by _ = true

-- the symbol of this name is defined so far (GNU as manual, ".ifdef")
unfoldable pub is_defined_in : SymbolMap → List ℕ → Bool
is_defined_in map name =
    option_map_or (λ symbol. is_defined_by symbol.meaning) (option_and_then (slice_get map.symbols) (index_of (naming.Plain name) (names map.symbols))) false

-- the one name that these tokens are; `.` without quotes is none
abbrev pub symbol_named : List SpelledToken → Result (List ℕ) PlaceCause
symbol_named [] = Err placing.BadOperand
symbol_named (token ∷ rest) = if is_dot token then Err placing.BadOperand else name_of (token ∷ rest)

-- whether the one symbol that these tokens name is defined
unfoldable pub definition_told : Placed → List SpelledToken → Result Bool MacroCause
definition_told placed tokens = in_line (symbol_named tokens) >>= λ name. Ok (is_defined_in placed.table.symbols name)

-- what is known where the next statement stands
abbrev pub told_by : Placed → macros.Knowledge
told_by placed = record { value = value_told placed; is_defined = definition_told placed }
