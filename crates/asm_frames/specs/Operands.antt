-- The operands of `.cfi_` directives that are registers (GNU as manual, "CFI directives").
use Rattle.std.specs.Prelude.{ℕ, ◌==◌, List, [], ◌∷◌, length, Option, None, Some, Result, Ok, Err, if◌then◌else◌}
use Rattle.asm_base.specs.Tokens.{SpelledToken}
use Rattle.asm_base.specs.Refusals.{◌>>=◌}
use Rattle.asm_expr.specs.Knowledge.{Knowledge}
use Rattle.asm_expr.specs.Linear.{known_now}
use Rattle.asm_expr.specs.NamesOf.{names_of}
use Rattle.asm_expr.specs.Trees.{Tree}
use Rattle.asm_operands.specs.declared.place_faults.PlaceCause.{PlaceCause}
use Rattle.asm_operands.specs.declared.place_faults.PlaceCause.TheVariants.{BadOperand}
use Rattle.asm_operands.specs.Expressions.{expression_of, no_more}
use Rattle.asm_operands.specs.Operands.{is_mark, needed}
use Rattle.att_operands.specs.declared.registers.NamedRegister.{NamedRegister}
use Rattle.att_operands.specs.Registers.{register_of}
use Rattle.cfi_directives.specs.declared.registers.DwarfRegister.{DwarfRegister}
use Rattle.asm_frames.specs.Registers.{number_of, register_numbered}

-- what has to be there, or the operand is none
abbrev pub some_or_bad : {A : Type 0} → Option A → Result A PlaceCause
some_or_bad None = Err BadOperand
some_or_bad (Some found) = Ok found

-- what has to be made, or the operand is none, whatever its fault is
abbrev pub made_or_bad : {A E : Type 0} → Result A E → Result A PlaceCause
made_or_bad (Err fault) = Err BadOperand
made_or_bad (Ok made) = Ok made

-- what a name names as a register, with `%` in front or without
abbrev pub named_in : List SpelledToken → Option NamedRegister
named_in [] = None
named_in (token ∷ []) = register_of token.bytes
named_in (mark ∷ token ∷ []) = if is_mark 37 mark then register_of token.bytes else None
named_in (mark ∷ token ∷ more ∷ rest) = None

-- the value of an expression that names no symbol
abbrev pub unnamed_value : Knowledge → Tree → Result ℕ PlaceCause
unnamed_value known tree = if length (names_of tree) == 0 then made_or_bad (known_now known tree) else Err BadOperand

-- an operand of numbers alone: it names no symbol, and has a value
unfoldable pub number_in : Knowledge → List SpelledToken → Result ℕ PlaceCause
number_in known operand = made_or_bad (expression_of operand) >>= unnamed_value known

-- the DWARF number of a register by what the operand names, or else the number that it is
abbrev pub said_number : Knowledge → List SpelledToken → Option NamedRegister → Result ℕ PlaceCause
said_number known operand None = number_in known operand
said_number known operand (Some named) = some_or_bad (number_of named)

-- a register: its name, or a number below 64
unfoldable pub register_in : Knowledge → List SpelledToken → Result DwarfRegister PlaceCause
register_in known operand = said_number known operand (named_in operand) >>= λ number. some_or_bad (register_numbered number)

-- the register that is the next operand, which has to be there
abbrev pub next_register : Knowledge → List (List SpelledToken) → Result (DwarfRegister × List (List SpelledToken)) PlaceCause
next_register known operands = needed (register_in known) operands

-- one register, and no operand behind it
abbrev pub one_register : Knowledge → List (List SpelledToken) → Result DwarfRegister PlaceCause
one_register known operands = next_register known operands >>= λ one. no_more one.1 one.0

-- two registers, and no operand behind them
abbrev pub two_registers : Knowledge → List (List SpelledToken) → Result (DwarfRegister × DwarfRegister) PlaceCause
two_registers known operands = next_register known operands >>= λ one. next_register known one.1 >>= λ two. no_more two.1 (one.0, two.0)
