-- The values of operands that the program has read.
use Rattle.asm_values.specs.declared.known_operands.KnownOperands.{KnownOperands as ReadOperands}
use Rattle.asm_values.specs.KnownOperands.{KnownOperands}
use Rattle.asm_values.specs.State.{Placed}

-- the values that were read, and what is placed then
abbrev pub known_operands_in : Placed → ReadOperands → KnownOperands
known_operands_in placed given = record { naming = given.naming; placed = placed; values = given.values }
