-- The operands of `.comm` and `.lcomm` that the program has read.
use Rattle.asm_declarations.specs.declared.commons.SpaceWords.{SpaceWords as ReadWords}
use Rattle.asm_declarations.specs.Commons.{SpaceWords}
use Rattle.asm_values.specs.State.{Placed}
use Rattle.asm_values.specs.KnownOperandsIn.{known_operands_in}

-- the symbol and the values that were read, and what is placed then
abbrev pub space_words_in : Placed → ReadWords → SpaceWords
space_words_in placed words = record { symbol = words.id; given = known_operands_in placed words.given }
