-- The number that was found is the expression at the front.
use Rattle.std.proofs.Common.{refl}
use Rattle.asm_line_tables.proofs.NumberLemmas.{number_found}
use Rattle.asm_line_tables.proofs.constants.front_number.Goals as goal

pub returns-clause-number : goal.returns-clause-number
returns-clause-number c = number_found _ _ _ _ _ c.cut-parts.ensures.front c.cut-parts.ensures.behind refl c.in_ok-value.ensures
