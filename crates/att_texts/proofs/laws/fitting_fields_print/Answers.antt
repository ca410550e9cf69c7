-- What is printed of operands and of instructions.
use Rattle.att_texts.proofs.FittingFields.{instructions_print}
use Rattle.att_texts.proofs.laws.fitting_fields_print.Goals as goal

pub returns-clause-instructions : goal.returns-clause-instructions
returns-clause-instructions c = instructions_print
