-- The class says whether an operator of two bytes may begin.
use Rattle.std.proofs.Common.{sym, ap, ◌∙◌, arith}
use Rattle.asm_lexemes.specs.Classes.{is_long_class}
use Rattle.asm_lexemes.proofs.ClassTable.{long_class}
use Rattle.asm_lexemes.proofs.classes.begins_long_operator.Goals as goal

pub returns : goal.returns
returns c = c.begins_long_operator.ensures ∙ ap is_long_class c.class_of.ensures ∙ sym (long_class c.args.byte (omega arith))
