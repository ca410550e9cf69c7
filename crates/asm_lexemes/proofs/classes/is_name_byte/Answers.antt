-- The class says whether the byte goes on with a name.
use Rattle.std.proofs.Common.{sym, ap, ◌∙◌, arith}
use Rattle.asm_lexemes.specs.Classes.{continues_name}
use Rattle.asm_lexemes.proofs.ClassTable.{name_byte_class}
use Rattle.asm_lexemes.proofs.classes.is_name_byte.Goals as goal

pub returns : goal.returns
returns c = c.continues_name.ensures ∙ ap continues_name c.class_of.ensures ∙ sym (name_byte_class c.args.byte (omega arith))
