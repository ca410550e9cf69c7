-- The class says whether the byte is plain.
use Rattle.std.proofs.Common.{sym, ap, ◌∙◌, arith}
use Rattle.asm_lexemes.specs.Classes.{begins_token}
use Rattle.asm_lexemes.proofs.ClassTable.{plain_class}
use Rattle.asm_lexemes.proofs.classes.is_plain.Goals as goal

pub returns : goal.returns
returns c = c.begins_token.ensures ∙ ap begins_token c.class_of.ensures ∙ sym (plain_class c.args.byte (omega arith))
