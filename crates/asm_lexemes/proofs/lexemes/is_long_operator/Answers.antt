-- Where no operator of two bytes begins with the second byte, none ends with it.
use Rattle.std.proofs.Common.{sym, ◌∙◌, arith}
use Rattle.asm_lexemes.proofs.Lexing.{none_behind}
use Rattle.asm_lexemes.proofs.lexemes.is_long_operator.Goals as goal

pub returns-else-begins_long_operator : goal.returns-else-begins_long_operator
returns-else-begins_long_operator c =
    let none = c.if-begins_long_operator.false in
    none ∙ sym (none_behind c.args.first c.args.rest.now (omega (arith, c.in-len1-up.len_at_least)) (sym c.begins_long_operator.ensures ∙ none))
