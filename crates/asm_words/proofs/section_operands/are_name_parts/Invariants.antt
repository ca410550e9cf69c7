-- All tokens so far are parts of a name.
use Rattle.std.proofs.Common.{◌≡◌, map, drop}
use Rattle.std.specs.List.{list_all}
use Rattle.asm_base.specs.Tokens.{spelled}
use Rattle.asm_words.specs.SectionWords.{is_name_part}
use Rattle.asm_words.proofs.section_operands.are_name_parts.Given as goal

abbrev pub invariant-loop-token : goal.invariant-loop-token
invariant-loop-token l =
    list_all is_name_part (map spelled (drop l.token-index l.tokens)) ≡ list_all is_name_part (map spelled l.tokens)
