-- The name and the kind that were found are the operands.
use Rattle.asm_words.proofs.KindLemmas.{name_and_kind}
use Rattle.asm_words.proofs.symbol_kinds.bare_kind.Goals as goal

pub returns-in-None : goal.returns-in-None
returns-in-None c =
    name_and_kind _ c.in_ok-kind.kind c.in_ok-kind.ensures _ _ _ _ _ _ c.in_ok-name.ensures c.new-operands.ensures c.in_ok-next.ensures.steps c.in_ok-next-2.ensures.steps
    c.in-None.ensures.steps.0
