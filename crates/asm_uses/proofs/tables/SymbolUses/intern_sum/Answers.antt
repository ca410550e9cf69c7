-- The names of a sum are symbols when the last of them is, and stand for what they stood for.
use Rattle.asm_uses.proofs.SumNames.{sum_names, sum_named}
use Rattle.asm_uses.proofs.tables.SymbolUses.intern_sum.Goals as goal

pub returns-clause-ok : goal.returns-clause-ok
returns-clause-ok c =
    sum_names c.args.pos c.args.sum.now _ _ _ c.in_ok-first.ensures.ok c.in_ok-second.ensures.ok

pub returns-clause-named : goal.returns-clause-named
returns-clause-named c =
    sum_named c.args.pos c.args.sum.now _ _ _ c.in_ok-second.ensures.ok c.in_ok-first.ensures.operand c.in_ok-second.ensures.added
