-- The names of a sum are symbols when the last of them is, and stand for what they stood for.
use Rattle.asm_uses.proofs.LongSumLemmas.{long_names, long_named}
use Rattle.asm_uses.proofs.tables.SymbolUses.intern_long.Goals as goal

pub returns-clause-ok : goal.returns-clause-ok
returns-clause-ok c = long_names c.args.pos c.args.sum.now _ _ _ c.in_ok-front.ensures.ok c.in_ok-third.ensures.ok

pub returns-clause-named : goal.returns-clause-named
returns-clause-named c = long_named c.args.pos c.args.sum.now _ _ _ c.in_ok-third.ensures.ok c.in_ok-front.ensures.named c.in_ok-third.ensures.added
