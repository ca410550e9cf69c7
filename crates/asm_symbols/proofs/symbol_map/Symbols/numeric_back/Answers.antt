-- The last instance is a symbol.
use Rattle.asm_symbols.proofs.CountLemmas.{none_exactly}
use Rattle.asm_symbols.proofs.symbol_map.Symbols.numeric_back.Goals as goal

pub returns-clause-none : goal.returns-clause-none
returns-clause-none c =
    let count = rw (← c.self.view_is) at c.count-instance.ensures in
    let found = rw (← c.self.view_is) at c.find.ensures.value in
    rw (← c.self.view_is) (none_exactly c.find.result c.self.inside.symbols.items c.self.inside.counts.entries c.args.number c.count-instance.result c.self.invariant.instances count c.if-instance-eq0.false found)
