use Rattle.range_table.specs.Moving.{IsMoved}
use Rattle.range_table.proofs.adding.add_each.Given as goal

abbrev pub invariant-loop-index : goal.invariant-loop-index
invariant-loop-index l = IsMoved l.from l.index l.more l.fn.numbers l.numbers
