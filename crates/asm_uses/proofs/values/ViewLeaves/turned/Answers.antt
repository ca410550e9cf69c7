-- A prefix operator makes a number of a number.
use Rattle.std.proofs.Common.{subst}
use Rattle.asm_uses.specs.KnownIn.{known_in}
use Rattle.asm_uses.specs.Values.{IsWorthIn}
use Rattle.asm_uses.proofs.ValueLemmas.{turned_tree}
use Rattle.asm_uses.proofs.values.ViewLeaves.turned.Goals as goal

pub returns-in-Number : goal.returns-in-Number
returns-in-Number c tree below =
    let value = c.turned.ensures in
    rw value (turned_tree c.args.self.now.symbols.now (known_in c.args.self.now) c.args.op tree c.in-Number.number (subst (IsWorthIn c.args.self.now tree) c.in-Number.is below))
