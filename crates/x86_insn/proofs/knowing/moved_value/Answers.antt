use Rattle.x86_insn.proofs.MovedValues.{by_label}
use Rattle.x86_insn.proofs.knowing.moved_value.Goals as goal

pub returns-in-Label : goal.returns-in-Label
returns-in-Label g c = by_label (g.K.Known.told c.args.known.now) c.args.symbol c.args.number c.in-Label.stretch c.in-Label.at c.look.result c.look.ensures c.in-Label.is
