use Rattle.insn_effects.proofs.reading.sized.Goals as goal

pub returns-in-16 : goal.returns-in-16
returns-in-16 c = rw c.in-16.is (c.pop_word.ensures c.args.insn.now c.args.values.now)
