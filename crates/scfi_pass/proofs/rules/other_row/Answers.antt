use Rattle.scfi_pass.specs.Looking.{seen}
use Rattle.scfi_pass.proofs.rules.other_row.Goals as goal

pub returns-then-held-clause-rules : goal.returns-then-held-clause-rules
returns-then-held-clause-rules c = c.held_row.ensures.rules (seen c.args.looked.now).stands (c.requires.held c.if-held.true)
