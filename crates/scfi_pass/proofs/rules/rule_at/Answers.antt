use Rattle.scfi_pass.specs.Looking.{seen}
use Rattle.scfi_pass.proofs.RowLemmas.{ruled}
use Rattle.scfi_pass.proofs.rules.rule_at.Goals as goal

pub returns : goal.returns
returns c = ruled (seen c.args.looked.now) c.args.register c.args.found c.requires.sound c.requires.saved c.requires.found
