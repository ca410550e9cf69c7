-- Zeros up to a multiple are a gap.
use Rattle.std.proofs.Common.{rules}
use Rattle.elf_file.proofs.LayingLemmas.{gap_put, gap_ends}
use Rattle.elf_file.proofs.image.Laid.put_gap.Goals as goal

pub returns-clause-pieces : goal.returns-clause-pieces
returns-clause-pieces c = gap_put c.args.self.now.pieces c.put_zeros.new.self c.args.alignment c.args.self.now.end c.in_ok-end.end (c.in_ok-put_zeros.ensures) (search rules)

pub returns-clause-ends : goal.returns-clause-ends
returns-clause-ends c = gap_ends c.args.self.now.pieces c.put_zeros.new.self c.args.self.now.end c.in_ok-end.end (search rules) c.requires c.in_ok-put_zeros.ensures
