-- A repetition is as long as its units together.
use Rattle.std.proofs.Common.{rules, arith}
use Rattle.elf_file.proofs.PieceLemmas.{product_long}
use Rattle.elf_file.proofs.file_pieces.Repetition.len.Goals as goal

pub returns : goal.returns
returns c =
    let eight = c.self.told in
    let short = c.self.invariant.1 in
    product_long c.checked_mul.result c.self.inside.count c.self.inside.size c.self.inside.unit c.args.self.now c.self.view_is (omega arith) (search rules)
