-- Blocks of whole units, and the front of one, are all units.
use Rattle.std.proofs.Common.{take, ◌∙◌, sym, arith}
use Rattle.std.proofs.lemmas.List.{length-take-le}
use Rattle.elf_file.proofs.PieceLemmas.{units_filled}
use Rattle.elf_file.proofs.file_pieces.Repetition.fill.Goals as goal

pub returns-clause-bytes : goal.returns-clause-bytes
returns-clause-bytes c =
    let eight = c.self.told in
    let some = c.self.invariant.1 in
    let short = c.self.invariant.2 in
    let unit = take c.self.inside.size c.self.inside.unit in
    sym c.self.view_is
    ∙ units_filled c.self.inside.count c.self.inside.size unit c.args.block.now c.fill_units.new.block _ some short c.requires
    (length-take-le c.self.inside.size c.self.inside.unit (omega arith)) c.fill_units.ensures
