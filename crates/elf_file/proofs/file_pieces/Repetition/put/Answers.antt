-- The block is as long as its units together.
use Rattle.std.proofs.Common.{length, take, sym, ap, ◌∙◌}
use Rattle.elf_file.proofs.Repeats.{length-repeated}
use Rattle.elf_file.proofs.file_pieces.Repetition.put.Goals as goal

pub fill_units-requires-clause-room : goal.fill_units-requires-clause-room
fill_units-requires-clause-room c =
    c.requires ∙ ap length (sym c.self.view_is) ∙ length-repeated c.self.inside.count (take c.self.inside.size c.self.inside.unit)
