-- Held and repeated bytes are all.
use Rattle.std.proofs.Common.{ap, ◌∙◌, rules}
use Rattle.elf_file.specs.Pieces.{repeated_size}
use Rattle.elf_file.proofs.MixedLemmas.{mixed_long}
use Rattle.elf_file.proofs.PieceLemmas.{sum_long}
use Rattle.elf_file.proofs.file_pieces.Mixed.len.Goals as goal

pub returns : goal.returns
returns c =
    let bytes = c.args.self.now.bytes.items in
    let between = c.args.self.now.between.items in
    sum_long c.checked_add.result c.len.result c.in_ok-total.field-0 _ _ _ (c.len.ensures ∙ c.args.self.now.bytes.ok.0)
    (c.in_ok-total.ensures ∙ ap repeated_size c.deref.ensures.value) (mixed_long bytes between) (search rules)
