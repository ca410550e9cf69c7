-- Fields take no bytes and add none.
use Rattle.std.proofs.Common.{List, ℕ, length, ap, ◌∙◌}
use Rattle.elf_object.proofs.ItemBytes.{plain_long}
use Rattle.elf_object.proofs.contents.held_section.Goals as goal

pub with_items-requires : goal.with_items-requires
with_items-requires c =
    ap (λ (xs : List ℕ). length xs) c.in_ok-bytes.ensures.bytes ∙ plain_long c.args.at.symbols.now c.args.at.sections.now c.args.section.now
