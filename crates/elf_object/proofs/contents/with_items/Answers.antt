-- One run alone has the plain bytes.
use Rattle.std.proofs.Common.{refl, sym, ap, ◌∙◌}
use Rattle.elf_object.specs.Contents.{item_bytes, is_one_run}
use Rattle.elf_file.specs.Sections.{stored}
use Rattle.elf_object.proofs.ItemLemmas.{one_run}
use Rattle.elf_object.proofs.contents.with_items.Goals as goal

pub returns-then-is_one_run : goal.returns-then-is_one_run
returns-then-is_one_run c =
    ap stored (one_run (item_bytes c.args.at.symbols.now c.args.at.sections.now c.args.section.now) c.args.bytes.items c.args.section.now.items (λ size. refl)
    (ap is_one_run (sym c.items.ensures.items) ∙ sym c.is_one_run.ensures ∙ c.if-is_one_run.true))
