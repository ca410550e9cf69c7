-- By the entries.
use Rattle.std.proofs.Common.{map, ap, ◌∙◌}
use Rattle.asm_macro.specs.Expansion.{without}
use Rattle.asm_macro.specs.Macros.{entry_seen}
use Rattle.asm_macro.proofs.MacroLemmas.{removed_macro}
use Rattle.asm_macro.proofs.macros.Macros.forget.Goals as goal

pub returns : goal.returns
returns c =
    ap (map entry_seen) c.shift_remove.ensures.entries ∙ removed_macro c.args.name.now c.self.inside.by_name.entries
    ∙ ap (without c.args.name.now) c.self.view_is
