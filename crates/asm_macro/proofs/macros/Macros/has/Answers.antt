-- By the entries.
use Rattle.std.proofs.Common.{ap, ◌∙◌}
use Rattle.std.specs.List.{list_any}
use Rattle.asm_macro.specs.Expansion.{is_called}
use Rattle.asm_macro.proofs.MacroLemmas.{any_macro}
use Rattle.asm_macro.proofs.macros.Macros.has.Goals as goal

pub returns : goal.returns
returns c =
    c.contains_key.ensures ∙ any_macro c.args.name.now c.self.inside.by_name.entries
    ∙ ap (list_any (is_called c.args.name.now)) c.self.view_is
