-- By the entries.
use Rattle.std.proofs.Common.{Some, ap, ◌∙◌}
use Rattle.std.specs.Option.{option_map}
use Rattle.std.specs.List.{find}
use Rattle.asm_macro.specs.Expansion.{is_called}
use Rattle.asm_macro.specs.Macros.{seen_as}
use Rattle.asm_macro.proofs.MacroLemmas.{found_macro}
use Rattle.asm_macro.proofs.macros.Macros.named.Goals as goal

pub returns-in_ok-clone-in-Some : goal.returns-in_ok-clone-in-Some
returns-in_ok-clone-in-Some c =
    let found = c.in-Some.ensures.value in
    ap (λ body. Some (seen_as c.args.name.now body)) c.in_ok-clone-in-Some.ensures.cases
    ∙ ap (option_map (λ one. seen_as c.args.name.now one.value)) found
    ∙ found_macro c.args.name.now c.self.inside.by_name.entries
    ∙ ap (find (is_called c.args.name.now)) c.self.view_is

pub returns-in-None : goal.returns-in-None
returns-in-None c =
    let found = c.in-None.ensures.value in
    ap (option_map (λ one. seen_as c.args.name.now one.value)) found
    ∙ found_macro c.args.name.now c.self.inside.by_name.entries
    ∙ ap (find (is_called c.args.name.now)) c.self.view_is
