-- By the entries.
use Rattle.std.proofs.Common.{◌++◌, map, [], ◌∷◌, ap, ◌∙◌}
use Rattle.std.specs.List.{list_any}
use Rattle.std.specs.Str.{bytes_eq}
use Rattle.indexmap.proofs.CallerLemmas.{insert_entry-new}
use Rattle.asm_macro.specs.Expansion.{is_called}
use Rattle.asm_macro.specs.Macros.{entry_seen, seen_as}
use Rattle.asm_macro.proofs.MacroLemmas.{absent_macro, put_last}
use Rattle.asm_macro.proofs.macros.Macros.add.Goals as goal

pub returns : goal.returns
returns c =
    let none = absent_macro c.args.name.items c.self.inside.by_name.entries (ap (list_any (is_called c.args.name.items)) c.self.view_is ∙ c.requires) in
    let put = insert_entry-new (λ one other. bytes_eq one.items other.items) c.self.inside.by_name c.args.name c.in_ok-one.one none in
    ap (map entry_seen) (c.in_ok-insert.ensures.entries ∙ put) ∙ put_last c.self.inside.by_name.entries c.args.name c.in_ok-one.one c.args.one c.in_ok-one.ensures.ok
    ∙ ap (λ before. before ++ seen_as c.args.name.items c.args.one ∷ []) c.self.view_is
