-- One more symbol is marked.
use Rattle.std.proofs.Common.{◌++◌, ◌<◌, [], ◌∷◌, map, take, length, sym, ap, ◌∙◌, false, arith}
use Rattle.assigned_forms.specs.Linked.{is_weak_alias}
use Rattle.assigned_forms.proofs.LinkedLemmas.{map_more}
use Rattle.assigned_forms.proofs.linked.aliases.Goals as goal

pub loop-index-preserved : goal.loop-index-preserved
loop-index-preserved c =
    let inside : c.loop-index.index < length c.args.symbols.now.symbols = omega (arith, ap (λ xs. length xs) c.as_slice-count.ensures) in
    c.in_ok-push.ensures.items ∙ ap (λ marks. marks ++ c.is_alias_at.result ∷ []) c.loop-index.invariant
    ∙ ap (λ mark. map (is_weak_alias c.args.symbols.now) (take c.loop-index.index c.args.symbols.now.symbols) ++ mark ∷ []) c.is_alias_at.ensures
    ∙ sym (map_more (is_weak_alias c.args.symbols.now) c.args.symbols.now.symbols c.loop-index.index false inside)
