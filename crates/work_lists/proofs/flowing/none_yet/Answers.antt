use Rattle.std.proofs.Common.{◌+◌, length, get_or, None, ap, ◌∙◌, length-append, [], ◌∷◌}
use Rattle.work_lists.proofs.EndLemmas.{none_more}
use Rattle.work_lists.proofs.flowing.none_yet.Goals as goal

pub loop-item-preserved : goal.loop-item-preserved
loop-item-preserved g c =
    let e = c.in_ok-put_none.ensures in
    record {
      long = let l = c.loop-item.invariant.long in ap length e ∙ length-append c.loop-item.states.items (None ∷ []) ∙ ap (λ n. n + 1) l;
      none = λ k. ap (λ xs. get_or xs k None) e ∙ none_more c.loop-item.states.items c.loop-item.invariant.none k;
    }
