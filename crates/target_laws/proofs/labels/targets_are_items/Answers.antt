use Rattle.target_laws.proofs.Branching.{targets_are_items}
use Rattle.target_laws.proofs.labels.targets_are_items.Goals as goal

pub returns : goal.returns
returns c =
    targets_are_items
    (λ symbols forward. record {
      sum = λ made some. c.expansions_are_exact.ensures.sum symbols made forward some;
      none = λ made none. c.expansions_are_exact.ensures.none symbols made none;
      left = λ made. c.weak_aliases_stay.ensures.left symbols made forward;
    })
    c.lone_symbol_is_left.ensures c.targets_are_labels.ensures
