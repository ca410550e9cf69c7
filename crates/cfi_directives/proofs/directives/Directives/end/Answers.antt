-- The procedure that ends is whole, as those before it.
use Rattle.std.proofs.Common.{◌≡◌, [], ◌∷◌, ◌++◌, rules}
use Rattle.std.proofs.lemmas.List.Elements.{All-push, All-same}
use Rattle.cfi_directives.specs.Sound.{IsWhole}
use Rattle.cfi_directives.proofs.directives.Directives.end.Goals as goal

pub invariant_of-self-then-section-at : goal.invariant_of-self-then-section-at
invariant_of-self-then-section-at c =
    let closed = c.self.inside.closed.items in
    let pushed : c.push.new.self.items ≡ closed ++ c.ended.result ∷ [] = search rules in
    (All-same IsWhole c.push.new.self.items (closed ++ c.ended.result ∷ []) pushed (All-push IsWhole closed c.ended.result c.self.invariant.0 c.ended.ensures.whole), search rules)
