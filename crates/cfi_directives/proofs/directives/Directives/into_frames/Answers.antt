-- All procedures are sound: those that have ended, and the open one.
use Rattle.std.proofs.Common.{◌≡◌, [], ◌∷◌, ◌++◌, rules}
use Rattle.std.proofs.lemmas.List.Elements.{All-push, All-same, All-weaker}
use Rattle.cfi_directives.specs.Sound.{IsSound, IsWhole}
use Rattle.cfi_directives.proofs.directives.Directives.into_frames.Goals as goal
use Rattle.cfi_directives.proofs.directives.Directives.into_frames.Goals.{in-Some, in_default}

pub returns-clause-sound : goal.returns-clause-sound
returns-clause-sound c =
    let closed = c.self.inside.closed.items in
    let sound = All-weaker IsWhole IsSound (λ frame whole. whole.sound) closed c.self.invariant.0 in
    All-same IsSound c.of.result c.match-begun.closed.items c.of.ensures
    (elim c.match-begun.branch [
      | in-Some w ↦
          (let pushed : c.match-begun.closed.items ≡ closed ++ w.into_frame.result ∷ [] = search rules in
          All-same IsSound c.match-begun.closed.items (closed ++ w.into_frame.result ∷ []) pushed (All-push IsSound closed w.into_frame.result sound w.into_frame.ensures.sound))
      | in_default w ↦ All-same IsSound c.match-begun.closed.items closed (search rules) sound
    ])
