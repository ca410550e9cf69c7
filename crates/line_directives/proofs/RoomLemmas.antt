-- Room for numbers, made one after another.
use Rattle.std.proofs.Common.{◌≡◌, ℕ, suc, ◌+◌, ◌-◌, ◌<◌, ◌≤◌, length, List, [], ◌∷◌, ◌++◌, Option, None, replicate, refl, sym, ◌∙◌, ap, arith}
use Rattle.std.proofs.lemmas.List.{append_assoc, append-nil, length-append}
use Rattle.line_directives.specs.Numbered.{with_room}

pub one_more : {A : Type 0} (count : ℕ) (items : List (Option A)) → length items < count → with_room count (items ++ None ∷ []) ≡ with_room count items
one_more count items below =
    append_assoc items (None ∷ []) (replicate (count - length (items ++ None ∷ [])) None)
    ∙ ap (λ n. items ++ replicate n None)
    (let long : length (items ++ None ∷ []) ≡ length items + 1 = length-append items (None ∷ []) in
    let same : suc (count - length (items ++ None ∷ [])) ≡ count - length items = omega (arith, long, below) in same)

pub room_is_there : {A : Type 0} (count : ℕ) (items : List (Option A)) → count ≤ length items → with_room count items ≡ items
room_is_there count items enough =
    ap (λ n. items ++ replicate n None) (let none : count - length items ≡ 0 = omega (arith, enough) in none) ∙ append-nil items
