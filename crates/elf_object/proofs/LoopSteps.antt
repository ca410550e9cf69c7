-- Loops over lists that put what they make of each element behind what they have.
use Rattle.std.proofs.Common.{◌≡◌, ℕ, ◌+◌, ◌<◌, Bool, false, List, [], ◌∷◌, ◌++◌, length, get_or, drop, map, Option, sym, ap, ◌∙◌, append_assoc}
use Rattle.std.specs.Prelude.{find}
use Rattle.std.proofs.lemmas.List.{at_drop_more, map-append}

-- what is left begins with the element
pub next_is : {X Y : Type 0} (f : List X → Y) (xs : List X) (i : ℕ) (x : X) → i < length xs → x ≡ get_or xs i x → f (drop i xs) ≡ f (x ∷ drop (i + 1) xs)
next_is f xs i x inside is = at_drop_more f xs i x inside ∙ ap (λ y. f (y ∷ drop (i + 1) xs)) (sym is)

-- what is made of one more element is pushed
pub pushed : {X Y : Type 0} (view : X → Y) (out more : List X) (x : X) (y : Y) (rest next whole : List Y) → view x ≡ y → more ≡ out ++ x ∷ [] → rest ≡ y ∷ next
    → map view out ++ rest ≡ whole → map view more ++ next ≡ whole
pushed view out more x y rest next whole is put front before =
    ap (λ xs. map view xs ++ next) put ∙ ap (λ ys. ys ++ next) (map-append view out (x ∷ [])) ∙ append_assoc (map view out) (view x ∷ []) next
    ∙ ap (λ z. map view out ++ (z ∷ next)) is ∙ ap (λ ys. map view out ++ ys) (sym front) ∙ before

-- one that is not so is passed
pub find_step : {X Y : Type 0} (p : X → Bool) (g : Option X → Y) (xs : List X) (i : ℕ) (x : X) (whole : Y) → i < length xs → x ≡ get_or xs i x → p x ≡ false
    → g (find p (drop i xs)) ≡ whole → g (find p (drop (i + 1) xs)) ≡ whole
find_step p g xs i x whole inside is not_so before =
    let rest = drop (i + 1) xs in
    let here : find p (x ∷ rest) ≡ find p rest = rw not_so in
    ap g (sym here) ∙ ap g (sym (next_is (find p) xs i x inside is)) ∙ before
