-- The first fault of a list, one at a time.
use Rattle.std.proofs.Common.{◌≡◌, ℕ, suc, ◌+◌, ◌<◌, ◌≤◌, true, false, List, [], ◌∷◌, Option, Some, None, is_some, length, get_or, drop, refl, sym, ap, ◌∙◌, arith, drop-cons, length-drop}
use Rattle.std.proofs.lemmas.List.{nil_from_length}
use Rattle.asm_relax.specs.Faults.{or_later, first_of}

first_more : {X E : Type 0} (fault : X → Option E) (x : X) (xs : List X) → first_of fault (x ∷ xs) ≡ or_later (fault x) (first_of fault xs)
unfolding first_of
first_more fault x xs = refl

first_none : {X E : Type 0} (fault : X → Option E) → first_of fault [] ≡ None
unfolding first_of
first_none fault = refl

first_at : {X E : Type 0} (fault : X → Option E) (xs : List X) (at : ℕ) (item : X) (answer whole : Option E) → at < length xs → item ≡ get_or xs at item → fault item ≡ answer
    → first_of fault (drop at xs) ≡ whole → or_later answer (first_of fault (drop (suc at) xs)) ≡ whole
first_at {X} {E} fault xs at item answer whole inside is gives before =
    let front : drop at xs ≡ item ∷ drop (suc at) xs = drop-cons xs at item inside ∙ ap (λ (x : X). x ∷ drop (suc at) xs) (sym is) in
    let more = first_more fault item (drop (suc at) xs) in
    ap (λ (o : Option E). or_later o (first_of fault (drop (suc at) xs))) (sym gives) ∙ sym more ∙ ap (λ (all : List X). first_of fault all) (sym front) ∙ before

-- the next one has no fault
pub first_step : {X E : Type 0} (fault : X → Option E) (xs : List X) (at : ℕ) (item : X) (answer whole : Option E) → at < length xs → item ≡ get_or xs at item → answer ≡ fault item
    → is_some answer ≡ false → first_of fault (drop at xs) ≡ whole → first_of fault (drop (at + 1) xs) ≡ whole
first_step fault xs at item None whole inside is gives none before =
    let one : suc at ≡ at + 1 = omega arith in
    rw one at (first_at fault xs at item None whole inside is (sym gives) before)
first_step fault xs at item (Some found) whole inside is gives none before = absurd cc

-- the next one has a fault
pub first_found : {X E : Type 0} (fault : X → Option E) (xs : List X) (at : ℕ) (item : X) (answer whole : Option E) → at < length xs → item ≡ get_or xs at item → answer ≡ fault item
    → is_some answer ≡ true → first_of fault (drop at xs) ≡ whole → answer ≡ whole
first_found fault xs at item (Some found) whole inside is gives some before = first_at fault xs at item (Some found) whole inside is (sym gives) before
first_found fault xs at item None whole inside is gives some before = absurd cc

-- none has a fault
pub first_done : {X E : Type 0} (fault : X → Option E) (xs : List X) (at : ℕ) (whole : Option E) → length xs ≤ at → first_of fault (drop at xs) ≡ whole → None ≡ whole
first_done {X} {E} fault xs at whole all before =
    let none : drop at xs ≡ [] = nil_from_length (drop at xs) (omega (arith, length-drop at xs)) in
    sym (first_none fault) ∙ ap (λ (l : List X). first_of fault l) (sym none) ∙ before
