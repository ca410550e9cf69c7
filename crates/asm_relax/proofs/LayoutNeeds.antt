-- In a layout no item needs more than the level that it takes.
use Rattle.std.proofs.Common.{◌≡◌, ℕ, zero, suc, ◌+◌, ◌<◌, ◌≤◌, cond, true, List, [], ◌∷◌, Option, Some, None, length, map, get_or, refl, sym, ap, ◌∙◌, arith}
use Rattle.std.specs.Prelude.{count_by, is_some}
use Rattle.std.proofs.lemmas.Bool.{lt-ltb}
use Rattle.std.proofs.lemmas.List.Sums.{sum_by-cons}
use Rattle.level_ranks.specs.Ranks.{Ranks, is_taken_before, levels_below, levels_taken, greatest_by, greatest_in, greatest, numbers_at, IsNumber, IsLayout}
use Rattle.level_ranks.specs.Rounds.{NeedsWithin}

-- behind the greatest number all that have one are taken
all_taken : (numbers : List (Option ℕ)) (round : ℕ) → greatest_in numbers < round → count_by (is_taken_before round) numbers ≡ count_by is_some numbers
all_taken [] round past = refl
all_taken (number ∷ numbers) round past =
    let later = all_taken numbers round (omega (arith, past)) in
    let first : is_taken_before round number ≡ is_some number = taken number (omega (arith, past)) in
    sum_by-cons (λ one. cond (is_taken_before round one) 1 0) number numbers
    ∙ (rw (later, first) refl ∙ sym (sum_by-cons (λ (one : Option ℕ). cond (is_some one) 1 0) number numbers))
  where
    taken : (number : Option ℕ) → greatest_by number < round → is_taken_before round number ≡ is_some number
    taken None low = refl
    taken (Some number) low = lt-ltb number round low

levels_are : (ranks : Ranks) (round : ℕ) → greatest ranks < round → levels_below round ranks ≡ levels_taken ranks
levels_are [] round past = refl
levels_are (numbers ∷ ranks) round past =
    let first = all_taken numbers round (omega (arith, past)) in
    let later = levels_are ranks round (omega (arith, past)) in
    rw (first, later) refl

-- where the first so many have a number, at least so many do
some_below : (numbers : List (Option ℕ)) (count : ℕ) → count ≤ length numbers → ((level : ℕ) → level < count → is_some (get_or numbers level None) ≡ true)
    → count ≤ count_by is_some numbers
some_below [] count within some = omega (arith, within)
some_below (number ∷ numbers) zero within some = omega arith
some_below (number ∷ numbers) (suc count) within some =
    let later = some_below numbers count (omega (arith, within)) (λ level below. some (suc level) (omega (arith, below))) in
    let first : is_some number ≡ true = some 0 (omega arith) in
    let whole : count_by is_some (number ∷ numbers) ≡ 1 + count_by is_some numbers =
    sum_by-cons (λ (one : Option ℕ). cond (is_some one) 1 0) number numbers ∙ ap (λ b. cond b 1 0 + count_by is_some numbers) first in
    omega (arith, later, whole)

taken_at : (ranks : Ranks) (item : ℕ) → get_or (levels_taken ranks) item 0 ≡ count_by is_some (numbers_at ranks item)
taken_at [] item = refl
taken_at (numbers ∷ ranks) zero = refl
taken_at (numbers ∷ ranks) (suc item) = taken_at ranks item

long_at : (ranks : Ranks) (item : ℕ) → get_or (map (λ (numbers : List (Option ℕ)). length numbers) ranks) item 0 ≡ length (numbers_at ranks item)
long_at [] item = refl
long_at (numbers ∷ ranks) zero = refl
long_at (numbers ∷ ranks) (suc item) = long_at ranks item

same_long : (ranks : Ranks) → length (map (λ (numbers : List (Option ℕ)). length numbers) ranks) ≡ length ranks
same_long [] = refl
same_long (numbers ∷ ranks) = ap suc (same_long ranks)

taken_long : (ranks : Ranks) → length (levels_taken ranks) ≡ length ranks
taken_long [] = refl
taken_long (numbers ∷ ranks) = ap suc (taken_long ranks)

-- a level that is not enough is taken
is_taken : (need : List ℕ → List ℕ) (ranks : Ranks) (item level : ℕ) (number : Option ℕ) → IsNumber need ranks item level number
    → level < get_or (need (levels_taken ranks)) item 0 → is_some number ≡ true
is_taken need ranks item level (Some number) is needs = refl
is_taken need ranks item level None is needs =
    let round = suc (greatest ranks) in
    let holds = is round (omega arith) in
    let same : get_or (need (levels_below round ranks)) item 0 ≡ get_or (need (levels_taken ranks)) item 0 =
    ap (λ (levels : List ℕ). get_or (need levels) item 0) (levels_are ranks round (omega arith)) in
    absurd (omega (arith, holds, same, needs))

pub layout_enough : (need : List ℕ → List ℕ) (tops levels : List ℕ) (rounds : ℕ) → NeedsWithin need tops → IsLayout need tops levels rounds
    → (item : ℕ) → item < length tops → get_or (need levels) item 0 ≤ get_or levels item 0
layout_enough need tops levels rounds within layout item inside =
    let ranks = layout.ranks in
    let count : length tops ≡ length ranks = ap length (sym layout.ranking.levels) ∙ same_long ranks in
    let long : length levels ≡ length tops = ap length layout.taken ∙ (taken_long ranks ∙ sym count) in
    let top : get_or tops item 0 ≡ length (numbers_at ranks item) = ap (λ (all : List ℕ). get_or all item 0) (sym layout.ranking.levels) ∙ long_at ranks item in
    let least = within levels item long inside in
    let same : get_or (need levels) item 0 ≡ get_or (need (levels_taken ranks)) item 0 = ap (λ (all : List ℕ). get_or (need all) item 0) layout.taken in
    let own : get_or levels item 0 ≡ count_by is_some (numbers_at ranks item) = ap (λ (all : List ℕ). get_or all item 0) layout.taken ∙ taken_at ranks item in
    let enough = some_below (numbers_at ranks item) (get_or (need levels) item 0) (omega (arith, least, top))
    (λ level below. is_taken need ranks item level (get_or (numbers_at ranks item) level None)
    (layout.ranking.numbers item level (omega (arith, inside, count)) (omega (arith, below, least, top))) (omega (arith, below, same))) in
    omega (arith, enough, own)
