-- The open parts, innermost last.
use Rattle.std.proofs.Common.{◌≡◌, ℕ, ◌+◌, true, false, cond, length, List, [], ◌∷◌, ◌++◌, Option, Some, None, map, reverse, option_to_list, refl, ap, ◌∙◌, arith}
use Rattle.std.proofs.lemmas.List.{reverse-append, map-append, append-nil}
use Rattle.std.proofs.lemmas.List.Sums.{sum_by-append}
use Rattle.std.specs.Option.{option_map}
use Rattle.std.specs.List.{count_by, sum_by}
use Rattle.macro_blocks.specs.declared.frames.Frame.{Frame}
use Rattle.macro_blocks.specs.Levels.{Level}
use Rattle.macro_blocks.specs.Frames.{level_of}
use Rattle.asm_macro.specs.Expansion.{is_inner_part, is_file_part, is_call_part, after_call}

total_cons : {A : Type 0} (f : A → ℕ) (x : A) (xs : List A) → sum_by f (x ∷ xs) ≡ f x + sum_by f xs
total_cons f x xs = let e : sum_by f (x ∷ xs) ≡ sum_by f (x ∷ []) + sum_by f xs = sum_by-append f (x ∷ []) xs in omega (arith, e)

reverse_cons : {A : Type 0} (x : A) (xs : List A) → reverse (x ∷ xs) ≡ reverse xs ++ x ∷ []
reverse_cons x xs = reverse-append (x ∷ []) xs

total_reverse : {A B : Type 0} (f : B → ℕ) (g : A → B) (xs : List A) → sum_by f (reverse (map g xs)) ≡ sum_by (λ x. f (g x)) xs
total_reverse f g [] = refl
total_reverse f g (x ∷ xs) =
    let first = ap (sum_by f) (reverse_cons (g x) (map g xs)) ∙ sum_by-append f (reverse (map g xs)) (g x ∷ []) in
    let rest = total_reverse f g xs in
    let cons = total_cons (λ x. f (g x)) x xs in
    omega (arith, first, rest, cons)

-- how many calls and repeats are open, the one at work among them
pub inner_count : (top : Frame) (below : List Frame) → count_by is_inner_part (level_of top ∷ reverse (map level_of below)) ≡ cond (is_inner_part (level_of top)) 1 0 + count_by (λ frame. is_inner_part (level_of frame)) below
inner_count top below = total_cons (λ level. cond (is_inner_part level) 1 0) (level_of top) (reverse (map level_of below)) ∙ ap (λ n. cond (is_inner_part (level_of top)) 1 0 + n) (total_reverse (λ level. cond (is_inner_part level) 1 0) level_of below)

-- how many files
pub file_count : (top : Frame) (below : List Frame) → count_by is_file_part (level_of top ∷ reverse (map level_of below)) ≡ cond (is_file_part (level_of top)) 1 0 + count_by (λ frame. is_file_part (level_of frame)) below
file_count top below = total_cons (λ level. cond (is_file_part level) 1 0) (level_of top) (reverse (map level_of below)) ∙ ap (λ n. cond (is_file_part (level_of top)) 1 0 + n) (total_reverse (λ level. cond (is_file_part level) 1 0) level_of below)

-- a part that is popped is the innermost
pub popped : (frames below : List Frame) (top : Option Frame) → frames ≡ below ++ option_to_list top → reverse (map level_of frames) ≡ option_to_list (option_map level_of top) ++ reverse (map level_of below)
popped frames below None e = ap (λ fs. reverse (map level_of fs)) (e ∙ append-nil below)
popped frames below (Some f) e = ap (λ fs. reverse (map level_of fs)) e ∙ ap reverse (map-append level_of below (f ∷ [])) ∙ reverse-append (map level_of below) (level_of f ∷ [])

-- one that is pushed is the innermost
pub pushed : (below : List Frame) (top : Frame) → reverse (map level_of (below ++ top ∷ [])) ≡ level_of top ∷ reverse (map level_of below)
pushed below top = popped (below ++ top ∷ []) below (Some top) refl

-- `.exitm` takes parts away up to a call's
pub exits_call : (level : Level) (below : List Level) → is_call_part level ≡ true → after_call (level ∷ below) ≡ Some below
unfolding after_call
exits_call level below e = rw e refl

pub exits_more : (level : Level) (below : List Level) → is_call_part level ≡ false → after_call (level ∷ below) ≡ after_call below
unfolding after_call
exits_more level below e = rw e refl

pub exits_none : after_call [] ≡ None
unfolding after_call
exits_none = refl

pub no_levels : (frames : List Frame) → length frames ≡ 0 → reverse (map level_of frames) ≡ []
no_levels [] h = refl
no_levels (f ∷ fs) h = absurd (omega (arith, h))
