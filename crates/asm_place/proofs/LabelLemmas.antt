-- Labels in front of a statement, and what stands behind them.
use Rattle.std.proofs.Common.{◌≡◌, ℕ, ◌+◌, ◌≤◌, ◌&&◌, ◌||◌, Bool, true, false, cond, List, [], ◌∷◌, Result, Ok, Err, length, get_or, drop, map, refl, sym, ap, ◌∙◌, arith, length-drop}
use Rattle.std.proofs.lemmas.Bool.{false≢true}
use Rattle.std.proofs.lemmas.List.{length-map}
use Rattle.asm_base.specs.declared.positions.Pos.{Pos}
use Rattle.asm_base.specs.declared.tokens.Token.{Token}
use Rattle.asm_operands.specs.declared.place_faults.PlaceCause.{PlaceCause}
use Rattle.asm_operands.specs.declared.place_faults.PlaceCause.TheVariants.{NumberTooWide}
use Rattle.asm_base.specs.Tokens.{spelled, SpelledToken}
use Rattle.asm_base.specs.Refusals.{Fails, ◌>>=◌}
use Rattle.asm_base.specs.declared.refusals.Refusal.{Refusal}
use Rattle.asm_base.specs.declared.refusals.Refusal.TheVariants.{Fault, NoMemory}
use Rattle.asm_values.specs.State.{Placed}
use Rattle.asm_place.specs.Placing.{place_label, place_body, place_unlabelled, is_too_wide, has_wide_label, place_labelled, place_tokens}
use Rattle.asm_operands.specs.Operands.{begins_with_label, is_label}
use Rattle.asm_place.proofs.TokenLists.{two_left}

-- no label is in front
pub unlabelled : (pos : Pos) (tokens : List SpelledToken) (placed : Placed) → begins_with_label tokens ≡ false
    → place_labelled pos tokens placed ≡ place_unlabelled pos tokens placed
unfolding place_labelled place_unlabelled
unlabelled pos [] placed none = refl
unlabelled pos (first ∷ []) placed none = refl
unlabelled pos (first ∷ second ∷ rest) placed none =
    ap (λ b. cond b (place_label pos first placed >>= (λ labels. place_labelled pos rest labels)) (place_body pos first (second ∷ rest) placed)) none

pub label_two : (pos : Pos) (first second : SpelledToken) (rest : List SpelledToken) (placed : Placed) → is_label first second ≡ true
    → place_labelled pos (first ∷ second ∷ rest) placed ≡ (place_label pos first placed >>= (λ labels. place_labelled pos rest labels))
unfolding place_labelled
label_two pos first second rest placed labelled =
    ap (λ b. cond b (place_label pos first placed >>= (λ labels. place_labelled pos rest labels)) (place_body pos first (second ∷ rest) placed)) labelled

-- what stands from the place on, where a label does
label_left : (pos : Pos) (tokens : List Token) (at : ℕ) (d : Token) (placed : Placed) → at + 2 ≤ length tokens → begins_with_label (map spelled (drop at tokens)) ≡ true
    → place_labelled pos (map spelled (drop at tokens)) placed ≡ (place_label pos (spelled (get_or tokens at d)) placed >>= (λ labels. place_labelled pos (map spelled (drop (at + 2) tokens)) labels))
label_left pos tokens at d placed inside labelled =
    let two = two_left tokens at d inside in
    ap (λ ts. place_labelled pos ts placed) two
    ∙ label_two pos (spelled (get_or tokens at d)) (spelled (get_or tokens (at + 1) d)) (map spelled (drop (at + 2) tokens)) placed (sym (ap begins_with_label two) ∙ labelled)

pub label_step : (pos : Pos) (tokens : List Token) (at : ℕ) (d : Token) (placed more : Placed) (whole : Result Placed PlaceCause)
    → at + 2 ≤ length tokens → begins_with_label (map spelled (drop at tokens)) ≡ true → place_label pos (spelled (get_or tokens at d)) placed ≡ Ok more
    → place_labelled pos (map spelled (drop at tokens)) placed ≡ whole → place_labelled pos (map spelled (drop (at + 2) tokens)) more ≡ whole
label_step pos tokens at d placed more whole inside labelled is before =
    sym (label_left pos tokens at d placed inside labelled ∙ ap (λ r. r >>= (λ labels. place_labelled pos (map spelled (drop (at + 2) tokens)) labels)) is) ∙ before

pub label_stop : (pos : Pos) (tokens : List Token) (at : ℕ) (d : Token) (placed : Placed) (fault : PlaceCause) (whole : Result Placed PlaceCause)
    → at + 2 ≤ length tokens → begins_with_label (map spelled (drop at tokens)) ≡ true → place_label pos (spelled (get_or tokens at d)) placed ≡ Err fault
    → place_labelled pos (map spelled (drop at tokens)) placed ≡ whole → whole ≡ Err fault
label_stop pos tokens at d placed fault whole inside labelled is before =
    sym before ∙ label_left pos tokens at d placed inside labelled ∙ ap (λ r. r >>= (λ labels. place_labelled pos (map spelled (drop (at + 2) tokens)) labels)) is

-- a label that can't be placed ends the statement
pub label_fails : (pos : Pos) (tokens : List Token) (at : ℕ) (d : Token) (placed : Placed) (fault : Refusal PlaceCause) (whole : Result Placed PlaceCause)
    → at + 2 ≤ length tokens → begins_with_label (map spelled (drop at tokens)) ≡ true → Fails fault (place_label pos (spelled (get_or tokens at d)) placed)
    → place_labelled pos (map spelled (drop at tokens)) placed ≡ whole → Fails fault whole
label_fails pos tokens at d placed (Fault fault) whole inside labelled is before = label_stop pos tokens at d placed fault whole inside labelled is before
label_fails pos tokens at d placed NoMemory whole inside labelled is before = tt

-- whether the number of a label is too wide, where one is in front
wide_two : (first second : SpelledToken) (rest : List SpelledToken) → is_label first second ≡ true → has_wide_label (first ∷ second ∷ rest) ≡ (is_too_wide first || has_wide_label rest)
unfolding has_wide_label
wide_two first second rest labelled = ap (λ b. b && (is_too_wide first || has_wide_label rest)) labelled

wide_step : (tokens : List Token) (at : ℕ) (d : Token) → at + 2 ≤ length tokens → begins_with_label (map spelled (drop at tokens)) ≡ true
    → has_wide_label (map spelled (drop at tokens)) ≡ (is_too_wide (spelled (get_or tokens at d)) || has_wide_label (map spelled (drop (at + 2) tokens)))
wide_step tokens at d inside labelled =
    let two = two_left tokens at d inside in
    ap has_wide_label two
    ∙ wide_two (spelled (get_or tokens at d)) (spelled (get_or tokens (at + 1) d)) (map spelled (drop (at + 2) tokens)) (sym (ap begins_with_label two) ∙ labelled)

pub wide_on : (tokens : List Token) (at : ℕ) (d : Token) (whole : Bool) → at + 2 ≤ length tokens → begins_with_label (map spelled (drop at tokens)) ≡ true
    → is_too_wide (spelled (get_or tokens at d)) ≡ false → has_wide_label (map spelled (drop at tokens)) ≡ whole → has_wide_label (map spelled (drop (at + 2) tokens)) ≡ whole
wide_on tokens at d whole inside labelled fits before =
    sym (wide_step tokens at d inside labelled ∙ ap (λ b. b || has_wide_label (map spelled (drop (at + 2) tokens))) fits) ∙ before

pub wide_here : (tokens : List Token) (at : ℕ) (d : Token) (whole : Bool) → at + 2 ≤ length tokens → begins_with_label (map spelled (drop at tokens)) ≡ true
    → is_too_wide (spelled (get_or tokens at d)) ≡ true → has_wide_label (map spelled (drop at tokens)) ≡ whole → whole ≡ true
wide_here tokens at d whole inside labelled wide before =
    sym before ∙ wide_step tokens at d inside labelled ∙ ap (λ b. b || has_wide_label (map spelled (drop (at + 2) tokens))) wide

-- no label is in front, nor a number of one
pub wide_none : (tokens : List SpelledToken) → begins_with_label tokens ≡ false → has_wide_label tokens ≡ false
unfolding has_wide_label
wide_none [] none = refl
wide_none (first ∷ []) none = refl
wide_none (first ∷ second ∷ rest) none = ap (λ b. b && (is_too_wide first || has_wide_label rest)) none

-- a statement without labels
pub tokens_unlabelled : (pos : Pos) (tokens : List SpelledToken) (placed : Placed) → begins_with_label tokens ≡ false
    → place_unlabelled pos tokens placed ≡ place_tokens pos tokens placed
unfolding place_tokens
tokens_unlabelled pos tokens placed none =
    sym (ap (λ wide. cond wide (Err NumberTooWide) (place_labelled pos tokens placed)) (wide_none tokens none) ∙ unlabelled pos tokens placed none)

-- a label takes two tokens
two_of : (tokens : List SpelledToken) → begins_with_label tokens ≡ true → 2 ≤ length tokens
two_of [] labelled = absurd (false≢true labelled)
two_of (first ∷ []) labelled = absurd (false≢true labelled)
two_of (first ∷ second ∷ rest) labelled = omega arith

pub room : (tokens : List Token) (at : ℕ) → begins_with_label (map spelled (drop at tokens)) ≡ true → at + 2 ≤ length tokens
room tokens at labelled = omega (arith, two_of (map spelled (drop at tokens)) labelled, length-map (drop at tokens) spelled, length-drop at tokens)
