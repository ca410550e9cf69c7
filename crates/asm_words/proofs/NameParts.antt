-- Tokens side by side.
use Rattle.std.proofs.Common.{◌≡◌, ℕ, ◌+◌, ◌-◌, ◌<◌, ◌≤◌, ◌&&◌, Bool, true, false, List, [], ◌∷◌, length, length-drop, get_or, drop, map, refl, ap, sym, ◌∙◌, arith}
use Rattle.std.proofs.lemmas.List.{length-map}
use Rattle.asm_base.specs.declared.tokens.Token.{Token}
use Rattle.asm_base.specs.Tokens.{spelled, SpelledToken}
use Rattle.asm_words.specs.SectionWords.{follows, are_adjacent}
use Rattle.asm_words.proofs.TokenLists.{one_more_left, two_left}

next_adjacent : (first second : SpelledToken) (rest : List SpelledToken) → are_adjacent (first ∷ second ∷ rest) ≡ (follows first second && are_adjacent (second ∷ rest))
unfolding are_adjacent
next_adjacent first second rest = refl

-- of the tokens from a place on, the first two stand side by side, and so do those behind the first
adjacent_step : (tokens : List Token) (at : ℕ) (d : Token) → at + 2 ≤ length tokens
    → are_adjacent (map spelled (drop at tokens)) ≡ (follows (spelled (get_or tokens at d)) (spelled (get_or tokens (at + 1) d)) && are_adjacent (map spelled (drop (at + 1) tokens)))
adjacent_step tokens at d inside =
    let later : (at + 1) + 1 ≡ at + 2 = omega arith in
    ap are_adjacent (two_left tokens at d inside)
    ∙ next_adjacent (spelled (get_or tokens at d)) (spelled (get_or tokens (at + 1) d)) (map spelled (drop (at + 2) tokens))
    ∙ ap (λ ts. follows (spelled (get_or tokens at d)) (spelled (get_or tokens (at + 1) d)) && are_adjacent ts)
    (sym (one_more_left tokens (at + 1) d (omega arith) ∙ ap (λ n. spelled (get_or tokens (at + 1) d) ∷ map spelled (drop n tokens)) later))

-- two more stand side by side
pub adjacent_on : (tokens : List Token) (at : ℕ) (d : Token) (whole : Bool) → 1 ≤ at → at < length tokens
    → follows (spelled (get_or tokens (at - 1) d)) (spelled (get_or tokens at d)) ≡ true
    → are_adjacent (map spelled (drop (at - 1) tokens)) ≡ whole → are_adjacent (map spelled (drop ((at + 1) - 1) tokens)) ≡ whole
adjacent_on tokens at d whole some inside side before =
    let here : (at - 1) + 1 ≡ at = omega arith in
    let next : (at + 1) - 1 ≡ at = omega arith in
    ap (λ n. are_adjacent (map spelled (drop n tokens))) next
    ∙ sym (adjacent_step tokens (at - 1) d (omega arith)
    ∙ ap (λ n. follows (spelled (get_or tokens (at - 1) d)) (spelled (get_or tokens n d)) && are_adjacent (map spelled (drop n tokens))) here
    ∙ ap (λ b. b && are_adjacent (map spelled (drop at tokens))) side)
    ∙ before

-- two do not
pub adjacent_not : (tokens : List Token) (at : ℕ) (d : Token) (whole : Bool) → 1 ≤ at → at < length tokens
    → follows (spelled (get_or tokens (at - 1) d)) (spelled (get_or tokens at d)) ≡ false
    → are_adjacent (map spelled (drop (at - 1) tokens)) ≡ whole → whole ≡ false
adjacent_not tokens at d whole some inside side before =
    let here : (at - 1) + 1 ≡ at = omega arith in
    sym before ∙ adjacent_step tokens (at - 1) d (omega arith)
    ∙ ap (λ n. follows (spelled (get_or tokens (at - 1) d)) (spelled (get_or tokens n d)) && are_adjacent (map spelled (drop n tokens))) here
    ∙ ap (λ b. b && are_adjacent (map spelled (drop at tokens))) side

few_adjacent : (tokens : List SpelledToken) → length tokens ≤ 1 → are_adjacent tokens ≡ true
unfolding are_adjacent
few_adjacent [] few = refl
few_adjacent (token ∷ []) few = refl
few_adjacent (first ∷ second ∷ rest) few = absurd (omega arith)

-- all do
pub adjacent_all : (tokens : List Token) (at : ℕ) (whole : Bool) → length tokens ≤ at → are_adjacent (map spelled (drop (at - 1) tokens)) ≡ whole → whole ≡ true
adjacent_all tokens at whole all before =
    sym before ∙ few_adjacent (map spelled (drop (at - 1) tokens)) (omega (arith, length-map (drop (at - 1) tokens) spelled, length-drop (at - 1) tokens))
