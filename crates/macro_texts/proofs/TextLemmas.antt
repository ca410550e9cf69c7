-- The text of tokens, token by token.
use Rattle.std.proofs.Common.{◌≡◌, ℕ, zero, suc, ◌+◌, ◌-◌, ◌<◌, ◌≤◌, List, [], ◌∷◌, ◌++◌, length, get_or, drop, map, refl, sym, ap, ◌∙◌, append_assoc, arith}
use Rattle.std.proofs.lemmas.List.{append-nil}
use Rattle.asm_base.specs.Tokens.{spelled}
use Rattle.asm_base.specs.declared.tokens.Token.{Token}
use Rattle.macro_texts.specs.TokenTexts.{space_between, text_left}

-- the text of what is left, without its first token
left_step : (tokens : List Token) (n : ℕ) (d : Token) → suc n < length tokens
    → text_left (map spelled (drop n tokens)) ≡ (space_between (spelled (get_or tokens n d)) (spelled (get_or tokens (suc n) d)) ++ (get_or tokens (suc n) d).bytes.now) ++ text_left (map spelled (drop (suc n) tokens))
left_step [] n d within = absurd (omega arith)
left_step (one ∷ []) n d within = absurd (omega arith)
left_step (one ∷ two ∷ rest) zero d within = refl
left_step (one ∷ two ∷ rest) (suc n) d within = left_step (two ∷ rest) n d (omega arith)

-- one token more
pub text_step : (tokens : List Token) (at : ℕ) (d : Token) (made now all : List ℕ) → 1 ≤ at → at < length tokens
    → now ≡ made ++ (space_between (spelled (get_or tokens (at - 1) d)) (spelled (get_or tokens at d)) ++ (get_or tokens at d).bytes.now)
    → made ++ text_left (map spelled (drop (at - 1) tokens)) ≡ all
    → now ++ text_left (map spelled (drop ((at + 1) - 1) tokens)) ≡ all
text_step tokens at d made now all some within is before =
    let more = space_between (spelled (get_or tokens (at - 1) d)) (spelled (get_or tokens at d)) ++ (get_or tokens at d).bytes.now in
    let here : suc (at - 1) ≡ at = omega arith in
    let next : (at + 1) - 1 ≡ at = omega arith in
    let step = left_step tokens (at - 1) d (omega arith) in
    let moved = rw here at step in
    rw (next, is) (append_assoc made more (text_left (map spelled (drop at tokens))) ∙ ap (λ xs. made ++ xs) (sym moved) ∙ before)

-- one token is left, or none
last_left : (tokens : List Token) (n : ℕ) → length tokens ≤ suc n → text_left (map spelled (drop n tokens)) ≡ []
last_left [] zero all = refl
last_left [] (suc n) all = refl
last_left (one ∷ []) zero all = refl
last_left (one ∷ two ∷ rest) zero all = absurd (omega arith)
last_left (one ∷ rest) (suc n) all = last_left rest n (omega arith)

pub text_end : (tokens : List Token) (at : ℕ) (made all : List ℕ) → 1 ≤ at → length tokens ≤ at
    → made ++ text_left (map spelled (drop (at - 1) tokens)) ≡ all → made ≡ all
text_end tokens at made all some within is =
    sym (append-nil made) ∙ ap (λ xs. made ++ xs) (sym (last_left tokens (at - 1) (omega arith))) ∙ is
