-- Tests of tokens, of the program's and as they are spelled.
use Rattle.std.proofs.Common.{◌≡◌, ℕ, zero, suc, drop, ◌-◌, ◌||◌, ◌&&◌, ◌+◌, Bool, cond, List, [], ◌∷◌, length, map, take, refl, sym, ap, ◌∙◌}
use Rattle.std.proofs.lemmas.List.{length-map, drop-map}
use Rattle.std.specs.List.{list_any, list_all, prefix_len}
use Rattle.asm_base.specs.declared.tokens.Token.{Token}
use Rattle.asm_base.specs.Tokens.{SpelledToken, spelled}
use Rattle.intel_sums.specs.Sums.{but_last}
use Rattle.intel_operands.specs.OperandTexts.{up_to_comma}

-- a test that some token passes
pub any_spelled : (p : SpelledToken → Bool) (tokens : List Token) (b : Bool) → b ≡ list_any (λ token. p (spelled token)) tokens → b ≡ list_any p (map spelled tokens)
any_spelled p [] b is = is
any_spelled p (token ∷ tokens) b is = is ∙ ap (λ (rest : Bool). p (spelled token) || rest) (any_spelled p tokens (list_any (λ t. p (spelled t)) tokens) refl)

-- a test that all tokens pass
pub all_spelled : (p : SpelledToken → Bool) (tokens : List Token) (b : Bool) → b ≡ list_all (λ token. p (spelled token)) tokens → b ≡ list_all p (map spelled tokens)
all_spelled p [] b is = is
all_spelled p (token ∷ tokens) b is = is ∙ ap (λ (rest : Bool). p (spelled token) && rest) (all_spelled p tokens (list_all (λ t. p (spelled t)) tokens) refl)

-- how many tokens in front pass a test
pub front_spelled : (p : SpelledToken → Bool) (tokens : List Token) (n : ℕ) → n ≡ prefix_len (λ token. p (spelled token)) tokens → n ≡ prefix_len p (map spelled tokens)
front_spelled p [] n is = is
front_spelled p (token ∷ tokens) n is = is ∙ ap (λ (rest : ℕ). cond (p (spelled token)) (1 + rest) 0) (front_spelled p tokens (prefix_len (λ t. p (spelled t)) tokens) refl)

pub take_spelled : (n : ℕ) (tokens : List Token) → map spelled (take n tokens) ≡ take n (map spelled tokens)
take_spelled zero tokens = refl
take_spelled (suc n) [] = refl
take_spelled (suc n) (token ∷ tokens) = ap (λ (ts : List SpelledToken). spelled token ∷ ts) (take_spelled n tokens)

-- a text without its last token
pub but_last_spelled : (tokens front : List Token) → front ≡ take (length tokens - 1) tokens → map spelled front ≡ but_last (map spelled tokens)
but_last_spelled tokens front is =
    ap (λ (ts : List Token). map spelled ts) is ∙ take_spelled (length tokens - 1) tokens
    ∙ ap (λ (n : ℕ). take (n - 1) (map spelled tokens)) (sym (length-map tokens spelled))

-- what stands at a place up to a comma
pub text_spelled : (tokens text : List Token) (at n : ℕ) → n ≡ up_to_comma (map spelled (drop at tokens)) → text ≡ take n (drop at tokens)
    → map spelled text ≡ take (up_to_comma (drop at (map spelled tokens))) (drop at (map spelled tokens))
text_spelled tokens text at n count is =
    ap (λ (ts : List Token). map spelled ts) is ∙ take_spelled n (drop at tokens)
    ∙ ap (λ (m : ℕ). take m (map spelled (drop at tokens))) count
    ∙ ap (λ (ts : List SpelledToken). take (up_to_comma ts) ts) (sym (drop-map spelled at tokens))

-- one token at a place
pub one_spelled : (tokens text : List Token) (at : ℕ) → text ≡ take 1 (drop at tokens) → map spelled text ≡ take 1 (drop at (map spelled tokens))
one_spelled tokens text at is =
    ap (λ (ts : List Token). map spelled ts) is ∙ take_spelled 1 (drop at tokens) ∙ ap (λ (ts : List SpelledToken). take 1 ts) (sym (drop-map spelled at tokens))
