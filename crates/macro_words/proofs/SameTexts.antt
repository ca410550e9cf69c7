-- The two texts of a comparison, by where the first comma stands.
use Rattle.std.proofs.Common.{◌≡◌, ℕ, ◌+◌, ◌-◌, ◌<◌, ◌≤◌, ◌||◌, not, Bool, true, false, cond, List, [], ◌∷◌, map, length, take, drop, Result, Ok, Err, refl, sym, ap, ◌∙◌, subst, arith}
use Rattle.std.specs.List.{list_any, position_or_len}
use Rattle.std.specs.Str.{bytes_eq}
use Rattle.std.proofs.lemmas.List.{length-map, length-take, take-map, drop-map, take_rest}
use Rattle.asm_base.specs.Refusals.{Returns}
use Rattle.asm_base.specs.Tokens.{SpelledToken, spelled}
use Rattle.asm_base.specs.declared.refusals.Refusal.{Refusal}
use Rattle.asm_base.specs.declared.tokens.Token.{Token}
use Rattle.asm_operands.specs.Operands.{is_comma}
use Rattle.macro_texts.specs.TokenTexts.{text_of}
use Rattle.macro_words.specs.declared.causes.MacroCause.{MacroCause}
use Rattle.macro_words.specs.declared.causes.MacroCause.TheVariants.{BadMacroLine}
use Rattle.macro_words.specs.Conditions.{same_texts}

any_here : (now rest : Bool) (more size : ℕ) → cond (not now) (1 + more) 0 < 1 + size → (more < size → rest ≡ true) → (now || rest) ≡ true
any_here true rest more size less later = refl
any_here false rest more size less later = later (omega arith)

none_here : (now rest : Bool) (more size : ℕ) → 1 + size ≤ cond (not now) (1 + more) 0 → (size ≤ more → rest ≡ false) → (now || rest) ≡ false
none_here true rest more size less later = absurd (omega arith)
none_here false rest more size less later = later (omega arith)

-- a comma stands there, or none
has_comma : (tokens : List SpelledToken) → position_or_len is_comma tokens < length tokens → list_any is_comma tokens ≡ true
has_comma [] less = absurd (omega arith)
has_comma (token ∷ rest) less =
    any_here (is_comma token) (list_any is_comma rest) (position_or_len is_comma rest) (length rest) (omega (arith, less)) (has_comma rest)

no_comma : (tokens : List SpelledToken) → length tokens ≤ position_or_len is_comma tokens → list_any is_comma tokens ≡ false
no_comma [] less = refl
no_comma (token ∷ rest) less =
    none_here (is_comma token) (list_any is_comma rest) (position_or_len is_comma rest) (length rest) (omega (arith, less)) (no_comma rest)

same_at : (tokens : List SpelledToken) (at : ℕ) → at ≡ position_or_len is_comma tokens → at < length tokens
    → Ok (bytes_eq (text_of (take at tokens)) (text_of (drop (at + 1) tokens))) ≡ same_texts tokens
same_at tokens at is less =
    let there : list_any is_comma tokens ≡ true = has_comma tokens (omega (arith, is, less)) in
    let size : length (take (position_or_len is_comma tokens) tokens) ≡ at = omega (arith, is, less, length-take (position_or_len is_comma tokens) tokens) in
    rw (there, size, sym is) refl

-- the parts' texts, as the program compares them
pub same_parts : (tokens : List Token) (at : ℕ) (result : Result Bool (Refusal MacroCause))
    → at ≡ position_or_len is_comma (map spelled tokens) → at < length tokens
    → Returns result (Ok (bytes_eq (text_of (map spelled (take at tokens))) (text_of (map spelled (take (length tokens - (at + 1)) (drop (at + 1) tokens))))))
    → Returns result (same_texts (map spelled tokens))
same_parts tokens at result is less given =
    let behind : map spelled (take (length tokens - (at + 1)) (drop (at + 1) tokens)) ≡ drop (at + 1) (map spelled tokens) =
    ap (map spelled) (take_rest tokens (at + 1)) ∙ sym (drop-map spelled (at + 1) tokens) in
    let front : map spelled (take at tokens) ≡ take at (map spelled tokens) = sym (take-map spelled at tokens) in
    let within : at < length (map spelled tokens) = omega (arith, less, length-map tokens spelled) in
    subst (Returns result) (same_at (map spelled tokens) at is within)
    (subst (λ ys. Returns result (Ok (bytes_eq (text_of (take at (map spelled tokens))) (text_of ys)))) behind
    (subst (λ xs. Returns result (Ok (bytes_eq (text_of xs) (text_of (map spelled (take (length tokens - (at + 1)) (drop (at + 1) tokens))))))) front given))

pub no_parts : (tokens : List Token) (at : ℕ) → at ≡ position_or_len is_comma (map spelled tokens) → length tokens ≤ at
    → same_texts (map spelled tokens) ≡ Err BadMacroLine
no_parts tokens at is above =
    let none : list_any is_comma (map spelled tokens) ≡ false = no_comma (map spelled tokens) (omega (arith, is, above, length-map tokens spelled)) in
    rw none refl
