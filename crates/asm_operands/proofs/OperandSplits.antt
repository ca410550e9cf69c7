-- The first operand in front of the others, by the first comma.
use Rattle.std.proofs.Common.{◌≡◌, ℕ, not, ◌+◌, ◌-◌, ◌<◌, ◌≤◌, Bool, true, false, cond, List, [], ◌∷◌, length, take, drop, map, refl, sym, ap, ◌∙◌, arith}
use Rattle.std.proofs.lemmas.List.{length-map, take-map, drop-map, take_rest}
use Rattle.std.proofs.lemmas.List.Splits.{slice_split_first}
use Rattle.std.specs.List.{slice_split, onto_first, position_or_len}
use Rattle.asm_base.specs.Tokens.{spelled}
use Rattle.asm_base.specs.declared.tokens.Token.{Token}
use Rattle.asm_base.specs.declared.tokens.TokenKind.TheVariants.{Name}
use Rattle.asm_operands.specs.Operands.{is_comma}

-- a comma stands at this place, and none before it
pub split_first : (tokens : List Token) (n : ℕ) → n ≡ position_or_len is_comma (map spelled tokens) → n < length tokens
    → slice_split is_comma (map spelled tokens) ≡ map spelled (take n tokens) ∷ slice_split is_comma (map spelled (take (length tokens - (n + 1)) (drop (n + 1) tokens)))
split_first tokens n is inside =
    let within : position_or_len is_comma (map spelled tokens) < length (map spelled tokens) = omega (arith, length-map tokens spelled) in
    let parts = slice_split_first is_comma (map spelled tokens) (record { kind = Name; bytes = []; start = 0 }) within in
    parts
    ∙ ap (λ k. take k (map spelled tokens) ∷ slice_split is_comma (drop (k + 1) (map spelled tokens))) (sym is)
    ∙ ap (λ xs. xs ∷ slice_split is_comma (drop (n + 1) (map spelled tokens))) (take-map spelled n tokens)
    ∙ ap (λ xs. map spelled (take n tokens) ∷ slice_split is_comma xs) (drop-map spelled (n + 1) tokens ∙ ap (map spelled) (sym (take_rest tokens (n + 1))))

-- the list alone, where the first element passes or no element does
alone_by : {X : Type 0} (passes : Bool) (x : X) (xs : List X) (parts : List (List X)) (n : ℕ) → length (x ∷ xs) ≤ cond (not passes) (1 + n) 0
    → (length xs ≤ n → parts ≡ xs ∷ []) → cond passes ([] ∷ parts) (onto_first x parts) ≡ (x ∷ xs) ∷ []
alone_by true x xs parts n all rest = absurd (omega arith)
alone_by false x xs parts n all rest = ap (onto_first x) (rest (omega arith))

alone : {X : Type 0} (p : X → Bool) (xs : List X) → length xs ≤ position_or_len p xs → slice_split p xs ≡ xs ∷ []
alone p [] all = refl
alone p (x ∷ xs) all = alone_by (p x) x xs (slice_split p xs) (position_or_len p xs) all (alone p xs)

-- what an operand stands in front of is longer than what stands behind it
pub shorter : {X : Type 0} (first : X) (all rest : List X) → all ≡ first ∷ rest → length rest < length all
shorter first all rest is = omega (arith, ap length is)

-- no comma stands in the tokens
pub split_last : (tokens : List Token) (n : ℕ) → n ≡ position_or_len is_comma (map spelled tokens) → length tokens ≤ n
    → slice_split is_comma (map spelled tokens) ≡ map spelled tokens ∷ []
split_last tokens n is all = alone is_comma (map spelled tokens) (omega (arith, length-map tokens spelled))
