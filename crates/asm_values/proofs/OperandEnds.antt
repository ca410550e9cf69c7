-- Where an operand ends, and what it is when it is a number.
use Rattle.std.proofs.Common.{◌≡◌, ℕ, zero, suc, not, ◌+◌, ◌-◌, ◌<◌, ◌≤◌, Bool, true, false, cond, ◌||◌, List, [], ◌∷◌, length, get_or, take, drop, map, Option, Some, None, Ok, refl, sym, ap, subst, ◌∙◌, arith, length-drop}
use Rattle.std.specs.List.{list_any, slice_split, onto_first, position_or_len}
use Rattle.std.proofs.lemmas.List.{length-map, drop-map, drop-drop, take_rest, take_all}
use Rattle.std.proofs.lemmas.List.Splits.{slice_split_first}
use Rattle.asm_base.specs.declared.tokens.Token.{Token}
use Rattle.asm_base.specs.declared.tokens.TokenKind.TheVariants.{Name}
use Rattle.asm_base.specs.Tokens.{SpelledToken, spelled}
use Rattle.asm_expr.specs.Trees.{Tree}
use Rattle.expr_texts.specs.Reading.{read, reading, read_at}
use Rattle.asm_operands.specs.declared.constants.FrontConstant.{FrontConstant}
use Rattle.asm_operands.specs.declared.constants.FrontValue.{FrontValue}
use Rattle.asm_operands.specs.Constants.{IsConstant, IsSingle, IsFront, FindsLoneConstant}
use Rattle.asm_operands.specs.Worths.{IsWorth, IsFrontWorth}
use Rattle.asm_uses.specs.declared.places.View.{View}
use Rattle.asm_uses.specs.declared.values.Value.{Value}
use Rattle.asm_uses.specs.declared.values.Value.TheVariants.{Number}
use Rattle.asm_uses.specs.Values.{IsWorthIn, IsNumberIn}
use Rattle.asm_values.specs.declared.constant_data.Constant.{Constant}
use Rattle.asm_values.specs.ConstantData.{ends_at, IsNumberAt, FindsLone}
use Rattle.asm_operands.specs.Operands.{is_comma, operands_of}
use Rattle.asm_values.proofs.TokenLists.{one_more_left}

-- the list alone, where the first element passes or no element does
alone_by : {X : Type 0} (passes : Bool) (x : X) (xs : List X) (parts : List (List X)) (n : ℕ) → length (x ∷ xs) ≤ cond (not passes) (1 + n) 0
    → (length xs ≤ n → parts ≡ xs ∷ []) → cond passes ([] ∷ parts) (onto_first x parts) ≡ (x ∷ xs) ∷ []
alone_by true x xs parts n all rest = absurd (omega arith)
alone_by false x xs parts n all rest = ap (onto_first x) (rest (omega arith))

alone : {X : Type 0} (p : X → Bool) (xs : List X) → length xs ≤ position_or_len p xs → slice_split p xs ≡ xs ∷ []
alone p [] all = refl
alone p (x ∷ xs) all = alone_by (p x) x xs (slice_split p xs) (position_or_len p xs) all (alone p xs)

pub ends_none : (tokens : List Token) (at : ℕ) → length tokens ≤ at → true ≡ ends_at (map spelled tokens) at
unfolding ends_at
ends_none [] at all = refl
ends_none (token ∷ rest) zero all = absurd (omega arith)
ends_none (token ∷ rest) (suc at) all = ends_none rest at (omega arith)

pub ends_some : (tokens : List Token) (at : ℕ) (d : Token) → at < length tokens → is_comma (spelled (get_or tokens at d)) ≡ ends_at (map spelled tokens) at
unfolding ends_at
ends_some [] at d inside = absurd (omega arith)
ends_some (token ∷ rest) zero d inside = refl
ends_some (token ∷ rest) (suc at) d inside = ends_some rest at d (omega arith)

-- the same of what is left
ends_behind : (tokens : List SpelledToken) (at n : ℕ) → ends_at (drop at tokens) n ≡ ends_at tokens (at + n)
unfolding ends_at
ends_behind tokens zero n = let same : n ≡ 0 + n = omega arith in ap (ends_at tokens) same
ends_behind [] (suc at) n = refl
ends_behind (token ∷ rest) (suc at) n = let same : suc (at + n) ≡ suc at + n = omega arith in ends_behind rest at n ∙ ap (ends_at (token ∷ rest)) same

neither : (a b : Bool) → (a || b) ≡ false → (a ≡ false) × (b ≡ false)
neither true b is = cc
neither false b is = (refl, is)

-- the first comma stands where the operand ends
ends_so : (tokens : List SpelledToken) (n : ℕ) → n ≤ length tokens → list_any is_comma (take n tokens) ≡ false → ends_at tokens n ≡ true → n ≡ position_or_len is_comma tokens
unfolding ends_at
ends_so [] zero few none ends = refl
ends_so [] (suc n) few none ends = absurd (omega arith)
ends_so (token ∷ rest) zero few none ends = rw ends refl
ends_so (token ∷ rest) (suc n) few none ends =
    let apart = neither (is_comma token) (list_any is_comma (take n rest)) none in
    let later = ends_so rest n (omega arith) apart.1 ends in
    let here = apart.0 in
    rw here (omega (arith, later))

module _ (IsNumber : List SpelledToken → ℕ → Type 0) where
  front_at : (tokens : List SpelledToken) (at value n : ℕ) → at ≤ length tokens → n ≤ length (drop at tokens) → IsNumber (take n (drop at tokens)) value
      → list_any is_comma (take n (drop at tokens)) ≡ false → ends_at tokens (at + n) ≡ true → IsNumberAt IsNumber tokens at (record { value = value; end = at + n })
  front_at tokens at value n inside within one apart ends =
      let left = length-drop at tokens in
      let same : n ≡ (at + n) - at = omega arith in
      record {
        within = omega arith;
        begins = omega arith;
        ends = ap (λ n. at + n) (ends_so (drop at tokens) n within apart (ends_behind tokens at n ∙ ends));
        one = subst (λ n. IsNumber (take n (drop at tokens)) value) same one;
      }

  pub slice_at : (tokens : List Token) (at value n : ℕ) → at ≤ length tokens → n ≤ length (map spelled (take (length tokens - at) (drop at tokens)))
      → IsNumber (take n (map spelled (take (length tokens - at) (drop at tokens)))) value → list_any is_comma (take n (map spelled (take (length tokens - at) (drop at tokens)))) ≡ false
      → true ≡ ends_at (map spelled tokens) (at + n) → IsNumberAt IsNumber (map spelled tokens) at (record { value = value; end = at + n })
  slice_at tokens at value n inside within one apart ends =
      let same : map spelled (take (length tokens - at) (drop at tokens)) ≡ drop at (map spelled tokens) = ap (map spelled) (take_rest tokens at) ∙ sym (drop-map spelled at tokens) in
      front_at (map spelled tokens) at value n (omega (arith, length-map tokens spelled)) (subst (λ ts. n ≤ length ts) same within) (subst (λ ts. IsNumber (take n ts) value) same one)
      (subst (λ ts. list_any is_comma (take n ts) ≡ false) same apart) (sym ends)

pub number_at : (tokens : List Token) (at : ℕ) (front : FrontConstant) → at ≤ length tokens → IsFront (map spelled (take (length tokens - at) (drop at tokens))) front
    → true ≡ ends_at (map spelled tokens) (at + front.length) → IsNumberAt IsConstant (map spelled tokens) at (record { value = front.value; end = at + front.length })
number_at tokens at front inside is ends = slice_at IsConstant tokens at front.value front.length inside is.within is.one is.apart ends

pub known_at : (view : View) (tokens : List Token) (at value : ℕ) (front : FrontValue Value) → at ≤ length tokens
    → IsFrontWorth (IsWorthIn view) (map spelled (take (length tokens - at) (drop at tokens))) front → front.value ≡ Number value
    → true ≡ ends_at (map spelled tokens) (at + front.length) → IsNumberAt (IsNumberIn view) (map spelled tokens) at (record { value = value; end = at + front.length })
known_at view tokens at value front inside is known ends =
    slice_at (IsNumberIn view) tokens at value front.length inside is.within
    (subst (λ found. IsWorth (IsWorthIn view) (take front.length (map spelled (take (length tokens - at) (drop at tokens)))) found) known is.one) is.apart ends

pub single_at : (tokens : List Token) (at value : ℕ) (d : Token) → at < length tokens → IsSingle (spelled (get_or tokens at d)) value
    → true ≡ ends_at (map spelled tokens) (at + 1) → IsNumberAt IsConstant (map spelled tokens) at (record { value = value; end = at + 1 })
single_at tokens at value d inside is ends =
    let left : spelled (get_or tokens at d) ∷ map spelled (drop (at + 1) tokens) ≡ drop at (map spelled tokens) = sym (one_more_left tokens at d inside) ∙ sym (drop-map spelled at tokens) in
    let apart : list_any is_comma (spelled (get_or tokens at d) ∷ []) ≡ false = let apart = is.apart in rw apart refl in
    front_at IsConstant (map spelled tokens) at value 1 (omega (arith, length-map tokens spelled))
    (subst (λ ts. 1 ≤ length ts) left (omega arith)) (subst (λ ts. IsConstant (take 1 ts) value) left is.one) (subst (λ ts. list_any is_comma (take 1 ts) ≡ false) left apart) (sym ends)

-- no tokens are no expression
nothing_read : (tree : Tree) → reading 1 0 [] ≡ Ok (read tree []) → ⊥
unfolding reading read_at
nothing_read tree is = cc

-- tokens without a comma are one operand
no_comma : (tokens : List SpelledToken) → list_any is_comma tokens ≡ false → length tokens ≤ position_or_len is_comma tokens
no_comma [] none = omega arith
no_comma (token ∷ rest) none =
    let apart = neither (is_comma token) (list_any is_comma rest) none in
    let here = apart.0 in
    let later = no_comma rest apart.1 in
    rw here (omega arith)

pub lone_found : (tokens : List SpelledToken) (answer : Option ℕ) → FindsLoneConstant tokens answer → FindsLone tokens answer
lone_found [] (Some n) is = let one = is.one in let reads = one.reads in absurd (nothing_read one.tree reads)
lone_found (token ∷ rest) (Some n) is = record { operands = alone is_comma (token ∷ rest) (no_comma (token ∷ rest) is.apart); one = is.one }
lone_found tokens None is = tt

-- the operands from the found one on, with more behind it or with none
pub with_more : (IsNumber : List SpelledToken → ℕ → Type 0) (tokens : List Token) (at : ℕ) (found : Constant) → IsNumberAt IsNumber (map spelled tokens) at found → found.end < length tokens
    → slice_split is_comma (drop at (map spelled tokens)) ≡ take (found.end - at) (drop at (map spelled tokens)) ∷ slice_split is_comma (drop (found.end + 1) (map spelled tokens))
with_more IsNumber tokens at found is inside =
    let all : List SpelledToken = map spelled tokens in
    let long = length-map tokens spelled in
    let left = length-drop at all in
    let begins = is.begins in
    let ends = is.ends in
    let n : ℕ = position_or_len is_comma (drop at all) in
    let same : n ≡ found.end - at = omega arith in
    let behind : at + (n + 1) ≡ found.end + 1 = omega arith in
    slice_split_first is_comma (drop at all) (record { kind = Name; bytes = []; start = 0 }) (omega arith)
    ∙ ap (λ k. take k (drop at all) ∷ slice_split is_comma (drop (n + 1) (drop at all))) same
    ∙ ap (λ ts. take (found.end - at) (drop at all) ∷ slice_split is_comma ts) (drop-drop (n + 1) at all ∙ ap (λ k. drop k all) behind)

pub with_none : (IsNumber : List SpelledToken → ℕ → Type 0) (tokens : List Token) (at : ℕ) (found : Constant) → IsNumberAt IsNumber (map spelled tokens) at found → length tokens ≤ found.end
    → slice_split is_comma (drop at (map spelled tokens)) ≡ take (found.end - at) (drop at (map spelled tokens)) ∷ []
with_none IsNumber tokens at found is all_tokens =
    let all : List SpelledToken = map spelled tokens in
    let long = length-map tokens spelled in
    let left = length-drop at all in
    let ends = is.ends in
    alone is_comma (drop at all) (omega arith)
    ∙ ap (λ ts. ts ∷ []) (sym (take_all (found.end - at) (drop at all) (omega arith)))

-- where tokens stand, operands are what stands between commas
pub operands_split : (tokens : List Token) → 0 < length tokens → operands_of (map spelled tokens) ≡ slice_split is_comma (map spelled tokens)
operands_split [] some = absurd (omega arith)
operands_split (token ∷ rest) some = refl
