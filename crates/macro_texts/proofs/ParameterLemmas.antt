-- The parameters of a line, one after the other.
use Rattle.std.proofs.Common.{◌≡◌, ℕ, zero, suc, ◌+◌, ◌-◌, ◌<◌, ◌≤◌, Bool, true, false, cond, List, [], ◌∷◌, ◌++◌, length, get_or, take, drop, map, refl, sym, subst, ap, ◌∙◌, append_assoc, arith, Result, Ok, Err}
use Rattle.std.proofs.lemmas.List.{take-map, drop-map, drop-drop, take_rest}
use Rattle.asm_base.specs.Tokens.{SpelledToken, spelled}
use Rattle.asm_base.specs.declared.tokens.Token.{Token}
use Rattle.asm_base.specs.declared.refusals.Refusal.{Refusal}
use Rattle.asm_base.specs.declared.refusals.Refusal.TheVariants.{Fault, NoMemory}
use Rattle.asm_base.specs.Refusals.{Fails, ◌>>=◌}
use Rattle.macro_texts.specs.declared.causes.MacroLineCause.{MacroLineCause}
use Rattle.macro_texts.specs.declared.parameters.Parameter.{Parameter}
use Rattle.macro_texts.specs.Parameters.{ParameterAs, goes_on, onto_first, parameter_parts, parameter_of, each_parameter, is_rest_kind, rest_is_last}
use Rattle.macro_texts.specs.ParametersSeen.{parameter_seen}
use Rattle.macro_texts.specs.PartLengths.{part_length, behind, IsFirstRead}

-- a parameter that takes the rest of a call stands before another
rest_by : (p : ParameterAs) (q : ParameterAs) (others : List ParameterAs) → is_rest_kind p.kind ≡ true → rest_is_last (p ∷ q ∷ others) ≡ false
rest_by p q others is = rw is refl

pub rest_refused : (parameters : List Parameter) (at : ℕ) (d : Parameter) → at + 1 < length parameters → is_rest_kind (get_or parameters at d).kind ≡ true
    → rest_is_last (map parameter_seen (drop at parameters)) ≡ false
rest_refused [] at d within is = absurd (omega arith)
rest_refused (p ∷ []) at d within is = absurd (omega arith)
rest_refused (p ∷ q ∷ others) zero d within is = rest_by (parameter_seen p) (parameter_seen q) (map parameter_seen others) is
rest_refused (p ∷ q ∷ others) (suc n) d within is = rest_refused (q ∷ others) n d (omega arith) is

-- one token is one parameter
last_part : (token : Token) (rest : List Token) → part_length (map spelled (drop (length rest) (token ∷ rest))) ≡ 1
last_part token [] = refl
last_part token (next ∷ rest) = last_part next rest

-- all tokens are of one parameter
pub end_part : (tokens : List Token) (at : ℕ) → 1 ≤ at → length tokens ≤ at → (1 ≤ length tokens → at ≤ length tokens)
    → part_length (map spelled tokens) ≡ (at - 1) + part_length (map spelled (drop (at - 1) tokens)) → length tokens ≡ part_length (map spelled tokens)
end_part [] at some all auto is = refl
end_part (token ∷ rest) at some all auto is =
    let fits = auto (omega arith) in
    let back : at - 1 ≡ length rest = omega (arith, fits) in
    let here = rw back at is in
    omega (arith, here, last_part token rest)

-- the first parameter in front of the others
parts_by : (goes : Bool) (first : SpelledToken) (others : List SpelledToken) (m : ℕ) → parameter_parts others ≡ take m others ∷ parameter_parts (drop m others)
    → cond goes (onto_first first (parameter_parts others)) ((first ∷ []) ∷ parameter_parts others)
    ≡ take (cond goes (suc m) 1) (first ∷ others) ∷ parameter_parts (drop (cond goes (suc m) 1) (first ∷ others))
parts_by true first others m is = ap (onto_first first) is
parts_by false first others m is = refl

parts_step : (first : SpelledToken) (rest : List SpelledToken)
    → parameter_parts (first ∷ rest) ≡ take (part_length (first ∷ rest)) (first ∷ rest) ∷ parameter_parts (drop (part_length (first ∷ rest)) (first ∷ rest))
parts_step first [] = refl
parts_step first (next ∷ rest) = parts_by (goes_on first next) first (next ∷ rest) (part_length (next ∷ rest)) (parts_step next rest)

length_by : (goes : Bool) (m : ℕ) → 0 < cond goes (suc m) 1
length_by true m = omega arith
length_by false m = omega arith

some_part : (first : SpelledToken) (rest : List SpelledToken) → 0 < part_length (first ∷ rest)
some_part first [] = omega arith
some_part first (next ∷ rest) = length_by (goes_on first next) (part_length (next ∷ rest))

within_by : (goes : Bool) (m k : ℕ) → m ≤ suc k → cond goes (suc m) 1 ≤ suc (suc k)
within_by true m k fits = omega arith
within_by false m k fits = omega arith

part_within : (first : SpelledToken) (rest : List SpelledToken) → part_length (first ∷ rest) ≤ length (first ∷ rest)
part_within first [] = omega arith
part_within first (next ∷ rest) = within_by (goes_on first next) (part_length (next ∷ rest)) (length rest) (part_within next rest)

-- one more, in front of what the others give
pub ahead : {A : Type 0} (made : List A) (one : A) (others : Result (List A) MacroLineCause)
    → behind (made ++ one ∷ []) others ≡ behind made (others >>= λ more. Ok (one ∷ more))
ahead made one (Ok more) = ap Ok (append_assoc made (one ∷ []) more)
ahead made one (Err cause) = refl

given_by : (found : Result ParameterAs MacroLineCause) (made : List ParameterAs) (one : ParameterAs) (others : Result (List ParameterAs) MacroLineCause)
    → found ≡ Ok one → behind (made ++ one ∷ []) others ≡ behind made (found >>= λ parameter. others >>= λ more. Ok (parameter ∷ more))
given_by found made one others is = rw is (ahead made one others)

read_some : (made : List ParameterAs) (one : ParameterAs) (first : SpelledToken) (rest : List SpelledToken) (n : ℕ)
    → n ≡ part_length (first ∷ rest) → parameter_of (take n (first ∷ rest)) ≡ Ok one → IsFirstRead made (made ++ one ∷ []) (first ∷ rest) n
read_some made one first rest n is found =
    let step = parts_step first rest in
    let here = rw (← is) at step in
    record {
      some = omega (arith, some_part first rest);
      within = omega (arith, part_within first rest);
      gives = rw here (given_by (parameter_of (take n (first ∷ rest))) made one (each_parameter (parameter_parts (drop n (first ∷ rest)))) found);
    }

pub one_read : (made now : List ParameterAs) (one : ParameterAs) (tokens : List Token) (n : ℕ) → 0 < length tokens → n ≡ part_length (map spelled tokens)
    → parameter_of (map spelled (take n tokens)) ≡ Ok one → now ≡ made ++ one ∷ [] → IsFirstRead made now (map spelled tokens) n
one_read made now one [] n some is found e = absurd (omega arith)
one_read made now one (token ∷ rest) n some is found e =
    let taken = sym (take-map spelled n (token ∷ rest)) in
    rw e (read_some made one (spelled token) (map spelled rest) n is (ap parameter_of (sym taken) ∙ found))

-- the first parameter has a fault, and so have all
pub refused_by : {A B : Type 0} (front : List B) (refusal : Refusal MacroLineCause) (found : Result A MacroLineCause) (step : A → Result (List B) MacroLineCause)
    → Fails refusal found → Fails refusal (behind front (found >>= step))
refused_by front (Fault cause) found step is = rw is refl
refused_by front NoMemory found step is = tt

pub none_read : (made : List ParameterAs) (tokens : List Token) (n : ℕ) (refusal : Refusal MacroLineCause) → 0 < length tokens → n ≡ part_length (map spelled tokens)
    → Fails refusal (parameter_of (map spelled (take n tokens))) → Fails refusal (behind made (each_parameter (parameter_parts (map spelled tokens))))
none_read made [] n refusal some is fails = absurd (omega arith)
none_read made (token ∷ rest) n refusal some is fails =
    let step = parts_step (spelled token) (map spelled rest) in
    let here = rw (← is) at step in
    let taken : map spelled (take n (token ∷ rest)) ≡ take n (spelled token ∷ map spelled rest) = sym (take-map spelled n (token ∷ rest)) in
    let found : Fails refusal (parameter_of (take n (spelled token ∷ map spelled rest))) = subst (λ (xs : List SpelledToken). Fails refusal (parameter_of xs)) taken fails in
    rw here (refused_by made refusal (parameter_of (take n (spelled token ∷ map spelled rest))) (λ parameter. each_parameter (parameter_parts (drop n (spelled token ∷ map spelled rest))) >>= λ others. Ok (parameter ∷ others)) found)

-- what is left behind so many tokens of what is left
pub left_is : (tokens : List Token) (at : ℕ) → map spelled (take (length tokens - at) (drop at tokens)) ≡ map spelled (drop at tokens)
left_is tokens at = ap (map spelled) (take_rest tokens at)

pub next_is : (tokens : List Token) (at n : ℕ) → drop n (map spelled (take (length tokens - at) (drop at tokens))) ≡ map spelled (drop (at + n) tokens)
next_is tokens at n =
    ap (drop n) (left_is tokens at) ∙ drop-map spelled n (drop at tokens) ∙ ap (map spelled) (drop-drop n at tokens)
