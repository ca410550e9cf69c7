-- The arguments of a call, one after the other.
use Rattle.std.proofs.Common.{◌≡◌, ℕ, suc, not, nat_le, ◌||◌, ◌+◌, ◌-◌, ◌<◌, ◌≤◌, Bool, true, false, cond, List, [], ◌∷◌, ◌++◌, length, take, drop, map, refl, sym, ap, ◌∙◌, arith, Result, Ok}
use Rattle.std.proofs.lemmas.List.{append-nil, length-drop, length-map}
use Rattle.std.proofs.Math.Seq.{drop-length}
use Rattle.std.proofs.Math.ListN.{drop_of_length-le}
use Rattle.std.proofs.lemmas.Bool.Decides.{nat_tests}
use Rattle.std.specs.List.{position_or_len}
use Rattle.asm_base.specs.Tokens.{SpelledToken, spelled}
use Rattle.asm_base.specs.declared.tokens.Token.{Token}
use Rattle.asm_base.specs.declared.refusals.Refusal.{Refusal}
use Rattle.asm_base.specs.Refusals.{Fails, ◌>>=◌}
use Rattle.asm_operands.specs.Operands.{is_comma}
use Rattle.macro_texts.specs.declared.causes.MacroLineCause.{MacroLineCause}
use Rattle.macro_texts.specs.Parameters.{ParameterAs}
use Rattle.macro_texts.specs.Arguments.{GivenAs, if_any, later_arguments, arguments_of, names_parameter, given_by, given_from, place_behind}
use Rattle.macro_texts.specs.ArgumentsSeen.{IsArgumentRead, passed_length}
use Rattle.macro_texts.specs.PartLengths.{behind}
use Rattle.macro_texts.proofs.ParameterLemmas.{ahead, refused_by, left_is}

-- the arguments behind the first comma
later_by : (comma : Bool) (rest : List SpelledToken) (n : ℕ) → later_arguments rest ≡ arguments_of (drop (suc n) rest)
    → cond comma (if_any rest ++ later_arguments rest) (later_arguments rest) ≡ arguments_of (drop (cond (not comma) (1 + n) 0) rest)
later_by true rest n is = refl
later_by false rest n is =
    let one : 1 + n ≡ suc n = omega arith in
    rw one is

pub later_is : (tokens : List SpelledToken) → later_arguments tokens ≡ arguments_of (drop (suc (position_or_len is_comma tokens)) tokens)
later_is [] = refl
later_is (token ∷ rest) = later_by (is_comma token) rest (position_or_len is_comma rest) (later_is rest)

-- what is passed of an argument that does not take the rest
passed_by : (tokens : List SpelledToken) (n : ℕ) (test : Bool) → nat_le (length tokens) n ≡ test
    → drop (cond test (length tokens) (n + 1)) tokens ≡ drop (suc n) tokens
passed_by tokens n true is =
    let fits : length tokens ≤ n = grind (arith, nat_tests) in
    let more : length tokens ≤ suc n = omega (arith, fits) in
    drop-length tokens ∙ sym (drop_of_length-le tokens more)
passed_by tokens n false is =
    let one : n + 1 ≡ suc n = omega arith in
    rw one refl

pub behind_comma : (tokens : List SpelledToken) → drop (passed_length false tokens) tokens ≡ drop (suc (position_or_len is_comma tokens)) tokens
behind_comma tokens = passed_by tokens (position_or_len is_comma tokens) (nat_le (length tokens) (position_or_len is_comma tokens)) refl

-- what one gives, in front of what the others give
given_rest : (rest : Bool) (parameters : List ParameterAs) (made : List GivenAs) (one : GivenAs) (tokens : List SpelledToken) (place : ℕ)
    → behind (made ++ one ∷ []) (given_from parameters place (arguments_of (drop (passed_length rest tokens) tokens)))
    ≡ behind made (cond rest (Ok (one ∷ [])) (given_from parameters place (arguments_of (drop (suc (position_or_len is_comma tokens)) tokens)) >>= λ others. Ok (one ∷ others)))
given_rest true parameters made one tokens place =
    let none = drop-length tokens in
    rw none (ap Ok (append-nil (made ++ one ∷ [])))
given_rest false parameters made one tokens place =
    let same = behind_comma tokens in
    rw same (ahead made one (given_from parameters place (arguments_of (drop (suc (position_or_len is_comma tokens)) tokens))))

given_with : (parameters : List ParameterAs) (found : Result GivenAs MacroLineCause) (made : List GivenAs) (one : GivenAs) (tokens : List SpelledToken) (place : ℕ) → found ≡ Ok one
    → behind (made ++ one ∷ []) (given_from parameters place (arguments_of (drop (passed_length one.rest tokens) tokens)))
    ≡ behind made (found >>= λ given. (cond given.rest (Ok (given ∷ [])) (given_from parameters place (arguments_of (drop (suc (position_or_len is_comma tokens)) tokens)) >>= λ others. Ok (given ∷ others))))
given_with parameters found made one tokens place is = rw is (given_rest one.rest parameters made one tokens place)

-- something is passed, and no more than there is
pub passed_some : (rest test : Bool) (k n : ℕ) → 0 < k → 0 < cond (rest || test) k (n + 1)
passed_some true test k n some = some
passed_some false true k n some = some
passed_some false false k n some = omega arith

pub passed_fits : (rest test : Bool) (k n : ℕ) → nat_le k n ≡ test → cond (rest || test) k (n + 1) ≤ k
passed_fits true test k n is = omega arith
passed_fits false true k n is = omega arith
passed_fits false false k n is = grind (arith, nat_tests)

read_given : (parameters : List ParameterAs) (made : List GivenAs) (one : GivenAs) (token : SpelledToken) (rest : List SpelledToken) (place : ℕ) → given_by parameters place (token ∷ rest) ≡ Ok one
    → IsArgumentRead parameters made (made ++ one ∷ []) place (token ∷ rest) (record { length = passed_length one.rest (token ∷ rest); place = place_behind parameters place (token ∷ rest) })
read_given parameters made one token rest place found =
    let later = later_is (token ∷ rest) in
    record {
      some = passed_some one.rest (nat_le (length (token ∷ rest)) (position_or_len is_comma (token ∷ rest))) (length (token ∷ rest)) (position_or_len is_comma (token ∷ rest)) (omega arith);
      within = passed_fits one.rest (nat_le (length (token ∷ rest)) (position_or_len is_comma (token ∷ rest))) (length (token ∷ rest)) (position_or_len is_comma (token ∷ rest)) refl;
      gives = given_with parameters (given_by parameters place (token ∷ rest)) made one (token ∷ rest) (place_behind parameters place (token ∷ rest)) found
          ∙ ap (λ xs. behind made (given_by parameters place (token ∷ rest) >>= λ given. (cond given.rest (Ok (given ∷ [])) (given_from parameters (place_behind parameters place (token ∷ rest)) xs >>= λ others. Ok (given ∷ others))))) (sym later);
    }

pub one_given : (parameters : List ParameterAs) (made now : List GivenAs) (one : GivenAs) (tokens : List SpelledToken) (place n next : ℕ) → 0 < length tokens → given_by parameters place tokens ≡ Ok one
    → now ≡ made ++ one ∷ [] → n ≡ passed_length one.rest tokens → next ≡ place_behind parameters place tokens
    → IsArgumentRead parameters made now place tokens (record { length = n; place = next })
one_given parameters made now one [] place n next some found is passed behind = absurd (omega arith)
one_given parameters made now one (token ∷ rest) place n next some found is passed behind = rw (is, passed, behind) (read_given parameters made one token rest place found)

pub none_given : (parameters : List ParameterAs) (made : List GivenAs) (tokens : List SpelledToken) (place : ℕ) (refusal : Refusal MacroLineCause) → 0 < length tokens → Fails refusal (given_by parameters place tokens)
    → Fails refusal (behind made (given_from parameters place (arguments_of tokens)))
none_given parameters made [] place refusal some fails = absurd (omega arith)
none_given parameters made (token ∷ rest) place refusal some fails =
    refused_by made refusal (given_by parameters place (token ∷ rest)) (λ one. (cond one.rest (Ok (one ∷ [])) (given_from parameters (place_behind parameters place (token ∷ rest)) (later_arguments (token ∷ rest)) >>= λ others. Ok (one ∷ others)))) fails

-- the place behind an argument by name, and behind one by place
pub named_place : (parameters : List ParameterAs) (place : ℕ) (tokens : List SpelledToken) (n : ℕ) → names_parameter tokens ≡ true → n ≡ length parameters → n ≡ place_behind parameters place tokens
named_place parameters place tokens n named is = rw named is

pub next_place : (parameters : List ParameterAs) (place : ℕ) (tokens : List SpelledToken) (n : ℕ) → names_parameter tokens ≡ false → n ≡ suc place → n ≡ place_behind parameters place tokens
next_place parameters place tokens n named is = rw named is

-- what is left behind so many tokens of what is left
pub rest_within : (tokens : List Token) (at n : ℕ) → at ≤ length tokens → n ≤ length (map spelled (take (length tokens - at) (drop at tokens))) → at + n ≤ length tokens
rest_within tokens at n inside fits =
    omega (arith, ap length (left_is tokens at), length-map (drop at tokens) spelled, length-drop at tokens)
