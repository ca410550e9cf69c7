-- What `parse` reads of a word, and the number of functions that the word asks for.
use Rattle.std.proofs.Common.{◌≡◌, ◌∙◌, ◌≤◌, ℕ, Bool, true, false, cond, nat_le, ◌&&◌, List, None, Some, Result, Ok, Err, decimal, refl, sym, ap, arith}
use Rattle.std.specs.Str.{bytes_eq}
use Rattle.std.specs.Str.Parse.{ParsesUnsigned, digits_value}
use Rattle.std.proofs.lemmas.Bool.{and_parts, both_ways, leb-true}
use Rattle.std.proofs.lemmas.Fmt.{decimal_is_IsNumeral, parse-decimal}
use Rattle.std.proofs.lemmas.Slice.Eq.{bytes_eq-Decides}
use Rattle.run_words.specs.Functions.{functions_in, functions_of, is_count}

-- the word is the number's text
counted : (number : ℕ) (word : List ℕ) → is_count number word ≡ true → (number ≤ 100000) × (decimal number ≡ word)
counted number word is =
    let parts = and_parts (nat_le 1 number && nat_le number 100000) (bytes_eq (decimal number) word) is in
    (leb-true number 100000 (and_parts (nat_le 1 number) (nat_le number 100000) parts.0).1, (bytes_eq-Decides (decimal number) word).0 parts.1)

-- so the number is read
read : {E : Type 0} (number : ℕ) (word : List ℕ) (answer : Result ℕ E) → is_count number word ≡ true → ParsesUnsigned 32 10 word answer → answer ≡ Ok number
read number word answer is parses =
    let is_text = counted number word is in
    parse-decimal 32 number word answer (omega (arith, is_text.0)) (omega (arith, is_text.0)) (sym is_text.1) parses

-- and is the value of the digits
valued : (number : ℕ) (word : List ℕ) → is_count number word ≡ true → digits_value 10 word ≡ number
valued number word is =
    let is_text = counted number word is in
    ap (λ text. digits_value 10 text) (sym is_text.1) ∙ (decimal_is_IsNumeral number (omega (arith, is_text.0))).1

-- a number that was read is that of the word, or the word asks for none
pub number_read : {E : Type 0} (word : List ℕ) (number : ℕ) (answer : Result ℕ E) → answer ≡ Ok number → ParsesUnsigned 32 10 word answer
    → functions_in number word ≡ functions_of word
unfolding functions_of
number_read word number answer was parses = by_tests (is_count number word) (is_count (digits_value 10 word) word) refl refl
  where
    by_tests : (one other : Bool) → is_count number word ≡ one → is_count (digits_value 10 word) word ≡ other
        → cond one (Some number) None ≡ cond other (Some (digits_value 10 word)) None
    by_tests true true is also = ap Some (sym (valued number word is))
    by_tests true false is also = absurd (both_ways _ also (ap (λ n. is_count n word) (valued number word is) ∙ is))
    by_tests false true is also =
        let both : Ok number ≡ Ok (digits_value 10 word) = sym was ∙ read (digits_value 10 word) word answer also parses in
        let same : number ≡ digits_value 10 word = cc in
        absurd (both_ways _ is (ap (λ n. is_count n word) same ∙ also))
    by_tests false false is also = refl

-- a word that is no number asks for none
pub none_read : {E : Type 0} (word : List ℕ) (fault : E) (answer : Result ℕ E) → answer ≡ Err fault → ParsesUnsigned 32 10 word answer → None ≡ functions_of word
unfolding functions_of
none_read word fault answer was parses = by_test (is_count (digits_value 10 word) word) refl
  where
    by_test : (one : Bool) → is_count (digits_value 10 word) word ≡ one → None ≡ cond one (Some (digits_value 10 word)) None
    by_test true is =
        let both : Err fault ≡ Ok (digits_value 10 word) = sym was ∙ read (digits_value 10 word) word answer is parses in
        absurd cc
    by_test false is = refl
