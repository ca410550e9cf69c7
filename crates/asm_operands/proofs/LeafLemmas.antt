-- Tokens that are numbers alone.
use Rattle.std.proofs.Common.{◌≡◌, ℕ, zero, suc, ◌+◌, ◌-◌, ◌*◌, ◌/◌, ◌⊎◌, inl, inr, ◌==◌, ◌<◌, ◌≤◌, Bool, true, false, ◌&&◌, ◌||◌, List, [], ◌∷◌, Result, Ok, Err, length, get_or, take, drop, refl, sym, ap, arith, nat_lt, ◌≢◌, Option, Some, None, map, length-drop, lit≤, cond, ◌∙◌}
use Rattle.std.proofs.lemmas.List.{take_all}
use Rattle.std.specs.List.{list_all}
use Rattle.std.specs.Result.{result_ok}
use Rattle.std.proofs.lemmas.Bool.Decides.{nat_tests}
use Rattle.asm_base.specs.Digits.{digit_of, is_digit_of}
use Rattle.asm_base.specs.Tokens.{SpelledToken, spelled}
use Rattle.asm_base.specs.Refusals.{◌>>=◌}
use Rattle.asm_base.specs.declared.tokens.Token.{Token}
use Rattle.asm_base.specs.declared.tokens.TokenKind.{TokenKind}
use Rattle.asm_base.specs.declared.tokens.TokenKind.TheVariants.{Name, Digits, Character, String, Operator, Other}
use Rattle.asm_expr.specs.declared.faults.ExprCause.{ExprCause}
use Rattle.asm_expr.specs.Trees.{Tree, number}
use Rattle.expr_texts.specs.Numbers.{numeral, spelled_number}
use Rattle.expr_texts.specs.Operators.{prefix_by}
use Rattle.expr_texts.specs.Leaves.{last_byte, without_last, is_numeric_label, digits_leaf, leaf_by, leaf_of}
use Rattle.asm_expr.specs.Linear.{linear}
use Rattle.expr_texts.specs.Reading.{Read, read, operand_of, reading, read_at, read_more}
use Rattle.asm_operands.specs.Numbers.{FindsNumeral, FindsNumber, FindsLeaf}
use Rattle.asm_operands.specs.Constants.{FindsConstant}
use Rattle.asm_operands.proofs.NumberLemmas.{numeral_all, one_decimal, two_decimal, three_decimal}

-- one of the digits is one of the radix
all_at : (radix i : ℕ) (digits : List ℕ) → list_all (is_digit_of radix) digits ≡ true → i < length digits → digit_of (get_or digits i 0) < radix
all_at radix i [] all inside = absurd (omega arith)
all_at radix zero (digit ∷ digits) all inside = by (nat_lt (digit_of digit) radix) refl all
  where
    by : (b : Bool) → nat_lt (digit_of digit) radix ≡ b → (b && list_all (is_digit_of radix) digits) ≡ true → digit_of digit < radix
    by true test is = grind (arith, nat_tests)
    by false test is = cc
all_at radix (suc i) (digit ∷ digits) all inside = all_at radix i digits (by (nat_lt (digit_of digit) radix) all) (omega arith)
  where
    by : (b : Bool) → (b && list_all (is_digit_of radix) digits) ≡ true → list_all (is_digit_of radix) digits ≡ true
    by true is = is
    by false is = cc

ends_by : (last : ℕ) (others : Bool) → digit_of last < 10 → ((last == 98 || last == 102) && others) ≡ false
unfolding digit_of
ends_by last others small = by (last == 98) (last == 102) refl refl
  where
    by : (a b : Bool) → (last == 98) ≡ a → (last == 102) ≡ b → ((a || b) && others) ≡ false
    by true b one other = absurd (let same : last ≡ 98 = grind (arith, nat_tests) in let big : digit_of 98 < 10 = rw same at small in omega (arith, big))
    by false true one other = absurd (let same : last ≡ 102 = grind (arith, nat_tests) in let big : digit_of 102 < 10 = rw same at small in omega (arith, big))
    by false false one other = refl

-- decimal digits end with no `b` and no `f`
no_label : (digits : List ℕ) → 0 < length digits → list_all (is_digit_of 10) digits ≡ true → is_numeric_label digits ≡ false
no_label digits some all = ends_by (last_byte digits) (list_all (is_digit_of 10) (without_last digits)) (all_at 10 (length digits - 1) digits all (omega arith))

-- a byte that is no decimal digit, and others behind it: not all before the last are decimal
mixed : (n first second : ℕ) (rest : List ℕ) → 2 ≤ n → 10 ≤ digit_of second → list_all (is_digit_of 10) (take n (first ∷ second ∷ rest)) ≡ false
mixed zero first second rest some other = absurd (omega arith)
mixed (suc zero) first second rest some other = absurd (omega arith)
mixed (suc (suc n)) first second rest some other = by (nat_lt (digit_of first) 10) (nat_lt (digit_of second) 10) refl
  where
    by : (a b : Bool) → nat_lt (digit_of second) 10 ≡ b → (a && (b && list_all (is_digit_of 10) (take n rest))) ≡ false
    by true true is = absurd (grind (arith, nat_tests))
    by true false is = refl
    by false b is = refl

none_of : (ends others : Bool) → others ≡ false → (ends && others) ≡ false
none_of true others none = none
none_of false others none = refl

-- a radix letter is no decimal digit
marked_no_label : (first second radix n : ℕ) (rest : List ℕ) → 10 ≤ digit_of second → numeral radix rest ≡ Ok n → is_numeric_label (first ∷ second ∷ rest) ≡ false
unfolding numeral
marked_no_label first second radix n [] other is = cc
marked_no_label first second radix n (third ∷ rest) other is =
    none_of (last_byte (first ∷ second ∷ third ∷ rest) == 98 || last_byte (first ∷ second ∷ third ∷ rest) == 102) _
    (mixed (length (first ∷ second ∷ third ∷ rest) - 1) first second (third ∷ rest) (omega arith) other)

-- nor is the last of octal digits a `b` or an `f`
octal_no_label : (first second : ℕ) (rest : List ℕ) → digit_of (get_or (second ∷ rest) (length rest) 0) < 10 → is_numeric_label (first ∷ second ∷ rest) ≡ false
octal_no_label first second rest small =
    let last : length (first ∷ second ∷ rest) - 1 ≡ suc (length rest) = omega arith in
    ends_by (last_byte (first ∷ second ∷ rest)) (list_all (is_digit_of 10) (without_last (first ∷ second ∷ rest))) (rw last small)

letter_120 : 10 ≤ digit_of 120
unfolding digit_of
letter_120 = lit≤ tt

letter_88 : 10 ≤ digit_of 88
unfolding digit_of
letter_88 = lit≤ tt

letter_98 : 10 ≤ digit_of 98
unfolding digit_of
letter_98 = lit≤ tt

letter_66 : 10 ≤ digit_of 66
unfolding digit_of
letter_66 = lit≤ tt

-- what spells a number is no label
spelled_no_label : (digits : List ℕ) (n : ℕ) → spelled_number digits ≡ Ok n → is_numeric_label digits ≡ false
unfolding spelled_number numeral
spelled_no_label [] n is = cc
spelled_no_label (first ∷ []) n is = no_label (first ∷ []) (omega arith) (numeral_all 10 n (first ∷ []) is)
spelled_no_label (first ∷ second ∷ rest) n is = by (first == 48) (second == 120) (second == 88) (second == 98) (second == 66) refl refl refl refl refl is
  where
    letter : (code : ℕ) → second ≡ code → 10 ≤ digit_of code → 10 ≤ digit_of second
    letter code same other = rw same other

    by : (zero hex HEX two TWO : Bool) → (first == 48) ≡ zero → (second == 120) ≡ hex → (second == 88) ≡ HEX → (second == 98) ≡ two → (second == 66) ≡ TWO
        → cond zero (cond (hex || HEX) (numeral 16 rest) (cond (two || TWO) (numeral 2 rest) (numeral 8 (second ∷ rest)))) (numeral 10 (first ∷ second ∷ rest)) ≡ Ok n
        → is_numeric_label (first ∷ second ∷ rest) ≡ false
    by false hex HEX two TWO z h H t T is = no_label (first ∷ second ∷ rest) (omega arith) (numeral_all 10 n (first ∷ second ∷ rest) is)
    by true true HEX two TWO z h H t T is = marked_no_label first second 16 n rest (letter 120 (grind (arith, nat_tests)) letter_120) is
    by true false true two TWO z h H t T is = marked_no_label first second 16 n rest (letter 88 (grind (arith, nat_tests)) letter_88) is
    by true false false true TWO z h H t T is = marked_no_label first second 2 n rest (letter 98 (grind (arith, nat_tests)) letter_98) is
    by true false false false true z h H t T is = marked_no_label first second 2 n rest (letter 66 (grind (arith, nat_tests)) letter_66) is
    by true false false false false z h H t T is =
        octal_no_label first second rest (let small = all_at 8 (length rest) (second ∷ rest) (numeral_all 8 n (second ∷ rest) is) (omega arith) in omega (arith, small))

-- what spells a number is that number
number_leaf : (digits : List ℕ) (n : ℕ) → spelled_number digits ≡ Ok n → digits_leaf digits ≡ Ok (number n)
unfolding digits_leaf
number_leaf digits n is = rw (spelled_no_label digits n is, is) refl

-- one digit, decimal digits with no zero in front, and `0x` with hexadecimal digits
one_is : (digits : List ℕ) → length digits ≡ 1 → spelled_number digits ≡ numeral 10 digits
unfolding spelled_number
one_is [] long = absurd (omega arith)
one_is (first ∷ []) long = refl
one_is (first ∷ second ∷ rest) long = absurd (omega arith)

decimal_is : (digits : List ℕ) → 0 < length digits → get_or digits 0 0 ≢ 48 → spelled_number digits ≡ numeral 10 digits
unfolding spelled_number
decimal_is [] long other = absurd (omega arith)
decimal_is (first ∷ []) long other = refl
decimal_is (first ∷ second ∷ rest) long other = let none : (first == 48) ≡ false = grind (arith, nat_tests) in rw none refl

hexadecimal_is : (digits : List ℕ) → 2 < length digits → get_or digits 0 0 ≡ 48 → get_or digits 1 0 ≡ 120 → spelled_number digits ≡ numeral 16 (drop 2 digits)
unfolding spelled_number
hexadecimal_is [] long first second = absurd (omega arith)
hexadecimal_is (a ∷ []) long first second = absurd (omega arith)
hexadecimal_is (a ∷ b ∷ rest) long first second = rw (first, second) refl

-- what is found of them is what their token spells
pub decimal_found : (digits : List ℕ) (answer : Option ℕ) → 0 < length digits → get_or digits 0 0 ≢ 48 → FindsNumeral 10 digits answer → FindsNumber digits answer
decimal_found digits (Some n) long other is = number_leaf digits n (decimal_is digits long other ∙ is)
decimal_found digits None long other is = tt

pub hexadecimal_found : (digits : List ℕ) (answer : Option ℕ) → 2 < length digits → get_or digits 0 0 ≡ 48 → get_or digits 1 0 ≡ 120 → FindsNumeral 16 (take (length digits - 2) (drop 2 digits)) answer
    → FindsNumber digits answer
hexadecimal_found digits (Some n) long first second is =
    number_leaf digits n (hexadecimal_is digits long first second ∙ rw (take_all (length digits - 2) (drop 2 digits) (omega (arith, length-drop 2 digits))) at is)
hexadecimal_found digits None long first second is = tt

-- and so are one to three decimal digits, by the first, the middle and the last
pub short_found : (digits : List ℕ) (first middle last value : ℕ) → 1 ≤ length digits → length digits ≤ 3
    → (first ≡ digit_of (get_or digits 0 0)) × (first < 10) → (middle ≡ digit_of (get_or digits (length digits / 2) 0)) × (middle < 10)
    → (last ≡ digit_of (get_or digits (length digits - 1) 0)) × (last < 10)
    → ((get_or digits 0 0 ≡ 48 → ⊥) ⊎ (length digits ≡ 1))
    → (length digits ≡ 1 → value ≡ first) → (length digits ≡ 2 → value ≡ first * 10 + last) → (length digits ≡ 3 → value ≡ (first * 10 + middle) * 10 + last)
    → FindsNumber digits (Some value)
short_found [] first middle last value some few one two three plain alone pair all = absurd (omega arith)
short_found (a ∷ []) first middle last value some few one two three plain alone pair all =
    let same = alone refl in
    rw same (number_leaf (a ∷ []) first (one_is (a ∷ []) refl ∙ one_decimal a first one))
short_found (a ∷ b ∷ []) first middle last value some few one two three (inl other) alone pair all =
    rw (pair refl) (decimal_found (a ∷ b ∷ []) (Some (first * 10 + last)) (omega arith) other (two_decimal a b first last one three))
short_found (a ∷ b ∷ []) first middle last value some few one two three (inr long) alone pair all = absurd (omega arith)
short_found (a ∷ b ∷ c ∷ []) first middle last value some few one two three (inl other) alone pair all =
    rw (all refl) (decimal_found (a ∷ b ∷ c ∷ []) (Some ((first * 10 + middle) * 10 + last)) (omega arith) other (three_decimal a b c first middle last one two three))
short_found (a ∷ b ∷ c ∷ []) first middle last value some few one two three (inr long) alone pair all = absurd (omega arith)
short_found (a ∷ b ∷ c ∷ d ∷ rest) first middle last value some few one two three plain alone pair all = absurd (omega arith)

-- and so are two hexadecimal digits behind `0x`
pub four_found : (digits : List ℕ) (d e f g : ℕ) (answer : Option ℕ) → 4 ≤ length digits → length digits < 5 → get_or digits 0 d ≡ 48 → get_or digits 1 e ≡ 120
    → FindsNumeral 16 (get_or digits 2 f ∷ get_or digits 3 g ∷ []) answer → FindsNumber digits answer
four_found [] d e f g answer some few nought mark is = absurd (omega arith)
four_found (a ∷ []) d e f g answer some few nought mark is = absurd (omega arith)
four_found (a ∷ b ∷ []) d e f g answer some few nought mark is = absurd (omega arith)
four_found (a ∷ b ∷ c ∷ []) d e f g answer some few nought mark is = absurd (omega arith)
four_found (a ∷ b ∷ c ∷ x ∷ []) d e f g answer some few nought mark is = hexadecimal_found (a ∷ b ∷ c ∷ x ∷ []) answer (omega arith) nought mark is
four_found (a ∷ b ∷ c ∷ x ∷ y ∷ rest) d e f g answer some few nought mark is = absurd (omega arith)

pub any_found : (digits : List ℕ) (spelling : Result ℕ ExprCause) (answer : Option ℕ) → spelling ≡ spelled_number digits → answer ≡ result_ok spelling → FindsNumber digits answer
any_found digits (Ok n) (Some m) is taken = let same : m ≡ n = cc in rw same (number_leaf digits n (sym is))
any_found digits (Err fault) (Some m) is taken = cc
any_found digits spelling None is taken = tt

-- a token that is a leaf is an operand by itself
reads_by : (kind : TokenKind) (bytes : List ℕ) (start : ℕ) (below : ℕ → ℕ → List SpelledToken → Read) (depth : ℕ) (leaf : Tree) (rest : List SpelledToken) → leaf_by kind bytes ≡ Ok leaf
    → operand_of below depth (record { kind = kind; bytes = bytes; start = start }) rest ≡ Ok (read leaf rest)
unfolding operand_of prefix_by leaf_of
reads_by Name bytes start below depth leaf rest is = ap (λ (r : Result Tree ExprCause). r >>= (λ tree. Ok (read tree rest))) is
reads_by Digits bytes start below depth leaf rest is = ap (λ (r : Result Tree ExprCause). r >>= (λ tree. Ok (read tree rest))) is
reads_by Character bytes start below depth leaf rest is = ap (λ (r : Result Tree ExprCause). r >>= (λ tree. Ok (read tree rest))) is
reads_by String bytes start below depth leaf rest is = ap (λ (r : Result Tree ExprCause). r >>= (λ tree. Ok (read tree rest))) is
reads_by Other bytes start below depth leaf rest is = cc
reads_by Operator bytes start below depth leaf rest is = cc

pub leaf_reads : (token : SpelledToken) (below : ℕ → ℕ → List SpelledToken → Read) (depth : ℕ) (leaf : Tree) (rest : List SpelledToken) → leaf_of token ≡ Ok leaf
    → operand_of below depth token rest ≡ Ok (read leaf rest)
unfolding leaf_of
leaf_reads token below depth leaf rest is = reads_by token.kind token.bytes token.start below depth leaf rest is

-- a token that is a number is an operand by itself
pub leaf_constant : (token : SpelledToken) (answer : Option ℕ) → FindsLeaf token answer → FindsConstant (token ∷ []) answer
unfolding reading read_at read_more linear
leaf_constant token (Some n) is = record {
  tree = number n;
  reads = ap (λ (r : Read). r >>= (λ left. read_more 0 1 0 left.tree left.rest)) (leaf_reads token (read_at 0) 0 (number n) [] is);
  counts = λ known. refl;
  names = refl;
}
leaf_constant token None is = tt

pub only_constant : (tokens : List Token) (d : Token) (answer : Option ℕ) → 1 ≤ length tokens → length tokens < 2 → FindsLeaf (spelled (get_or tokens 0 d)) answer
    → FindsConstant (map spelled tokens) answer
only_constant [] d answer some few is = absurd (omega arith)
only_constant (token ∷ []) d answer some few is = leaf_constant (spelled token) answer is
only_constant (token ∷ other ∷ rest) d answer some few is = absurd (omega arith)
