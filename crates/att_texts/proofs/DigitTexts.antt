-- The decimal digits of a number spell it.
use Rattle.std.proofs.Common.{◌≡◌, ℕ, zero, suc, ◌+◌, ◌-◌, ◌*◌, ◌/◌, ◌%◌, ◌^◌, ◌==◌, ◌&&◌, ◌||◌, ◌<◌, ◌≤◌, Bool, true, false, cond, nat_lt, List, [], ◌∷◌, ◌++◌, Ok, Err, length, take, get_or, refl, ap, ◌∙◌, arith}
use Rattle.std.proofs.lemmas.Bool.Decides.{nat_tests}
use Rattle.std.proofs.lemmas.Fmt.{decimal_by_steps, decimal_digit, first_decimal}
use Rattle.std.proofs.lemmas.List.{length-append}
use Rattle.std.specs.List.{list_all}
use Rattle.std.specs.Char.{is_ascii_digit}
use Rattle.std.specs.Fmt.{decimal}
use Rattle.asm_base.specs.ByteClasses.{is_name_byte, is_name_start}
use Rattle.asm_base.specs.Digits.{digit_of, is_digit_of, number_after}
use Rattle.asm_expr.specs.declared.faults.ExprCause.TheVariants.{BadExpression, NumberTooWide}
use Rattle.asm_expr.specs.Trees.{number}
use Rattle.expr_texts.specs.Numbers.{numeral, spelled_number}
use Rattle.expr_texts.specs.Leaves.{last_byte, without_last, digits_leaf}

digit_counts : (d : ℕ) → d < 10 → digit_of (48 + d) ≡ d
unfolding digit_of
digit_counts d small = grind (arith, nat_tests)

digit_is : (d : ℕ) → d < 10 → is_digit_of 10 (48 + d) ≡ true
digit_is d small = let counts = digit_counts d small in grind (arith, nat_tests)

ascii_digit : (d : ℕ) → d < 10 → is_ascii_digit (48 + d) ≡ true
ascii_digit d small = grind (arith, nat_tests)

value_push : (radix start : ℕ) (digits : List ℕ) (digit : ℕ) → number_after radix start (digits ++ (digit ∷ [])) ≡ number_after radix start digits * radix + digit_of digit
unfolding number_after
value_push radix start [] digit = refl
value_push radix start (first ∷ digits) digit = value_push radix (start * radix + digit_of first) digits digit

both : (a b : Bool) → (a && b) ≡ true → (a ≡ true) × (b ≡ true)
both true true is = (refl, refl)
both true false is = cc
both false b is = cc

pub all_push : (test : ℕ → Bool) (bytes : List ℕ) (byte : ℕ) → list_all test bytes ≡ true → test byte ≡ true → list_all test (bytes ++ (byte ∷ [])) ≡ true
all_push test [] byte all is = rw is
all_push test (first ∷ bytes) byte all is =
    let parts = both (test first) (list_all test bytes) all in
    let passes = parts.0 in
    rw passes (all_push test bytes byte parts.1 is)

last_push : (bytes : List ℕ) (byte : ℕ) → last_byte (bytes ++ (byte ∷ [])) ≡ byte
last_push [] byte = refl
last_push (first ∷ bytes) byte =
    let n = length-append bytes (byte ∷ []) in
    let less : suc (length (bytes ++ (byte ∷ []))) - 1 ≡ suc (length (bytes ++ (byte ∷ [])) - 1) = omega arith in
    ap (λ (k : ℕ). get_or (first ∷ (bytes ++ (byte ∷ []))) k 0) less ∙ last_push bytes byte

-- the digits of a number
pub record Spells (n : ℕ) (text : List ℕ) : Type 0 where
  pub digits : list_all (is_digit_of 10) text ≡ true
  pub ascii : list_all is_ascii_digit text ≡ true
  pub value : number_after 10 0 text ≡ n
  pub some : 0 < length text
  pub above : 48 ≤ last_byte text
  pub below : last_byte text ≤ 57

one_digit : (n : ℕ) → n < 10 → Spells n ((48 + n) ∷ [])
unfolding number_after
one_digit n small =
    let counts = digit_counts n small in
    let is = digit_is n small in
    let plain = ascii_digit n small in
    record {
      digits = rw is;
      ascii = rw plain;
      value = rw counts (omega arith);
      some = omega arith;
      above = omega arith;
      below = omega arith;
    }

more_digits : (n : ℕ) (text : List ℕ) → 10 ≤ n → Spells (n / 10) text → Spells n (text ++ ((48 + n % 10) ∷ []))
more_digits n text big spells =
    let small : n % 10 < 10 = omega arith in
    let last = last_push text (48 + n % 10) in
    let counts = digit_counts (n % 10) small in
    let pushed = value_push 10 0 text (48 + n % 10) in
    let value = spells.value in
    let size = length-append text ((48 + n % 10) ∷ []) in
    record {
      digits = all_push (is_digit_of 10) text (48 + n % 10) spells.digits (digit_is (n % 10) small);
      ascii = all_push is_ascii_digit text (48 + n % 10) spells.ascii (ascii_digit (n % 10) small);
      value = pushed ∙ (rw (counts, value) (omega arith));
      some = omega arith;
      above = rw last (omega arith);
      below = rw last (omega arith);
    }

pub decimal_spells : (n : ℕ) → n < 2 ^ 64 → Spells n (decimal n)
decimal_spells = decimal_by_steps Spells one_digit more_digits

-- digits that spell a number and are not too wide
numeral_is : (n : ℕ) (text : List ℕ) → Spells n text → n < 2 ^ 64 → numeral 10 text ≡ Ok n
unfolding numeral
numeral_is n [] spells fits = absurd (let some = spells.some in omega arith)
numeral_is n (first ∷ rest) spells fits = by (list_all (is_digit_of 10) (first ∷ rest)) (nat_lt (number_after 10 0 (first ∷ rest)) (2 ^ 64)) spells.digits low
  where
    low : nat_lt (number_after 10 0 (first ∷ rest)) (2 ^ 64) ≡ true
    low = let value = spells.value in grind (arith, nat_tests)

    by : (a b : Bool) → a ≡ true → b ≡ true → cond a (cond b (Ok (number_after 10 0 (first ∷ rest))) (Err NumberTooWide)) (Err BadExpression) ≡ Ok n
    by true true p q = ap Ok spells.value
    by true false p q = cc
    by false b p q = cc

none_of : (n byte : ℕ) → (0 < n → 48 < byte) → byte ≡ 48 → n ≡ 0
none_of zero byte first low = refl
none_of (suc n) byte first low = let above = first (omega arith) in absurd (omega arith)

-- no leading zero
spelled_is : (n : ℕ) (text : List ℕ) → Spells n text → n < 2 ^ 64 → (0 < n → 48 < get_or text 0 0) → (n ≡ 0 → text ≡ 48 ∷ []) → spelled_number text ≡ Ok n
unfolding spelled_number
spelled_is n [] spells fits first nothing = absurd (let some = spells.some in omega arith)
spelled_is n (byte ∷ []) spells fits first nothing = numeral_is n (byte ∷ []) spells fits
spelled_is n (byte ∷ second ∷ rest) spells fits first nothing =
    by (byte == 48) refl
  where
    by : (b : Bool) → (byte == 48) ≡ b
        → cond b (cond (second == 120 || second == 88) (numeral 16 rest) (cond (second == 98 || second == 66) (numeral 2 rest) (numeral 8 (second ∷ rest)))) (numeral 10 (byte ∷ second ∷ rest)) ≡ Ok n
    by true is =
        let low : byte ≡ 48 = grind (arith, nat_tests) in
        let none = none_of n byte first low in
        let short = ap length (nothing none) in
        absurd (omega arith)
    by false is = numeral_is n (byte ∷ second ∷ rest) spells fits

-- the last digit is no letter of a label
label_not : (a b rest : Bool) → a ≡ false → b ≡ false → ((a || b) && rest) ≡ false
label_not true b rest is also = cc
label_not false true rest is also = cc
label_not false false rest is also = refl

pub decimal_leaf : (n : ℕ) → n < 2 ^ 64 → digits_leaf (decimal n) ≡ Ok (number n)
unfolding digits_leaf
decimal_leaf n fits =
    let spells = decimal_spells n fits in
    let above = spells.above in
    let below = spells.below in
    let back : (last_byte (decimal n) == 98) ≡ false = grind (arith, nat_tests) in
    let next : (last_byte (decimal n) == 102) ≡ false = grind (arith, nat_tests) in
    let no_label = label_not (last_byte (decimal n) == 98) (last_byte (decimal n) == 102) (list_all (is_digit_of 10) (without_last (decimal n))) back next in
    let value = spelled_is n (decimal n) spells fits (λ some. first_decimal n some fits) (λ none. rw none (decimal_digit 0 (omega arith))) in
    rw (no_label, value)

-- they are the bytes of a word that begins with a digit
name_of_digit : (byte : ℕ) → is_ascii_digit byte ≡ true → is_name_byte byte ≡ true
unfolding is_name_byte is_name_start
name_of_digit byte digit = grind (arith, nat_tests)

pub name_bytes_of_digits : (bytes : List ℕ) → list_all is_ascii_digit bytes ≡ true → list_all is_name_byte bytes ≡ true
name_bytes_of_digits [] all = refl
name_bytes_of_digits (byte ∷ bytes) all =
    let parts = both (is_ascii_digit byte) (list_all is_ascii_digit bytes) all in
    let word = name_of_digit byte parts.0 in
    rw word (name_bytes_of_digits bytes parts.1)
