-- Numbers in decimal are tokens of digits: no registers, no symbols and no words.
use Rattle.std.proofs.Common.{◌≡◌, ℕ, zero, suc, ◌+◌, ◌-◌, ◌/◌, ◌%◌, ◌^◌, ◌==◌, ◌&&◌, ◌||◌, ◌<◌, ◌≤◌, not, Bool, true, false, cond, List, [], ◌∷◌, ◌++◌, Option, Some, None, length, get_or, codes, refl, sym, ap, ◌∙◌, arith, inl, inr}
use Rattle.std.proofs.lemmas.Bool.{and_parts, cases_Bool}
use Rattle.std.proofs.lemmas.Bool.Decides.{nat_tests}
use Rattle.std.proofs.lemmas.Fmt.{decimal_by_steps}
use Rattle.std.proofs.lemmas.List.{length-append}
use Rattle.std.proofs.lemmas.Str.Ascii.{lowercase_is}
use Rattle.std.specs.List.{find, list_all}
use Rattle.std.specs.Char.{is_ascii_digit, to_ascii_lowercase}
use Rattle.std.specs.Fmt.{decimal}
use Rattle.std.specs.Str.{str_eq_ignore_ascii_case, str_to_ascii_lowercase}
use Rattle.std.specs.Cmp.Lexicographic.{bytes_decides}
use Rattle.asm_base.specs.declared.tokens.TokenKind.TheVariants.{Name, Digits, Operator}
use Rattle.asm_base.specs.Tokens.{SpelledToken}
use Rattle.expr_texts.specs.Leaves.{last_byte, is_numeric_label}
use Rattle.att_operands.specs.Marks.{mark_by}
use Rattle.att_operands.specs.Registers.{RegisterName, register_names, register_of, has_text}
use Rattle.intel_sums.specs.Sums.{is_loose, is_register}
use Rattle.intel_operands.specs.Words.{is_word}
use Rattle.intel_operands.specs.Symbols.{is_symbol}
use Rattle.att_texts.specs.Pieces.{word_kind, made}

-- digits, at least one
pub record AreDigits (n : ℕ) (text : List ℕ) : Type 0 where
  pub some : 0 < length text
  pub first : is_ascii_digit (get_or text 0 0) ≡ true
  pub last : is_ascii_digit (last_byte text) ≡ true

ascii_digit : (d : ℕ) → d < 10 → is_ascii_digit (48 + d) ≡ true
ascii_digit d small = grind (arith, nat_tests)

last_push : (bytes : List ℕ) (byte : ℕ) → last_byte (bytes ++ (byte ∷ [])) ≡ byte
last_push [] byte = refl
last_push (first ∷ bytes) byte =
    let n = length-append bytes (byte ∷ []) in
    let less : suc (length (bytes ++ (byte ∷ []))) - 1 ≡ suc (length (bytes ++ (byte ∷ [])) - 1) = omega arith in
    ap (λ (k : ℕ). get_or (first ∷ (bytes ++ (byte ∷ []))) k 0) less ∙ last_push bytes byte

first_push : (bytes : List ℕ) (byte : ℕ) → 0 < length bytes → get_or (bytes ++ (byte ∷ [])) 0 0 ≡ get_or bytes 0 0
first_push [] byte some = absurd (omega arith)
first_push (first ∷ bytes) byte some = refl

one_digit : (n : ℕ) → n < 10 → AreDigits n ((48 + n) ∷ [])
one_digit n small = record { some = omega arith; first = ascii_digit n small; last = ascii_digit n small }

more_digits : (n : ℕ) (text : List ℕ) → 10 ≤ n → AreDigits (n / 10) text → AreDigits n (text ++ ((48 + n % 10) ∷ []))
more_digits n text big digits =
    let last = last_push text (48 + n % 10) in
    let first = first_push text (48 + n % 10) digits.some in
    let size = length-append text ((48 + n % 10) ∷ []) in
    record {
      some = omega arith;
      first = rw first digits.first;
      last = rw last (ascii_digit (n % 10) (omega arith));
    }

decimal_digits : (n : ℕ) → n < 2 ^ 64 → AreDigits n (decimal n)
decimal_digits = decimal_by_steps AreDigits one_digit more_digits

-- the last of them is no letter of a numeric label
no_letter : (byte : ℕ) → is_ascii_digit byte ≡ true → ((byte == 98) || (byte == 102)) ≡ false
no_letter byte digit = grind (arith, nat_tests)

no_label : (n : ℕ) (text : List ℕ) → AreDigits n text → is_numeric_label text ≡ false
no_label n text digits = let none = no_letter (last_byte text) digits.last in rw none refl

-- a text that begins otherwise is another one
starts_apart : List ℕ → Bool
starts_apart [] = false
starts_apart (first ∷ rest) = not (is_ascii_digit (to_ascii_lowercase first))

lower_digit : (byte : ℕ) → is_ascii_digit byte ≡ true → to_ascii_lowercase byte ≡ byte
lower_digit byte digit = (lowercase_is byte).1 (grind (arith, nat_tests))

not_both : (a b : Bool) → not a ≡ true → b ≡ true → a ≡ b → ⊥
not_both true b is also same = cc
not_both false true is also same = cc
not_both false false is also same = cc

head_is : (one other : ℕ) (ones others : List ℕ) → one ∷ ones ≡ other ∷ others → one ≡ other
head_is one other ones others same = cc

differs : (n : ℕ) (text own : List ℕ) → AreDigits n text → starts_apart own ≡ true → str_eq_ignore_ascii_case text own ≡ false
unfolding starts_apart
differs n [] own digits apart = absurd (let some = digits.some in omega arith)
differs n (byte ∷ rest) [] digits apart = cc
differs n (byte ∷ rest) (first ∷ others) digits apart = elim (cases_Bool (str_eq_ignore_ascii_case (byte ∷ rest) (first ∷ others))) [
  | inl is ↦
      let lower = (bytes_decides (str_to_ascii_lowercase (byte ∷ rest)) (str_to_ascii_lowercase (first ∷ others))).0 is in
      let heads = head_is (to_ascii_lowercase byte) (to_ascii_lowercase first) _ _ lower in
      let own = sym (lower_digit byte digits.first) ∙ heads in
      absurd (not_both (is_ascii_digit (to_ascii_lowercase first)) (is_ascii_digit byte) apart digits.first (ap is_ascii_digit (sym own)))
  | inr is ↦ is
]

none_named : (n : ℕ) (text : List ℕ) (names : List RegisterName) → AreDigits n text → list_all (λ name. starts_apart name.text) names ≡ true → find (has_text text) names ≡ None
none_named n text [] digits all = refl
none_named n text (name ∷ names) digits all =
    let parts = and_parts (starts_apart name.text) (list_all (λ name. starts_apart name.text) names) all in
    let other = differs n text name.text digits parts.0 in
    rw other (none_named n text names digits parts.1)

no_register : (n : ℕ) (text : List ℕ) → AreDigits n text → register_of text ≡ None
unfolding register_of register_names starts_apart
no_register n text digits = let none = none_named n text register_names digits refl in rw none refl

digits_kind : (n : ℕ) (text : List ℕ) → AreDigits n text → word_kind text ≡ Digits
digits_kind n [] digits = absurd (let some = digits.some in omega arith)
digits_kind n (first ∷ rest) digits = let digit = digits.first in rw digit refl

-- a token of a number
pub record IsDigits (token : SpelledToken) : Type 0 where
  pub mark : mark_by (Some token) ≡ 0
  pub symbol : is_symbol token ≡ false
  pub loose : is_loose token ≡ false
  pub register : is_register token ≡ false
  pub own : register_of token.bytes ≡ None
  pub pointer : is_word (codes "ptr") (Some token) ≡ false
  pub offset : is_word (codes "offset") (Some token) ≡ false

digits_token : (n : ℕ) (text : List ℕ) (offset : ℕ) → AreDigits n text → IsDigits (made Digits text offset)
unfolding mark_by is_symbol is_loose is_register is_word starts_apart
digits_token n text offset digits = record {
  mark = refl;
  symbol = no_label n text digits;
  loose = refl;
  register = refl;
  own = no_register n text digits;
  pointer = differs n text (codes "ptr") digits refl;
  offset = differs n text (codes "offset") digits refl;
}

pub number_token : (n offset : ℕ) → n < 2 ^ 64 → IsDigits (made (word_kind (decimal n)) (decimal n) offset)
number_token n offset fits =
    let digits = decimal_digits n fits in
    let kind = digits_kind n (decimal n) digits in
    rw kind (digits_token n (decimal n) offset digits)
