-- The tokens of a text in pieces are the pieces.
use Rattle.std.proofs.Common.{◌≡◌, ℕ, ◌+◌, ◌==◌, ◌&&◌, ◌||◌, Bool, true, false, not, cond, List, [], ◌∷◌, ◌++◌, length, All, inr, refl, arith}
use Rattle.std.proofs.lemmas.Bool.{and_parts}
use Rattle.std.proofs.lemmas.Bool.Decides.{nat_tests}
use Rattle.std.proofs.lemmas.List.Elements.{All-nil, All-cons}
use Rattle.std.specs.List.{list_all}
use Rattle.std.specs.Char.{is_ascii_digit}
use Rattle.asm_base.specs.ByteClasses.{is_blank, is_name_start, is_name_byte, is_operator_byte}
use Rattle.asm_base.specs.declared.pieces.PieceKind.TheVariants as kind
use Rattle.asm_base.specs.declared.tokens.TokenKind.{TokenKind}
use Rattle.asm_base.specs.declared.tokens.TokenKind.TheVariants.{Name, Digits, Operator}
use Rattle.asm_base.specs.Tokens.{SpelledToken, is_long_operator, tokens_of}
use Rattle.asm_lines.specs.TokenGrammar.{AreTokens, nothing, space, token, IsToken, IsShortOperator, name_goes_on}
use Rattle.att_texts.specs.Pieces.{PrintedPiece, word, mark, blank, text_in, word_kind, tokens_in, is_mark, is_word, goes_on, are_apart}

all_names : (bytes : List ℕ) → list_all is_name_byte bytes ≡ true → All (λ byte. is_name_byte byte ≡ true) bytes
all_names [] all = All-nil (λ byte. is_name_byte byte ≡ true)
all_names (byte ∷ bytes) all =
    let parts = and_parts (is_name_byte byte) (list_all is_name_byte bytes) all in
    All-cons (λ byte. is_name_byte byte ≡ true) byte bytes parts.0 (all_names bytes parts.1)

-- a mark other than `$` is no byte of a name
mark_ends : (byte : ℕ) → is_mark byte ≡ true → (byte == 36) ≡ false → is_name_byte byte ≡ false
unfolding is_mark is_name_byte is_name_start
mark_ends byte is other = grind (arith, nat_tests)

not_is : (b : Bool) → not b ≡ true → b ≡ false
not_is true is = cc
not_is false is = refl

stops : (pieces : List PrintedPiece) → goes_on pieces ≡ false → are_apart pieces ≡ true → name_goes_on (text_in pieces) ≡ false
unfolding is_name_byte is_name_start
stops [] ends apart = refl
stops (word bytes ∷ pieces) ends apart = cc
stops (mark byte ∷ pieces) ends apart = mark_ends byte (and_parts (is_mark byte) (are_apart pieces) apart).0 ends
stops (blank ∷ pieces) ends apart = refl

-- a mark is a token of its own
short : (byte : ℕ) (rest : List ℕ) → is_mark byte ≡ true → IsShortOperator (byte ∷ []) rest
unfolding is_mark is_name_start is_operator_byte is_long_operator is_blank
short byte rest is = by rest
  where
    by : (rest : List ℕ) → IsShortOperator (byte ∷ []) rest
    by [] = (byte, refl, (grind (arith, nat_tests), grind (arith, nat_tests), grind (arith, nat_tests)), grind (arith, nat_tests), refl)
    by (second ∷ rest) = (byte, refl, (grind (arith, nat_tests), grind (arith, nat_tests), grind (arith, nat_tests)), grind (arith, nat_tests), grind (arith, nat_tests))

-- a word is a token of its own
kind_is : (b : Bool) → TokenKind
kind_is b = cond b Digits Name

word_token : (first : ℕ) (tail rest : List ℕ) (b : Bool) → is_ascii_digit first ≡ b → (is_name_start first || is_ascii_digit first) ≡ true → list_all is_name_byte tail ≡ true
    → name_goes_on rest ≡ false → IsToken (cond b Digits Name) (first ∷ tail) rest
word_token first tail rest true digit begins all ends = (first, tail, refl, digit, (all_names tail all, ends))
word_token first tail rest false digit begins all ends =
    let starts : is_name_start first ≡ true = starts_by (is_name_start first) (rw digit at begins) in
    (first, tail, refl, starts, (all_names tail all, ends))
  where
    starts_by : (b : Bool) → (b || false) ≡ true → b ≡ true
    starts_by true is = refl
    starts_by false is = cc

whole_word : (bytes rest : List ℕ) → is_word bytes ≡ true → name_goes_on rest ≡ false → IsToken (word_kind bytes) bytes rest
whole_word [] rest is ends = cc
whole_word (first ∷ tail) rest is ends =
    let parts = and_parts (is_name_start first || is_ascii_digit first) (list_all is_name_byte tail) is in
    word_token first tail rest (is_ascii_digit first) refl parts.0 parts.1 ends

pub are_tokens : (offset : ℕ) (pieces : List PrintedPiece) → are_apart pieces ≡ true → AreTokens offset (text_in pieces) (tokens_in offset pieces)
unfolding is_blank
are_tokens offset [] apart = nothing offset
are_tokens offset (word bytes ∷ pieces) apart =
    let parts = and_parts (is_word bytes) (not (goes_on pieces) && are_apart pieces) apart in
    let more = and_parts (not (goes_on pieces)) (are_apart pieces) parts.1 in
    token offset (bytes ++ text_in pieces) (tokens_in (offset + length bytes) pieces) (word_kind bytes) bytes (text_in pieces) refl
    (whole_word bytes (text_in pieces) parts.0 (stops pieces (not_is (goes_on pieces) more.0) more.1)) (are_tokens (offset + length bytes) pieces more.1)
are_tokens offset (mark byte ∷ pieces) apart =
    let parts = and_parts (is_mark byte) (are_apart pieces) apart in
    token offset (byte ∷ text_in pieces) (tokens_in (offset + 1) pieces) Operator (byte ∷ []) (text_in pieces) refl
    (inr (short byte (text_in pieces) parts.0)) (are_tokens (offset + 1) pieces parts.1)
are_tokens offset (blank ∷ pieces) apart =
    space offset (32 ∷ text_in pieces) (tokens_in (offset + 1) pieces) kind.Blank (32 ∷ []) (text_in pieces) refl (32, refl, refl) refl (are_tokens (offset + 1) pieces apart)

pub pieces_are_tokens : ((bytes : List ℕ) → AreTokens 0 bytes (tokens_of bytes)) → ((bytes : List ℕ) (one other : List SpelledToken) → AreTokens 0 bytes one → AreTokens 0 bytes other → one ≡ other)
    → (pieces : List PrintedPiece) → are_apart pieces ≡ true → tokens_of (text_in pieces) ≡ tokens_in 0 pieces
pieces_are_tokens some only pieces apart = only (text_in pieces) (tokens_of (text_in pieces)) (tokens_in 0 pieces) (some (text_in pieces)) (are_tokens 0 pieces apart)
