-- The tokens of a text, piece by piece from its front.
use Rattle.std.proofs.Common.{◌≡◌, ℕ, suc, ◌+◌, ◌-◌, ◌==◌, ◌&&◌, Bool, true, false, cond, List, [], ◌∷◌, ◌++◌, Some, length, take, refl, ap, ◌∙◌, arith}
use Rattle.std.proofs.lemmas.Bool.Decides.{nat_tests}
use Rattle.std.specs.List.{list_all, prefix_len}
use Rattle.std.specs.Char.{is_ascii_digit}
use Rattle.asm_base.specs.ByteClasses.{is_blank, is_name_start, is_name_byte, is_operator_byte}
use Rattle.asm_base.specs.Dividing.{piece_kind, piece_length}
use Rattle.asm_base.specs.declared.pieces.PieceKind.TheVariants as piece
use Rattle.asm_base.specs.declared.tokens.TokenKind.{TokenKind}
use Rattle.asm_base.specs.declared.tokens.TokenKind.TheVariants.{Name, Digits, Operator}
use Rattle.asm_base.specs.Tokens.{SpelledToken, is_long_operator, token_kind, token_length, tokens_from}
use Rattle.asm_expr.specs.declared.trees.BinaryOp.{BinaryOp}
use Rattle.asm_expr.specs.declared.trees.BinaryOp.TheVariants.{Mul, Div, Rem, Shl, Shr, Or, And, Xor, OrNot, Add, Sub, Eq, Ne, Lt, Gt, Le, Ge, BothTrue, OneTrue}
use Rattle.expr_texts.specs.Operators.{operator_byte, operator_bytes, operator_by, operator_of}
use Rattle.expr_texts.specs.Shown.{operator_text}

abbrev pub made : TokenKind → List ℕ → ℕ → SpelledToken
made kind bytes start = record { kind = kind; bytes = bytes; start = start }

-- the first token of a text, and where the others begin
pub record Begins (kind : TokenKind) (bytes rest : List ℕ) (offset : ℕ) : Type 0 where
  pub first : tokens_from 0 offset (bytes ++ rest) ≡ made kind bytes offset ∷ tokens_from 0 (offset + length bytes) rest

-- parentheses and prefix operators
pub opening_lexes : (rest : List ℕ) (offset : ℕ) → tokens_from 0 offset (40 ∷ rest) ≡ made Operator (40 ∷ []) offset ∷ tokens_from 0 (suc offset) rest
unfolding tokens_from token_kind token_length piece_kind is_long_operator is_blank is_name_start is_operator_byte
opening_lexes [] offset = refl
opening_lexes (byte ∷ rest) offset = refl

pub closing_lexes : (rest : List ℕ) (offset : ℕ) → tokens_from 0 offset (41 ∷ rest) ≡ made Operator (41 ∷ []) offset ∷ tokens_from 0 (suc offset) rest
unfolding tokens_from token_kind token_length piece_kind is_long_operator is_blank is_name_start is_operator_byte
closing_lexes [] offset = refl
closing_lexes (byte ∷ rest) offset = refl

pub minus_lexes : (rest : List ℕ) (offset : ℕ) → tokens_from 0 offset (45 ∷ rest) ≡ made Operator (45 ∷ []) offset ∷ tokens_from 0 (suc offset) rest
unfolding tokens_from token_kind token_length piece_kind is_long_operator is_blank is_name_start is_operator_byte
minus_lexes [] offset = refl
minus_lexes (byte ∷ rest) offset = refl

pub complement_lexes : (rest : List ℕ) (offset : ℕ) → tokens_from 0 offset (126 ∷ rest) ≡ made Operator (126 ∷ []) offset ∷ tokens_from 0 (suc offset) rest
unfolding tokens_from token_kind token_length piece_kind is_long_operator is_blank is_name_start is_operator_byte
complement_lexes [] offset = refl
complement_lexes (byte ∷ rest) offset = refl

-- an operator with blanks round it is one token
pub record Between (op : BinaryOp) (rest : List ℕ) (offset : ℕ) : Type 0 where
  pub token : SpelledToken
  pub is : operator_of token ≡ Some op
  pub lexes : tokens_from 0 offset (operator_text op ++ rest) ≡ token ∷ tokens_from 0 (offset + length (operator_text op)) rest

one_byte : (offset : ℕ) (op : BinaryOp) (byte : ℕ) (rest : List ℕ) → operator_text op ≡ 32 ∷ byte ∷ 32 ∷ [] → operator_byte byte ≡ Some op
    → tokens_from 0 offset (32 ∷ byte ∷ 32 ∷ rest) ≡ made Operator (byte ∷ []) (suc offset) ∷ tokens_from 0 (suc (suc (suc offset))) rest → Between op rest offset
unfolding operator_by
one_byte offset op byte rest text is lexes =
    let behind : suc (suc (suc offset)) ≡ offset + 3 = omega arith in
    record {
      token = made Operator (byte ∷ []) (suc offset);
      is = is;
      lexes = rw text (lexes ∙ ap (λ (n : ℕ). made Operator (byte ∷ []) (suc offset) ∷ tokens_from 0 n rest) behind);
    }

two_bytes : (offset : ℕ) (op : BinaryOp) (byte second : ℕ) (rest : List ℕ) → operator_text op ≡ 32 ∷ byte ∷ second ∷ 32 ∷ [] → operator_bytes byte second ≡ Some op
    → tokens_from 0 offset (32 ∷ byte ∷ second ∷ 32 ∷ rest) ≡ made Operator (byte ∷ second ∷ []) (suc offset) ∷ tokens_from 0 (suc (suc (suc (suc offset)))) rest → Between op rest offset
unfolding operator_by
two_bytes offset op byte second rest text is lexes =
    let behind : suc (suc (suc (suc offset))) ≡ offset + 4 = omega arith in
    record {
      token = made Operator (byte ∷ second ∷ []) (suc offset);
      is = is;
      lexes = rw text (lexes ∙ ap (λ (n : ℕ). made Operator (byte ∷ second ∷ []) (suc offset) ∷ tokens_from 0 n rest) behind);
    }

pub operator_lexes : (op : BinaryOp) (rest : List ℕ) (offset : ℕ) → Between op rest offset
unfolding operator_text operator_byte operator_bytes tokens_from token_kind token_length piece_kind piece_length is_long_operator is_blank is_name_start is_operator_byte
operator_lexes Mul rest offset = one_byte offset Mul 42 rest refl refl refl
operator_lexes Div rest offset = one_byte offset Div 47 rest refl refl refl
operator_lexes Rem rest offset = one_byte offset Rem 37 rest refl refl refl
operator_lexes Shl rest offset = two_bytes offset Shl 60 60 rest refl refl refl
operator_lexes Shr rest offset = two_bytes offset Shr 62 62 rest refl refl refl
operator_lexes Or rest offset = one_byte offset Or 124 rest refl refl refl
operator_lexes And rest offset = one_byte offset And 38 rest refl refl refl
operator_lexes Xor rest offset = one_byte offset Xor 94 rest refl refl refl
operator_lexes OrNot rest offset = one_byte offset OrNot 33 rest refl refl refl
operator_lexes Add rest offset = one_byte offset Add 43 rest refl refl refl
operator_lexes Sub rest offset = one_byte offset Sub 45 rest refl refl refl
operator_lexes Eq rest offset = two_bytes offset Eq 61 61 rest refl refl refl
operator_lexes Ne rest offset = two_bytes offset Ne 33 61 rest refl refl refl
operator_lexes Lt rest offset = one_byte offset Lt 60 rest refl refl refl
operator_lexes Gt rest offset = one_byte offset Gt 62 rest refl refl refl
operator_lexes Le rest offset = two_bytes offset Le 60 61 rest refl refl refl
operator_lexes Ge rest offset = two_bytes offset Ge 62 61 rest refl refl refl
operator_lexes BothTrue rest offset = two_bytes offset BothTrue 38 38 rest refl refl refl
operator_lexes OneTrue rest offset = two_bytes offset OneTrue 124 124 rest refl refl refl

-- what stands behind a word or a string and is no part of it
pub data Apart : List ℕ → Type 0 where
  at_end : Apart []
  before_blank : (rest : List ℕ) → Apart (32 ∷ rest)
  before_closing : (rest : List ℕ) → Apart (41 ∷ rest)

both : (a b : Bool) → (a && b) ≡ true → (a ≡ true) × (b ≡ true)
both true true is = (refl, refl)
both true false is = cc
both false b is = cc

-- a word goes on to its end
pub name_bytes : (bytes rest : List ℕ) → list_all is_name_byte bytes ≡ true → Apart rest → prefix_len is_name_byte (bytes ++ rest) ≡ length bytes
unfolding is_name_byte is_name_start
name_bytes [] _ all at_end = refl
name_bytes [] _ all (before_blank rest) = refl
name_bytes [] _ all (before_closing rest) = refl
name_bytes (byte ∷ bytes) rest all apart =
    let parts = both (is_name_byte byte) (list_all is_name_byte bytes) all in
    let later = name_bytes bytes rest parts.1 apart in
    ap (λ (b : Bool). cond b (1 + prefix_len is_name_byte (bytes ++ rest)) 0) parts.0 ∙ omega arith

-- the bytes of a token are left out of the tokens behind it
pub skips : (bytes rest : List ℕ) (offset : ℕ) → tokens_from (length bytes) offset (bytes ++ rest) ≡ tokens_from 0 (offset + length bytes) rest
unfolding tokens_from
skips [] rest offset = let none : offset ≡ offset + 0 = omega arith in ap (λ (n : ℕ). tokens_from 0 n rest) none
skips (byte ∷ bytes) rest offset =
    let one : suc offset + length bytes ≡ offset + suc (length bytes) = omega arith in
    skips bytes rest (suc offset) ∙ ap (λ (n : ℕ). tokens_from 0 n rest) one

-- a byte that passes a test is none that doesn't
other_byte : (test : ℕ → Bool) (byte other : ℕ) → test byte ≡ true → test other ≡ false → (byte == other) ≡ false
other_byte test byte other passes fails = by (byte == other) refl
  where
    by : (b : Bool) → (byte == other) ≡ b → b ≡ false
    by true is = let same : byte ≡ other = grind (arith, nat_tests) in let both = ap test same in cc
    by false is = refl

-- and begins no piece of a class of its own, if none that does passes
pub plain_piece : (test : ℕ → Bool) (byte : ℕ) (rest : List ℕ) → test byte ≡ true
    → test 10 ≡ false → test 59 ≡ false → test 32 ≡ false → test 9 ≡ false → test 13 ≡ false → test 35 ≡ false → test 47 ≡ false → test 39 ≡ false → test 34 ≡ false
    → piece_kind byte rest ≡ piece.Other
unfolding piece_kind is_blank
plain_piece test byte rest passes a b c d e f g h i =
    let a' = other_byte test byte 10 passes a in
    let b' = other_byte test byte 59 passes b in
    let c' = other_byte test byte 32 passes c in
    let d' = other_byte test byte 9 passes d in
    let e' = other_byte test byte 13 passes e in
    let f' = other_byte test byte 35 passes f in
    let g' = other_byte test byte 47 passes g in
    let h' = other_byte test byte 39 passes h in
    let i' = other_byte test byte 34 passes i in
    rw (a', b', c', d', e', f', g', h', i')

-- a byte that begins no piece of a class of its own, and a token of this class
pub record BeginsWord (kind : TokenKind) (byte : ℕ) : Type 0 where
  pub plain : (rest : List ℕ) → piece_kind byte rest ≡ piece.Other
  pub class : (rest : List ℕ) → token_kind byte rest ≡ kind
  pub word : (rest : List ℕ) → token_length kind byte rest ≡ 1 + prefix_len is_name_byte rest

pub begins_name : (byte : ℕ) → is_name_start byte ≡ true → BeginsWord Name byte
unfolding token_kind token_length is_name_start
begins_name byte starts = record {
  plain = λ rest. plain_piece is_name_start byte rest starts refl refl refl refl refl refl refl refl refl;
  class = λ rest. rw starts;
  word = λ rest. refl;
}

digit_starts_not : (byte : ℕ) → is_ascii_digit byte ≡ true → is_name_start byte ≡ false
unfolding is_name_start
digit_starts_not byte digit = grind (arith, nat_tests)

pub begins_digits : (byte : ℕ) → is_ascii_digit byte ≡ true → BeginsWord Digits byte
unfolding token_kind token_length
begins_digits byte digit =
    let no_name = digit_starts_not byte digit in
    record {
      plain = λ rest. plain_piece is_ascii_digit byte rest digit refl refl refl refl refl refl refl refl refl;
      class = λ rest. rw (no_name, digit);
      word = λ rest. refl;
    }

front_of : (bytes rest : List ℕ) → take (length bytes) (bytes ++ rest) ≡ bytes
front_of [] rest = refl
front_of (byte ∷ bytes) rest = ap (λ (bs : List ℕ). byte ∷ bs) (front_of bytes rest)

-- a token that begins with this byte has these bytes
pub first_lexes : (kind : TokenKind) (byte : ℕ) (bytes rest : List ℕ) (offset : ℕ) → piece_kind byte (bytes ++ rest) ≡ piece.Other → token_kind byte (bytes ++ rest) ≡ kind
    → token_length kind byte (bytes ++ rest) ≡ suc (length bytes) → Begins kind (byte ∷ bytes) rest offset
unfolding tokens_from
first_lexes kind byte bytes rest offset plain class whole =
    let one : suc offset + length bytes ≡ offset + suc (length bytes) = omega arith in
    let less : suc (length bytes) - 1 ≡ length bytes = omega arith in
    record {
      first =
          rw (plain, class, whole)
          (ap (λ (bs : List ℕ). made kind (byte ∷ bs) offset ∷ tokens_from (suc (length bytes) - 1) (suc offset) (bytes ++ rest)) (front_of bytes rest)
          ∙ ap (λ (n : ℕ). made kind (byte ∷ bytes) offset ∷ tokens_from n (suc offset) (bytes ++ rest)) less
          ∙ ap (λ (ts : List SpelledToken). made kind (byte ∷ bytes) offset ∷ ts) (skips bytes rest (suc offset) ∙ ap (λ (n : ℕ). tokens_from 0 n rest) one));
    }

pub word_lexes : (kind : TokenKind) (byte : ℕ) (bytes rest : List ℕ) (offset : ℕ) → BeginsWord kind byte → list_all is_name_byte bytes ≡ true → Apart rest
    → Begins kind (byte ∷ bytes) rest offset
word_lexes kind byte bytes rest offset begins all apart =
    let more = name_bytes bytes rest all apart in
    let told = begins.word (bytes ++ rest) in
    first_lexes kind byte bytes rest offset (begins.plain (bytes ++ rest)) (begins.class (bytes ++ rest)) (omega arith)
