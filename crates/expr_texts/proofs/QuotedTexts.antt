-- A name in quotes, with escapes, is a string whose value is the name.
use Rattle.std.proofs.Common.{◌≡◌, ◌≢◌, ℕ, zero, suc, ◌+◌, ◌-◌, ◌/◌, ◌%◌, ◌==◌, ◌&&◌, ◌<◌, Bool, true, false, cond, List, [], ◌∷◌, ◌++◌, length, take, drop, refl, sym, ap, subst, ◌∙◌, arith, append_assoc, inl}
use Rattle.std.specs.Prelude.{flat_map}
use Rattle.std.proofs.lemmas.Bool.Decides.{nat_tests}
use Rattle.std.proofs.lemmas.List.{length-append}
use Rattle.std.specs.List.{list_all}
use Rattle.asm_base.specs.ByteClasses.{is_blank, is_name_start}
use Rattle.asm_base.specs.Dividing.{quoted_length, piece_kind, piece_length}
use Rattle.asm_base.specs.declared.pieces.PieceKind.TheVariants as piece
use Rattle.asm_base.specs.declared.tokens.TokenKind.TheVariants.{String}
use Rattle.asm_base.specs.Digits.{digit_of, is_digit_of, number_after}
use Rattle.asm_base.specs.Strings.{low_byte}
use Rattle.asm_base.specs.StringGrammar.{AreDigits, StandsFor, nothing, plain, octal}
use Rattle.asm_base.specs.Tokens.{SpelledToken, token_kind, token_length, tokens_from}
use Rattle.expr_texts.specs.Leaves.{between_quotes}
use Rattle.expr_texts.specs.Shown.{is_byte, stands_for_itself, escape}
use Rattle.expr_texts.proofs.Lexing.{made, skips}

both : (a b : Bool) → (a && b) ≡ true → (a ≡ true) × (b ≡ true)
both true true is = (refl, refl)
both true false is = cc
both false b is = cc

octal_digit : (d : ℕ) → d < 8 → (is_digit_of 8 (48 + d) ≡ true) × (digit_of (48 + d) ≡ d)
unfolding digit_of
octal_digit d small = (grind (arith, nat_tests), grind (arith, nat_tests))

octal_value : (byte : ℕ) → byte < 256 → low_byte 8 ((48 + byte / 8 / 8) ∷ (48 + byte / 8 % 8) ∷ (48 + byte % 8) ∷ []) ≡ byte
unfolding low_byte number_after
octal_value byte small =
    let high : byte / 8 / 8 < 8 = omega arith in
    let a = (octal_digit (byte / 8 / 8) high).1 in
    let b = (octal_digit (byte / 8 % 8) (omega arith)).1 in
    let c = (octal_digit (byte % 8) (omega arith)).1 in
    rw (a, b, c) (omega arith)

three_digits : (a b c : ℕ) → is_digit_of 8 a ≡ true → is_digit_of 8 b ≡ true → is_digit_of 8 c ≡ true → AreDigits 8 (a ∷ b ∷ c ∷ [])
three_digits a b c x y z zero d inside = x
three_digits a b c x y z (suc zero) d inside = y
three_digits a b c x y z (suc (suc zero)) d inside = z
three_digits a b c x y z (suc (suc (suc k))) d inside = absurd (omega arith)

-- a byte with its escape stands for the byte
escape_stands : (b : Bool) (byte : ℕ) (rest value : List ℕ) → stands_for_itself byte ≡ b → byte < 256 → StandsFor rest value
    → StandsFor (cond b (byte ∷ []) (92 ∷ (48 + byte / 8 / 8) ∷ (48 + byte / 8 % 8) ∷ (48 + byte % 8) ∷ []) ++ rest) (byte ∷ value)
escape_stands true byte rest value is small stands =
    let other : byte ≢ 92 = grind (arith, nat_tests) in
    plain byte rest value other stands
escape_stands false byte rest value is small stands =
    let digits : List ℕ = (48 + byte / 8 / 8) ∷ (48 + byte / 8 % 8) ∷ (48 + byte % 8) ∷ [] in
    let high : byte / 8 / 8 < 8 = omega arith in
    let are : AreDigits 8 digits =
    three_digits (48 + byte / 8 / 8) (48 + byte / 8 % 8) (48 + byte % 8) (octal_digit (byte / 8 / 8) high).0 (octal_digit (byte / 8 % 8) (omega arith)).0 (octal_digit (byte % 8) (omega arith)).0 in
    subst (λ (n : ℕ). StandsFor (92 ∷ (digits ++ rest)) (n ∷ value)) (octal_value byte small)
    (octal (digits ++ rest) digits rest value refl are (omega arith) (omega arith) (inl refl) stands)

pub escapes_stand : (text : List ℕ) → list_all is_byte text ≡ true → StandsFor (flat_map escape text) text
escapes_stand [] all = nothing
escapes_stand (byte ∷ text) all =
    let parts = both (is_byte byte) (list_all is_byte text) all in
    let small : byte < 256 = grind (arith, nat_tests, parts.0) in
    escape_stands (stands_for_itself byte) byte (flat_map escape text) text refl small (escapes_stand text parts.1)

-- no quote stands among the escapes
plain_step : (byte : ℕ) (rest : List ℕ) → byte ≢ 10 → byte ≢ 34 → byte ≢ 92 → quoted_length false (byte ∷ rest) ≡ suc (quoted_length false rest)
unfolding quoted_length
plain_step byte rest a b c =
    let no_feed : (byte == 10) ≡ false = grind (arith, nat_tests) in
    let no_quote : (byte == 34) ≡ false = grind (arith, nat_tests) in
    let no_escape : (byte == 92) ≡ false = grind (arith, nat_tests) in
    rw (no_feed, no_quote, no_escape)

escaped_step : (byte : ℕ) (rest : List ℕ) → byte ≢ 10 → quoted_length false (92 ∷ byte ∷ rest) ≡ suc (suc (quoted_length false rest))
unfolding quoted_length
escaped_step byte rest a =
    let no_feed : (byte == 10) ≡ false = grind (arith, nat_tests) in
    rw no_feed

escape_passes : (b : Bool) (byte : ℕ) (rest : List ℕ) → stands_for_itself byte ≡ b → byte < 256
    → quoted_length false (cond b (byte ∷ []) (92 ∷ (48 + byte / 8 / 8) ∷ (48 + byte / 8 % 8) ∷ (48 + byte % 8) ∷ []) ++ rest)
    ≡ length (cond b (byte ∷ []) (92 ∷ (48 + byte / 8 / 8) ∷ (48 + byte / 8 % 8) ∷ (48 + byte % 8) ∷ [])) + quoted_length false rest
escape_passes true byte rest is small =
    let step = plain_step byte rest (grind (arith, nat_tests)) (grind (arith, nat_tests)) (grind (arith, nat_tests)) in
    omega arith
escape_passes false byte rest is small =
    let high : byte / 8 / 8 < 8 = omega arith in
    let one = escaped_step (48 + byte / 8 / 8) ((48 + byte / 8 % 8) ∷ (48 + byte % 8) ∷ rest) (omega arith) in
    let two = plain_step (48 + byte / 8 % 8) ((48 + byte % 8) ∷ rest) (omega arith) (omega arith) (omega arith) in
    let three = plain_step (48 + byte % 8) rest (omega arith) (omega arith) (omega arith) in
    omega arith

quote_ends : (rest : List ℕ) → quoted_length false (34 ∷ rest) ≡ 0
unfolding quoted_length
quote_ends rest = refl

pub escapes_pass : (text rest : List ℕ) → list_all is_byte text ≡ true → quoted_length false (flat_map escape text ++ (34 ∷ rest)) ≡ length (flat_map escape text)
escapes_pass [] rest all = quote_ends rest
escapes_pass (byte ∷ text) rest all =
    let parts = both (is_byte byte) (list_all is_byte text) all in
    let small : byte < 256 = grind (arith, nat_tests, parts.0) in
    let later = escapes_pass text rest parts.1 in
    let apart = append_assoc (escape byte) (flat_map escape text) (34 ∷ rest) in
    let step = escape_passes (stands_for_itself byte) byte (flat_map escape text ++ (34 ∷ rest)) refl small in
    let size = length-append (escape byte) (flat_map escape text) in
    rw apart (step ∙ omega arith)

-- a string that closes is one token
behind_inner : (inner rest : List ℕ) → drop (length inner) (inner ++ rest) ≡ rest
behind_inner [] rest = refl
behind_inner (byte ∷ inner) rest = behind_inner inner rest

string_piece : (inner rest : List ℕ) → quoted_length false (inner ++ (34 ∷ rest)) ≡ length inner → piece_kind 34 (inner ++ (34 ∷ rest)) ≡ piece.String
unfolding piece_kind is_blank
string_piece inner rest closes =
    let behind = behind_inner inner (34 ∷ rest) in
    rw (closes, behind)

string_class : (bytes : List ℕ) → piece_kind 34 bytes ≡ piece.String → token_kind 34 bytes ≡ String
unfolding token_kind is_name_start
string_class bytes is = rw is

string_length : (inner rest : List ℕ) → quoted_length false (inner ++ (34 ∷ rest)) ≡ length inner → token_length String 34 (inner ++ (34 ∷ rest)) ≡ 2 + length inner
unfolding token_length piece_length
string_length inner rest closes =
    let is = string_piece inner rest closes in
    rw (is, closes)

front_inner : (inner rest : List ℕ) → take (suc (length inner)) (inner ++ (34 ∷ rest)) ≡ inner ++ (34 ∷ [])
front_inner [] rest = refl
front_inner (byte ∷ inner) rest = ap (λ (bs : List ℕ). byte ∷ bs) (front_inner inner rest)

pub string_lexes : (inner rest : List ℕ) (offset : ℕ) → quoted_length false (inner ++ (34 ∷ rest)) ≡ length inner
    → tokens_from 0 offset (34 ∷ (inner ++ (34 ∷ rest))) ≡ made String (34 ∷ (inner ++ (34 ∷ []))) offset ∷ tokens_from 0 (offset + suc (length (inner ++ (34 ∷ [])))) rest
unfolding tokens_from
string_lexes inner rest offset closes =
    let is = string_piece inner rest closes in
    let class = string_class (inner ++ (34 ∷ rest)) is in
    let whole = string_length inner rest closes in
    let size = length-append inner (34 ∷ []) in
    let two : 2 + length inner ≡ suc (suc (length inner)) = omega arith in
    let less : suc (suc (length inner)) - 1 ≡ length (inner ++ (34 ∷ [])) = omega arith in
    let behind : suc offset + length (inner ++ (34 ∷ [])) ≡ offset + suc (length (inner ++ (34 ∷ []))) = omega arith in
    let apart = sym (append_assoc inner (34 ∷ []) rest) in
    rw (is, class, whole, two)
    (ap (λ (bs : List ℕ). made String (34 ∷ bs) offset ∷ tokens_from (suc (suc (length inner)) - 1) (suc offset) (inner ++ (34 ∷ rest))) (front_inner inner rest)
    ∙ ap (λ (n : ℕ). made String (34 ∷ (inner ++ (34 ∷ []))) offset ∷ tokens_from n (suc offset) (inner ++ (34 ∷ rest))) less
    ∙ ap (λ (ts : List SpelledToken). made String (34 ∷ (inner ++ (34 ∷ []))) offset ∷ ts)
    (ap (λ (bs : List ℕ). tokens_from (length (inner ++ (34 ∷ []))) (suc offset) bs) apart
    ∙ skips (inner ++ (34 ∷ [])) rest (suc offset)
    ∙ ap (λ (n : ℕ). tokens_from 0 n rest) behind))

front_bytes : (inner : List ℕ) → take (length inner) (inner ++ (34 ∷ [])) ≡ inner
front_bytes [] = refl
front_bytes (byte ∷ inner) = ap (λ (bs : List ℕ). byte ∷ bs) (front_bytes inner)

pub inner_is : (inner : List ℕ) → between_quotes (34 ∷ (inner ++ (34 ∷ []))) ≡ inner
inner_is inner =
    let size = length-append inner (34 ∷ []) in
    let less : suc (length (inner ++ (34 ∷ []))) - 2 ≡ length inner = omega arith in
    ap (λ (n : ℕ). take n (inner ++ (34 ∷ []))) less ∙ front_bytes inner
