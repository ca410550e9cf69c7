-- A text may be cut behind a piece or a token: what stands before the cut is read as before.
use Rattle.std.proofs.Common.{◌≡◌, ℕ, zero, suc, ◌+◌, ◌-◌, ◌<◌, ◌≤◌, Bool, true, false, cond, ◌&&◌, ◌||◌, ◌==◌, List, [], ◌∷◌, ◌++◌, length, take, refl, sym, ap, ◌∙◌, arith}
use Rattle.std.specs.List.{prefix_len}
use Rattle.std.proofs.lemmas.List.Sums.{prefix_len-le-length}
use Rattle.std.proofs.lemmas.Bool.{false≢true}
use Rattle.std.proofs.Math.Seq.{take-append-add}
use Rattle.asm_base.specs.ByteClasses.{is_feed, is_blank, is_name_byte, begins_with, line_goes_on}
use Rattle.asm_base.specs.Pieces.{IsPiece, EndsLine, begins_class, is_blank_before, is_space}
use Rattle.asm_base.specs.Dividing.{is_plain, piece_kind, piece_length}
use Rattle.asm_base.specs.declared.pieces.PieceKind.{PieceKind}
use Rattle.asm_base.specs.declared.pieces.PieceKind.TheVariants as piece
use Rattle.asm_base.specs.declared.tokens.TokenKind.{TokenKind}
use Rattle.asm_base.specs.declared.tokens.TokenKind.TheVariants.{Name, Digits, Character, String, Operator, Other}
use Rattle.asm_base.specs.Tokens.{is_long_operator, token_kind_by, token_kind, token_length}
use Rattle.asm_lexemes.specs.Lexemes.{is_unclosed, makes_tokens}
use Rattle.asm_lines.proofs.PlainBytes.{plain_kind}
use Rattle.asm_lines.proofs.TokenPieces.{piece_token, plain_token}
use Rattle.asm_lines.proofs.FirstPieces.{OneDivision, by_grammar, piece_within, same_front}

-- what stands in front of a list stands in front of its beginning
begins_cut : (byte k : ℕ) (after : List ℕ) → begins_with byte (take (suc k) after) ≡ begins_with byte after
begins_cut byte k [] = refl
begins_cut byte k (first ∷ rest) = refl

line_cut : (k : ℕ) (after : List ℕ) → line_goes_on (take (suc k) after) ≡ line_goes_on after
line_cut k [] = refl
line_cut k (first ∷ rest) = refl

ends_cut : (k : ℕ) (after : List ℕ) → EndsLine after → EndsLine (take k after)
ends_cut zero after ends = refl
ends_cut (suc k) after ends = line_cut k after ∙ ends

-- nothing behind a byte makes it less
quoted : (slash quote double y z : Bool) → (slash && y || (quote && z) || double) ≡ false → (slash && false || (quote && false) || double) ≡ false
quoted true true double true z none = cc
quoted true true double false true none = cc
quoted true true double false false none = none
quoted true false double true z none = cc
quoted true false double false z none = none
quoted false true double y true none = cc
quoted false true double y false none = none
quoted false false double y z none = none

class_cut : (feed semicolon blank return hash slash quote double x y z : Bool) → (feed || semicolon || (blank || (return && x)) || hash || (slash && y) || (quote && z) || double) ≡ false
    → (feed || semicolon || (blank || (return && false)) || hash || (slash && false) || (quote && false) || double) ≡ false
class_cut true b c d e f g h x y z none = cc
class_cut false true c d e f g h x y z none = cc
class_cut false false true d e f g h x y z none = cc
class_cut false false false true true f g h true y z none = cc
class_cut false false false true true f g h false y z none = cc
class_cut false false false false true f g h x y z none = cc
class_cut false false false true false f g h true y z none = cc
class_cut false false false true false f g h false y z none = quoted f g h y z none
class_cut false false false false false f g h x y z none = quoted f g h y z none

other_cut : (k byte : ℕ) (after : List ℕ) → begins_class byte after ≡ false → begins_class byte (take k after) ≡ false
other_cut zero byte after none = class_cut (is_feed byte) (byte == 59) (is_blank byte) (byte == 13) (byte == 35) (byte == 47) (byte == 39) (byte == 34) (begins_with 10 after) (begins_with 42 after) (line_goes_on after) none
other_cut (suc k) byte after none = rw (begins_cut 10 k after, begins_cut 42 k after, line_cut k after) none

blank_cut : (k byte : ℕ) (after : List ℕ) → 0 < k → is_blank_before byte after ≡ true → is_blank_before byte (take k after) ≡ true
blank_cut zero byte after some blank = absurd (omega arith)
blank_cut (suc k) byte after some blank = rw (begins_cut 10 k after) blank

-- a piece that closes is one before a cut too
piece_cut : (kind : PieceKind) (k : ℕ) (bytes after : List ℕ) → is_unclosed kind ≡ false → (is_space kind ≡ true → 0 < k) → IsPiece kind bytes after → IsPiece kind bytes (take k after)
piece_cut piece.LineFeed k bytes after closes some is = is
piece_cut piece.Semicolon k bytes after closes some is = is
piece_cut piece.Blank k bytes after closes some is = (is.0, is.1, blank_cut k is.0 after (some refl) is.2)
piece_cut piece.LineComment k bytes after closes some is = (is.0, is.1, is.2, ends_cut k after is.3)
piece_cut piece.BlockComment k bytes after closes some is = is
piece_cut piece.OpenComment k bytes after closes some is = cc
piece_cut piece.Character k bytes after closes some is = is
piece_cut piece.String k bytes after closes some is = is
piece_cut piece.OpenString k bytes after closes some is = cc
piece_cut piece.Other k bytes after closes some is = (is.0, is.1, other_cut k is.0 after is.2)

-- a piece before a cut that stands so far behind it
pub local_piece : OneDivision → (first : ℕ) (rest : List ℕ) (k : ℕ) → is_unclosed (piece_kind first rest) ≡ false → (is_space (piece_kind first rest) ≡ true → 0 < k)
    → (let cut = take (piece_length (piece_kind first rest) rest - 1 + k) rest in (piece_kind first cut ≡ piece_kind first rest) × (piece_length (piece_kind first rest) cut ≡ piece_length (piece_kind first rest) rest))
local_piece law first rest k closes some =
    let here = by_grammar law first rest in
    let count : piece_length (piece_kind first rest) rest - 1 + k ≡ length here.more + k = omega (arith, here.length_is) in
    let cut : take (piece_length (piece_kind first rest) rest - 1 + k) rest ≡ here.more ++ take k here.after = ap (λ n. take n rest) count ∙ ap (take (length here.more + k)) here.rest_is ∙ take-append-add here.more here.after k in
    let before = piece_cut here.kind k (first ∷ here.more) here.after (ap is_unclosed (sym here.kind_is) ∙ closes) (λ space. some (ap is_space here.kind_is ∙ space)) here.piece in
    let same = same_front law first here.more (take k here.after) here.kind before in
    (ap (piece_kind first) cut ∙ same.0 ∙ sym here.kind_is, ap (piece_length (piece_kind first rest)) cut ∙ ap (λ kind. piece_length kind (here.more ++ take k here.after)) here.kind_is ∙ same.1 ∙ sym here.length_is)

-- a run before a cut behind it
run_cut : (p : ℕ → Bool) (bytes : List ℕ) (k : ℕ) → prefix_len p (take (prefix_len p bytes + k) bytes) ≡ prefix_len p bytes
run_cut p [] k = none (0 + k)
  where
    none : (n : ℕ) → prefix_len p (take n ([])) ≡ 0
    none zero = refl
    none (suc n) = refl
run_cut p (byte ∷ rest) k = by_class (p byte) refl (run_cut p rest k)
  where
    by_class : (passes : Bool) → p byte ≡ passes → prefix_len p (take (prefix_len p rest + k) rest) ≡ prefix_len p rest → prefix_len p (take (cond passes (1 + prefix_len p rest) 0 + k) (byte ∷ rest)) ≡ cond passes (1 + prefix_len p rest) 0
    by_class true is later = let count : 1 + prefix_len p rest + k ≡ suc (prefix_len p rest + k) = omega arith in rw (count, is, later) refl
    by_class false is later = none k
      where
        none : (n : ℕ) → prefix_len p (take (0 + n) (byte ∷ rest)) ≡ 0
        none zero = refl
        none (suc n) = let count : 0 + suc n ≡ suc n = omega arith in rw (count, is) refl

-- an operator before a cut behind it
pair_cut : (first : ℕ) (rest : List ℕ) (k n : ℕ) → n ≡ suc k → is_long_operator first rest ≡ true → is_long_operator first (take n rest) ≡ true
unfolding is_long_operator
pair_cut first [] k n n_is long = cc
pair_cut first (second ∷ rest) k n n_is long = rw n_is long

no_pair_cut : (first : ℕ) (rest : List ℕ) (n : ℕ) → is_long_operator first rest ≡ false → is_long_operator first (take n rest) ≡ false
unfolding is_long_operator
no_pair_cut first rest zero short = refl
no_pair_cut first [] (suc n) short = refl
no_pair_cut first (second ∷ rest) (suc n) short = short

abbrev size : Bool → ℕ
size long = cond long 2 1

operator_cut : (first : ℕ) (rest : List ℕ) (k : ℕ) (long : Bool) → is_long_operator first rest ≡ long → size (is_long_operator first (take (size long - 1 + k) rest)) ≡ size long
operator_cut first rest k true is = ap size (pair_cut first rest k (2 - 1 + k) (omega arith) is)
operator_cut first rest k false is = ap size (no_pair_cut first rest (1 - 1 + k) is)

name_cut : (rest : List ℕ) (k : ℕ) → 1 + prefix_len is_name_byte (take (1 + prefix_len is_name_byte rest - 1 + k) rest) ≡ 1 + prefix_len is_name_byte rest
name_cut rest k = let count : 1 + prefix_len is_name_byte rest - 1 + k ≡ prefix_len is_name_byte rest + k = omega arith in rw (count, run_cut is_name_byte rest k) refl

-- a token before a cut that stands so far behind it
length_cut : (first : ℕ) (rest : List ℕ) (k : ℕ) (kind : TokenKind) → is_plain first ≡ true → token_length kind first (take (token_length kind first rest - 1 + k) rest) ≡ token_length kind first rest
unfolding token_length piece_length
length_cut first rest k Name plain = name_cut rest k
length_cut first rest k Digits plain = name_cut rest k
length_cut first rest k Operator plain = by_long (is_long_operator first rest) refl
  where
    by_long : (long : Bool) → is_long_operator first rest ≡ long → size (is_long_operator first (take (size (is_long_operator first rest) - 1 + k) rest)) ≡ size (is_long_operator first rest)
    by_long long is = rw is (operator_cut first rest k long is)
length_cut first rest k Character plain = rw (plain_kind first _ plain) (rw (plain_kind first _ plain) refl)
length_cut first rest k String plain = rw (plain_kind first _ plain) (rw (plain_kind first _ plain) refl)
length_cut first rest k Other plain = rw (plain_kind first _ plain) (rw (plain_kind first _ plain) refl)

pub record SameToken (first : ℕ) (rest cut : List ℕ) : Type 0 where
  pub piece : makes_tokens (piece_kind first cut) ≡ true
  pub kind : token_kind first cut ≡ token_kind first rest
  pub length : token_length (token_kind first cut) first cut ≡ token_length (token_kind first rest) first rest

pub local_token : OneDivision → (first : ℕ) (rest : List ℕ) (k : ℕ) → makes_tokens (piece_kind first rest) ≡ true → is_unclosed (piece_kind first rest) ≡ false → is_space (piece_kind first rest) ≡ false
    → SameToken first rest (take (token_length (token_kind first rest) first rest - 1 + k) rest)
unfolding token_kind
local_token law first rest k makes closes no_space = by_class (is_plain first) refl
  where
    cut : List ℕ
    cut = take (token_length (token_kind first rest) first rest - 1 + k) rest

    by_class : (plain : Bool) → is_plain first ≡ plain → SameToken first rest cut
    by_class true plain =
        let same : piece_kind first cut ≡ piece_kind first rest = plain_kind first cut plain ∙ sym (plain_kind first rest plain) in
        let kind : token_kind first cut ≡ token_kind first rest = ap (token_kind_by first) same in
        record { piece = ap makes_tokens same ∙ makes; kind = kind; length = ap (λ t. token_length t first cut) kind ∙ length_cut first rest k (token_kind first rest) plain }
    by_class false special =
        let whole = piece_token first rest special makes in
        let at_piece : cut ≡ take (piece_length (piece_kind first rest) rest - 1 + k) rest = ap (λ n. take (n - 1 + k) rest) whole in
        let local = local_piece law first rest k closes (λ space. absurd (false≢true (sym no_space ∙ space))) in
        let same : piece_kind first cut ≡ piece_kind first rest = ap (piece_kind first) at_piece ∙ local.0 in
        let kind : token_kind first cut ≡ token_kind first rest = ap (token_kind_by first) same in
        let long : piece_length (piece_kind first cut) cut ≡ piece_length (piece_kind first rest) rest = ap (λ t. piece_length t cut) same ∙ ap (piece_length (piece_kind first rest)) at_piece ∙ local.1 in
        record { piece = ap makes_tokens same ∙ makes; kind = kind; length = piece_token first cut special (ap makes_tokens same ∙ makes) ∙ long ∙ sym whole }

-- a token lies within its text
pub token_within : OneDivision → (first : ℕ) (rest : List ℕ) → makes_tokens (piece_kind first rest) ≡ true → token_length (token_kind first rest) first rest ≤ 1 + length rest
token_within law first rest makes = by_class (is_plain first) refl
  where
    by_class : (plain : Bool) → is_plain first ≡ plain → token_length (token_kind first rest) first rest ≤ 1 + length rest
    by_class true plain = omega (arith, plain_token first rest (token_kind first rest) plain, prefix_len-le-length is_plain (first ∷ rest))
    by_class false special = omega (arith, piece_token first rest special makes, piece_within law first rest)
