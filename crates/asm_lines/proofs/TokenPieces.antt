-- A token is a run of whole pieces, none of which ends a statement or stands between tokens.
use Rattle.std.proofs.Common.{◌≡◌, ℕ, zero, suc, ◌+◌, ◌<◌, ◌≤◌, Bool, true, false, cond, ◌&&◌, ◌||◌, ◌==◌, List, [], ◌∷◌, ◌++◌, length, get_or, take, drop, eqb-true, refl, sym, ap, subst, ◌∙◌, arith, append_assoc, ◌⊎◌, inl, inr}
use Rattle.std.specs.List.{prefix_len, AllByRecursion}
use Rattle.std.specs.Char.{is_ascii_digit}
use Rattle.std.proofs.lemmas.Bool.{not-false}
use Rattle.std.proofs.lemmas.List.{drop-drop, drop_more, length-take}
use Rattle.std.proofs.lemmas.List.Sums.{prefix_len_passes, prefix_len-le-length}
use Rattle.asm_base.specs.ByteClasses.{is_blank, is_name_start, is_name_byte, is_operator_byte}
use Rattle.asm_base.specs.Pieces.{Piece, is_comment}
use Rattle.asm_base.specs.Dividing.{is_plain, piece_kind, piece_length, first_piece}
use Rattle.asm_base.specs.declared.pieces.PieceKind.{PieceKind}
use Rattle.asm_base.specs.declared.pieces.PieceKind.TheVariants as piece
use Rattle.asm_base.specs.declared.tokens.TokenKind.{TokenKind}
use Rattle.asm_base.specs.declared.tokens.TokenKind.TheVariants.{Name, Digits, Character, String, Operator, Other}
use Rattle.asm_base.specs.Tokens.{is_long_operator, kind_by_piece, token_kind_by, token_kind, token_length}
use Rattle.asm_lines.specs.Intervals.{own_bytes}
use Rattle.asm_lines.specs.LineNumbers.{end_of_pieces}
use Rattle.asm_lines.specs.Scan.{pieces_at}
use Rattle.asm_lines.proofs.Pieces.{one_off}
use Rattle.asm_lexemes.specs.Classes.{begins_long_operator}
use Rattle.asm_lexemes.specs.Lexemes.{makes_tokens}
use Rattle.asm_lines.specs.StatementTokens.{own_behind}
use Rattle.asm_lines.proofs.PlainBytes.{plain_kind, short_long}

-- a byte that is not plain is one of nine
either_of : (R : Type 0) (a b : Bool) → (a || b) ≡ true → (a ≡ true → R) → (b ≡ true → R) → R
either_of R true b e one other = one refl
either_of R false b e one other = other e

at_byte : (P : ℕ → Type 0) (byte k : ℕ) → P k → (byte == k) ≡ true → P byte
at_byte P byte k here e = subst P (sym (eqb-true byte k e)) here

special : (P : ℕ → Type 0) (byte : ℕ) → is_plain byte ≡ false → P 10 → P 59 → P 32 → P 9 → P 13 → P 35 → P 47 → P 39 → P 34 → P byte
unfolding is_plain is_blank
special P byte none p10 p59 p32 p9 p13 p35 p47 p39 p34 =
    either_of (P byte) _ (byte == 34) (not-false _ none)
    (λ e7. either_of (P byte) _ (byte == 39) e7
    (λ e6. either_of (P byte) _ (byte == 47) e6
    (λ e5. either_of (P byte) _ (byte == 35) e5
    (λ e4. either_of (P byte) _ (byte == 13) e4
    (λ e3. either_of (P byte) _ (byte == 32 || byte == 9) e3
    (λ e2. either_of (P byte) (byte == 10) (byte == 59) e2 (at_byte P byte 10 p10) (at_byte P byte 59 p59))
    (λ b. either_of (P byte) (byte == 32) (byte == 9) b (at_byte P byte 32 p32) (at_byte P byte 9 p9)))
    (at_byte P byte 13 p13)) (at_byte P byte 35 p35)) (at_byte P byte 47 p47)) (at_byte P byte 39 p39)) (at_byte P byte 34 p34)

-- a byte of a name is plain
pub name_is_plain : (byte : ℕ) → is_name_byte byte ≡ true → is_plain byte ≡ true
unfolding is_name_byte is_name_start
name_is_plain byte name = let same = by_class (is_plain byte) refl in same
  where
    by_class : (plain : Bool) → is_plain byte ≡ plain → plain ≡ true
    by_class true is = refl
    by_class false is = let no : is_name_byte byte ≡ false = special (λ b. is_name_byte b ≡ false) byte is refl refl refl refl refl refl refl refl refl in cc

names_are_plain : (bytes : List ℕ) → prefix_len is_name_byte bytes ≤ prefix_len is_plain bytes
names_are_plain [] = omega arith
names_are_plain (byte ∷ rest) = by_class (is_name_byte byte) refl (names_are_plain rest)
  where
    by_class : (name : Bool) → is_name_byte byte ≡ name → prefix_len is_name_byte rest ≤ prefix_len is_plain rest → cond name (1 + prefix_len is_name_byte rest) 0 ≤ cond (is_plain byte) (1 + prefix_len is_plain rest) 0
    by_class true is later = rw (name_is_plain byte is) (omega arith)
    by_class false is later = omega arith

-- the second byte of an operator is plain
and_false : (b : Bool) → (b && false) ≡ false
and_false true = refl
and_false false = refl

second_is_plain : (first second : ℕ) (rest : List ℕ) → is_long_operator first (second ∷ rest) ≡ true → is_plain second ≡ true
unfolding is_long_operator
second_is_plain first second rest long = by_class (is_plain second) refl
  where
    by_class : (plain : Bool) → is_plain second ≡ plain → plain ≡ true
    by_class true is = refl
    by_class false is = let no = special (λ b. is_long_operator first (b ∷ rest) ≡ false) second is (simp and_false) (simp and_false) (simp and_false) (simp and_false) (simp and_false) (simp and_false) (simp and_false) (simp and_false) (simp and_false) in let never = sym no ∙ long in cc

-- the offset behind the last of these pieces, or else this one
unfoldable pub end_behind : ℕ → List Piece → ℕ
end_behind end [] = end
end_behind end (piece ∷ pieces) = end_of_pieces piece pieces

-- these many bytes from this offset on are whole pieces of tokens
abbrev pub MakesTokens : Piece → Type 0
MakesTokens piece = makes_tokens piece.kind ≡ true

pub record TokenPieces (source : List ℕ) (at n : ℕ) : Type 0 where
  pub pieces : List Piece
  pub stands : pieces_at source at ≡ pieces ++ pieces_at source (at + n)
  pub make_tokens : AllByRecursion MakesTokens pieces
  pub ends : (kept : List Piece) → end_behind at (pieces ++ kept) ≡ end_behind (at + n) kept
  pub owns : (passed : ℕ) (kept : List Piece) → own_behind passed passed (pieces ++ kept) ≡ own_behind (passed + n) (passed + n) kept

no_token_pieces : (source : List ℕ) (at : ℕ) → TokenPieces source at 0
no_token_pieces source at =
    let same : at ≡ at + 0 = omega arith in
    record { pieces = []; stands = ap (pieces_at source) same; make_tokens = tt; ends = λ kept. ap (λ k. end_behind k kept) same; owns = λ passed kept. let same_passed : passed ≡ passed + 0 = omega arith in ap (λ k. own_behind k k kept) same_passed }

all_of_both : (one other : List Piece) → AllByRecursion MakesTokens one → AllByRecursion MakesTokens other → AllByRecursion MakesTokens (one ++ other)
all_of_both [] other these those = those
all_of_both (piece ∷ pieces) other these those = (these.0, all_of_both pieces other these.1 those)

more_token_pieces : (source : List ℕ) (at n m : ℕ) → TokenPieces source at n → TokenPieces source (at + n) m → TokenPieces source at (n + m)
more_token_pieces source at n m one other =
    let same : at + n + m ≡ at + (n + m) = omega arith in
    record {
      pieces = one.pieces ++ other.pieces;
      stands = one.stands ∙ ap (λ these. one.pieces ++ these) other.stands ∙ sym (append_assoc one.pieces other.pieces (pieces_at source (at + n + m))) ∙ ap (λ k. one.pieces ++ other.pieces ++ pieces_at source k) same;
      make_tokens = all_of_both one.pieces other.pieces one.make_tokens other.make_tokens;
      ends = λ kept. ap (end_behind at) (append_assoc one.pieces other.pieces kept) ∙ one.ends (other.pieces ++ kept) ∙ other.ends kept ∙ ap (λ k. end_behind k kept) same;
      owns = λ passed kept. let count : passed + n + m ≡ passed + (n + m) = omega arith in ap (own_behind passed passed) (append_assoc one.pieces other.pieces kept) ∙ one.owns passed (other.pieces ++ kept) ∙ other.owns (passed + n) kept ∙ ap (λ k. own_behind k k kept) count;
    }

-- one piece
end_of_one : (at n : ℕ) (here : Piece) (kept : List Piece) → here.start + length here.bytes ≡ at + n → end_behind at (here ∷ kept) ≡ end_behind (at + n) kept
unfolding end_behind
end_of_one at n here [] long = long
end_of_one at n here (next ∷ others) long = refl

own_of_token_piece : (kind : PieceKind) (n : ℕ) → makes_tokens kind ≡ true → cond (is_comment kind) 0 n ≡ n
own_of_token_piece piece.Character n makes = refl
own_of_token_piece piece.String n makes = refl
own_of_token_piece piece.Other n makes = refl
own_of_token_piece piece.LineFeed n makes = refl
own_of_token_piece piece.Semicolon n makes = refl
own_of_token_piece piece.Blank n makes = refl
own_of_token_piece piece.LineComment n makes = cc
own_of_token_piece piece.BlockComment n makes = cc
own_of_token_piece piece.OpenComment n makes = cc
own_of_token_piece piece.OpenString n makes = refl

own_of_one : (n passed : ℕ) (here : Piece) (kept : List Piece) → own_bytes here ≡ n → own_behind passed passed (here ∷ kept) ≡ own_behind (passed + n) (passed + n) kept
unfolding own_behind
own_of_one n passed here [] own = omega (arith, own)
own_of_one n passed here (next ∷ others) own = omega (arith, own)

one_token_piece : (source : List ℕ) (at first : ℕ) (rest : List ℕ) (n : ℕ) → drop at source ≡ first ∷ rest → n ≡ piece_length (piece_kind first rest) rest → 0 < n → n ≤ 1 + length rest → makes_tokens (piece_kind first rest) ≡ true → TokenPieces source at n
one_token_piece source at first rest n front n_is some within makes =
    let long : at + length (take (piece_length (piece_kind first rest) rest) (first ∷ rest)) ≡ at + n = omega (arith, length-take (piece_length (piece_kind first rest) rest) (first ∷ rest)) in
    record {
      pieces = first_piece at first rest ∷ [];
      stands = one_off source at first rest n front n_is some;
      make_tokens = (makes, tt);
      ends = λ kept. end_of_one at n (first_piece at first rest) kept long;
      owns = λ passed kept. own_of_one n passed (first_piece at first rest) kept (own_of_token_piece (piece_kind first rest) _ makes ∙ omega arith);
    }

-- a run of plain bytes
plain_token_pieces : (n : ℕ) (source : List ℕ) (at : ℕ) → n ≤ prefix_len is_plain (drop at source) → TokenPieces source at n
unfolding piece_length
plain_token_pieces zero source at run = no_token_pieces source at
plain_token_pieces (suc n) source at run =
    let byte = get_or (drop at source) n 0 in
    let rest = drop (n + 1) (drop at source) in
    let front : drop (at + n) source ≡ byte ∷ rest = sym (drop-drop n at source) ∙ drop_more (drop at source) n 0 (omega (arith, prefix_len-le-length is_plain (drop at source))) in
    let kind : piece_kind byte rest ≡ piece.Other = plain_kind byte rest (prefix_len_passes is_plain (drop at source) n 0 (omega arith)) in
    let one = one_token_piece source (at + n) byte rest 1 front (rw kind refl) (omega arith) (omega arith) (ap makes_tokens kind) in
    let count : n + 1 ≡ suc n = omega arith in
    subst (TokenPieces source at) count (more_token_pieces source at n 1 (plain_token_pieces n source at (omega arith)) one)

-- how many plain bytes a token has whose first byte is plain
pub plain_token : (first : ℕ) (rest : List ℕ) (kind : TokenKind) → is_plain first ≡ true → token_length kind first rest ≤ prefix_len is_plain (first ∷ rest)
unfolding token_length piece_length is_long_operator
plain_token first rest Name plain = rw plain (omega (arith, names_are_plain rest))
plain_token first rest Digits plain = rw plain (omega (arith, names_are_plain rest))
plain_token first [] Operator plain = rw plain (omega arith)
plain_token first (second ∷ rest) Operator plain = by_pair (is_long_operator first (second ∷ rest)) refl
  where
    by_pair : (long : Bool) → is_long_operator first (second ∷ rest) ≡ long → cond long 2 1 ≤ prefix_len is_plain (first ∷ second ∷ rest)
    by_pair true is = rw (plain, second_is_plain first second rest is) (omega arith)
    by_pair false is = rw plain (omega arith)
plain_token first rest Character plain = rw (plain_kind first rest plain, plain) (omega arith)
plain_token first rest String plain = rw (plain_kind first rest plain, plain) (omega arith)
plain_token first rest Other plain = rw (plain_kind first rest plain, plain) (omega arith)

-- a token whose first byte is not plain is one piece
marked : (first : ℕ) (rest : List ℕ) (here : PieceKind) (operator : Bool) → here ≡ piece_kind first rest → makes_tokens here ≡ true → is_long_operator first rest ≡ false → is_operator_byte first ≡ operator
    → token_length (kind_by_piece first here) first rest ≡ piece_length here rest
unfolding token_length piece_length
marked first rest piece.Character operator is makes short mark = ap (λ k. piece_length k rest) (sym is)
marked first rest piece.String operator is makes short mark = ap (λ k. piece_length k rest) (sym is)
marked first rest piece.Other true is makes short mark = rw (mark, short) refl
marked first rest piece.Other false is makes short mark = rw mark (ap (λ k. piece_length k rest) (sym is))
marked first rest piece.LineFeed operator is makes short mark = cc
marked first rest piece.Semicolon operator is makes short mark = cc
marked first rest piece.Blank operator is makes short mark = cc
marked first rest piece.LineComment operator is makes short mark = cc
marked first rest piece.BlockComment operator is makes short mark = cc
marked first rest piece.OpenComment operator is makes short mark = cc
marked first rest piece.OpenString operator is makes short mark = cc

pub piece_token : (first : ℕ) (rest : List ℕ) → is_plain first ≡ false → makes_tokens (piece_kind first rest) ≡ true → token_length (token_kind first rest) first rest ≡ piece_length (piece_kind first rest) rest
unfolding token_kind is_name_start begins_long_operator
piece_token first rest special_byte makes =
    let start : is_name_start first ≡ false = special (λ b. is_name_start b ≡ false) first special_byte refl refl refl refl refl refl refl refl refl in
    let digit : is_ascii_digit first ≡ false = special (λ b. is_ascii_digit b ≡ false) first special_byte refl refl refl refl refl refl refl refl refl in
    let short : is_long_operator first rest ≡ false = short_long first rest (special (λ b. begins_long_operator b ≡ false) first special_byte refl refl refl refl refl refl refl refl refl) in
    let kind : token_kind_by first (piece_kind first rest) ≡ kind_by_piece first (piece_kind first rest) = rw (start, digit) refl in
    ap (λ k. token_length k first rest) kind ∙ marked first rest (piece_kind first rest) (is_operator_byte first) refl makes short refl

-- a token is a run of plain bytes, or one piece
pub token_run : (source : List ℕ) (at first : ℕ) (rest : List ℕ) (n : ℕ) → drop at source ≡ first ∷ rest → makes_tokens (piece_kind first rest) ≡ true → n ≡ token_length (token_kind first rest) first rest
    → (n ≤ prefix_len is_plain (drop at source)) ⊎ (n ≡ piece_length (piece_kind first rest) rest)
token_run source at first rest n front makes n_is = by_class (is_plain first) refl
  where
    by_class : (plain : Bool) → is_plain first ≡ plain → (n ≤ prefix_len is_plain (drop at source)) ⊎ (n ≡ piece_length (piece_kind first rest) rest)
    by_class true plain =
        let run : n ≤ prefix_len is_plain (first ∷ rest) = omega (arith, n_is, plain_token first rest (token_kind first rest) plain) in
        inl (rw front run)
    by_class false plain = inr (n_is ∙ piece_token first rest plain makes)

-- a token is a run of whole pieces
pub pieces_of_token : (source : List ℕ) (at first : ℕ) (rest : List ℕ) (n : ℕ) → drop at source ≡ first ∷ rest → makes_tokens (piece_kind first rest) ≡ true → n ≡ token_length (token_kind first rest) first rest → 0 < n → n ≤ 1 + length rest → TokenPieces source at n
pieces_of_token source at first rest n front makes n_is some within = by_class (is_plain first) refl
  where
    by_class : (plain : Bool) → is_plain first ≡ plain → TokenPieces source at n
    by_class true plain =
        let run : n ≤ prefix_len is_plain (first ∷ rest) = omega (arith, n_is, plain_token first rest (token_kind first rest) plain) in
        plain_token_pieces n source at (rw front run)
    by_class false plain = one_token_piece source at first rest n front (n_is ∙ piece_token first rest plain makes) some within makes
