-- A token that is a word has the bytes of a symbol's name.
use Rattle.std.proofs.Common.{◌≡◌, ℕ, suc, ◌+◌, ◌==◌, Bool, true, false, cond, List, [], ◌∷◌, length, take, refl, ap, arith}
use Rattle.std.proofs.lemmas.Bool.{eqb-true}
use Rattle.std.proofs.lemmas.Bool.Decides.{nat_tests}
use Rattle.std.specs.List.{list_any, prefix_len}
use Rattle.std.specs.Char.{is_ascii_digit}
use Rattle.asm_base.specs.ByteClasses.{is_name_start, is_name_byte, is_operator_byte}
use Rattle.asm_base.specs.Dividing.{piece_kind}
use Rattle.asm_base.specs.declared.pieces.PieceKind.{PieceKind}
use Rattle.asm_base.specs.declared.pieces.PieceKind.TheVariants as piece
use Rattle.asm_base.specs.declared.tokens.TokenKind.{TokenKind}
use Rattle.asm_base.specs.declared.tokens.TokenKind.TheVariants.{Name, Digits, Character, String, Operator, Other}
use Rattle.asm_base.specs.Tokens.{kind_by_piece, token_kind_by, token_kind, token_length}
use Rattle.expr_texts.specs.Leaves.{is_symbol_name}

-- a token of bytes, of which a word is a symbol's name
abbrev pub Named : TokenKind → List ℕ → Type 0
Named Name bytes = is_symbol_name bytes ≡ true
Named Digits bytes = Unit {0}
Named Character bytes = Unit {0}
Named String bytes = Unit {0}
Named Operator bytes = Unit {0}
Named Other bytes = Unit {0}

-- no byte of a name is 0
start_zero : is_name_start 0 ≡ false
unfolding is_name_start
start_zero = refl

byte_zero : is_name_byte 0 ≡ false
unfolding is_name_byte is_name_start
byte_zero = refl

-- a byte that passes a test which 0 fails is not 0
passes_some : (test : ℕ → Bool) (byte : ℕ) → test 0 ≡ false → test byte ≡ true → (byte == 0) ≡ false
passes_some test byte fails passes = by (byte == 0) refl
  where
    by : (b : Bool) → (byte == 0) ≡ b → b ≡ false
    by true is = let same : test byte ≡ test 0 = ap test (eqb-true byte 0 is) in cc
    by false is = refl

prefix_some : (bytes : List ℕ) → list_any (λ byte. byte == 0) (take (prefix_len is_name_byte bytes) bytes) ≡ false
prefix_some [] = refl
prefix_some (byte ∷ bytes) = step (is_name_byte byte) byte bytes refl (prefix_some bytes)
  where
    step : (b : Bool) (byte : ℕ) (bytes : List ℕ) → is_name_byte byte ≡ b → list_any (λ byte. byte == 0) (take (prefix_len is_name_byte bytes) bytes) ≡ false
        → list_any (λ byte. byte == 0) (take (cond b (1 + prefix_len is_name_byte bytes) 0) (byte ∷ bytes)) ≡ false
    step true byte bytes goes later =
        let one : 1 + prefix_len is_name_byte bytes ≡ suc (prefix_len is_name_byte bytes) = omega arith in
        let some = passes_some is_name_byte byte byte_zero goes in
        rw one (rw some later)
    step false byte bytes goes later = refl

-- only what begins a name is a word
piece_not : (first : ℕ) (kind : PieceKind) → kind_by_piece first kind ≡ Name → ⊥
piece_not first piece.LineFeed is = cc
piece_not first piece.Semicolon is = cc
piece_not first piece.Blank is = cc
piece_not first piece.LineComment is = cc
piece_not first piece.BlockComment is = cc
piece_not first piece.OpenComment is = cc
piece_not first piece.Character is = cc
piece_not first piece.String is = cc
piece_not first piece.OpenString is = cc
piece_not first piece.Other is = by (is_operator_byte first) is
  where
    by : (b : Bool) → cond b Operator Other ≡ Name → ⊥
    by true it = cc
    by false it = cc

name_starts : (first : ℕ) (kind : PieceKind) → token_kind_by first kind ≡ Name → is_name_start first ≡ true
name_starts first kind is = by (is_name_start first) (is_ascii_digit first) is
  where
    by : (a b : Bool) → cond a Name (cond b Digits (kind_by_piece first kind)) ≡ Name → a ≡ true
    by true b it = refl
    by false true it = cc
    by false false it = absurd (piece_not first kind it)

suc_some : (n : ℕ) → (suc n == 0) ≡ false
suc_some n = grind (arith, nat_tests)

pub token_named : (kind : TokenKind) (first : ℕ) (rest : List ℕ) → token_kind first rest ≡ kind → Named kind (take (token_length kind first rest) (first ∷ rest))
unfolding token_kind token_length
token_named Name first rest is =
    let one : 1 + prefix_len is_name_byte rest ≡ suc (prefix_len is_name_byte rest) = omega arith in
    let some = passes_some is_name_start first start_zero (name_starts first (piece_kind first rest) is) in
    let others = prefix_some rest in
    let positive = suc_some (length (take (prefix_len is_name_byte rest) rest)) in
    rw (one, positive, some, others)
token_named Digits first rest is = tt
token_named Character first rest is = tt
token_named String first rest is = tt
token_named Operator first rest is = tt
token_named Other first rest is = tt
