-- Plain bytes, operators of one byte, and tests of all bytes.
use Rattle.std.proofs.Common.{◌≡◌, ℕ, zero, suc, ◌+◌, ◌<◌, Bool, true, false, not, cond, ◌&&◌, ◌||◌, ◌==◌, List, [], ◌∷◌, drop, refl, ap, ◌∙◌, arith}
use Rattle.asm_base.specs.ByteClasses.{is_feed, is_blank, begins_with, line_goes_on}
use Rattle.asm_base.specs.Dividing.{comment_kind, is_plain, piece_kind, string_kind}
use Rattle.asm_base.specs.declared.pieces.PieceKind.{PieceKind}
use Rattle.asm_base.specs.declared.pieces.PieceKind.TheVariants as piece
use Rattle.asm_base.specs.Tokens.{is_long_operator}
use Rattle.asm_lexemes.specs.Classes.{begins_long_operator}

-- the tests of a byte that is none of the special ones
kind_of_plain : (feed semicolon blank return hash slash quote double x y z : Bool) (comment quoted : PieceKind)
    → not (feed || semicolon || blank || return || hash || slash || quote || double) ≡ true
    → cond feed piece.LineFeed (cond semicolon piece.Semicolon (cond (blank || (return && x)) piece.Blank (cond hash piece.LineComment (cond (slash && y) comment (cond (quote && z) piece.Character (cond double quoted piece.Other)))))) ≡ piece.Other
kind_of_plain true b c d e f g h x y z comment quoted plain = cc
kind_of_plain false true c d e f g h x y z comment quoted plain = cc
kind_of_plain false false true d e f g h x y z comment quoted plain = cc
kind_of_plain false false false true e f g h x y z comment quoted plain = cc
kind_of_plain false false false false true f g h x y z comment quoted plain = cc
kind_of_plain false false false false false true g h x y z comment quoted plain = cc
kind_of_plain false false false false false false true h x y z comment quoted plain = cc
kind_of_plain false false false false false false false true x y z comment quoted plain = cc
kind_of_plain false false false false false false false false x y z comment quoted plain = refl

pub plain_kind : (byte : ℕ) (rest : List ℕ) → is_plain byte ≡ true → piece_kind byte rest ≡ piece.Other
unfolding is_plain piece_kind
plain_kind byte rest plain =
    kind_of_plain (is_feed byte) (byte == 59) (is_blank byte) (byte == 13) (byte == 35) (byte == 47) (byte == 39) (byte == 34) (begins_with 10 rest) (begins_with 42 rest) (line_goes_on rest) (comment_kind (drop 1 rest)) (string_kind rest) plain

-- what begins no long operator is none
no_pair : (a b c d e f a1 b1 c1 d1 e1 f1 g1 h1 i1 : Bool) → (a || b || c || d || e || f) ≡ false
    → (a && (a1 && true) || (b && (b1 && true) || (c && (c1 && true) || (a && (d1 && true) || (d && (e1 && true) || (b && (f1 && true) || (a && (g1 && true) || (e && (h1 && true) || (f && (i1 && true) || false))))))))) ≡ false
no_pair true b c d e f a1 b1 c1 d1 e1 f1 g1 h1 i1 none = cc
no_pair false true c d e f a1 b1 c1 d1 e1 f1 g1 h1 i1 none = cc
no_pair false false true d e f a1 b1 c1 d1 e1 f1 g1 h1 i1 none = cc
no_pair false false false true e f a1 b1 c1 d1 e1 f1 g1 h1 i1 none = cc
no_pair false false false false true f a1 b1 c1 d1 e1 f1 g1 h1 i1 none = cc
no_pair false false false false false true a1 b1 c1 d1 e1 f1 g1 h1 i1 none = cc
no_pair false false false false false false a1 b1 c1 d1 e1 f1 g1 h1 i1 none = refl

none_long : (byte second : ℕ) (rest : List ℕ) → begins_long_operator byte ≡ false → is_long_operator byte (second ∷ rest) ≡ false
unfolding begins_long_operator is_long_operator
none_long byte second rest none =
    no_pair (60 == byte) (62 == byte) (61 == byte) (33 == byte) (38 == byte) (124 == byte) (60 == second) (62 == second) (61 == second) (62 == second) (61 == second) (61 == second) (61 == second) (38 == second) (124 == second) none

pub short_long : (byte : ℕ) (rest : List ℕ) → begins_long_operator byte ≡ false → is_long_operator byte rest ≡ false
unfolding is_long_operator
short_long byte [] none = refl
short_long byte (second ∷ rest) none = none_long byte second rest none

both : (a b : Bool) → (a && b) ≡ true → (a ≡ true) × (b ≡ true)
both true b e = (refl, e)
both false b e = cc

-- the test holds of so many bytes from this one on
unfoldable pub holds_from : (ℕ → Bool) → ℕ → ℕ → Bool
holds_from test zero byte = true
holds_from test (suc n) byte = test byte && holds_from test n (suc byte)

holds_at : (test : ℕ → Bool) (n byte i : ℕ) → holds_from test n byte ≡ true → i < n → test (byte + i) ≡ true
unfolding holds_from
holds_at test zero byte i all within = absurd (omega arith)
holds_at test (suc n) byte zero all within = let e : byte + 0 ≡ byte = omega arith in ap test e ∙ (both (test byte) (holds_from test n (suc byte)) all).0
holds_at test (suc n) byte (suc i) all within =
    let e : byte + suc i ≡ suc byte + i = omega arith in
    ap test e ∙ holds_at test n (suc byte) i (both (test byte) (holds_from test n (suc byte)) all).1 (omega arith)

-- what is computed of all bytes holds of each
pub of_byte : (test : ℕ → Bool) (byte : ℕ) → byte < 256 → holds_from test 256 0 ≡ true → test byte ≡ true
of_byte test byte within all = let e : byte ≡ 0 + byte = omega arith in ap test e ∙ holds_at test 256 0 byte all within
