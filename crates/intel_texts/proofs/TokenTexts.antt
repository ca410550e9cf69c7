-- Tokens of words and marks, and texts without a comma.
use Rattle.std.proofs.Common.{◌≡◌, ℕ, ◌+◌, ◌==◌, ◌&&◌, not, Bool, true, false, cond, List, [], ◌∷◌, ◌++◌, Option, Some, None, length, refl, sym, ap, ◌∙◌}
use Rattle.std.proofs.lemmas.Bool.{and_parts, and_from}
use Rattle.std.specs.List.{list_all}
use Rattle.std.specs.Char.{is_ascii_digit}
use Rattle.asm_base.specs.declared.tokens.TokenKind.{TokenKind}
use Rattle.asm_base.specs.declared.tokens.TokenKind.TheVariants.{Name, Digits, Operator}
use Rattle.asm_base.specs.Tokens.{SpelledToken}
use Rattle.att_operands.specs.Marks.{mark_by}
use Rattle.att_operands.specs.Spells.{IsMark}
use Rattle.intel_operands.specs.OperandTexts.{is_no_comma}
use Rattle.att_texts.specs.Pieces.{PrintedPiece, word, mark, blank, word_kind, made, tokens_in}

-- a mark
pub marks : (byte offset : ℕ) → IsMark byte (made Operator (byte ∷ []) offset)
unfolding mark_by
marks byte offset = refl

-- a word is no mark
kind_by : (b : Bool) (bytes : List ℕ) (offset : ℕ) → mark_by (Some (made (cond b Digits Name) bytes offset)) ≡ 0
unfolding mark_by
kind_by true bytes offset = refl
kind_by false bytes offset = refl

pub word_mark : (bytes : List ℕ) (offset : ℕ) → mark_by (Some (made (word_kind bytes) bytes offset)) ≡ 0
word_mark [] offset = kind_by false [] offset
word_mark (first ∷ rest) offset = kind_by (is_ascii_digit first) (first ∷ rest) offset

-- the piece is no comma
abbrev pub is_comma_free : PrintedPiece → Bool
is_comma_free (word bytes) = true
is_comma_free (mark byte) = not (byte == 44)
is_comma_free blank = true

-- tokens of such pieces are no commas
pub no_commas : (offset : ℕ) (pieces : List PrintedPiece) → list_all is_comma_free pieces ≡ true → list_all is_no_comma (tokens_in offset pieces) ≡ true
unfolding is_no_comma
no_commas offset [] all = refl
no_commas offset (word bytes ∷ pieces) all =
    let none = word_mark bytes offset in
    rw none (no_commas (offset + length bytes) pieces all)
no_commas offset (mark byte ∷ pieces) all =
    let parts = and_parts (not (byte == 44)) (list_all is_comma_free pieces) all in
    let is = marks byte offset in
    let other = parts.0 in
    rw (is, other) (no_commas (offset + 1) pieces parts.1)
no_commas offset (blank ∷ pieces) all = no_commas (offset + 1) pieces all

-- and so of two texts
pub all_free : (one other : List PrintedPiece) → list_all is_comma_free one ≡ true → list_all is_comma_free other ≡ true → list_all is_comma_free (one ++ other) ≡ true
all_free [] other these those = those
all_free (piece ∷ one) other these those =
    let parts = and_parts (is_comma_free piece) (list_all is_comma_free one) these in
    and_from (is_comma_free piece) (list_all is_comma_free (one ++ other)) parts.0 (all_free one other parts.1 those)
