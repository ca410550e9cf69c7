-- What is read from the bytes of a statement can be written again: its numbers fit, and its names are bytes other than 0.
use Rattle.std.proofs.Common.{◌≡◌, ℕ, zero, suc, ◌-◌, ◌^◌, ◌==◌, ◌&&◌, ◌<◌, Bool, true, false, cond, List, [], ◌∷◌, ◌++◌, Result, Ok, Err, length, drop, refl, subst, arith}
use Rattle.std.specs.List.{list_all}
use Rattle.asm_base.specs.Pieces.{is_space}
use Rattle.asm_base.specs.Dividing.{piece_kind, piece_length}
use Rattle.asm_base.specs.declared.tokens.TokenKind.{TokenKind}
use Rattle.asm_base.specs.declared.tokens.TokenKind.TheVariants.{Name, Digits, Character, String, Operator, Other}
use Rattle.asm_base.specs.Strings.{string_value}
use Rattle.asm_base.specs.Tokens.{SpelledToken, token_kind, token_length, tokens_from, tokens_of}
use Rattle.asm_expr.specs.declared.faults.ExprCause.{ExprCause}
use Rattle.asm_expr.specs.declared.faults.ExprCause.TheVariants.{BadExpression}
use Rattle.asm_expr.specs.declared.trees.Written.TheVariants.{Plain, Back, Next}
use Rattle.asm_expr.specs.Trees.{Tree, number, name, here}
use Rattle.asm_base.specs.Refusals.{◌>>=◌}
use Rattle.expr_texts.specs.Numbers.{numeral, spelled_number}
use Rattle.expr_texts.specs.Leaves.{character_code, between_quotes, is_symbol_name, last_byte, without_last, is_numeric_label, label_written, digits_leaf, leaf_by, leaf_of}
use Rattle.expr_texts.specs.Reading.{ReadTree, reading_of}
use Rattle.expr_texts.specs.Grammar.{Writes, leaf, prefixed, between, enclosed}
use Rattle.expr_texts.specs.Shown.{is_byte, IsWritable, IsShowable, IsReadBack}
use Rattle.expr_texts.proofs.Steps.{steps}
use Rattle.expr_texts.proofs.GrammarLaws.{read_is_text}
use Rattle.expr_texts.proofs.ShownLeaves.{OnlyValue}
use Rattle.expr_texts.proofs.ShownIsRead.{shown_is_read}
use Rattle.expr_texts.proofs.ByteLists.{both, all_take, all_drop}
use Rattle.expr_texts.proofs.FittingNumbers.{numeral_fits, spelled_fits}
use Rattle.expr_texts.proofs.NamedTokens.{Named, token_named}
use Rattle.expr_texts.proofs.StringBytes.{is_small, value_is}

pub record IsGood (token : SpelledToken) : Type 0 where
  pub bytes : list_all is_byte token.bytes ≡ true
  pub named : Named token.kind token.bytes

abbrev AreGood : List SpelledToken → Type 0
AreGood [] = Unit {0}
AreGood (token ∷ tokens) = IsGood token × AreGood tokens

good_front : (front behind : List SpelledToken) → AreGood (front ++ behind) → AreGood front
good_front [] behind good = tt
good_front (token ∷ front) behind good = (good.0, good_front front behind good.1)

good_behind : (front behind : List SpelledToken) → AreGood (front ++ behind) → AreGood behind
good_behind [] behind good = good
good_behind (token ∷ front) behind good = good_behind front behind good.1

good_drop : (n : ℕ) (tokens : List SpelledToken) → AreGood tokens → AreGood (drop n tokens)
good_drop zero tokens good = good
good_drop (suc n) [] good = tt
good_drop (suc n) (token ∷ tokens) good = good_drop n tokens good.1

tokens_good : (left offset : ℕ) (bytes : List ℕ) → list_all is_byte bytes ≡ true → AreGood (tokens_from left offset bytes)
unfolding tokens_from
tokens_good left offset [] all = tt
tokens_good (suc left) offset (byte ∷ rest) all = tokens_good left (suc offset) rest (both (is_byte byte) (list_all is_byte rest) all).1
tokens_good zero offset (byte ∷ rest) all =
    let parts = both (is_byte byte) (list_all is_byte rest) all in
    choose (is_space (piece_kind byte rest)) _ _
    (tokens_good (piece_length (piece_kind byte rest) rest - 1) (suc offset) rest parts.1) (
      record {
        bytes = all_take (token_length (token_kind byte rest) byte rest) (byte ∷ rest) all;
        named = token_named (token_kind byte rest) byte rest refl;
      },
      tokens_good (token_length (token_kind byte rest) byte rest - 1) (suc offset) rest parts.1,
    )
  where
    choose : (b : Bool) (one other : List SpelledToken) → AreGood one → AreGood other → AreGood (cond b one other)
    choose true one other good also = good
    choose false one other good also = also

-- a good token spells what can be written
seen : (made tree : Tree) → IsShowable made → (let whole : Result Tree ExprCause = Ok made in whole ≡ Ok tree) → IsShowable tree
seen made tree showable is = let same : made ≡ tree = cc in subst IsShowable same showable

label_fits : (b : Bool) (n : ℕ) → n < 2 ^ 64 → IsWritable (cond b (Back n) (Next n))
label_fits true n fits = fits
label_fits false n fits = fits

digits_good : (b : Bool) (digits : List ℕ) (tree : Tree)
    → cond b (numeral 10 (without_last digits) >>= (λ n. Ok (name (label_written (last_byte digits) n)))) (spelled_number digits >>= (λ n. Ok (number n))) ≡ Ok tree → IsShowable tree
digits_good true digits tree is =
    let s = steps (numeral 10 (without_last digits)) (λ n. Ok (name (label_written (last_byte digits) n))) tree is in
    seen (name (label_written (last_byte digits) s.middle)) tree (label_fits (last_byte digits == 98) s.middle (numeral_fits 10 s.middle (without_last digits) s.begins)) s.ends
digits_good false digits tree is =
    let s = steps (spelled_number digits) (λ n. Ok (number n)) tree is in
    seen (number s.middle) tree (spelled_fits s.middle digits s.begins) s.ends

word_good : (b : Bool) (bytes : List ℕ) → is_symbol_name bytes ≡ true → list_all is_byte bytes ≡ true → IsShowable (cond b here (name (Plain bytes)))
word_good true bytes named all = tt
word_good false bytes named all = (named, all)

character_good : (n : ℕ) (bytes : List ℕ) → list_all is_byte bytes ≡ true → character_code bytes ≡ Ok n → n < 2 ^ 64
unfolding character_code
character_good n [] all is = cc
character_good n (quote ∷ []) all is = cc
character_good n (quote ∷ byte ∷ rest) all is =
    let parts = both (is_byte quote) (is_byte byte && list_all is_byte rest) all in
    let small = is_small byte (both (is_byte byte) (list_all is_byte rest) parts.1).0 in
    let same : byte ≡ n = cc in
    omega arith

quoted_good : (b : Bool) (text : List ℕ) (tree : Tree) → is_symbol_name text ≡ b → list_all is_byte text ≡ true → cond b (Ok (name (Plain text))) (Err BadExpression) ≡ Ok tree → IsShowable tree
quoted_good true text tree named all is = seen (name (Plain text)) tree (named, all) is
quoted_good false text tree named all is = cc

leaf_good : (kind : TokenKind) (bytes : List ℕ) (tree : Tree) → list_all is_byte bytes ≡ true → Named kind bytes → leaf_by kind bytes ≡ Ok tree → IsShowable tree
unfolding digits_leaf
leaf_good Name bytes tree all named is = seen _ tree (word_good _ bytes named all) is
leaf_good Digits bytes tree all named is = digits_good (is_numeric_label bytes) bytes tree is
leaf_good Character bytes tree all named is =
    let s = steps (character_code bytes) (λ n. Ok (number n)) tree is in
    seen (number s.middle) tree (character_good s.middle bytes all s.begins) s.ends
leaf_good String bytes tree all named is =
    let inner = all_take (length bytes - 2) (drop 1 bytes) (all_drop 1 bytes all) in
    quoted_good (is_symbol_name (string_value (between_quotes bytes))) (string_value (between_quotes bytes)) tree refl (value_is 0 (between_quotes bytes) inner) is
leaf_good Operator bytes tree all named is = cc
leaf_good Other bytes tree all named is = cc

token_good : (token : SpelledToken) (tree : Tree) → IsGood token → leaf_of token ≡ Ok tree → IsShowable tree
unfolding leaf_of
token_good token tree good is = leaf_good token.kind token.bytes tree good.bytes good.named is

writes_good : (most : ℕ) (tree : Tree) (level : ℕ) (text : List SpelledToken) → Writes most tree level text → AreGood text → IsShowable tree
writes_good _ _ _ _ (leaf most level tree token is) good = token_good token tree good.0 is
writes_good _ _ _ _ (prefixed most level op operand token text is inside) good = writes_good most operand 7 text inside good.1
writes_good _ _ _ _ (between most level op left right token before behind text tight is one other spells) good =
    let parts = subst AreGood spells good in
    (writes_good most left _ before one (good_front before (token ∷ behind) parts), writes_good most right _ behind other (good_behind before (token ∷ behind) parts).1)
writes_good _ _ _ _ (enclosed most level tree opening closing inside text is ends within spells) good =
    let parts = subst AreGood spells good in
    writes_good most tree 1 inside within (good_front inside (closing ∷ []) parts.1)

-- what is read from a statement is shown, and read back
pub read_is_shown : OnlyValue → (statement : List ℕ) (at : ℕ) (found : ReadTree) → list_all is_byte statement ≡ true → reading_of (tokens_of statement) at ≡ Ok found → IsReadBack found.tree
read_is_shown only statement at found all is =
    let text = read_is_text (tokens_of statement) at found is in
    let good = good_drop at (tokens_of statement) (tokens_good 0 0 statement all) in
    let front = good_front text.text text.behind (subst AreGood text.stands good) in
    shown_is_read only found.tree text.text text.is_text (writes_good 64 found.tree 1 text.text text.is_text.writes front)
