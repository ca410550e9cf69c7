-- A number or a name is shown as one token, which spells it again.
use Rattle.std.proofs.Common.{◌≡◌, ℕ, ◌+◌, ◌&&◌, Bool, true, false, not, cond, List, [], ◌∷◌, ◌++◌, Ok, Err, codes, length, refl, sym, ap, ◌∙◌, arith, append_assoc}
use Rattle.std.specs.Prelude.{flat_map}
use Rattle.std.specs.List.{list_all}
use Rattle.std.specs.Char.{is_ascii_digit}
use Rattle.std.specs.Str.{bytes_eq}
use Rattle.std.specs.Fmt.{decimal}
use Rattle.asm_base.specs.ByteClasses.{is_name_start, is_name_byte}
use Rattle.asm_base.specs.declared.tokens.TokenKind.TheVariants.{Name, Digits, String}
use Rattle.asm_base.specs.Strings.{string_value}
use Rattle.asm_base.specs.StringGrammar.{StandsFor}
use Rattle.asm_base.specs.Tokens.{SpelledToken, tokens_from}
use Rattle.asm_expr.specs.declared.faults.ExprCause.TheVariants.{BadExpression}
use Rattle.asm_expr.specs.declared.trees.Written.TheVariants.{Plain, Back, Next}
use Rattle.asm_expr.specs.Trees.{Tree, number, name, here}
use Rattle.expr_texts.specs.Leaves.{is_symbol_name, digits_leaf, quoted_leaf, leaf_of}
use Rattle.expr_texts.specs.Grammar.{Writes, leaf}
use Rattle.expr_texts.specs.Shown.{is_word, escape, quoted, piece_of, is_byte, IsShowable}
use Rattle.expr_texts.proofs.LeafLemmas.{IsLeaf, a_number, a_name, the_place}
use Rattle.expr_texts.proofs.Lexing.{made, Apart, begins_name, begins_digits, word_lexes}
use Rattle.expr_texts.proofs.NumberTexts.{Spells, all_push, decimal_spells, decimal_leaf, label_leaf, name_bytes_of_digits}
use Rattle.expr_texts.proofs.QuotedTexts.{escapes_stand, escapes_pass, string_lexes, inner_is}

-- the text begins with tokens that write the tree
pub record Lexed (most : ℕ) (tree : Tree) (level : ℕ) (text rest : List ℕ) (offset : ℕ) : Type 0 where
  pub tokens : List SpelledToken
  pub lexes : tokens_from 0 offset (text ++ rest) ≡ tokens ++ tokens_from 0 (offset + length text) rest
  pub writes : Writes most tree level tokens

-- the string that stands for a value is told by the layer below
abbrev pub OnlyValue : Type 0
OnlyValue = (inner value : List ℕ) → StandsFor inner value → value ≡ string_value inner

both : (a b : Bool) → (a && b) ≡ true → (a ≡ true) × (b ≡ true)
both true true is = (refl, refl)
both true false is = cc
both false b is = cc

not_true : (b : Bool) → not b ≡ true → b ≡ false
not_true true is = cc
not_true false is = refl

digits_lexed : (most level : ℕ) (tree : Tree) (byte : ℕ) (bytes rest : List ℕ) (offset : ℕ) → is_ascii_digit byte ≡ true → list_all is_name_byte bytes ≡ true → Apart rest
    → digits_leaf (byte ∷ bytes) ≡ Ok tree → Lexed most tree level (byte ∷ bytes) rest offset
unfolding leaf_of
digits_lexed most level tree byte bytes rest offset digit names apart is = record {
  tokens = made Digits (byte ∷ bytes) offset ∷ [];
  lexes = (word_lexes Digits byte bytes rest offset (begins_digits byte digit) names apart).first;
  writes = leaf most level tree (made Digits (byte ∷ bytes) offset) is;
}

number_lexed : (most level n : ℕ) (text rest : List ℕ) (offset : ℕ) → Spells n text → digits_leaf text ≡ Ok (number n) → Apart rest → Lexed most (number n) level text rest offset
number_lexed most level n [] rest offset spells is apart = absurd (let some = spells.some in omega arith)
number_lexed most level n (byte ∷ bytes) rest offset spells is apart =
    let parts = both (is_ascii_digit byte) (list_all is_ascii_digit bytes) spells.ascii in
    digits_lexed most level (number n) byte bytes rest offset parts.0 (name_bytes_of_digits bytes parts.1) apart is

label_lexed : (most level n letter : ℕ) (tree : Tree) (text rest : List ℕ) (offset : ℕ) → Spells n text → is_name_byte letter ≡ true → digits_leaf (text ++ (letter ∷ [])) ≡ Ok tree → Apart rest
    → Lexed most tree level (text ++ (letter ∷ [])) rest offset
label_lexed most level n letter tree [] rest offset spells goes is apart = absurd (let some = spells.some in omega arith)
label_lexed most level n letter tree (byte ∷ bytes) rest offset spells goes is apart =
    let parts = both (is_ascii_digit byte) (list_all is_ascii_digit bytes) spells.ascii in
    digits_lexed most level tree byte (bytes ++ (letter ∷ [])) rest offset parts.0 (all_push is_name_byte bytes letter (name_bytes_of_digits bytes parts.1) goes) apart is

word_is : (bytes : List ℕ) (b : Bool) → b ≡ false → cond b here (name (Plain bytes)) ≡ name (Plain bytes)
word_is bytes true is = cc
word_is bytes false is = refl

word_lexed : (most level : ℕ) (text rest : List ℕ) (offset : ℕ) → is_word text ≡ true → Apart rest → Lexed most (name (Plain text)) level text rest offset
unfolding leaf_of
word_lexed most level [] rest offset is apart = cc
word_lexed most level (first ∷ others) rest offset is apart =
    let p = both (is_name_start first && list_all is_name_byte others) (not (bytes_eq (first ∷ others) (codes "."))) is in
    let q = both (is_name_start first) (list_all is_name_byte others) p.0 in
    let plain = not_true (bytes_eq (first ∷ others) (codes ".")) p.1 in
    record {
      tokens = made Name (first ∷ others) offset ∷ [];
      lexes = (word_lexes Name first others rest offset (begins_name first q.0) q.1 apart).first;
      writes = leaf most level (name (Plain (first ∷ others))) (made Name (first ∷ others) offset) (ap Ok (word_is (first ∷ others) (bytes_eq (first ∷ others) (codes ".")) plain));
    }

quoted_is : (text : List ℕ) (b : Bool) → b ≡ true → cond b (Ok (name (Plain text))) (Err BadExpression) ≡ Ok (name (Plain text))
quoted_is text true is = refl
quoted_is text false is = cc

quoted_lexed : OnlyValue → (most level : ℕ) (text rest : List ℕ) (offset : ℕ) → is_symbol_name text ≡ true → list_all is_byte text ≡ true → Lexed most (name (Plain text)) level (quoted text) rest offset
unfolding leaf_of
quoted_lexed only most level text rest offset is bytes =
    let inner = flat_map escape text in
    let value = only inner text (escapes_stand text bytes) in
    let between = inner_is inner in
    let apart = append_assoc inner (34 ∷ []) rest in
    record {
      tokens = made String (34 ∷ (inner ++ (34 ∷ []))) offset ∷ [];
      lexes =
          ap (λ (bs : List ℕ). tokens_from 0 offset (34 ∷ bs)) apart
          ∙ string_lexes inner rest offset (escapes_pass text rest bytes);
      writes =
          leaf most level (name (Plain text)) (made String (34 ∷ (inner ++ (34 ∷ []))) offset)
          (ap (λ (bs : List ℕ). quoted_leaf (string_value bs)) between ∙ ap quoted_leaf (sym value) ∙ quoted_is text (is_symbol_name text) is);
    }

place_lexed : (most level : ℕ) (rest : List ℕ) (offset : ℕ) → Apart rest → Lexed most here level (codes ".") rest offset
unfolding leaf_of is_name_start
place_lexed most level rest offset apart = record {
  tokens = made Name (codes ".") offset ∷ [];
  lexes = (word_lexes Name 46 [] rest offset (begins_name 46 refl) refl apart).first;
  writes = leaf most level here (made Name (codes ".") offset) refl;
}

name_lexed : OnlyValue → (most level : ℕ) (text rest : List ℕ) (offset : ℕ) (b : Bool) → is_word text ≡ b → is_symbol_name text ≡ true → list_all is_byte text ≡ true → Apart rest
    → Lexed most (name (Plain text)) level (cond b text (quoted text)) rest offset
name_lexed only most level text rest offset true is fits bytes apart = word_lexed most level text rest offset is apart
name_lexed only most level text rest offset false is fits bytes apart = quoted_lexed only most level text rest offset fits bytes

letters : (is_name_byte 98 ≡ true) × (is_name_byte 102 ≡ true)
unfolding is_name_byte is_name_start
letters = (refl, refl)

pub leaf_lexed : OnlyValue → (most level : ℕ) (tree : Tree) (rest : List ℕ) (offset : ℕ) → IsLeaf tree → IsShowable tree → Apart rest → Lexed most tree level (piece_of tree).text rest offset
unfolding piece_of
leaf_lexed only most level _ rest offset (a_number n) fits apart = number_lexed most level n (decimal n) rest offset (decimal_spells n fits) (decimal_leaf n fits) apart
leaf_lexed only most level _ rest offset (a_name (Plain text)) fits apart = name_lexed only most level text rest offset (is_word text) refl fits.0 fits.1 apart
leaf_lexed only most level _ rest offset (a_name (Back n)) fits apart =
    label_lexed most level n 98 (name (Back n)) (decimal n) rest offset (decimal_spells n fits) letters.0 (label_leaf n 98 fits refl) apart
leaf_lexed only most level _ rest offset (a_name (Next n)) fits apart =
    label_lexed most level n 102 (name (Next n)) (decimal n) rest offset (decimal_spells n fits) letters.1 (label_leaf n 102 fits refl) apart
leaf_lexed only most level _ rest offset the_place fits apart = place_lexed most level rest offset apart

pub leaf_tight : (tree : Tree) → IsLeaf tree → (piece_of tree).level ≡ 7
unfolding piece_of
leaf_tight _ (a_number n) = refl
leaf_tight _ (a_name written) = refl
leaf_tight _ the_place = refl
