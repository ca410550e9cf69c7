-- The numbers of expressions that are read from bytes have 64 bits.
use Rattle.std.proofs.Common.{◌≡◌, ◌<◌, ℕ, Bool, true, false, cond, List, [], ◌∷◌, ◌++◌, Result, Ok, Err, refl, ap, subst, arith}
use Rattle.std.specs.Prelude.{◌^◌, ◌==◌, ◌||◌, nat_lt, length, drop, All}
use Rattle.std.specs.List.{list_all}
use Rattle.std.specs.Str.{bytes_eq}
use Rattle.std.specs.Prelude.{codes, ◌-◌}
use Rattle.std.proofs.lemmas.Bool.{ltb-true}
use Rattle.std.proofs.lemmas.List.Elements.{All-nil, All-cons, All-head, All-tail}
use Rattle.asm_base.specs.Digits.{is_digit_of, number_after}
use Rattle.asm_base.specs.Refusals.{◌>>=◌}
use Rattle.asm_base.specs.Strings.{string_value}
use Rattle.asm_base.specs.Tokens.{SpelledToken}
use Rattle.asm_base.specs.declared.tokens.TokenKind.{TokenKind}
use Rattle.asm_base.specs.declared.tokens.TokenKind.TheVariants as token
use Rattle.asm_expr.specs.declared.faults.ExprCause.{ExprCause}
use Rattle.asm_expr.specs.declared.faults.ExprCause.TheVariants.{BadExpression, NumberTooWide}
use Rattle.asm_expr.specs.Trees.{Tree, number, name, here}
use Rattle.asm_expr.specs.declared.trees.Written.TheVariants.{Plain}
use Rattle.expr_texts.specs.Grammar.{Writes, leaf, prefixed, between, enclosed, IsTextOf, IsFoundIn}
use Rattle.expr_texts.specs.Leaves.{character_code, between_quotes, is_symbol_name, is_numeric_label, label_written, last_byte, without_last, digits_leaf, word_leaf, leaf_by, leaf_of}
use Rattle.expr_texts.specs.Numbers.{numeral, spelled_number}
use Rattle.expr_texts.specs.Reading.{Reading, Read, ReadTree, reading, reading_of}
use Rattle.asm_operands.specs.ExprFaults.{in_statement}
use Rattle.asm_operands.specs.Expressions.{alone, expression_of}
use Rattle.form_laws.specs.Numbers.{IsInBytes}
use Rattle.form_laws.proofs.Fitting.{Fits, NumbersFit}
use Rattle.form_laws.proofs.Linear.{statement_ok}
use Rattle.form_laws.proofs.Steps.{err-ok, same_Ok, both_ok}

-- LEAVES

numeral_by : (a b : Bool) (value n : ℕ) → nat_lt value (2 ^ 64) ≡ b → (let made : Result ℕ ExprCause = cond a (cond b (Ok value) (Err NumberTooWide)) (Err BadExpression) in made ≡ Ok n) → Fits n
numeral_by true true value n low is = subst Fits (same_Ok value n is) (ltb-true value (2 ^ 64) low)
numeral_by true false value n low is = err-ok NumberTooWide n is
numeral_by false b value n low is = err-ok BadExpression n is

numeral_fits : (radix n : ℕ) (digits : List ℕ) → numeral radix digits ≡ Ok n → Fits n
unfolding numeral
numeral_fits radix n [] is = err-ok BadExpression n is
numeral_fits radix n (first ∷ rest) is =
    numeral_by (list_all (is_digit_of radix) (first ∷ rest)) (nat_lt (number_after radix 0 (first ∷ rest)) (2 ^ 64)) (number_after radix 0 (first ∷ rest)) n refl is

spelled_fits : (n : ℕ) (digits : List ℕ) → spelled_number digits ≡ Ok n → Fits n
unfolding spelled_number
spelled_fits n [] is = numeral_fits 10 n [] is
spelled_fits n (first ∷ []) is = numeral_fits 10 n (first ∷ []) is
spelled_fits n (first ∷ second ∷ rest) is = by (first == 48) (second == 120 || second == 88) (second == 98 || second == 66) is
  where
    by : (a b c : Bool) → cond a (cond b (numeral 16 rest) (cond c (numeral 2 rest) (numeral 8 (second ∷ rest)))) (numeral 10 (first ∷ second ∷ rest)) ≡ Ok n → Fits n
    by true true c it = numeral_fits 16 n rest it
    by true false true it = numeral_fits 2 n rest it
    by true false false it = numeral_fits 8 n (second ∷ rest) it
    by false b c it = numeral_fits 10 n (first ∷ second ∷ rest) it

tree_is : (one tree : Tree) → NumbersFit one → (let made : Result Tree ExprCause = Ok one in made ≡ Ok tree) → NumbersFit tree
tree_is one tree fits is = subst NumbersFit (same_Ok one tree is) fits

digits_fit : (digits : List ℕ) (tree : Tree) → digits_leaf digits ≡ Ok tree → NumbersFit tree
unfolding digits_leaf
digits_fit digits tree is = by (is_numeric_label digits) is
  where
    by : (b : Bool) → cond b (numeral 10 (without_last digits) >>= (λ n. Ok (name (label_written (last_byte digits) n)))) (spelled_number digits >>= (λ n. Ok (number n))) ≡ Ok tree
        → NumbersFit tree
    by true has =
        both_ok (numeral 10 (without_last digits)) (λ n. Ok (name (label_written (last_byte digits) n))) tree has (λ n n_is it. tree_is (name (label_written (last_byte digits) n)) tree tt it)
    by false has = both_ok (spelled_number digits) (λ n. Ok (number n)) tree has (λ n n_is it. tree_is (number n) tree (spelled_fits n digits n_is) it)

word_fits : (bytes : List ℕ) (b : Bool) → NumbersFit (cond b here (name (Plain bytes)))
word_fits bytes true = tt
word_fits bytes false = tt

code_fits : (bytes : List ℕ) (n : ℕ) → All (λ byte. byte < 2 ^ 8) bytes → character_code bytes ≡ Ok n → Fits n
unfolding character_code
code_fits [] n all is = err-ok BadExpression n is
code_fits (quote ∷ []) n all is = err-ok BadExpression n is
code_fits (quote ∷ byte ∷ rest) n all is =
    let low = All-head (λ byte. byte < 2 ^ 8) byte rest (All-tail (λ byte. byte < 2 ^ 8) quote (byte ∷ rest) all) in
    subst Fits (same_Ok byte n is) (omega (arith, low))

quoted_fits : (b : Bool) (text : List ℕ) (tree : Tree) → (let made : Result Tree ExprCause = cond b (Ok (name (Plain text))) (Err BadExpression) in made ≡ Ok tree) → NumbersFit tree
quoted_fits true text tree is = tree_is (name (Plain text)) tree tt is
quoted_fits false text tree is = err-ok BadExpression tree is

kind_fits : (kind : TokenKind) (bytes : List ℕ) (tree : Tree) → All (λ byte. byte < 2 ^ 8) bytes → leaf_by kind bytes ≡ Ok tree → NumbersFit tree
kind_fits token.Name bytes tree all is = tree_is (word_leaf bytes) tree (word_fits bytes (bytes_eq bytes (codes "."))) is
kind_fits token.Digits bytes tree all is = digits_fit bytes tree is
kind_fits token.Character bytes tree all is = both_ok (character_code bytes) (λ n. Ok (number n)) tree is (λ n n_is it. tree_is (number n) tree (code_fits bytes n all n_is) it)
kind_fits token.String bytes tree all is = quoted_fits (is_symbol_name (string_value (between_quotes bytes))) (string_value (between_quotes bytes)) tree is
kind_fits token.Operator bytes tree all is = err-ok BadExpression tree is
kind_fits token.Other bytes tree all is = err-ok BadExpression tree is

leaf_fits : (spelled : SpelledToken) (tree : Tree) → IsInBytes spelled → leaf_of spelled ≡ Ok tree → NumbersFit tree
unfolding leaf_of
leaf_fits spelled tree all is = kind_fits spelled.kind spelled.bytes tree all is

-- TEXTS

module _ {X : Type 0} (P : X → Type 0) where
  -- what holds of all holds of the first ones, and of the last ones
  pub all_first : (xs ys : List X) → All P (xs ++ ys) → All P xs
  all_first [] ys all = All-nil P
  all_first (x ∷ xs) ys all = All-cons P x xs (All-head P x (xs ++ ys) all) (all_first xs ys (All-tail P x (xs ++ ys) all))

  pub all_last : (xs ys : List X) → All P (xs ++ ys) → All P ys
  all_last [] ys all = all
  all_last (x ∷ xs) ys all = all_last xs ys (All-tail P x (xs ++ ys) all)

writes_fit : (most : ℕ) (tree : Tree) (level : ℕ) (text : List SpelledToken) → Writes most tree level text → All IsInBytes text → NumbersFit tree
writes_fit _ _ _ _ (leaf most level tree spelled is) all = leaf_fits spelled tree (All-head IsInBytes spelled [] all) is
writes_fit _ _ _ _ (prefixed most level op operand spelled text is inside) all = writes_fit most operand _ text inside (All-tail IsInBytes spelled text all)
writes_fit _ _ _ _ (between most level op left right spelled before behind text tight is one other spells) all =
    let whole : All IsInBytes (before ++ (spelled ∷ behind)) = subst (All IsInBytes) spells all in (
      writes_fit most left _ before one (all_first IsInBytes before (spelled ∷ behind) whole),
      writes_fit most right _ behind other (All-tail IsInBytes spelled behind (all_last IsInBytes before (spelled ∷ behind) whole)),
    )
writes_fit _ _ _ _ (enclosed most level tree opening closing inside text is ends within spells) all =
    let whole : All IsInBytes (opening ∷ (inside ++ (closing ∷ []))) = subst (All IsInBytes) spells all in
    writes_fit most tree _ inside within (all_first IsInBytes inside (closing ∷ []) (All-tail IsInBytes opening (inside ++ (closing ∷ [])) whole))

-- the numbers of a tree with a text of bytes
pub text_fits : (tree : Tree) (text : List SpelledToken) → IsTextOf tree text → All IsInBytes text → NumbersFit tree
text_fits tree text is all = writes_fit _ tree _ text is.writes all

-- the law of expressions: what is read begins with a text of it
abbrev pub ReadIsWritten : Type 0
ReadIsWritten = (tokens : List SpelledToken) (at : ℕ) (found : ReadTree) → reading_of tokens at ≡ Ok found → IsFoundIn tokens at found

module _ (law : ReadIsWritten) where
  found_fits : (tokens : List SpelledToken) (found : Reading) → All IsInBytes tokens → reading 1 0 tokens ≡ Ok found → NumbersFit found.tree
  unfolding reading_of
  found_fits tokens found all is =
      let whole : ReadTree = record { tree = found.tree; next = length tokens - length found.rest } in
      let read : reading_of tokens 0 ≡ Ok whole = ap (λ (r : Read). r >>= (λ one. Ok (record { tree = one.tree; next = length tokens - length one.rest }))) is in
      let there = law tokens 0 whole read in
      let same : drop 0 tokens ≡ there.text ++ there.behind = there.stands in
      text_fits found.tree there.text there.is_text (all_first IsInBytes there.text there.behind (subst (All IsInBytes) same all))

  alone_is : (rest : List SpelledToken) (one tree : Tree) → alone rest one ≡ Ok tree → one ≡ tree
  alone_is [] one tree is = same_Ok one tree is
  alone_is (spelled ∷ rest) one tree is = err-ok _ tree is

  -- the numbers of an operand's expression
  pub expression_fits : (tokens : List SpelledToken) (tree : Tree) → All IsInBytes tokens → expression_of tokens ≡ Ok tree → NumbersFit tree
  unfolding expression_of
  expression_fits tokens tree all is =
      both_ok (in_statement (reading 1 0 tokens)) (λ found. alone found.rest found.tree) tree is (λ found found_is it.
      subst NumbersFit (alone_is found.rest found.tree tree it) (found_fits tokens found all (statement_ok (reading 1 0 tokens) found found_is)))
