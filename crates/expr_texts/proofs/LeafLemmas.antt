-- A token alone spells a tree of one node, or has one of two faults.
use Rattle.std.proofs.Common.{◌≡◌, ◌⊎◌, inl, inr, ℕ, ◌^◌, ◌==◌, ◌||◌, Bool, true, false, cond, nat_lt, List, [], ◌∷◌, Result, Ok, Err, refl, sym, subst}
use Rattle.std.specs.List.{list_all}
use Rattle.asm_base.specs.Digits.{is_digit_of, number_after}
use Rattle.asm_base.specs.declared.tokens.TokenKind.{TokenKind}
use Rattle.asm_base.specs.declared.tokens.TokenKind.TheVariants.{Name, Digits, Character, String, Operator, Other}
use Rattle.asm_base.specs.Strings.{string_value}
use Rattle.asm_base.specs.Tokens.{SpelledToken}
use Rattle.asm_expr.specs.declared.faults.ExprCause.{ExprCause}
use Rattle.asm_expr.specs.declared.faults.ExprCause.TheVariants.{BadExpression, NumberTooWide}
use Rattle.asm_expr.specs.declared.trees.Written.{Written}
use Rattle.asm_expr.specs.declared.trees.Written.TheVariants.{Plain}
use Rattle.asm_expr.specs.Trees.{Tree, number, name, here, height}
use Rattle.asm_base.specs.Refusals.{◌>>=◌}
use Rattle.expr_texts.specs.Numbers.{numeral, spelled_number}
use Rattle.expr_texts.specs.Leaves.{character_code, between_quotes, is_symbol_name, last_byte, without_last, is_numeric_label, label_written, digits_leaf, leaf_by, leaf_of}
use Rattle.expr_texts.proofs.Steps.{steps, Broken, at_first, at_next, broken}

-- no operator stands in it
pub data IsLeaf : Tree → Type 0 where
  a_number : (n : ℕ) → IsLeaf (number n)
  a_name : (w : Written) → IsLeaf (name w)
  the_place : IsLeaf here

seen : (made tree : Tree) → IsLeaf made → (let whole : Result Tree ExprCause = Ok made in whole ≡ Ok tree) → IsLeaf tree
seen made tree leaf is = let same : made ≡ tree = cc in subst IsLeaf same leaf

digits_seen : (b : Bool) (digits : List ℕ) (tree : Tree)
    → cond b (numeral 10 (without_last digits) >>= (λ n. Ok (name (label_written (last_byte digits) n)))) (spelled_number digits >>= (λ n. Ok (number n))) ≡ Ok tree → IsLeaf tree
digits_seen true digits tree is =
    let s = steps (numeral 10 (without_last digits)) (λ n. Ok (name (label_written (last_byte digits) n))) tree is in
    seen (name (label_written (last_byte digits) s.middle)) tree (a_name (label_written (last_byte digits) s.middle)) s.ends
digits_seen false digits tree is =
    let s = steps (spelled_number digits) (λ n. Ok (number n)) tree is in
    seen (number s.middle) tree (a_number s.middle) s.ends

word_seen : (b : Bool) (bytes : List ℕ) → IsLeaf (cond b here (name (Plain bytes)))
word_seen true bytes = the_place
word_seen false bytes = a_name (Plain bytes)

quoted_seen : (b : Bool) (text : List ℕ) (tree : Tree) → cond b (Ok (name (Plain text))) (Err BadExpression) ≡ Ok tree → IsLeaf tree
quoted_seen true text tree is = seen (name (Plain text)) tree (a_name (Plain text)) is
quoted_seen false text tree is = cc

leaf_by_kind : (kind : TokenKind) (bytes : List ℕ) (tree : Tree) → leaf_by kind bytes ≡ Ok tree → IsLeaf tree
unfolding digits_leaf
leaf_by_kind Name bytes tree is = seen _ tree (word_seen _ bytes) is
leaf_by_kind Digits bytes tree is = digits_seen (is_numeric_label bytes) bytes tree is
leaf_by_kind Character bytes tree is =
    let s = steps (character_code bytes) (λ n. Ok (number n)) tree is in
    seen (number s.middle) tree (a_number s.middle) s.ends
leaf_by_kind String bytes tree is = quoted_seen (is_symbol_name (string_value (between_quotes bytes))) (string_value (between_quotes bytes)) tree is
leaf_by_kind Operator bytes tree is = cc
leaf_by_kind Other bytes tree is = cc

pub leaf_of_is_leaf : (token : SpelledToken) (tree : Tree) → leaf_of token ≡ Ok tree → IsLeaf tree
unfolding leaf_of
leaf_of_is_leaf token tree is = leaf_by_kind token.kind token.bytes tree is

height_of_leaf : (tree : Tree) → IsLeaf tree → height tree ≡ 1
unfolding height
height_of_leaf _ (a_number n) = refl
height_of_leaf _ (a_name w) = refl
height_of_leaf _ the_place = refl

pub leaf_height : (token : SpelledToken) (tree : Tree) → leaf_of token ≡ Ok tree → height tree ≡ 1
leaf_height token tree is = height_of_leaf tree (leaf_of_is_leaf token tree is)

-- a token alone spells no operand, or a number that is too wide
abbrev pub IsLeafFault : ExprCause → Type 0
IsLeafFault cause = (cause ≡ BadExpression) ⊎ (cause ≡ NumberTooWide)

bad : (A : Type 0) (cause : ExprCause) → (let failed : Result A ExprCause = Err BadExpression in failed ≡ Err cause) → IsLeafFault cause
bad A cause is = let same : BadExpression ≡ cause = cc in inl (sym same)

wide : (A : Type 0) (cause : ExprCause) → (let failed : Result A ExprCause = Err NumberTooWide in failed ≡ Err cause) → IsLeafFault cause
wide A cause is = let same : NumberTooWide ≡ cause = cc in inr (sym same)

numeral_by : (b c : Bool) (n : ℕ) (cause : ExprCause) → cond b (cond c (Ok n) (Err NumberTooWide)) (Err BadExpression) ≡ Err cause → IsLeafFault cause
numeral_by true true n cause is = absurd cc
numeral_by true false n cause is = wide ℕ cause is
numeral_by false c n cause is = bad ℕ cause is

numeral_fault : (radix : ℕ) (digits : List ℕ) (cause : ExprCause) → numeral radix digits ≡ Err cause → IsLeafFault cause
unfolding numeral
numeral_fault radix [] cause is = bad ℕ cause is
numeral_fault radix (digit ∷ digits) cause is =
    numeral_by (list_all (is_digit_of radix) (digit ∷ digits)) (nat_lt (number_after radix 0 (digit ∷ digits)) (2 ^ 64)) (number_after radix 0 (digit ∷ digits)) cause is

prefixed_by : (a b c : Bool) (all rest others : List ℕ) (cause : ExprCause) → cond a (cond b (numeral 16 rest) (cond c (numeral 2 rest) (numeral 8 others))) (numeral 10 all) ≡ Err cause
    → IsLeafFault cause
prefixed_by true true c all rest others cause is = numeral_fault 16 rest cause is
prefixed_by true false true all rest others cause is = numeral_fault 2 rest cause is
prefixed_by true false false all rest others cause is = numeral_fault 8 others cause is
prefixed_by false b c all rest others cause is = numeral_fault 10 all cause is

spelled_fault : (digits : List ℕ) (cause : ExprCause) → spelled_number digits ≡ Err cause → IsLeafFault cause
unfolding spelled_number
spelled_fault [] cause is = numeral_fault 10 [] cause is
spelled_fault (first ∷ []) cause is = numeral_fault 10 (first ∷ []) cause is
spelled_fault (first ∷ second ∷ rest) cause is =
    prefixed_by (first == 48) (second == 120 || second == 88) (second == 98 || second == 66) (first ∷ second ∷ rest) rest (second ∷ rest) cause is

character_fault : (bytes : List ℕ) (cause : ExprCause) → character_code bytes ≡ Err cause → IsLeafFault cause
unfolding character_code
character_fault [] cause is = bad ℕ cause is
character_fault (quote ∷ []) cause is = bad ℕ cause is
character_fault (quote ∷ byte ∷ rest) cause is = absurd cc

-- a number that is made into a tree fails for its own cause
made_fault : (first : Result ℕ ExprCause) (made : ℕ → Tree) (cause : ExprCause) → ((fault : ExprCause) → first ≡ Err fault → IsLeafFault fault)
    → (first >>= (λ n. Ok (made n))) ≡ Err cause → IsLeafFault cause
made_fault first made cause fault is = by (broken first (λ n. Ok (made n)) cause is)
  where
    by : Broken first (λ n. Ok (made n)) cause → IsLeafFault cause
    by (at_first fails) = fault cause fails
    by (at_next middle begins fails) = absurd cc

digits_fault : (b : Bool) (digits : List ℕ) (cause : ExprCause)
    → cond b (numeral 10 (without_last digits) >>= (λ n. Ok (name (label_written (last_byte digits) n)))) (spelled_number digits >>= (λ n. Ok (number n))) ≡ Err cause → IsLeafFault cause
digits_fault true digits cause is = made_fault (numeral 10 (without_last digits)) (λ n. name (label_written (last_byte digits) n)) cause (numeral_fault 10 (without_last digits)) is
digits_fault false digits cause is = made_fault (spelled_number digits) (λ n. number n) cause (spelled_fault digits) is

quoted_fault : (b : Bool) (text : List ℕ) (cause : ExprCause) → cond b (Ok (name (Plain text))) (Err BadExpression) ≡ Err cause → IsLeafFault cause
quoted_fault true text cause is = absurd cc
quoted_fault false text cause is = bad Tree cause is

fault_by_kind : (kind : TokenKind) (bytes : List ℕ) (cause : ExprCause) → leaf_by kind bytes ≡ Err cause → IsLeafFault cause
unfolding digits_leaf
fault_by_kind Name bytes cause is = absurd cc
fault_by_kind Digits bytes cause is = digits_fault (is_numeric_label bytes) bytes cause is
fault_by_kind Character bytes cause is = made_fault (character_code bytes) (λ n. number n) cause (character_fault bytes) is
fault_by_kind String bytes cause is = quoted_fault (is_symbol_name (string_value (between_quotes bytes))) (string_value (between_quotes bytes)) cause is
fault_by_kind Operator bytes cause is = bad Tree cause is
fault_by_kind Other bytes cause is = bad Tree cause is

pub leaf_fault : (token : SpelledToken) (cause : ExprCause) → leaf_of token ≡ Err cause → IsLeafFault cause
unfolding leaf_of
leaf_fault token cause is = fault_by_kind token.kind token.bytes cause is
