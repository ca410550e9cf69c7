-- A comma is no number, no operator and no parenthesis.
use Rattle.std.proofs.Common.{◌≡◌, ℕ, ◌==◌, Bool, true, false, ◌&&◌, List, [], ◌∷◌, Option, Some, None, Ok, refl, sym, ap, ◌∙◌, arith, codes}
use Rattle.std.proofs.lemmas.Bool.Decides.{nat_tests}
use Rattle.std.specs.Str.{bytes_eq}
use Rattle.asm_base.specs.declared.tokens.TokenKind.{TokenKind}
use Rattle.asm_base.specs.declared.tokens.TokenKind.TheVariants.{Name, Digits, Character, String, Operator, Other}
use Rattle.asm_base.specs.Digits.{digit_of}
use Rattle.asm_base.specs.Strings.{string_value_from}
use Rattle.asm_base.specs.Tokens.{SpelledToken}
use Rattle.asm_expr.specs.declared.trees.UnaryOp.{UnaryOp}
use Rattle.asm_expr.specs.declared.trees.BinaryOp.{BinaryOp}
use Rattle.asm_expr.specs.Trees.{number}
use Rattle.expr_texts.specs.Numbers.{numeral, spelled_number}
use Rattle.expr_texts.specs.Operators.{mark_by, mark_of, opens, closes, prefix_by, prefix_of, operator_by, operator_byte, operator_of}
use Rattle.expr_texts.specs.Leaves.{character_code, digits_leaf, leaf_by, leaf_of}
use Rattle.asm_operands.specs.Commas.{is_comma}
use Rattle.asm_operands.specs.Numbers.{FindsLeaf}
use Rattle.asm_operands.specs.Constants.{FindsSingle}
use Rattle.asm_operands.proofs.LeafLemmas.{leaf_constant}

-- the bytes of a mark
one_byte : (code : ℕ) (bytes : List ℕ) → bytes_eq bytes (code ∷ []) ≡ true → bytes ≡ code ∷ []
one_byte code [] is = cc
one_byte code (byte ∷ []) is = by (byte == code) refl is
  where
    by : (b : Bool) → (byte == code) ≡ b → (b && true) ≡ true → byte ∷ [] ≡ code ∷ []
    by true test all = let same : byte ≡ code = grind (arith, nat_tests) in ap (λ b. b ∷ []) same
    by false test all = cc
one_byte code (byte ∷ other ∷ rest) is = by (byte == code) is
  where
    by : (b : Bool) → (b && false) ≡ true → byte ∷ other ∷ rest ≡ code ∷ []
    by true all = cc
    by false all = cc

-- a prefix operator is no parenthesis
pub prefix_unopened : (token : SpelledToken) (op : UnaryOp) → Some op ≡ prefix_of token → false ≡ opens token
unfolding prefix_by
prefix_unopened token op is = by (opens token) refl
  where
    by : (b : Bool) → opens token ≡ b → false ≡ b
    by true test = let none : Some op ≡ None = is ∙ ap prefix_by (one_byte 40 (mark_of token) test) in cc
    by false test = refl

-- what does not hold of a comma's bytes makes a token no comma
unless : (token : SpelledToken) → (token.bytes ≡ 44 ∷ [] → false ≡ true) → is_comma token ≡ false
unless token wrong = by (is_comma token) refl
  where
    by : (b : Bool) → is_comma token ≡ b → b ≡ false
    by true is = sym (wrong (one_byte 44 token.bytes is))
    by false is = refl

opens_none : (kind : TokenKind) → bytes_eq (mark_by kind (44 ∷ [])) (codes "(") ≡ false
opens_none Name = refl
opens_none Digits = refl
opens_none Character = refl
opens_none String = refl
opens_none Operator = refl
opens_none Other = refl

pub opens_apart : (token : SpelledToken) → true ≡ opens token → is_comma token ≡ false
opens_apart token is = unless token (λ bytes. sym (is ∙ ap (λ bs. bytes_eq (mark_by token.kind bs) (codes "(")) bytes ∙ opens_none token.kind))

closes_none : (kind : TokenKind) → bytes_eq (mark_by kind (44 ∷ [])) (codes ")") ≡ false
closes_none Name = refl
closes_none Digits = refl
closes_none Character = refl
closes_none String = refl
closes_none Operator = refl
closes_none Other = refl

pub closes_apart : (token : SpelledToken) → true ≡ closes token → is_comma token ≡ false
closes_apart token is = unless token (λ bytes. sym (is ∙ ap (λ bs. bytes_eq (mark_by token.kind bs) (codes ")")) bytes ∙ closes_none token.kind))

prefix_none : (kind : TokenKind) → prefix_by (mark_by kind (44 ∷ [])) ≡ None
unfolding prefix_by
prefix_none Name = refl
prefix_none Digits = refl
prefix_none Character = refl
prefix_none String = refl
prefix_none Operator = refl
prefix_none Other = refl

pub prefix_apart : (token : SpelledToken) (op : UnaryOp) → Some op ≡ prefix_of token → is_comma token ≡ false
prefix_apart token op is =
    unless token (λ bytes. let none : Some op ≡ None = is ∙ ap (λ bs. prefix_by (mark_by token.kind bs)) bytes ∙ prefix_none token.kind in cc)

operator_none : (kind : TokenKind) → operator_by (mark_by kind (44 ∷ [])) ≡ None
unfolding operator_by operator_byte
operator_none Name = refl
operator_none Digits = refl
operator_none Character = refl
operator_none String = refl
operator_none Operator = refl
operator_none Other = refl

pub operator_apart : (token : SpelledToken) (op : BinaryOp) → operator_of token ≡ Some op → is_comma token ≡ false
operator_apart token op is =
    unless token (λ bytes. let none : Some op ≡ None = sym is ∙ ap (λ bs. operator_by (mark_by token.kind bs)) bytes ∙ operator_none token.kind in cc)

leaf_no_number : (kind : TokenKind) (n : ℕ) → leaf_by kind (44 ∷ []) ≡ Ok (number n) → false ≡ true
unfolding digits_leaf spelled_number numeral digit_of character_code string_value_from
leaf_no_number Name n is = cc
leaf_no_number Digits n is = cc
leaf_no_number Character n is = cc
leaf_no_number String n is = cc
leaf_no_number Operator n is = cc
leaf_no_number Other n is = cc

pub leaf_apart : (token : SpelledToken) (n : ℕ) → leaf_of token ≡ Ok (number n) → is_comma token ≡ false
unfolding leaf_of
leaf_apart token n is = unless token (λ bytes. leaf_no_number token.kind n (sym (ap (leaf_by token.kind) bytes) ∙ is))

pub single_found : (token : SpelledToken) (answer : Option ℕ) → FindsLeaf token answer → FindsSingle token answer
single_found token (Some n) is = record { one = leaf_constant token (Some n) is; apart = leaf_apart token n is }
single_found token None is = tt
