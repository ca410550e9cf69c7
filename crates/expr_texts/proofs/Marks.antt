-- Which tokens are parentheses, operators, or neither, and how tightly operators bind.
use Rattle.std.proofs.Common.{◌≡◌, ℕ, ◌<◌, ◌≤◌, Bool, true, false, cond, List, [], ◌∷◌, Option, Some, None, Ok, is_some, codes, nat_le, refl, ap, subst, ◌∙◌, arith}
use Rattle.std.specs.Str.{bytes_eq}
use Rattle.std.proofs.lemmas.Bool.Decides.{nat_tests}
use Rattle.std.proofs.lemmas.Slice.Eq.{bytes_eq-Decides}
use Rattle.asm_base.specs.declared.tokens.TokenKind.{TokenKind}
use Rattle.asm_base.specs.declared.tokens.TokenKind.TheVariants.{Name, Digits, Character, String, Operator, Other}
use Rattle.asm_base.specs.Tokens.{SpelledToken}
use Rattle.asm_expr.specs.declared.trees.UnaryOp.{UnaryOp}
use Rattle.asm_expr.specs.declared.trees.BinaryOp.{BinaryOp}
use Rattle.asm_expr.specs.declared.trees.BinaryOp.TheVariants.{Mul, Div, Rem, Shl, Shr, Or, And, Xor, OrNot, Add, Sub, Eq, Ne, Lt, Gt, Le, Ge, BothTrue, OneTrue}
use Rattle.asm_expr.specs.Trees.{Tree}
use Rattle.expr_texts.specs.Operators.{mark_by, mark_of, opens, closes, prefix_by, prefix_of, operator_byte, operator_by, operator_of, level_of}
use Rattle.expr_texts.specs.Leaves.{leaf_by, leaf_of}
use Rattle.expr_texts.specs.Reading.{operator_from}
use Rattle.expr_texts.specs.Grammar.{operator_follows}
use Rattle.expr_texts.specs.Found.{operator_in}

-- how tightly operators bind
pub level_some : (op : BinaryOp) → 1 ≤ level_of op
unfolding level_of
level_some Mul = omega arith
level_some Div = omega arith
level_some Rem = omega arith
level_some Shl = omega arith
level_some Shr = omega arith
level_some Or = omega arith
level_some And = omega arith
level_some Xor = omega arith
level_some OrNot = omega arith
level_some Add = omega arith
level_some Sub = omega arith
level_some Eq = omega arith
level_some Ne = omega arith
level_some Lt = omega arith
level_some Gt = omega arith
level_some Le = omega arith
level_some Ge = omega arith
level_some BothTrue = omega arith
level_some OneTrue = omega arith

pub level_few : (op : BinaryOp) → level_of op ≤ 6
unfolding level_of
level_few Mul = omega arith
level_few Div = omega arith
level_few Rem = omega arith
level_few Shl = omega arith
level_few Shr = omega arith
level_few Or = omega arith
level_few And = omega arith
level_few Xor = omega arith
level_few OrNot = omega arith
level_few Add = omega arith
level_few Sub = omega arith
level_few Eq = omega arith
level_few Ne = omega arith
level_few Lt = omega arith
level_few Gt = omega arith
level_few Le = omega arith
level_few Ge = omega arith
level_few BothTrue = omega arith
level_few OneTrue = omega arith

-- a token that opens or closes is no operator
pub opens_mark : (token : SpelledToken) → opens token ≡ true → mark_of token ≡ codes "("
opens_mark token is = (bytes_eq-Decides (mark_of token) (codes "(")).0 is

pub closes_mark : (token : SpelledToken) → closes token ≡ true → mark_of token ≡ codes ")"
closes_mark token is = (bytes_eq-Decides (mark_of token) (codes ")")).0 is

pub closes_is_none : (token : SpelledToken) → closes token ≡ true → operator_of token ≡ None
unfolding operator_by operator_byte
closes_is_none token is = ap operator_by (closes_mark token is)

no_prefix : prefix_by (codes "(") ≡ None
unfolding prefix_by
no_prefix = refl

pub prefix_opens_not : (token : SpelledToken) (op : UnaryOp) → prefix_of token ≡ Some op → opens token ≡ false
prefix_opens_not token op is = by (opens token) refl
  where
    by : (b : Bool) → opens token ≡ b → b ≡ false
    by true opened = let none = ap prefix_by (opens_mark token opened) ∙ no_prefix in cc
    by false opened = refl

-- a token that spells a number or a name is neither
pub leaf_opens_not : (token : SpelledToken) (tree : Tree) → leaf_of token ≡ Ok tree → (opens token ≡ false) × (prefix_of token ≡ None)
unfolding leaf_of prefix_by
leaf_opens_not token tree is = by token.kind token.bytes is
  where
    by : (kind : TokenKind) (bytes : List ℕ) → leaf_by kind bytes ≡ Ok tree → (bytes_eq (mark_by kind bytes) (codes "(") ≡ false) × (prefix_by (mark_by kind bytes) ≡ None)
    by Name bytes it = (refl, refl)
    by Digits bytes it = (refl, refl)
    by Character bytes it = (refl, refl)
    by String bytes it = (refl, refl)
    by Operator bytes it = cc
    by Other bytes it = (refl, refl)

-- an operator that binds at least so tightly
pub from_some : (level : ℕ) (op : BinaryOp) → level ≤ level_of op → operator_from level (Some op) ≡ Some op
from_some level op tight = by (nat_le level (level_of op)) refl
  where
    by : (b : Bool) → nat_le level (level_of op) ≡ b → cond b (Some op) None ≡ Some op
    by true is = refl
    by false is = absurd (grind (arith, nat_tests))

pub from_none : (level : ℕ) (op : BinaryOp) → level_of op < level → operator_from level (Some op) ≡ None
from_none level op loose = by (nat_le level (level_of op)) refl
  where
    by : (b : Bool) → nat_le level (level_of op) ≡ b → cond b (Some op) None ≡ None
    by true is = absurd (grind (arith, nat_tests))
    by false is = refl

pub from_found : (level : ℕ) (told : Option BinaryOp) (op : BinaryOp) → operator_from level told ≡ Some op → (told ≡ Some op) × (level ≤ level_of op)
from_found level None op is = cc
from_found level (Some other) op is = by (nat_le level (level_of other)) refl is
  where
    by : (b : Bool) → nat_le level (level_of other) ≡ b → cond b (Some other) None ≡ Some op → (Some other ≡ Some op) × (level ≤ level_of op)
    by true test it =
        let same : other ≡ op = cc in
        let tight : level ≤ level_of other = grind (arith, nat_tests) in
        (it, subst (λ (o : BinaryOp). level ≤ level_of o) same tight)
    by false test it = cc

-- none that binds so tightly follows
pub from_higher : (low high : ℕ) (told : Option BinaryOp) → low ≤ high → operator_from low told ≡ None → operator_from high told ≡ None
from_higher low high None above none = refl
from_higher low high (Some op) above none = by (nat_le low (level_of op)) refl none
  where
    by : (b : Bool) → nat_le low (level_of op) ≡ b → cond b (Some op) None ≡ None → operator_from high (Some op) ≡ None
    by true test it = cc
    by false test it = from_none high op (let low_test : level_of op < low = grind (arith, nat_tests) in omega arith)

pub in_higher : (low high : ℕ) (tokens : List SpelledToken) → low ≤ high → operator_in low tokens ≡ None → operator_in high tokens ≡ None
unfolding operator_in
in_higher low high [] above none = refl
in_higher low high (token ∷ rest) above none = from_higher low high (operator_of token) above none

from_seven : (level : ℕ) (told : Option BinaryOp) → 7 ≤ level → operator_from level told ≡ None
from_seven level None high = refl
from_seven level (Some op) high = from_none level op (let few = level_few op in omega arith)

pub in_seven : (level : ℕ) (tokens : List SpelledToken) → 7 ≤ level → operator_in level tokens ≡ None
unfolding operator_in
in_seven level [] high = refl
in_seven level (token ∷ rest) high = from_seven level (operator_of token) high

-- what does not go on has no operator in front, and the other way round
from_one : (told : Option BinaryOp) → is_some told ≡ false → operator_from 1 told ≡ None
from_one None none = refl
from_one (Some op) none = cc

pub in_one : (tokens : List SpelledToken) → operator_follows tokens ≡ false → operator_in 1 tokens ≡ None
unfolding operator_in
in_one [] none = refl
in_one (token ∷ rest) none = from_one (operator_of token) none

one_from : (told : Option BinaryOp) → operator_from 1 told ≡ None → is_some told ≡ false
one_from None none = refl
one_from (Some op) none = let tight = from_some 1 op (level_some op) in cc

pub one_in : (tokens : List SpelledToken) → operator_in 1 tokens ≡ None → operator_follows tokens ≡ false
unfolding operator_in
one_in [] none = refl
one_in (token ∷ rest) none = one_from (operator_of token) none
