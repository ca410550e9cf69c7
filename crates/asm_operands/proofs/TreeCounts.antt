-- What the tree of an expression of numbers counts.
use Rattle.std.proofs.Common.{◌≡◌, ℕ, ◌+◌, ◌-◌, ◌^◌, ◌<◌, ◌≤◌, Bool, true, false, cond, nat_lt, List, ◌++◌, Option, Some, None, Result, Ok, Err, refl, ap, ◌∙◌, arith}
use Rattle.std.specs.Result.{result_ok}
use Rattle.std.proofs.lemmas.Bool.Decides.{nat_tests}
use Rattle.asm_base.specs.Tokens.{SpelledToken}
use Rattle.asm_base.specs.Refusals.{◌>>=◌}
use Rattle.asm_expr.specs.declared.faults.ExprCause.{ExprCause}
use Rattle.asm_expr.specs.declared.faults.ExprCause.TheVariants.{ExpressionTooDeep}
use Rattle.asm_expr.specs.declared.trees.UnaryOp.{UnaryOp}
use Rattle.asm_expr.specs.declared.trees.UnaryOp.TheVariants.{Minus, Complement}
use Rattle.asm_expr.specs.declared.trees.BinaryOp.{BinaryOp}
use Rattle.asm_expr.specs.declared.trees.BinaryOp.TheVariants.{Add, Sub}
use Rattle.asm_expr.specs.Trees.{Tree, number, unary, binary, height}
use Rattle.asm_expr.specs.Forms.{Form, wrapped, with_terms, constant_form}
use Rattle.asm_expr.specs.Knowledge.{Knowledge}
use Rattle.asm_expr.specs.Settled.{put_all, settled}
use Rattle.asm_expr.specs.Arithmetic.{turned, combined}
use Rattle.asm_expr.specs.Linear.{unary_form, binary_form, linear}
use Rattle.asm_expr.specs.NamesOf.{names_of}
use Rattle.expr_texts.specs.Reading.{read, whole}
use Rattle.asm_operands.specs.Counting.{Counts}
use Rattle.asm_operands.specs.Numbers.{FindsLeaf}
use Rattle.asm_operands.specs.Worths.{IsConstantTree, FindsValue, FindsLeafWorth, FindsTurned, FindsJoined}
use Rattle.asm_operands.proofs.CommaLemmas.{leaf_apart}

-- a number counts itself
pub number_worth : (n : ℕ) → IsConstantTree (number n) n
unfolding linear
number_worth n = record { form = λ known. refl; names = refl }

wrapped_once : (n : ℕ) → wrapped (0 + wrapped n) ≡ wrapped n
wrapped_once n = omega arith

unary_is : (known : Knowledge) (op : UnaryOp) (n : ℕ) → unary_form known.told op (constant_form n) ≡ Ok (constant_form (turned op n))
unfolding unary_form settled put_all with_terms
unary_is known Minus n = ap (λ n. Ok (constant_form n)) (wrapped_once (2 ^ 64 - wrapped n))
unary_is known Complement n = refl

pub unary_worth : (op : UnaryOp) (tree : Tree) (n : ℕ) → IsConstantTree tree n → IsConstantTree (unary op tree) (turned op n)
unfolding linear
unary_worth op tree n below = record {
  form = λ known. ap (λ (r : Result Form ExprCause). r >>= unary_form known.told op) (below.form known) ∙ unary_is known op n;
  names = below.names;
}

binary_is : (known : Knowledge) (op : BinaryOp) (a b n : ℕ) → combined op a b ≡ Ok n → binary_form known.told op (constant_form a) (constant_form b) ≡ Ok (constant_form n)
unfolding binary_form settled put_all with_terms combined
binary_is known Add a b n is = ap (λ (r : Result ℕ ExprCause). r >>= (λ n. Ok (constant_form n))) is
binary_is known Sub a b n is = ap (λ (r : Result ℕ ExprCause). r >>= (λ n. Ok (constant_form n))) is
binary_is known op a b n is = ap (λ (r : Result ℕ ExprCause). r >>= (λ n. Ok (constant_form n))) is

pub binary_worth : (op : BinaryOp) (left right : Tree) (a b n : ℕ) → IsConstantTree left a → IsConstantTree right b → combined op a b ≡ Ok n → IsConstantTree (binary op left right) n
unfolding linear
binary_worth op left right a b n first second is = record {
  form =
      λ known.
      ap (λ (r : Result Form ExprCause). r >>= (λ one. linear known right >>= (λ other. binary_form known.told op one other))) (first.form known)
      ∙ ap (λ (r : Result Form ExprCause). r >>= (λ other. binary_form known.told op (constant_form a) other)) (second.form known)
      ∙ binary_is known op a b n is;
  names = ap (λ names. names ++ names_of right) first.names ∙ second.names;
}

-- what is found of numbers is what they are worth
pub number_found : (token : SpelledToken) (answer : Option ℕ) → FindsLeaf token answer → FindsLeafWorth IsConstantTree token answer
unfolding height
number_found token (Some n) is = record { tree = number n; is = is; lone = refl; worth = number_worth n; apart = leaf_apart token n is }
number_found token None is = tt

pub turned_found : (op : UnaryOp) (n m : ℕ) → m ≡ turned op n → FindsTurned IsConstantTree op n (Some m)
turned_found op n m is tree below = rw is (unary_worth op tree n below)

pub joined_found : (token : SpelledToken) (a b : ℕ) (answer : Option ℕ) → FindsValue token a b answer → FindsJoined IsConstantTree token a b answer
joined_found token a b (Some n) gives = λ op left right is first second. binary_worth op left right a b n first second (gives op is)
joined_found token a b None gives = tt

-- the trees under one node more
module _ {V : Type 0} (Worth : Tree → V → Type 0) where
  pub leaf_counts : (tree : Tree) (value : V) (most : ℕ) → 1 ≤ most → height tree ≡ 1 → Worth tree value → Counts Worth tree value most
  leaf_counts tree value most some lone is = record { worth = is; low = omega arith }

  pub lifted : (tree : Tree) (value : V) (most more : ℕ) → most ≤ more → Counts Worth tree value most → Counts Worth tree value more
  lifted tree value most more fits counts = record { worth = counts.worth; low = let low = counts.low in omega arith }

  pub unary_counts : (op : UnaryOp) (tree : Tree) (below value : V) (most : ℕ) → Counts Worth tree below most → Worth (unary op tree) value
      → Counts Worth (unary op tree) value (most + 1)
  unfolding height
  unary_counts op tree below value most counts is = record { worth = is; low = let low = counts.low in omega arith }

  pub binary_counts : (op : BinaryOp) (left right : Tree) (a b value : V) (one other most : ℕ) → Counts Worth left a one → Counts Worth right b other
      → Worth (binary op left right) value → one < most → other < most → Counts Worth (binary op left right) value most
  unfolding height
  binary_counts op left right a b value one other most first second is low high = record {
    worth = is;
    low = let low_left = first.low in let low_right = second.low in omega arith;
  }

-- a number that an operator gives
pub number_given : (answer : Result ℕ ExprCause) (n : ℕ) → Some n ≡ result_ok answer → answer ≡ Ok n
number_given (Ok m) n is = cc
number_given (Err cause) n is = absurd (cc)

-- a node that is low enough is complete
low_enough : (b : Bool) (tree : Tree) (rest : List SpelledToken) → nat_lt 256 (height tree) ≡ b → height tree ≤ 256 → cond b (Err ExpressionTooDeep) (Ok (read tree rest)) ≡ Ok (read tree rest)
low_enough true tree rest is low = absurd (grind (arith, nat_tests))
low_enough false tree rest is low = refl

pub whole_low : (tree : Tree) (rest : List SpelledToken) → height tree ≤ 256 → whole tree rest ≡ Ok (read tree rest)
unfolding whole
whole_low tree rest low = low_enough (nat_lt 256 (height tree)) tree rest refl low
