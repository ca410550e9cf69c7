-- Two values as one: their sum counts as the sum of their texts.
use Rattle.std.proofs.Common.{◌≡◌, List, [], ◌∷◌, ◌++◌, refl, sym, subst, true}
use Rattle.std.specs.List.{All}
use Rattle.std.proofs.lemmas.List.Elements.{All-nil, All-cons, All-head, All-tail}
use Rattle.asm_expr.specs.declared.trees.Written.{Written}
use Rattle.asm_expr.specs.declared.trees.BinaryOp.TheVariants.{Add}
use Rattle.asm_expr.specs.Trees.{Tree, binary, tree_of}
use Rattle.asm_expr.specs.Knowledge.{Knowledge}
use Rattle.asm_expr.specs.Linear.{linear}
use Rattle.asm_expr.specs.NamesOf.{names_of}
use Rattle.x86_insn.specs.declared.amounts.Amount.{Amount}
use Rattle.x86_insn.specs.declared.amounts.Amount.TheVariants as amount
use Rattle.x86_insn.specs.declared.amounts.Value.{Value}
use Rattle.x86_insn.specs.Amounts.{amount_tree}
use Rattle.att_operands.specs.Values.{IsFitting, KnowsFitting, IsLike, IsAmountOf, ValueText, IsValueOf, beside}

-- a tree is like itself
pub same_like : (one other : Tree) → one ≡ other → IsLike one other
same_like one other is = subst (IsLike one) is (record { counts = λ known fits. refl; names = refl })

-- an amount of a tree is like it
amount_like : (held : Amount) (tree : Tree) → IsAmountOf held tree → IsLike (amount_tree held) tree
amount_like (amount.Number value) tree is = is
amount_like (amount.Name bytes more) tree is = is
amount_like (amount.Tree boxed) tree is = is

-- what holds of all of two lists holds of each of them
all_first : (P : Written → Type 0) (xs ys : List Written) → All P (xs ++ ys) → All P xs
all_first P [] ys all = All-nil P
all_first P (x ∷ xs) ys all = All-cons P x xs (All-head P x (xs ++ ys) all) (all_first P xs ys (All-tail P x (xs ++ ys) all))

all_second : (P : Written → Type 0) (xs ys : List Written) → All P (xs ++ ys) → All P ys
all_second P [] ys all = all
all_second P (x ∷ xs) ys all = all_second P xs ys (All-tail P x (xs ++ ys) all)

-- what is known of the names of a sum is known of those of its parts
first_fits : (known : Knowledge) (one other : Tree) → KnowsFitting known (binary Add one other) → KnowsFitting known one
first_fits known one other fits = all_first (λ (written : Written). IsFitting (known.told (known.meant written))) (names_of one) (names_of other) fits

second_fits : (known : Knowledge) (one other : Tree) → KnowsFitting known (binary Add one other) → KnowsFitting known other
second_fits known one other fits = all_second (λ (written : Written). IsFitting (known.told (known.meant written))) (names_of one) (names_of other) fits

-- so it counts
sum_counts : (known : Knowledge) (a b c d : Tree) → linear known a ≡ linear known c → linear known b ≡ linear known d → linear known (binary Add a b) ≡ linear known (binary Add c d)
unfolding linear
sum_counts known a b c d one other = rw (one, other) refl

-- sums of parts that are alike are alike
sum_like : (a b c d : Tree) → IsLike a c → IsLike b d → IsLike (binary Add a b) (binary Add c d)
sum_like a b c d one other = record {
  counts = λ known fits. sum_counts known a b c d (one.counts known (first_fits known a b fits)) (other.counts known (second_fits known a b fits));
  names = rw (one.names, other.names) refl;
}

-- the sum of two amounts is that of their texts
pub joined : (held more : Value) (sum : Tree) (one other : ValueText) → sum ≡ binary Add (amount_tree held.amount) (amount_tree more.amount) → IsValueOf held one → IsValueOf more other
    → IsLike sum (beside true one other).tree
joined held more sum one other is first second =
    subst (λ (t : Tree). IsLike t (binary Add one.tree other.tree)) (sym is)
    (sum_like (amount_tree held.amount) (amount_tree more.amount) one.tree other.tree (amount_like held.amount one.tree first.amount) (amount_like more.amount other.tree second.amount))
