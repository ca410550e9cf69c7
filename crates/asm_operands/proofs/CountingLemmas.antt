-- What the reading of an expression finds, step by step.
use Rattle.std.proofs.Common.{◌≡◌, ℕ, zero, suc, ◌+◌, ◌-◌, ◌<◌, ◌≤◌, Bool, true, false, cond, nat_lt, nat_le, List, [], ◌∷◌, Option, Some, None, Ok, Err, length, get_or, drop, map, refl, sym, ap, ◌∙◌, arith, length-drop}
use Rattle.std.proofs.lemmas.Bool.Decides.{nat_tests}
use Rattle.std.proofs.lemmas.List.{length-map}
use Rattle.asm_base.specs.declared.tokens.Token.{Token}
use Rattle.asm_base.specs.Tokens.{SpelledToken, spelled}
use Rattle.asm_base.specs.Refusals.{◌>>=◌}
use Rattle.asm_expr.specs.declared.faults.ExprCause.TheVariants.{BadExpression, ExpressionTooDeep}
use Rattle.asm_expr.specs.declared.trees.UnaryOp.{UnaryOp}
use Rattle.asm_expr.specs.declared.trees.BinaryOp.{BinaryOp}
use Rattle.asm_expr.specs.Trees.{Tree, unary, binary, height}
use Rattle.asm_expr.specs.declared.trees.BinaryOp.TheVariants.{Mul, Div, Rem, Shl, Shr, Or, And, Xor, OrNot, Add, Sub, Eq, Ne, Lt, Gt, Le, Ge, BothTrue, OneTrue}
use Rattle.expr_texts.specs.Operators.{opens, closes, prefix_of, operator_of, level_of}
use Rattle.expr_texts.specs.Leaves.{leaf_of}
use Rattle.expr_texts.specs.Reading.{Reading, Read, read, whole, closed, closed_by, deeper, unopened, operand_of, operator_at, operator_from, follow, reading, read_at, read_more}
use Rattle.expr_texts.specs.Found.{spelled_from, operator_in}
use Rattle.asm_operands.specs.declared.constants.Counted.{Counted}
use Rattle.asm_operands.specs.Worths.{IsWorth}
use Rattle.asm_operands.specs.Levels.{level_by}
use Rattle.asm_operands.specs.Counting.{Counts, operand_in, first_level, ReadsOperand, ReadsExpression, ReadsMore, IsRead}
use Rattle.asm_operands.proofs.LeafLemmas.{leaf_reads}
use Rattle.asm_operands.proofs.TokenLists.{none_left, one_left}
use Rattle.asm_operands.proofs.TreeCounts.{leaf_counts, lifted, unary_counts, binary_counts, whole_low}

-- one construct more may be open
under : (b : Bool) (depth : ℕ) (inner : Read) → nat_lt depth 64 ≡ b → depth < 64 → cond b inner (Err ExpressionTooDeep) ≡ inner
under true depth inner is low = refl
under false depth inner is low = absurd (grind (arith, nat_tests))

-- how many tokens are left
pub left_from : (tokens : List Token) (at : ℕ) → length (spelled_from tokens at) ≡ length tokens - at
left_from tokens at = length-map (drop at tokens) spelled ∙ length-drop at tokens

-- the operand that begins at an index
operand_at : (tokens : List Token) (at steps depth : ℕ) (d : Token) → at < length tokens
    → operand_in steps depth (spelled_from tokens at) ≡ operand_of (read_at steps) depth (spelled (get_or tokens at d)) (spelled_from tokens (at + 1))
unfolding operand_in
operand_at tokens at steps depth d inside = ap (operand_in steps depth) (one_left tokens at d inside)

pub leaf_operand : (tokens : List Token) (at depth : ℕ) (leaf : Tree) (d : Token) → at < length tokens → leaf_of (spelled (get_or tokens at d)) ≡ Ok leaf
    → ReadsOperand depth (spelled_from tokens at) (read leaf (spelled_from tokens (at + 1)))
leaf_operand tokens at depth leaf d inside is steps few =
    operand_at tokens at steps depth d inside ∙ leaf_reads (spelled (get_or tokens at d)) (read_at steps) depth leaf (spelled_from tokens (at + 1)) is

-- with parentheses
closed_at : (tokens : List Token) (next : ℕ) (tree : Tree) (d : Token) → next < length tokens → true ≡ closes (spelled (get_or tokens next d))
    → closed_by tree (spelled_from tokens next) ≡ Ok (read tree (spelled_from tokens (next + 1)))
closed_at tokens next tree d inside is =
    ap (closed_by tree) (one_left tokens next d inside)
    ∙ ap (λ (b : Bool). cond b (Ok (read tree (spelled_from tokens (next + 1)))) (Err BadExpression)) (sym is)

fewer : (tokens : List Token) (at steps : ℕ) → at < length tokens → length (spelled_from tokens at) ≤ suc steps → length (spelled_from tokens (at + 1)) ≤ steps
fewer tokens at steps inside few = let all = left_from tokens at in let rest = left_from tokens (at + 1) in omega arith

pub opened_operand : (tokens : List Token) (at next depth : ℕ) (tree : Tree) (d e : Token) → at < length tokens → true ≡ opens (spelled (get_or tokens at d)) → depth < 64
    → ReadsExpression 1 (depth + 1) (spelled_from tokens (at + 1)) (read tree (spelled_from tokens next)) → next < length tokens → true ≡ closes (spelled (get_or tokens next e))
    → ReadsOperand depth (spelled_from tokens at) (read tree (spelled_from tokens (next + 1)))
unfolding operand_of
opened_operand tokens at next depth tree d e inside is low reads within ends steps few =
    operand_at tokens at steps depth d inside
    ∙ ap (λ (b : Bool). cond b (deeper depth (read_at steps 1 (depth + 1) (spelled_from tokens (at + 1)) >>= closed)) (unopened (read_at steps) depth (spelled (get_or tokens at d)) (spelled_from tokens (at + 1)) (prefix_of (spelled (get_or tokens at d))))) (sym is)
    ∙ under (nat_lt depth 64) depth (read_at steps 1 (depth + 1) (spelled_from tokens (at + 1)) >>= closed) refl low
    ∙ ap (λ (r : Read). r >>= closed) (reads steps (fewer tokens at steps inside few))
    ∙ closed_at tokens next tree e within ends

-- with a prefix operator
pub prefix_operand : (tokens : List Token) (at next depth : ℕ) (op : UnaryOp) (tree : Tree) (d : Token) → at < length tokens → false ≡ opens (spelled (get_or tokens at d)) → Some op ≡ prefix_of (spelled (get_or tokens at d))
    → depth < 64 → ReadsExpression 7 (depth + 1) (spelled_from tokens (at + 1)) (read tree (spelled_from tokens next)) → height (unary op tree) ≤ 256
    → ReadsOperand depth (spelled_from tokens at) (read (unary op tree) (spelled_from tokens next))
unfolding operand_of
prefix_operand tokens at next depth op tree d inside is some low reads fits steps few =
    operand_at tokens at steps depth d inside
    ∙ ap (λ (b : Bool). cond b (deeper depth (read_at steps 1 (depth + 1) (spelled_from tokens (at + 1)) >>= closed)) (unopened (read_at steps) depth (spelled (get_or tokens at d)) (spelled_from tokens (at + 1)) (prefix_of (spelled (get_or tokens at d))))) (sym is)
    ∙ ap (unopened (read_at steps) depth (spelled (get_or tokens at d)) (spelled_from tokens (at + 1))) (sym some)
    ∙ under (nat_lt depth 64) depth (read_at steps 7 (depth + 1) (spelled_from tokens (at + 1)) >>= (λ operand. whole (unary op operand.tree) operand.rest)) refl low
    ∙ ap (λ (r : Read). r >>= (λ operand. whole (unary op operand.tree) operand.rest)) (reads steps (fewer tokens at steps inside few))
    ∙ whole_low (unary op tree) (spelled_from tokens next) fits

-- an expression begins with an operand
pub begins : (level depth : ℕ) (front behind : List SpelledToken) (tree : Tree) (found : Reading) → length behind < length front → ReadsOperand depth front (read tree behind)
    → ReadsMore level depth tree behind found → ReadsExpression level depth front found
unfolding operand_in read_at
begins level depth [] behind tree found fewer operand more steps few = absurd (omega arith)
begins level depth (token ∷ rest) behind tree found fewer operand more zero few = absurd (omega arith)
begins level depth (token ∷ rest) behind tree found fewer operand more (suc steps) few =
    ap (λ (r : Read). r >>= (λ left. read_more steps level depth left.tree left.rest)) (operand steps few)
    ∙ more steps (omega arith)

-- it ends where no operator follows that binds tightly enough
pub stops : (level depth : ℕ) (left : Tree) (tokens : List SpelledToken) → None ≡ operator_in level tokens → ReadsMore level depth left tokens (read left tokens)
unfolding operator_in read_more
stops level depth left [] none steps few = refl
stops level depth left (token ∷ rest) none zero few = absurd (omega arith)
stops level depth left (token ∷ rest) none (suc steps) few =
    ap (λ (op : Option BinaryOp). follow op (Ok (read left (token ∷ rest))) (λ op. read_at steps (level_of op + 1) depth rest >>= (λ right. whole (binary op left right.tree) right.rest) >>= (λ joined. read_more steps level depth joined.tree joined.rest)))
    (sym none)

-- and goes on where one does
pub goes : (level depth : ℕ) (op : BinaryOp) (left right : Tree) (token : SpelledToken) (rest behind : List SpelledToken) (found : Reading) → Some op ≡ operator_at level token
    → ReadsExpression (level_of op + 1) depth rest (read right behind) → height (binary op left right) ≤ 256 → length behind ≤ length rest
    → ReadsMore level depth (binary op left right) behind found → ReadsMore level depth left (token ∷ rest) found
unfolding read_more
goes level depth op left right token rest behind found some reads fits fewer more zero few = absurd (omega arith)
goes level depth op left right token rest behind found some reads fits fewer more (suc steps) few =
    ap (λ (op : Option BinaryOp). follow op (Ok (read left (token ∷ rest))) (λ op. read_at steps (level_of op + 1) depth rest >>= (λ right. whole (binary op left right.tree) right.rest) >>= (λ joined. read_more steps level depth joined.tree joined.rest)))
    (sym some)
    ∙ ap (λ (r : Read). r >>= (λ right. whole (binary op left right.tree) right.rest) >>= (λ joined. read_more steps level depth joined.tree joined.rest)) (reads steps (omega arith))
    ∙ ap (λ (r : Read). r >>= (λ joined. read_more steps level depth joined.tree joined.rest)) (whole_low (binary op left right) behind fits)
    ∙ more steps (omega arith)

operator_is : (tokens : List Token) (at level : ℕ) (d : Token) (op : BinaryOp) → at < length tokens → Some op ≡ operator_in level (spelled_from tokens at) → Some op ≡ operator_at level (spelled (get_or tokens at d))
unfolding operator_in
operator_is tokens at level d op inside is = is ∙ ap (operator_in level) (one_left tokens at d inside)

pub goes_on : (tokens : List Token) (at next level depth : ℕ) (op : BinaryOp) (left right : Tree) (found : Reading) → at < length tokens → Some op ≡ operator_in level (spelled_from tokens at)
    → ReadsExpression (level_of op + 1) depth (spelled_from tokens (at + 1)) (read right (spelled_from tokens next)) → height (binary op left right) ≤ 256 → at + 1 ≤ next
    → ReadsMore level depth (binary op left right) (spelled_from tokens next) found → ReadsMore level depth left (spelled_from tokens at) found
goes_on [] at next level depth op left right found inside some reads fits later more = absurd (omega arith)
goes_on (first ∷ others) at next level depth op left right found inside some reads fits later more =
    let tokens : List Token = first ∷ others in
    let rest = left_from tokens (at + 1) in
    let behind = left_from tokens next in
    let all = goes level depth op left right (spelled (get_or tokens at first)) (spelled_from tokens (at + 1)) (spelled_from tokens next) found (operator_is tokens at level first op inside some) reads fits (omega arith) more in
    rw (one_left tokens at first inside) all

-- an operator that binds tightly enough, or none
level_low : (op : Option BinaryOp) → level_by op ≤ 6
unfolding level_by level_of
level_low None = omega arith
level_low (Some Mul) = omega arith
level_low (Some Div) = omega arith
level_low (Some Rem) = omega arith
level_low (Some Shl) = omega arith
level_low (Some Shr) = omega arith
level_low (Some Or) = omega arith
level_low (Some And) = omega arith
level_low (Some Xor) = omega arith
level_low (Some OrNot) = omega arith
level_low (Some Add) = omega arith
level_low (Some Sub) = omega arith
level_low (Some Eq) = omega arith
level_low (Some Ne) = omega arith
level_low (Some Lt) = omega arith
level_low (Some Gt) = omega arith
level_low (Some Le) = omega arith
level_low (Some Ge) = omega arith
level_low (Some BothTrue) = omega arith
level_low (Some OneTrue) = omega arith

pub levels_low : (tokens : List SpelledToken) → first_level tokens ≤ 6
unfolding first_level
levels_low [] = omega arith
levels_low (token ∷ rest) = level_low (operator_of token)

from_none : (level : ℕ) (op : Option BinaryOp) → level_by op < level → None ≡ operator_from level op
unfolding level_by
from_none level None low = refl
from_none level (Some op) low = by (nat_le level (level_of op)) refl
  where
    by : (b : Bool) → nat_le level (level_of op) ≡ b → None ≡ cond b (Some op) None
    by true is = absurd (grind (arith, nat_tests))
    by false is = refl

-- where the level is too low, no operator follows that binds tightly enough
pub none_in : (level : ℕ) (tokens : List SpelledToken) → first_level tokens < level → None ≡ operator_in level tokens
unfolding operator_in first_level
none_in level [] low = refl
none_in level (token ∷ rest) low = from_none level (operator_of token) low

-- an operator that binds at least so tightly
pub record HasOperator (level : ℕ) (token : SpelledToken) (now : ℕ) : Type 0 where
  pub op : BinaryOp
  pub is : operator_of token ≡ Some op
  pub from : Some op ≡ operator_at level token
  pub binds : level_of op ≡ now

pub from_some : (level : ℕ) (token : SpelledToken) (op : Option BinaryOp) → operator_of token ≡ op → 1 ≤ level → level ≤ level_by op → HasOperator level token (level_by op)
unfolding level_by
from_some level token None is some high = absurd (omega arith)
from_some level token (Some op) is some high = record {
  op = op;
  is = is;
  from = rw is (by (nat_le level (level_of op)) refl);
  binds = refl;
}
  where
    by : (b : Bool) → nat_le level (level_of op) ≡ b → Some op ≡ cond b (Some op) None
    by true test = refl
    by false test = absurd (grind (arith, nat_tests))

-- what an expression counts as far as it is read
pub record IsBegun {V : Type 0} (Worth : Tree → V → Type 0) (tokens : List Token) (at level depth : ℕ) (left : Counted V) : Type 0 where
  pub tree : Tree
  pub reads : (found : Reading) → ReadsMore level depth tree (spelled_from tokens left.next) found → ReadsExpression level depth (spelled_from tokens at) found
  pub counts : Counts Worth tree left.value (left.next - at)
  pub later : at < left.next
  pub within : left.next ≤ length tokens

module _ {V : Type 0} (Worth : Tree → V → Type 0) where
  pub begun_by : (tokens : List Token) (at level depth : ℕ) (left : Counted V) → IsRead Worth (ReadsOperand depth) tokens at left → IsBegun Worth tokens at level depth left
  begun_by tokens at level depth left is = record {
    tree = is.tree;
    reads = λ found more. begins level depth (spelled_from tokens at) (spelled_from tokens left.next) is.tree found
        (let all = left_from tokens at in let rest = left_from tokens left.next in let later = is.later in let within = is.within in omega arith) is.reads more;
    counts = is.counts;
    later = is.later;
    within = is.within;
  }

  pub ended_by : (tokens : List Token) (at level depth : ℕ) (left : Counted V) → left.level ≡ first_level (spelled_from tokens left.next) → left.level < level
      → IsBegun Worth tokens at level depth left → IsRead Worth (ReadsExpression level depth) tokens at left
  ended_by tokens at level depth left now low is = record {
    tree = is.tree;
    reads = is.reads (read is.tree (spelled_from tokens left.next)) (stops level depth is.tree (spelled_from tokens left.next) (none_in level (spelled_from tokens left.next) (rw now at low)));
    counts = is.counts;
    later = is.later;
    within = is.within;
    level = now;
  }

  pub gone_on : (tokens : List Token) (at level depth : ℕ) (op : BinaryOp) (left right joined : Counted V) → length tokens ≤ 200 → Some op ≡ operator_in level (spelled_from tokens left.next)
      → IsRead Worth (ReadsExpression (level_of op + 1) depth) tokens (left.next + 1) right
      → ((one other : Tree) → Worth one left.value → Worth other right.value → Worth (binary op one other) joined.value) → joined.next ≡ right.next
      → IsBegun Worth tokens at level depth left → IsBegun Worth tokens at level depth joined
  gone_on tokens at level depth op left right joined few some is gives next before =
      let node = binary op before.tree is.tree in
      let begun = before.later in
      let inside = before.within in
      let later = is.later in
      let within = is.within in
      let value : Worth (binary op before.tree is.tree) joined.value = gives before.tree is.tree before.counts.worth is.counts.worth in
      let counts = binary_counts Worth op before.tree is.tree left.value right.value joined.value (left.next - at) (right.next - (left.next + 1)) (right.next - at) before.counts is.counts value (omega arith) (omega arith) in
      let low = counts.low in
      rw next (record {
        tree = node;
        reads = λ found more. before.reads found (goes_on tokens left.next right.next level depth op before.tree is.tree found (omega arith) some is.reads (omega arith) (omega arith) more);
        counts = counts;
        later = omega arith;
        within = is.within;
      })

  -- the operand of each kind, as it is read
  pub leaf_read : (tokens : List Token) (at depth level : ℕ) (leaf : Tree) (value : V) (d : Token) → at < length tokens → leaf_of (spelled (get_or tokens at d)) ≡ Ok leaf
      → height leaf ≡ 1 → Worth leaf value → level ≡ first_level (spelled_from tokens (at + 1))
      → IsRead Worth (ReadsOperand depth) tokens at (record { value = value; next = at + 1; level = level })
  leaf_read tokens at depth level leaf value d inside is lone worth now = record {
    tree = leaf;
    reads = leaf_operand tokens at depth leaf d inside is;
    counts = leaf_counts Worth leaf value (at + 1 - at) (omega arith) lone worth;
    later = omega arith;
    within = omega arith;
    level = now;
  }

  pub opened_read : (tokens : List Token) (at depth level : ℕ) (inner : Counted V) (d e : Token) → at < length tokens → true ≡ opens (spelled (get_or tokens at d)) → depth < 64
      → IsRead Worth (ReadsExpression 1 (depth + 1)) tokens (at + 1) inner → inner.next < length tokens → true ≡ closes (spelled (get_or tokens inner.next e))
      → level ≡ first_level (spelled_from tokens (inner.next + 1)) → IsRead Worth (ReadsOperand depth) tokens at (record { value = inner.value; next = inner.next + 1; level = level })
  opened_read tokens at depth level inner d e inside is low counted within ends now =
      let later = counted.later in
      record {
        tree = counted.tree;
        reads = opened_operand tokens at inner.next depth counted.tree d e inside is low counted.reads within ends;
        counts = lifted Worth counted.tree inner.value (inner.next - (at + 1)) (inner.next + 1 - at) (omega arith) counted.counts;
        later = omega arith;
        within = omega arith;
        level = now;
      }

  pub prefix_read : (tokens : List Token) (at depth : ℕ) (op : UnaryOp) (inner : Counted V) (value : V) (d : Token) → length tokens ≤ 200 → at < length tokens → false ≡ opens (spelled (get_or tokens at d))
      → Some op ≡ prefix_of (spelled (get_or tokens at d)) → depth < 64 → IsRead Worth (ReadsExpression 7 (depth + 1)) tokens (at + 1) inner
      → ((tree : Tree) → Worth tree inner.value → Worth (unary op tree) value)
      → IsRead Worth (ReadsOperand depth) tokens at (record { value = value; next = inner.next; level = inner.level })
  prefix_read tokens at depth op inner value d few inside is some low counted gives =
      let later = counted.later in
      let within = counted.within in
      let worth : Worth (unary op counted.tree) value = gives counted.tree counted.counts.worth in
      let counts = lifted Worth (unary op counted.tree) value (inner.next - (at + 1) + 1) (inner.next - at) (omega arith) (unary_counts Worth op counted.tree inner.value value (inner.next - (at + 1)) counted.counts worth) in
      let fits = counts.low in
      record {
        tree = unary op counted.tree;
        reads = prefix_operand tokens at inner.next depth op counted.tree d inside is some low counted.reads (omega arith);
        counts = counts;
        later = omega arith;
        within = counted.within;
        level = counted.level;
      }

  -- an expression that is all tokens is the operand
  pub whole_read : (tokens : List Token) (found : Counted V) → IsRead Worth (ReadsExpression 1 0) tokens 0 found → length tokens ≤ found.next → IsWorth Worth (map spelled tokens) found.value
  unfolding reading
  whole_read tokens found counted all = record {
    tree = counted.tree;
    reads =
        counted.reads (length (map spelled tokens)) (omega arith)
        ∙ ap (λ rest. Ok (read counted.tree rest)) (none_left tokens found.next all);
    worth = counted.counts.worth;
  }
