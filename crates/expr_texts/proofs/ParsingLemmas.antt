-- What the parser finds at an index, step by step.
use Rattle.std.proofs.Common.{◌≡◌, ℕ, ◌+◌, ◌<◌, ◌≤◌, Bool, true, false, cond, nat_lt, List, [], ◌∷◌, Option, Some, None, Result, Ok, Err, length, get_or, refl, sym, ap, ◌∙◌, arith}
use Rattle.std.proofs.lemmas.Bool.Decides.{nat_tests}
use Rattle.asm_base.specs.declared.tokens.Token.{Token}
use Rattle.asm_base.specs.Tokens.{SpelledToken, spelled}
use Rattle.asm_base.specs.declared.refusals.Refusal.{Refusal}
use Rattle.asm_base.specs.declared.refusals.Refusal.TheVariants.{Fault, NoMemory}
use Rattle.asm_base.specs.Refusals.{◌>>=◌, Fails}
use Rattle.asm_expr.specs.declared.faults.ExprCause.{ExprCause}
use Rattle.asm_expr.specs.declared.faults.ExprCause.TheVariants.{BadExpression, ExpressionTooDeep}
use Rattle.asm_expr.specs.declared.trees.UnaryOp.{UnaryOp}
use Rattle.asm_expr.specs.declared.trees.BinaryOp.{BinaryOp}
use Rattle.expr_texts.specs.declared.parsing.Found.{Found}
use Rattle.asm_expr.specs.Trees.{Tree, tree_of, unary, height}
use Rattle.expr_texts.specs.Operators.{opens, prefix_of}
use Rattle.expr_texts.specs.Leaves.{leaf_of}
use Rattle.expr_texts.specs.Reading.{Read, read, whole, closed, deeper, unopened, operand_of, operator_at, follow, reading, reading_more}
use Rattle.expr_texts.specs.Found.{spelled_from, operand_in, operator_in, Finds, IsNode, CompletesNode}
use Rattle.expr_texts.proofs.TokenLists.{none_left, one_left}
use Rattle.expr_texts.proofs.Fuel.{right_of, reading_none, reading_step, reading_more_none, reading_more_step}

-- a node that is complete
too_high : (b : Bool) (tree : Tree) (rest : List SpelledToken) → nat_lt 256 (height tree) ≡ b → 256 < height tree → cond b (Err ExpressionTooDeep) (Ok (read tree rest)) ≡ Err ExpressionTooDeep
too_high true tree rest is high = refl
too_high false tree rest is high = absurd (grind (arith, nat_tests))

low_enough : (b : Bool) (tree : Tree) (rest : List SpelledToken) → nat_lt 256 (height tree) ≡ b → height tree ≤ 256 → cond b (Err ExpressionTooDeep) (Ok (read tree rest)) ≡ Ok (read tree rest)
low_enough true tree rest is low = absurd (grind (arith, nat_tests))
low_enough false tree rest is low = refl

pub whole_high : (tree : Tree) (rest : List SpelledToken) → 256 < height tree → whole tree rest ≡ Err ExpressionTooDeep
unfolding whole
whole_high tree rest high = too_high (nat_lt 256 (height tree)) tree rest refl high

pub whole_low : (tree : Tree) (rest : List SpelledToken) → height tree ≤ 256 → whole tree rest ≡ Ok (read tree rest)
unfolding whole
whole_low tree rest low = low_enough (nat_lt 256 (height tree)) tree rest refl low

pub node_fails : (tree : Tree) (next : ℕ) (refusal : Refusal ExprCause) (rest : List SpelledToken) → CompletesNode tree next (Err refusal) → Fails refusal (whole tree rest)
node_fails tree next (Fault fault) rest is = whole_high tree rest is.1 ∙ ap Err (sym is.0)
node_fails tree next NoMemory rest is = tt

pub node_done : (tokens : List Token) (tree : Tree) (next : ℕ) (found : Found) → IsNode tree next found
    → whole tree (spelled_from tokens next) ≡ Ok (read (tree_of found.expr) (spelled_from tokens found.next))
node_done tokens tree next found is =
    let same = is.tree in
    let behind = is.next in
    let told = is.low.height in
    let low = is.low.low in
    let fits : height tree ≤ 256 = rw (← same) (omega arith) in
    rw (same, behind) (whole_low tree (spelled_from tokens next) fits)

-- an expression begins with an operand
pub reading_is : (level depth : ℕ) (tokens : List SpelledToken) → reading level depth tokens ≡ (operand_in depth tokens >>= (λ left. reading_more level depth left.tree left.rest))
unfolding operand_in
reading_is level depth [] = reading_none level depth
reading_is level depth (token ∷ rest) = reading_step level depth token rest

-- it ends where no operator follows that binds tightly enough
pub stops : (level depth : ℕ) (left : Tree) (tokens : List SpelledToken) → None ≡ operator_in level tokens → reading_more level depth left tokens ≡ Ok (read left tokens)
unfolding operator_in
stops level depth left [] none = reading_more_none level depth left
stops level depth left (token ∷ rest) none =
    reading_more_step level depth left token rest
    ∙ ap (λ (op : Option BinaryOp). follow op (Ok (read left (token ∷ rest))) (λ op. right_of reading depth left rest op >>= (λ joined. reading_more level depth joined.tree joined.rest))) (sym none)

pub more_end : (tokens : List Token) (at level depth : ℕ) (left : Tree) → None ≡ operator_in level (spelled_from tokens at)
    → reading_more level depth left (spelled_from tokens at) ≡ Ok (read left (spelled_from tokens at))
more_end tokens at level depth left none = stops level depth left (spelled_from tokens at) none

-- and goes on where one does
pub more_at : (tokens : List Token) (at level depth : ℕ) (left : Tree) (op : BinaryOp) → at < length tokens → Some op ≡ operator_in level (spelled_from tokens at)
    → reading_more level depth left (spelled_from tokens at)
    ≡ (right_of reading depth left (spelled_from tokens (at + 1)) op >>= (λ joined. reading_more level depth joined.tree joined.rest))
unfolding operator_in
more_at tokens at level depth left op inside some = by tokens inside some
  where
    go_on : (token : SpelledToken) (rest : List SpelledToken) → Some op ≡ operator_at level token
        → reading_more level depth left (token ∷ rest) ≡ (right_of reading depth left rest op >>= (λ joined. reading_more level depth joined.tree joined.rest))
    go_on token rest is =
        reading_more_step level depth left token rest
        ∙ ap (λ (op : Option BinaryOp). follow op (Ok (read left (token ∷ rest))) (λ op. right_of reading depth left rest op >>= (λ joined. reading_more level depth joined.tree joined.rest))) (sym is)

    by : (tokens : List Token) → at < length tokens → Some op ≡ operator_in level (spelled_from tokens at)
        → reading_more level depth left (spelled_from tokens at)
        ≡ (right_of reading depth left (spelled_from tokens (at + 1)) op >>= (λ joined. reading_more level depth joined.tree joined.rest))
    by [] within is = absurd (omega arith)
    by (first ∷ others) within is =
        let front = one_left (first ∷ others) at first within in
        let here : Some op ≡ operator_at level (spelled (get_or (first ∷ others) at first)) = is ∙ ap (operator_in level) front in
        rw front (go_on (spelled (get_or (first ∷ others) at first)) (spelled_from (first ∷ others) (at + 1)) here)

-- the operand that begins at an index
pub operand_end : (tokens : List Token) (at depth : ℕ) → length tokens ≤ at → operand_in depth (spelled_from tokens at) ≡ Err BadExpression
unfolding operand_in
operand_end tokens at depth all = ap (operand_in depth) (none_left tokens at all)

operand_at : (tokens : List Token) (at depth : ℕ) (d : Token) → at < length tokens
    → operand_in depth (spelled_from tokens at) ≡ operand_of reading depth (spelled (get_or tokens at d)) (spelled_from tokens (at + 1))
unfolding operand_in
operand_at tokens at depth d inside = ap (operand_in depth) (one_left tokens at d inside)

under : (b : Bool) (depth : ℕ) (inner : Read) → nat_lt depth 64 ≡ b → depth < 64 → cond b inner (Err ExpressionTooDeep) ≡ inner
under true depth inner is low = refl
under false depth inner is low = absurd (grind (arith, nat_tests))

over : (b : Bool) (depth : ℕ) (inner : Read) → nat_lt depth 64 ≡ b → 64 ≤ depth → cond b inner (Err ExpressionTooDeep) ≡ Err ExpressionTooDeep
over true depth inner is high = absurd (grind (arith, nat_tests))
over false depth inner is high = refl

pub opened_at : (tokens : List Token) (at depth : ℕ) (d : Token) → at < length tokens → true ≡ opens (spelled (get_or tokens at d)) → depth < 64
    → operand_in depth (spelled_from tokens at) ≡ (reading 1 (depth + 1) (spelled_from tokens (at + 1)) >>= closed)
unfolding operand_of
opened_at tokens at depth d inside is low =
    operand_at tokens at depth d inside
    ∙ ap (λ (b : Bool). cond b (deeper depth (reading 1 (depth + 1) (spelled_from tokens (at + 1)) >>= closed)) (unopened reading depth (spelled (get_or tokens at d)) (spelled_from tokens (at + 1)) (prefix_of (spelled (get_or tokens at d))))) (sym is)
    ∙ under (nat_lt depth 64) depth (reading 1 (depth + 1) (spelled_from tokens (at + 1)) >>= closed) refl low

pub opened_deep : (tokens : List Token) (at depth : ℕ) (d : Token) → at < length tokens → true ≡ opens (spelled (get_or tokens at d)) → 64 ≤ depth
    → operand_in depth (spelled_from tokens at) ≡ Err ExpressionTooDeep
unfolding operand_of
opened_deep tokens at depth d inside is high =
    operand_at tokens at depth d inside
    ∙ ap (λ (b : Bool). cond b (deeper depth (reading 1 (depth + 1) (spelled_from tokens (at + 1)) >>= closed)) (unopened reading depth (spelled (get_or tokens at d)) (spelled_from tokens (at + 1)) (prefix_of (spelled (get_or tokens at d))))) (sym is)
    ∙ over (nat_lt depth 64) depth (reading 1 (depth + 1) (spelled_from tokens (at + 1)) >>= closed) refl high

unopened_at : (tokens : List Token) (at depth : ℕ) (d : Token) → at < length tokens → false ≡ opens (spelled (get_or tokens at d))
    → operand_in depth (spelled_from tokens at) ≡ unopened reading depth (spelled (get_or tokens at d)) (spelled_from tokens (at + 1)) (prefix_of (spelled (get_or tokens at d)))
unfolding operand_of
unopened_at tokens at depth d inside is =
    operand_at tokens at depth d inside
    ∙ ap (λ (b : Bool). cond b (deeper depth (reading 1 (depth + 1) (spelled_from tokens (at + 1)) >>= closed)) (unopened reading depth (spelled (get_or tokens at d)) (spelled_from tokens (at + 1)) (prefix_of (spelled (get_or tokens at d))))) (sym is)

pub prefix_at : (tokens : List Token) (at depth : ℕ) (d : Token) (op : UnaryOp) → at < length tokens → false ≡ opens (spelled (get_or tokens at d)) → Some op ≡ prefix_of (spelled (get_or tokens at d)) → depth < 64
    → operand_in depth (spelled_from tokens at) ≡ (reading 7 (depth + 1) (spelled_from tokens (at + 1)) >>= (λ operand. whole (unary op operand.tree) operand.rest))
prefix_at tokens at depth d op inside is some low =
    unopened_at tokens at depth d inside is
    ∙ ap (unopened reading depth (spelled (get_or tokens at d)) (spelled_from tokens (at + 1))) (sym some)
    ∙ under (nat_lt depth 64) depth (reading 7 (depth + 1) (spelled_from tokens (at + 1)) >>= (λ operand. whole (unary op operand.tree) operand.rest)) refl low

pub prefix_deep : (tokens : List Token) (at depth : ℕ) (d : Token) (op : UnaryOp) → at < length tokens → false ≡ opens (spelled (get_or tokens at d)) → Some op ≡ prefix_of (spelled (get_or tokens at d)) → 64 ≤ depth
    → operand_in depth (spelled_from tokens at) ≡ Err ExpressionTooDeep
prefix_deep tokens at depth d op inside is some high =
    unopened_at tokens at depth d inside is
    ∙ ap (unopened reading depth (spelled (get_or tokens at d)) (spelled_from tokens (at + 1))) (sym some)
    ∙ over (nat_lt depth 64) depth (reading 7 (depth + 1) (spelled_from tokens (at + 1)) >>= (λ operand. whole (unary op operand.tree) operand.rest)) refl high

pub leaf_at : (tokens : List Token) (at depth : ℕ) (d : Token) → at < length tokens → false ≡ opens (spelled (get_or tokens at d)) → None ≡ prefix_of (spelled (get_or tokens at d))
    → operand_in depth (spelled_from tokens at) ≡ (leaf_of (spelled (get_or tokens at d)) >>= (λ tree. Ok (read tree (spelled_from tokens (at + 1)))))
leaf_at tokens at depth d inside is none =
    unopened_at tokens at depth d inside is
    ∙ ap (unopened reading depth (spelled (get_or tokens at d)) (spelled_from tokens (at + 1))) (sym none)

-- what was found at a later index was found behind an earlier one
pub finds_after : (tokens : List Token) (at next : ℕ) (wanted step : Read) (answer : Result Found (Refusal ExprCause)) → wanted ≡ step → at ≤ next → Finds tokens next step answer → Finds tokens at wanted answer
finds_after tokens at next wanted step (Ok found) is before finds = record {
  value = is ∙ finds.value;
  low = finds.low;
  later = let later = finds.later in omega arith;
  within = finds.within;
}
finds_after tokens at next wanted step (Err refusal) is before finds = rw is finds

-- a node that was completed was found behind its first token
pub finds_node : (tokens : List Token) (at next : ℕ) (tree : Tree) (wanted : Read) (answer : Result Found (Refusal ExprCause)) → wanted ≡ whole tree (spelled_from tokens next) → at < next → next ≤ length tokens
    → CompletesNode tree next answer → Finds tokens at wanted answer
finds_node tokens at next tree wanted (Ok found) is before within completes = record {
  value = is ∙ node_done tokens tree next found completes;
  low = completes.low;
  later = let same = completes.next in omega arith;
  within = let same = completes.next in omega arith;
}
finds_node tokens at next tree wanted (Err refusal) is before within completes = rw is (node_fails tree next refusal (spelled_from tokens next) completes)
