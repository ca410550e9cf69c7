-- The reading of an expression: how many steps it is given does not count where they are as many as the tokens.
use Rattle.std.proofs.Common.{◌≡◌, ℕ, zero, suc, ◌+◌, ◌<◌, ◌≤◌, Bool, true, false, cond, nat_lt, List, [], ◌∷◌, Option, Some, None, Result, Ok, Err, length, refl, ap, ◌∙◌, arith}
use Rattle.asm_base.specs.Tokens.{SpelledToken}
use Rattle.asm_expr.specs.declared.faults.ExprCause.{ExprCause}
use Rattle.asm_expr.specs.declared.faults.ExprCause.TheVariants.{BadExpression}
use Rattle.asm_expr.specs.declared.trees.UnaryOp.{UnaryOp}
use Rattle.asm_expr.specs.declared.trees.BinaryOp.{BinaryOp}
use Rattle.asm_expr.specs.Trees.{Tree, unary, binary}
use Rattle.asm_base.specs.Refusals.{◌>>=◌}
use Rattle.expr_texts.specs.Operators.{opens, prefix_of, level_of, prefix_level}
use Rattle.expr_texts.specs.Leaves.{leaf_of}
use Rattle.expr_texts.specs.Reading.{Reading, Read, read, whole, closed, deeper, unopened, operand_of, operator_at, follow, read_at, read_more, reading, reading_more}
use Rattle.expr_texts.proofs.Steps.{steps}
use Rattle.expr_texts.proofs.ReadingLemmas.{whole_rest, closed_rest, deeper_is}

-- what reads an expression takes some of the tokens
abbrev Takes : (ℕ → ℕ → List SpelledToken → Read) → Type 0
Takes below = (level depth : ℕ) (tokens : List SpelledToken) (found : Reading) → below level depth tokens ≡ Ok found → length found.rest < length tokens

unopened_takes : (below : ℕ → ℕ → List SpelledToken → Read) → Takes below → (depth : ℕ) (token : SpelledToken) (rest : List SpelledToken) (op : Option UnaryOp) (found : Reading)
    → unopened below depth token rest op ≡ Ok found → length found.rest ≤ length rest
unopened_takes below takes depth token rest None found is =
    let s = steps (leaf_of token) (λ tree. Ok (read tree rest)) found is in
    let e : read s.middle rest ≡ found = cc in
    let n : length rest ≡ length found.rest = ap (λ (f : Reading). length f.rest) e in
    omega arith
unopened_takes below takes depth token rest (Some op) found is =
    let d = deeper_is (nat_lt depth 64) (below prefix_level (depth + 1) rest >>= (λ operand. whole (unary op operand.tree) operand.rest)) found is in
    let s = steps (below prefix_level (depth + 1) rest) (λ operand. whole (unary op operand.tree) operand.rest) found d.1 in
    let n = takes prefix_level (depth + 1) rest s.middle s.begins in
    let w = (whole_rest (unary op s.middle.tree) s.middle.rest found s.ends).0 in
    let m : length found.rest ≡ length s.middle.rest = ap (λ (f : Reading). length f.rest) w in
    omega arith

operand_takes : (below : ℕ → ℕ → List SpelledToken → Read) → Takes below → (depth : ℕ) (token : SpelledToken) (rest : List SpelledToken) (found : Reading)
    → operand_of below depth token rest ≡ Ok found → length found.rest ≤ length rest
unfolding operand_of
operand_takes below takes depth token rest found is = by (opens token) is
  where
    by : (b : Bool) → cond b (deeper depth (below 1 (depth + 1) rest >>= closed)) (unopened below depth token rest (prefix_of token)) ≡ Ok found → length found.rest ≤ length rest
    by true it =
        let d = deeper_is (nat_lt depth 64) (below 1 (depth + 1) rest >>= closed) found it in
        let s = steps (below 1 (depth + 1) rest) closed found d.1 in
        let n = takes 1 (depth + 1) rest s.middle s.begins in
        let m = (closed_rest s.middle.tree s.middle.rest found s.ends).1 in
        omega arith
    by false it = unopened_takes below takes depth token rest (prefix_of token) found it

-- what goes on with a tree takes no token more than there are
abbrev TakesMore : (ℕ → ℕ → Tree → List SpelledToken → Read) → Type 0
TakesMore more = (level depth : ℕ) (left : Tree) (tokens : List SpelledToken) (found : Reading) → more level depth left tokens ≡ Ok found → length found.rest ≤ length tokens

-- the right operand and its node, and what follows them
abbrev pub right_of : (ℕ → ℕ → List SpelledToken → Read) → ℕ → Tree → List SpelledToken → BinaryOp → Read
right_of below depth left rest op = below (level_of op + 1) depth rest >>= (λ right. whole (binary op left right.tree) right.rest)

right_takes : (below : ℕ → ℕ → List SpelledToken → Read) → Takes below → (depth : ℕ) (left : Tree) (rest : List SpelledToken) (op : BinaryOp) (found : Reading)
    → right_of below depth left rest op ≡ Ok found → length found.rest < length rest
right_takes below takes depth left rest op found is =
    let s = steps (below (level_of op + 1) depth rest) (λ right. whole (binary op left right.tree) right.rest) found is in
    let n = takes (level_of op + 1) depth rest s.middle s.begins in
    let w = (whole_rest (binary op left s.middle.tree) s.middle.rest found s.ends).0 in
    let m : length found.rest ≡ length s.middle.rest = ap (λ (f : Reading). length f.rest) w in
    omega arith

follow_takes : (below : ℕ → ℕ → List SpelledToken → Read) (more : ℕ → ℕ → Tree → List SpelledToken → Read) → Takes below → TakesMore more
    → (level depth : ℕ) (left : Tree) (token : SpelledToken) (rest : List SpelledToken) (found : Reading) (op : Option BinaryOp)
    → follow op (Ok (read left (token ∷ rest))) (λ op. right_of below depth left rest op >>= (λ joined. more level depth joined.tree joined.rest)) ≡ Ok found
    → length found.rest ≤ suc (length rest)
follow_takes below more takes takes_more level depth left token rest found None is =
    let e : read left (token ∷ rest) ≡ found = cc in
    let n : suc (length rest) ≡ length found.rest = ap (λ (f : Reading). length f.rest) e in
    omega arith
follow_takes below more takes takes_more level depth left token rest found (Some op) is =
    let s = steps (right_of below depth left rest op) (λ joined. more level depth joined.tree joined.rest) found is in
    let n = right_takes below takes depth left rest op s.middle s.begins in
    let m = takes_more level depth s.middle.tree s.middle.rest found s.ends in
    omega arith

mutual
  unfolding read_at read_more

  pub at_takes : (fuel level depth : ℕ) (tokens : List SpelledToken) (found : Reading) → read_at fuel level depth tokens ≡ Ok found → length found.rest < length tokens
  at_takes fuel level depth [] found is = cc
  at_takes zero level depth (token ∷ rest) found is = cc
  at_takes (suc fuel) level depth (token ∷ rest) found is =
      let s = steps (operand_of (read_at fuel) depth token rest) (λ left. read_more fuel level depth left.tree left.rest) found is in
      let n = operand_takes (read_at fuel) (at_takes fuel) depth token rest s.middle s.begins in
      let m = more_takes fuel level depth s.middle.tree s.middle.rest found s.ends in
      omega arith

  pub more_takes : (fuel level depth : ℕ) (left : Tree) (tokens : List SpelledToken) (found : Reading) → read_more fuel level depth left tokens ≡ Ok found → length found.rest ≤ length tokens
  more_takes fuel level depth left [] found is =
      let e : read left [] ≡ found = cc in
      let n : length (read left []).rest ≡ length found.rest = ap (λ (f : Reading). length f.rest) e in
      omega arith
  more_takes zero level depth left (token ∷ rest) found is =
      let e : read left (token ∷ rest) ≡ found = cc in
      let n : suc (length rest) ≡ length found.rest = ap (λ (f : Reading). length f.rest) e in
      omega arith
  more_takes (suc fuel) level depth left (token ∷ rest) found is =
      follow_takes (read_at fuel) (read_more fuel) (at_takes fuel) (more_takes fuel) level depth left token rest found (operator_at level token) is

-- one step after the other, of which the second is known where the first succeeds
bind_same : {A B : Type 0} (first : Result A ExprCause) (next other : A → Result B ExprCause) → ((a : A) → first ≡ Ok a → next a ≡ other a) → (first >>= next) ≡ (first >>= other)
bind_same (Ok a) next other same = same a refl
bind_same (Err fault) next other same = refl

-- an operand asks only for what stands behind its first token
unopened_same : (below other : ℕ → ℕ → List SpelledToken → Read) (depth : ℕ) (token : SpelledToken) (rest : List SpelledToken) (op : Option UnaryOp)
    → ((level depth : ℕ) → below level depth rest ≡ other level depth rest) → unopened below depth token rest op ≡ unopened other depth token rest op
unopened_same below other depth token rest None same = refl
unopened_same below other depth token rest (Some op) same =
    ap (λ (r : Read). deeper depth (r >>= (λ operand. whole (unary op operand.tree) operand.rest))) (same prefix_level (depth + 1))

operand_same : (below other : ℕ → ℕ → List SpelledToken → Read) (depth : ℕ) (token : SpelledToken) (rest : List SpelledToken)
    → ((level depth : ℕ) → below level depth rest ≡ other level depth rest) → operand_of below depth token rest ≡ operand_of other depth token rest
unfolding operand_of
operand_same below other depth token rest same = by (opens token)
  where
    by : (b : Bool) → cond b (deeper depth (below 1 (depth + 1) rest >>= closed)) (unopened below depth token rest (prefix_of token))
        ≡ cond b (deeper depth (other 1 (depth + 1) rest >>= closed)) (unopened other depth token rest (prefix_of token))
    by true = ap (λ (r : Read). deeper depth (r >>= closed)) (same 1 (depth + 1))
    by false = unopened_same below other depth token rest (prefix_of token) same

follow_same : (below other : ℕ → ℕ → List SpelledToken → Read) (more others : ℕ → ℕ → Tree → List SpelledToken → Read) → Takes other
    → (level depth : ℕ) (left : Tree) (token : SpelledToken) (rest : List SpelledToken) (op : Option BinaryOp)
    → ((level depth : ℕ) → below level depth rest ≡ other level depth rest)
    → ((left : Tree) (tokens : List SpelledToken) → length tokens ≤ length rest → more level depth left tokens ≡ others level depth left tokens)
    → follow op (Ok (read left (token ∷ rest))) (λ op. right_of below depth left rest op >>= (λ joined. more level depth joined.tree joined.rest))
    ≡ follow op (Ok (read left (token ∷ rest))) (λ op. right_of other depth left rest op >>= (λ joined. others level depth joined.tree joined.rest))
follow_same below other more others takes level depth left token rest None same later = refl
follow_same below other more others takes level depth left token rest (Some op) same later =
    ap (λ (r : Read). r >>= (λ right. whole (binary op left right.tree) right.rest) >>= (λ joined. more level depth joined.tree joined.rest)) (same (level_of op + 1) depth)
    ∙ bind_same (right_of other depth left rest op) (λ joined. more level depth joined.tree joined.rest) (λ joined. others level depth joined.tree joined.rest)
    (λ joined is. later joined.tree joined.rest (let n = right_takes other takes depth left rest op joined is in omega arith))

mutual
  unfolding read_at read_more

  at_same : (fuel other level depth : ℕ) (tokens : List SpelledToken) → length tokens ≤ fuel → length tokens ≤ other → read_at fuel level depth tokens ≡ read_at other level depth tokens
  at_same fuel other level depth [] few small = refl
  at_same zero other level depth (token ∷ rest) few small = absurd (omega arith)
  at_same (suc fuel) zero level depth (token ∷ rest) few small = absurd (omega arith)
  at_same (suc fuel) (suc other) level depth (token ∷ rest) few small =
      ap (λ (r : Read). r >>= (λ left. read_more fuel level depth left.tree left.rest))
      (operand_same (read_at fuel) (read_at other) depth token rest (λ l d. at_same fuel other l d rest (omega arith) (omega arith)))
      ∙ bind_same (operand_of (read_at other) depth token rest) (λ left. read_more fuel level depth left.tree left.rest) (λ left. read_more other level depth left.tree left.rest)
      (λ left is.
      let n = operand_takes (read_at other) (at_takes other) depth token rest left is in
      more_same fuel other level depth left.tree left.rest (omega arith) (omega arith))

  more_same : (fuel other level depth : ℕ) (left : Tree) (tokens : List SpelledToken) → length tokens ≤ fuel → length tokens ≤ other → read_more fuel level depth left tokens ≡ read_more other level depth left tokens
  more_same fuel other level depth left [] few small = refl
  more_same zero other level depth left (token ∷ rest) few small = absurd (omega arith)
  more_same (suc fuel) zero level depth left (token ∷ rest) few small = absurd (omega arith)
  more_same (suc fuel) (suc other) level depth left (token ∷ rest) few small =
      follow_same (read_at fuel) (read_at other) (read_more fuel) (read_more other) (at_takes other) level depth left token rest (operator_at level token)
      (λ l d. at_same fuel other l d rest (omega arith) (omega arith))
      (λ l tokens fewer. more_same fuel other level depth l tokens (omega arith) (omega arith))

pub reading_takes : Takes reading
unfolding reading
reading_takes level depth tokens found is = at_takes (length tokens) level depth tokens found is

pub operand_takes_reading : (depth : ℕ) (token : SpelledToken) (rest : List SpelledToken) (found : Reading) → operand_of reading depth token rest ≡ Ok found → length found.rest ≤ length rest
operand_takes_reading depth token rest found is = operand_takes reading reading_takes depth token rest found is

pub reading_more_takes : TakesMore reading_more
unfolding reading_more
reading_more_takes level depth left tokens found is = more_takes (length tokens) level depth left tokens found is

-- the reading without counted steps
pub reading_none : (level depth : ℕ) → reading level depth [] ≡ Err BadExpression
unfolding reading read_at
reading_none level depth = refl

pub reading_step : (level depth : ℕ) (token : SpelledToken) (rest : List SpelledToken)
    → reading level depth (token ∷ rest) ≡ (operand_of reading depth token rest >>= (λ left. reading_more level depth left.tree left.rest))
unfolding reading reading_more read_at
reading_step level depth token rest =
    ap (λ (r : Read). r >>= (λ left. read_more (length rest) level depth left.tree left.rest))
    (operand_same (read_at (length rest)) reading depth token rest (λ l d. refl))
    ∙ bind_same (operand_of reading depth token rest) (λ left. read_more (length rest) level depth left.tree left.rest) (λ left. reading_more level depth left.tree left.rest)
    (λ left is.
    let n = operand_takes reading reading_takes depth token rest left is in
    more_same (length rest) (length left.rest) level depth left.tree left.rest n (omega arith))

pub reading_more_none : (level depth : ℕ) (left : Tree) → reading_more level depth left [] ≡ Ok (read left [])
unfolding reading_more read_more
reading_more_none level depth left = refl

pub reading_more_step : (level depth : ℕ) (left : Tree) (token : SpelledToken) (rest : List SpelledToken)
    → reading_more level depth left (token ∷ rest)
    ≡ follow (operator_at level token) (Ok (read left (token ∷ rest))) (λ op. right_of reading depth left rest op >>= (λ joined. reading_more level depth joined.tree joined.rest))
unfolding reading reading_more read_more
reading_more_step level depth left token rest =
    follow_same (read_at (length rest)) reading (read_more (length rest)) reading_more reading_takes level depth left token rest (operator_at level token)
    (λ l d. refl)
    (λ l tokens fewer. more_same (length rest) (length tokens) level depth l tokens fewer (omega arith))
