-- What is read as a tree begins with a text of it.
use Rattle.std.proofs.Common.{◌≡◌, ℕ, zero, suc, ◌+◌, ◌-◌, ◌<◌, ◌≤◌, Bool, true, false, cond, nat_lt, nat_le, List, [], ◌∷◌, ◌++◌, Option, Some, None, Ok, Err, length, refl, sym, ap, subst, ◌∙◌, arith, append_assoc}
use Rattle.std.proofs.lemmas.Bool.Decides.{nat_tests}
use Rattle.asm_base.specs.Tokens.{SpelledToken}
use Rattle.asm_expr.specs.declared.faults.ExprCause.TheVariants.{BadExpression}
use Rattle.asm_expr.specs.declared.trees.UnaryOp.{UnaryOp}
use Rattle.asm_expr.specs.declared.trees.BinaryOp.{BinaryOp}
use Rattle.asm_expr.specs.Trees.{Tree, unary, binary, height}
use Rattle.asm_base.specs.Refusals.{◌>>=◌}
use Rattle.expr_texts.specs.Operators.{opens, closes, prefix_of, operator_of, level_of}
use Rattle.expr_texts.specs.Leaves.{leaf_of}
use Rattle.expr_texts.specs.Reading.{Reading, read, whole, closed_by, closed, deeper, unopened, operand_of, operator_from, operator_at, follow, reading, reading_more}
use Rattle.expr_texts.specs.Grammar.{Writes, leaf, prefixed, between, enclosed}
use Rattle.expr_texts.specs.Found.{operator_in}
use Rattle.expr_texts.proofs.Steps.{steps}
use Rattle.expr_texts.proofs.ReadingLemmas.{whole_rest, deeper_is}
use Rattle.expr_texts.proofs.Fuel.{right_of, reading_takes, operand_takes_reading, reading_none, reading_step, reading_more_step, reading_more_none}
use Rattle.expr_texts.proofs.LeafLemmas.{leaf_height}
use Rattle.expr_texts.proofs.Marks.{from_found, in_seven, level_few}

-- the tokens begin with a text of the tree that was read
pub record Spells (most level : ℕ) (tokens : List SpelledToken) (found : Reading) : Type 0 where
  pub text : List SpelledToken
  pub stands : tokens ≡ text ++ found.rest
  pub writes : Writes most found.tree level text
  pub low : height found.tree ≤ 256

-- and no operator follows that binds so tightly
pub record Ends (most level : ℕ) (tokens : List SpelledToken) (found : Reading) : Type 0 where
  pub spells : Spells most level tokens found
  pub ends : operator_in level found.rest ≡ None

-- what lets operators bind loosely lets them bind more loosely
pub writes_looser : (most low high : ℕ) (tree : Tree) (text : List SpelledToken) → low ≤ high → Writes most tree high text → Writes most tree low text
writes_looser _ low _ _ _ loose (leaf most high tree token is) = leaf most low tree token is
writes_looser _ low _ _ _ loose (prefixed most high op operand token text is inside) = prefixed most low op operand token text is inside
writes_looser _ low _ _ _ loose (between most high op left right token before behind text tight is one other spells) =
    between most low op left right token before behind text (omega arith) is one other spells
writes_looser _ low _ _ _ loose (enclosed most high tree opening closing inside text is ends within spells) =
    enclosed most low tree opening closing inside text is ends within spells

-- what the reading of the tokens behind a token gives
abbrev pub Below : List SpelledToken → Type 0
Below rest = (level depth : ℕ) (found : Reading) → depth ≤ 64 → level ≤ 7 → reading level depth rest ≡ Ok found → Ends (64 - depth) level rest found

unopened_spells : (depth : ℕ) (token : SpelledToken) (rest : List SpelledToken) (op : Option UnaryOp) (found : Reading) → Below rest → depth ≤ 64 → prefix_of token ≡ op
    → unopened reading depth token rest op ≡ Ok found → Spells (64 - depth) 7 (token ∷ rest) found
unopened_spells depth token rest None found below few is it =
    let s = steps (leaf_of token) (λ tree. Ok (read tree rest)) found it in
    let e : read s.middle rest ≡ found = cc in
    subst (Spells (64 - depth) 7 (token ∷ rest)) e
    (record {
      text = token ∷ [];
      stands = refl;
      writes = leaf (64 - depth) 7 s.middle token s.begins;
      low = let one = leaf_height token s.middle s.begins in omega arith;
    })
unopened_spells depth token rest (Some op) found below few is it =
    let d = deeper_is (nat_lt depth 64) (reading 7 (depth + 1) rest >>= (λ operand. whole (unary op operand.tree) operand.rest)) found it in
    let s = steps (reading 7 (depth + 1) rest) (λ operand. whole (unary op operand.tree) operand.rest) found d.1 in
    let room : depth < 64 = grind (arith, nat_tests, d.0) in
    let inner = (below 7 (depth + 1) s.middle (omega arith) (omega arith) s.begins).spells in
    let w = whole_rest (unary op s.middle.tree) s.middle.rest found s.ends in
    let left : suc (64 - (depth + 1)) ≡ 64 - depth = omega arith in
    subst (Spells (64 - depth) 7 (token ∷ rest)) (sym w.0)
    (record {
      text = token ∷ inner.text;
      stands = ap (λ (ts : List SpelledToken). token ∷ ts) inner.stands;
      writes = subst (λ (n : ℕ). Writes n (unary op s.middle.tree) 7 (token ∷ inner.text)) left (prefixed (64 - (depth + 1)) 7 op s.middle.tree token inner.text is inner.writes);
      low = w.1;
    })

closed_spells : (most level : ℕ) (opening : SpelledToken) (tokens : List SpelledToken) (tree : Tree) (rest inside : List SpelledToken) (found : Reading) → opens opening ≡ true
    → tokens ≡ inside ++ rest → Writes most tree 1 inside → height tree ≤ 256 → closed_by tree rest ≡ Ok found → Spells (suc most) level (opening ∷ tokens) found
closed_spells most level opening tokens tree [] inside found is stands writes low it = cc
closed_spells most level opening tokens tree (closing ∷ rest) inside found is stands writes low it = by (closes closing) refl it
  where
    by : (b : Bool) → closes closing ≡ b → cond b (Ok (read tree rest)) (Err BadExpression) ≡ Ok found → Spells (suc most) level (opening ∷ tokens) found
    by true ends step =
        let e : read tree rest ≡ found = cc in
        subst (Spells (suc most) level (opening ∷ tokens)) e
        (record {
          text = opening ∷ (inside ++ (closing ∷ []));
          stands = ap (λ (ts : List SpelledToken). opening ∷ ts) (stands ∙ sym (append_assoc inside (closing ∷ []) rest));
          writes = enclosed most level tree opening closing inside (opening ∷ (inside ++ (closing ∷ []))) is ends writes refl;
          low = low;
        })
    by false ends step = cc

pub operand_spells : (depth : ℕ) (token : SpelledToken) (rest : List SpelledToken) (found : Reading) → Below rest → depth ≤ 64
    → operand_of reading depth token rest ≡ Ok found → Spells (64 - depth) 7 (token ∷ rest) found
unfolding operand_of
operand_spells depth token rest found below few it = by (opens token) refl it
  where
    by : (b : Bool) → opens token ≡ b → cond b (deeper depth (reading 1 (depth + 1) rest >>= closed)) (unopened reading depth token rest (prefix_of token)) ≡ Ok found
        → Spells (64 - depth) 7 (token ∷ rest) found
    by true is step =
        let d = deeper_is (nat_lt depth 64) (reading 1 (depth + 1) rest >>= closed) found step in
        let s = steps (reading 1 (depth + 1) rest) closed found d.1 in
        let room : depth < 64 = grind (arith, nat_tests, d.0) in
        let inner = (below 1 (depth + 1) s.middle (omega arith) (omega arith) s.begins).spells in
        let left : suc (64 - (depth + 1)) ≡ 64 - depth = omega arith in
        subst (λ (n : ℕ). Spells n 7 (token ∷ rest) found) left
        (closed_spells (64 - (depth + 1)) 7 token rest s.middle.tree s.middle.rest inner.text found is inner.stands inner.writes inner.low s.ends)
    by false is step = unopened_spells depth token rest (prefix_of token) found below few refl step

-- of two operators in a row that are read at one level, the second does not bind more tightly
pub not_above : (level high : ℕ) (told : Option BinaryOp) (op : BinaryOp) → operator_from (high + 1) told ≡ None → operator_from level told ≡ Some op → level_of op ≤ high
not_above level high None op none some = cc
not_above level high (Some other) op none some = by (nat_le (high + 1) (level_of other)) refl none
  where
    by : (b : Bool) → nat_le (high + 1) (level_of other) ≡ b → cond b (Some other) None ≡ None → level_of op ≤ high
    by true test it = cc
    by false test it =
        let p = from_found level (Some other) op some in
        let same : other ≡ op = cc in
        let few : level_of other ≤ high = grind (arith, nat_tests) in
        subst (λ (o : BinaryOp). level_of o ≤ high) same few

-- a tree that goes on: `high` is how tightly the operators of its text bind at least, and none that binds more tightly follows
abbrev More : ℕ → Type 0
More n = (level depth high : ℕ) (left : Tree) (whole_text before tokens : List SpelledToken) (found : Reading) → length tokens ≤ n → depth ≤ 64 → level ≤ 7 → level ≤ high
    → Writes (64 - depth) left high before → height left ≤ 256 → operator_in (high + 1) tokens ≡ None → whole_text ≡ before ++ tokens
    → reading_more level depth left tokens ≡ Ok found → Ends (64 - depth) level whole_text found

stop_here : (level depth high : ℕ) (left : Tree) (whole_text before tokens : List SpelledToken) (found : Reading) → level ≤ high
    → Writes (64 - depth) left high before → height left ≤ 256 → operator_in level tokens ≡ None → whole_text ≡ before ++ tokens → read left tokens ≡ found → Ends (64 - depth) level whole_text found
stop_here level depth high left whole_text before tokens found loose writes low none stands is =
    subst (Ends (64 - depth) level whole_text) is
    (record {
      spells = record { text = before; stands = stands; writes = writes_looser (64 - depth) level high left before loose writes; low = low };
      ends = none;
    })

follow_spells : (n level depth high : ℕ) (left : Tree) (whole_text before : List SpelledToken) (token : SpelledToken) (rest : List SpelledToken) (found : Reading) (told : Option BinaryOp)
    → Below rest → More n → length rest ≤ n → depth ≤ 64 → level ≤ 7 → level ≤ high → Writes (64 - depth) left high before → height left ≤ 256
    → operator_in (high + 1) (token ∷ rest) ≡ None → whole_text ≡ before ++ (token ∷ rest) → operator_at level token ≡ told
    → follow told (Ok (read left (token ∷ rest))) (λ op. right_of reading depth left rest op >>= (λ joined. reading_more level depth joined.tree joined.rest)) ≡ Ok found
    → Ends (64 - depth) level whole_text found
unfolding operator_in
follow_spells n level depth high left whole_text before token rest found None below more short few seven loose writes low none stands is it =
    stop_here level depth high left whole_text before (token ∷ rest) found loose writes low is stands cc
follow_spells n level depth high left whole_text before token rest found (Some op) below more short few seven loose writes low none stands is it =
    let tight = from_found level (operator_of token) op is in
    let above = not_above level high (operator_of token) op none is in
    let s = steps (right_of reading depth left rest op) (λ joined. reading_more level depth joined.tree joined.rest) found it in
    let r = steps (reading (level_of op + 1) depth rest) (λ right. whole (binary op left right.tree) right.rest) s.middle s.begins in
    let limit = level_few op in
    let right = below (level_of op + 1) depth r.middle few (omega arith) r.begins in
    let w = whole_rest (binary op left r.middle.tree) r.middle.rest s.middle r.ends in
    let fewer = reading_takes (level_of op + 1) depth rest r.middle r.begins in
    let same = w.0 in
    let joined : reading_more level depth (binary op left r.middle.tree) r.middle.rest ≡ Ok found = ap (λ (m : Reading). reading_more level depth m.tree m.rest) (sym same) ∙ s.ends in
    let one = writes_looser (64 - depth) (level_of op) high left before above writes in
    let made = between (64 - depth) (level_of op) op left r.middle.tree token before right.spells.text (before ++ (token ∷ right.spells.text)) (omega arith) tight.0 one right.spells.writes refl in
    more level depth (level_of op) (binary op left r.middle.tree) whole_text (before ++ (token ∷ right.spells.text)) r.middle.rest found (omega arith) few seven tight.1 made w.1 right.ends
    (stands ∙ ap (λ (ts : List SpelledToken). before ++ (token ∷ ts)) right.spells.stands ∙ sym (append_assoc before (token ∷ right.spells.text) r.middle.rest)) joined

empty : (level : ℕ) → operator_in level [] ≡ None
unfolding operator_in
empty level = refl

mutual
  pub at_spells : (n level depth : ℕ) (tokens : List SpelledToken) (found : Reading) → length tokens ≤ n → depth ≤ 64 → level ≤ 7 → reading level depth tokens ≡ Ok found → Ends (64 - depth) level tokens found
  at_spells n level depth [] found short few seven it = let none = reading_none level depth in cc
  at_spells zero level depth (token ∷ rest) found short few seven it = absurd (omega arith)
  at_spells (suc n) level depth (token ∷ rest) found short few seven it =
      let s = steps (operand_of reading depth token rest) (λ left. reading_more level depth left.tree left.rest) found (sym (reading_step level depth token rest) ∙ it) in
      let operand = operand_spells depth token rest s.middle (λ l d f a b c. at_spells n l d rest f (omega arith) a b c) few s.begins in
      let fewer = operand_takes_reading depth token rest s.middle s.begins in
      let takes : length s.middle.rest ≤ n = omega arith in
      more_spells n level depth 7 s.middle.tree (token ∷ rest) operand.text s.middle.rest found takes few seven seven operand.writes operand.low (in_seven 8 s.middle.rest (omega arith)) operand.stands s.ends

  more_spells : (n : ℕ) → More n
  more_spells n level depth high left whole_text before [] found short few seven loose writes low none stands it =
      let done = reading_more_none level depth left in
      stop_here level depth high left whole_text before [] found loose writes low (empty level) stands cc
  more_spells zero level depth high left whole_text before (token ∷ rest) found short few seven loose writes low none stands it = absurd (omega arith)
  more_spells (suc n) level depth high left whole_text before (token ∷ rest) found short few seven loose writes low none stands it =
      follow_spells n level depth high left whole_text before token rest found (operator_at level token) (λ l d f a b c. at_spells n l d rest f (omega arith) a b c) (more_spells n)
      (omega arith) few seven loose writes low none stands refl (sym (reading_more_step level depth left token rest) ∙ it)
