-- An expression that the reading refuses fails, for the same cause.
use Rattle.std.proofs.Common.{◌≡◌, ℕ, zero, suc, ◌+◌, ◌-◌, ◌<◌, ◌≤◌, Bool, true, false, cond, nat_lt, List, [], ◌∷◌, ◌++◌, Option, Some, None, Ok, Err, length, refl, sym, ap, subst, ◌∙◌, arith, append_assoc, inl, inr}
use Rattle.std.proofs.lemmas.Bool.Decides.{nat_tests}
use Rattle.asm_base.specs.Tokens.{SpelledToken}
use Rattle.asm_expr.specs.declared.faults.ExprCause.{ExprCause}
use Rattle.asm_expr.specs.declared.faults.ExprCause.TheVariants.{BadExpression, ExpressionTooDeep}
use Rattle.asm_expr.specs.declared.trees.UnaryOp.{UnaryOp}
use Rattle.asm_expr.specs.declared.trees.BinaryOp.{BinaryOp}
use Rattle.asm_expr.specs.Trees.{Tree, unary, binary, height}
use Rattle.asm_base.specs.Refusals.{◌>>=◌}
use Rattle.expr_texts.specs.Operators.{opens, closes, prefix_of, operator_of, level_of}
use Rattle.expr_texts.specs.Leaves.{leaf_of}
use Rattle.expr_texts.specs.Reading.{Reading, Read, read, whole, closed_by, closed, deeper, unopened, operand_of, operator_at, follow, reading, reading_more}
use Rattle.expr_texts.specs.Grammar.{Writes, between}
use Rattle.expr_texts.specs.Found.{operator_in}
use Rattle.expr_texts.specs.Failing.{closing_follows, opens_more, Fails, ended, no_operand, too_wide, too_open, after_prefix, prefix_high, in_parentheses, unclosed, after_operator, operator_high, HasFaultExactly}
use Rattle.expr_texts.proofs.Steps.{Broken, at_first, at_next, broken}
use Rattle.expr_texts.proofs.ReadingLemmas.{whole_rest}
use Rattle.expr_texts.proofs.Fuel.{right_of, reading_takes, operand_takes_reading, reading_none, reading_step, reading_more_step, reading_more_none}
use Rattle.expr_texts.proofs.LeafLemmas.{IsLeafFault, leaf_fault}
use Rattle.expr_texts.proofs.Marks.{from_found, in_seven, one_in, level_few}
use Rattle.expr_texts.proofs.ReadIsWritten.{writes_looser, at_spells, operand_spells, not_above}
use Rattle.expr_texts.proofs.FailsIsRefused.{refuses}

same_cause : (one other : ExprCause) → (let failed : Read = Err one in failed ≡ Err other) → one ≡ other
same_cause one other is = cc

whole_fails : (tree : Tree) (rest : List SpelledToken) (cause : ExprCause) → whole tree rest ≡ Err cause → (ExpressionTooDeep ≡ cause) × (256 < height tree)
unfolding whole
whole_fails tree rest cause is = by (nat_lt 256 (height tree)) refl is
  where
    by : (b : Bool) → nat_lt 256 (height tree) ≡ b → cond b (Err ExpressionTooDeep) (Ok (read tree rest)) ≡ Err cause → (ExpressionTooDeep ≡ cause) × (256 < height tree)
    by true test it = (same_cause ExpressionTooDeep cause it, grind (arith, nat_tests))
    by false test it = absurd cc

closed_fails : (tree : Tree) (rest : List SpelledToken) (cause : ExprCause) → closed_by tree rest ≡ Err cause → (BadExpression ≡ cause) × (closing_follows rest ≡ false)
closed_fails tree [] cause is = (same_cause BadExpression cause is, refl)
closed_fails tree (token ∷ rest) cause is = by (closes token) refl is
  where
    by : (b : Bool) → closes token ≡ b → cond b (Ok (read tree rest)) (Err BadExpression) ≡ Err cause → (BadExpression ≡ cause) × (closes token ≡ false)
    by true test it = absurd cc
    by false test it = (same_cause BadExpression cause it, test)

-- what the reading of the tokens behind a token tells where it fails
abbrev FailsBelow : List SpelledToken → Type 0
FailsBelow rest = (level depth : ℕ) (cause : ExprCause) → depth ≤ 64 → level ≤ 7 → reading level depth rest ≡ Err cause → Fails (64 - depth) level rest cause

-- one construct less may be open below
room_left : (depth level : ℕ) (tokens : List SpelledToken) (cause : ExprCause) → depth < 64 → Fails (suc (64 - (depth + 1))) level tokens cause → Fails (64 - depth) level tokens cause
room_left depth level tokens cause low fails =
    let left : suc (64 - (depth + 1)) ≡ 64 - depth = omega arith in
    subst (λ (n : ℕ). Fails n level tokens cause) left fails

no_room : (depth level : ℕ) (token : SpelledToken) (rest : List SpelledToken) (cause : ExprCause) → 64 ≤ depth → opens_more token ≡ true → ExpressionTooDeep ≡ cause → Fails (64 - depth) level (token ∷ rest) cause
no_room depth level token rest cause high more same =
    let none : 0 ≡ 64 - depth = omega arith in
    subst (λ (n : ℕ). Fails n level (token ∷ rest) cause) none (subst (Fails 0 level (token ∷ rest)) same (too_open level token rest more))

-- a construct that is opened where no more may be, or what stands in it fails
deeper_fails : (depth level : ℕ) (token : SpelledToken) (rest : List SpelledToken) (cause : ExprCause) (inner : Read) → opens_more token ≡ true
    → (depth < 64 → inner ≡ Err cause → Fails (suc (64 - (depth + 1))) level (token ∷ rest) cause) → deeper depth inner ≡ Err cause → Fails (64 - depth) level (token ∷ rest) cause
deeper_fails depth level token rest cause inner more below is = by (nat_lt depth 64) refl is
  where
    by : (b : Bool) → nat_lt depth 64 ≡ b → cond b inner (Err ExpressionTooDeep) ≡ Err cause → Fails (64 - depth) level (token ∷ rest) cause
    by true test it = let low : depth < 64 = grind (arith, nat_tests) in room_left depth level (token ∷ rest) cause low (below low it)
    by false test it = let high : 64 ≤ depth = grind (arith, nat_tests) in no_room depth level token rest cause high more (same_cause ExpressionTooDeep cause it)

prefix_fails : (depth level : ℕ) (token : SpelledToken) (rest : List SpelledToken) (op : UnaryOp) (cause : ExprCause) → FailsBelow rest → depth < 64 → prefix_of token ≡ Some op
    → Broken (reading 7 (depth + 1) rest) (λ operand. whole (unary op operand.tree) operand.rest) cause → Fails (suc (64 - (depth + 1))) level (token ∷ rest) cause
prefix_fails depth level token rest op cause below low is (at_first fails) =
    after_prefix (64 - (depth + 1)) level op token rest cause is (below 7 (depth + 1) cause (omega arith) (omega arith) fails)
prefix_fails depth level token rest op cause below low is (at_next middle begins fails) =
    let inner = (at_spells (length rest) 7 (depth + 1) rest middle (omega arith) (omega arith) (omega arith) begins).spells in
    let w = whole_fails (unary op middle.tree) middle.rest cause fails in
    subst (Fails (suc (64 - (depth + 1))) level (token ∷ rest)) w.0
    (prefix_high (64 - (depth + 1)) level op middle.tree token inner.text middle.rest rest is inner.writes inner.low w.1 inner.stands)

parentheses_fail : (depth level : ℕ) (token : SpelledToken) (rest : List SpelledToken) (cause : ExprCause) → FailsBelow rest → depth < 64 → opens token ≡ true
    → Broken (reading 1 (depth + 1) rest) closed cause → Fails (suc (64 - (depth + 1))) level (token ∷ rest) cause
parentheses_fail depth level token rest cause below low is (at_first fails) =
    in_parentheses (64 - (depth + 1)) level token rest cause is (below 1 (depth + 1) cause (omega arith) (omega arith) fails)
parentheses_fail depth level token rest cause below low is (at_next middle begins fails) =
    let inner = at_spells (length rest) 1 (depth + 1) rest middle (omega arith) (omega arith) (omega arith) begins in
    let c = closed_fails middle.tree middle.rest cause fails in
    subst (Fails (suc (64 - (depth + 1))) level (token ∷ rest)) c.0
    (unclosed (64 - (depth + 1)) level middle.tree token inner.spells.text middle.rest rest is inner.spells.writes inner.spells.low (one_in middle.rest inner.ends) c.1 inner.spells.stands)

leaf_by : (depth level : ℕ) (token : SpelledToken) (rest : List SpelledToken) (cause : ExprCause) → opens token ≡ false → prefix_of token ≡ None → leaf_of token ≡ Err cause
    → IsLeafFault cause → Fails (64 - depth) level (token ∷ rest) cause
leaf_by depth level token rest cause plain none fails (inl bad) =
    subst (Fails (64 - depth) level (token ∷ rest)) (sym bad) (no_operand (64 - depth) level token rest plain none (subst (λ (c : ExprCause). leaf_of token ≡ Err c) bad fails))
leaf_by depth level token rest cause plain none fails (inr wide) =
    subst (Fails (64 - depth) level (token ∷ rest)) (sym wide) (too_wide (64 - depth) level token rest plain none (subst (λ (c : ExprCause). leaf_of token ≡ Err c) wide fails))

leaf_fails : (depth level : ℕ) (token : SpelledToken) (rest : List SpelledToken) (cause : ExprCause) → opens token ≡ false → prefix_of token ≡ None
    → Broken (leaf_of token) (λ tree. Ok (read tree rest)) cause → Fails (64 - depth) level (token ∷ rest) cause
leaf_fails depth level token rest cause plain none (at_first fails) = leaf_by depth level token rest cause plain none fails (leaf_fault token cause fails)
leaf_fails depth level token rest cause plain none (at_next middle begins fails) = absurd cc

more_by : (token : SpelledToken) (op : UnaryOp) → opens token ≡ false → prefix_of token ≡ Some op → opens_more token ≡ true
more_by token op plain is = rw (plain, is) refl

unopened_fails : (depth level : ℕ) (token : SpelledToken) (rest : List SpelledToken) (op : Option UnaryOp) (cause : ExprCause) → FailsBelow rest → depth ≤ 64 → opens token ≡ false → prefix_of token ≡ op
    → unopened reading depth token rest op ≡ Err cause → Fails (64 - depth) level (token ∷ rest) cause
unopened_fails depth level token rest None cause below few plain is it = leaf_fails depth level token rest cause plain is (broken (leaf_of token) (λ tree. Ok (read tree rest)) cause it)
unopened_fails depth level token rest (Some op) cause below few plain is it =
    deeper_fails depth level token rest cause (reading 7 (depth + 1) rest >>= (λ operand. whole (unary op operand.tree) operand.rest)) (more_by token op plain is)
    (λ low fails. prefix_fails depth level token rest op cause below low is (broken (reading 7 (depth + 1) rest) (λ operand. whole (unary op operand.tree) operand.rest) cause fails)) it

operand_fails : (depth level : ℕ) (token : SpelledToken) (rest : List SpelledToken) (cause : ExprCause) → FailsBelow rest → depth ≤ 64
    → operand_of reading depth token rest ≡ Err cause → Fails (64 - depth) level (token ∷ rest) cause
unfolding operand_of
operand_fails depth level token rest cause below few it = by (opens token) refl it
  where
    by : (b : Bool) → opens token ≡ b → cond b (deeper depth (reading 1 (depth + 1) rest >>= closed)) (unopened reading depth token rest (prefix_of token)) ≡ Err cause
        → Fails (64 - depth) level (token ∷ rest) cause
    by true is step =
        let more : opens_more token ≡ true = rw is refl in
        deeper_fails depth level token rest cause (reading 1 (depth + 1) rest >>= closed) more
        (λ low fails. parentheses_fail depth level token rest cause below low is (broken (reading 1 (depth + 1) rest) closed cause fails)) step
    by false is step = unopened_fails depth level token rest (prefix_of token) cause below few is refl step

-- a tree that goes on and fails: `high` is how tightly the operators of its text bind at least, and none that binds more tightly follows
abbrev MoreFails : ℕ → Type 0
MoreFails n = (level depth high : ℕ) (left : Tree) (whole_text before tokens : List SpelledToken) (cause : ExprCause) → length tokens ≤ n → depth ≤ 64 → level ≤ 7 → level ≤ high
    → Writes (64 - depth) left high before → height left ≤ 256 → operator_in (high + 1) tokens ≡ None → whole_text ≡ before ++ tokens
    → reading_more level depth left tokens ≡ Err cause → Fails (64 - depth) level whole_text cause

module _ (n level depth : ℕ) (op : BinaryOp) (left : Tree) (whole_text before : List SpelledToken) (token : SpelledToken) (rest : List SpelledToken) (cause : ExprCause)
    (below : FailsBelow rest) (more : MoreFails n) (short : length rest ≤ n) (few : depth ≤ 64) (seven : level ≤ 7) (tight : level ≤ level_of op) (is : operator_of token ≡ Some op)
    (writes : Writes (64 - depth) left (level_of op) before) (low : height left ≤ 256) (stands : whole_text ≡ before ++ (token ∷ rest)) where
  right_fails : Broken (reading (level_of op + 1) depth rest) (λ right. whole (binary op left right.tree) right.rest) cause → Fails (64 - depth) level whole_text cause
  right_fails (at_first fails) =
      let limit = level_few op in
      after_operator (64 - depth) level op left token before rest whole_text cause tight is writes low (below (level_of op + 1) depth cause few (omega arith) fails) stands
  right_fails (at_next middle begins fails) =
      let limit = level_few op in
      let right = at_spells (length rest) (level_of op + 1) depth rest middle (omega arith) few (omega arith) begins in
      let w = whole_fails (binary op left middle.tree) middle.rest cause fails in
      subst (Fails (64 - depth) level whole_text) w.0
      (operator_high (64 - depth) level op left middle.tree token before right.spells.text middle.rest whole_text tight is writes low right.spells.writes right.spells.low right.ends w.1
      (stands ∙ ap (λ (ts : List SpelledToken). before ++ (token ∷ ts)) right.spells.stands))

  node_goes_on : (joined : Reading) → right_of reading depth left rest op ≡ Ok joined → reading_more level depth joined.tree joined.rest ≡ Err cause → Fails (64 - depth) level whole_text cause
  node_goes_on joined made fails = by (reading (level_of op + 1) depth rest) refl made
    where
      by : (first : Read) → reading (level_of op + 1) depth rest ≡ first → (first >>= (λ right. whole (binary op left right.tree) right.rest)) ≡ Ok joined → Fails (64 - depth) level whole_text cause
      by (Err fault) begins ends = absurd cc
      by (Ok middle) begins ends =
          let limit = level_few op in
          let right = at_spells (length rest) (level_of op + 1) depth rest middle (omega arith) few (omega arith) begins in
          let w = whole_rest (binary op left middle.tree) middle.rest joined ends in
          let fewer = reading_takes (level_of op + 1) depth rest middle begins in
          let later : reading_more level depth (binary op left middle.tree) middle.rest ≡ Err cause = ap (λ (m : Reading). reading_more level depth m.tree m.rest) (sym w.0) ∙ fails in
          let text = between (64 - depth) (level_of op) op left middle.tree token before right.spells.text (before ++ (token ∷ right.spells.text)) (omega arith) is writes right.spells.writes refl in
          more level depth (level_of op) (binary op left middle.tree) whole_text (before ++ (token ∷ right.spells.text)) middle.rest cause (omega arith) few seven tight text w.1 right.ends
          (stands ∙ ap (λ (ts : List SpelledToken). before ++ (token ∷ ts)) right.spells.stands ∙ sym (append_assoc before (token ∷ right.spells.text) middle.rest)) later

  operator_fails : Broken (right_of reading depth left rest op) (λ joined. reading_more level depth joined.tree joined.rest) cause → Fails (64 - depth) level whole_text cause
  operator_fails (at_first fails) = right_fails (broken (reading (level_of op + 1) depth rest) (λ right. whole (binary op left right.tree) right.rest) cause fails)
  operator_fails (at_next joined made fails) = node_goes_on joined made fails

follow_fails : (n level depth high : ℕ) (left : Tree) (whole_text before : List SpelledToken) (token : SpelledToken) (rest : List SpelledToken) (cause : ExprCause) (told : Option BinaryOp)
    → FailsBelow rest → MoreFails n → length rest ≤ n → depth ≤ 64 → level ≤ 7 → level ≤ high → Writes (64 - depth) left high before → height left ≤ 256
    → operator_in (high + 1) (token ∷ rest) ≡ None → whole_text ≡ before ++ (token ∷ rest) → operator_at level token ≡ told
    → follow told (Ok (read left (token ∷ rest))) (λ op. right_of reading depth left rest op >>= (λ joined. reading_more level depth joined.tree joined.rest)) ≡ Err cause
    → Fails (64 - depth) level whole_text cause
unfolding operator_in
follow_fails n level depth high left whole_text before token rest cause None below more short few seven loose writes low none stands is it = absurd cc
follow_fails n level depth high left whole_text before token rest cause (Some op) below more short few seven loose writes low none stands is it =
    let tight = from_found level (operator_of token) op is in
    let above = not_above level high (operator_of token) op none is in
    let one = writes_looser (64 - depth) (level_of op) high left before above writes in
    operator_fails n level depth op left whole_text before token rest cause below more short few seven tight.1 tight.0 one low stands
    (broken (right_of reading depth left rest op) (λ joined. reading_more level depth joined.tree joined.rest) cause it)

first_fails : (n level depth : ℕ) (token : SpelledToken) (rest : List SpelledToken) (cause : ExprCause) → FailsBelow rest → MoreFails n → length rest ≤ n → depth ≤ 64 → level ≤ 7
    → Broken (operand_of reading depth token rest) (λ left. reading_more level depth left.tree left.rest) cause → Fails (64 - depth) level (token ∷ rest) cause
first_fails n level depth token rest cause below more short few seven (at_first fails) = operand_fails depth level token rest cause below few fails
first_fails n level depth token rest cause below more short few seven (at_next middle begins fails) =
    let operand = operand_spells depth token rest middle (λ l d f a b c. at_spells (length rest) l d rest f (omega arith) a b c) few begins in
    let fewer = operand_takes_reading depth token rest middle begins in
    more level depth 7 middle.tree (token ∷ rest) operand.text middle.rest cause (omega arith) few seven seven operand.writes operand.low (in_seven 8 middle.rest (omega arith)) operand.stands fails

mutual
  at_fails : (n level depth : ℕ) (tokens : List SpelledToken) (cause : ExprCause) → length tokens ≤ n → depth ≤ 64 → level ≤ 7 → reading level depth tokens ≡ Err cause → Fails (64 - depth) level tokens cause
  at_fails n level depth [] cause short few seven it =
      let same = same_cause BadExpression cause (sym (reading_none level depth) ∙ it) in
      subst (Fails (64 - depth) level []) same (ended (64 - depth) level)
  at_fails zero level depth (token ∷ rest) cause short few seven it = absurd (omega arith)
  at_fails (suc n) level depth (token ∷ rest) cause short few seven it =
      first_fails n level depth token rest cause (λ l d c a b i. at_fails n l d rest c (omega arith) a b i) (more_fails n) (omega arith) few seven
      (broken (operand_of reading depth token rest) (λ left. reading_more level depth left.tree left.rest) cause (sym (reading_step level depth token rest) ∙ it))

  more_fails : (n : ℕ) → MoreFails n
  more_fails n level depth high left whole_text before [] cause short few seven loose writes low none stands it =
      let done = reading_more_none level depth left in
      absurd cc
  more_fails zero level depth high left whole_text before (token ∷ rest) cause short few seven loose writes low none stands it = absurd (omega arith)
  more_fails (suc n) level depth high left whole_text before (token ∷ rest) cause short few seven loose writes low none stands it =
      follow_fails n level depth high left whole_text before token rest cause (operator_at level token) (λ l d c a b i. at_fails n l d rest c (omega arith) a b i) (more_fails n)
      (omega arith) few seven loose writes low none stands refl (sym (reading_more_step level depth left token rest) ∙ it)

pub has_fault : (tokens : List SpelledToken) (cause : ExprCause) → HasFaultExactly tokens cause
has_fault tokens cause = record {
  fails = λ is. at_fails (length tokens) 1 0 tokens cause (omega arith) (omega arith) (omega arith) is;
  refused = λ fails. refuses 64 1 tokens cause fails 0 (omega arith);
}
