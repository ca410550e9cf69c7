-- A text of a tree is read as that tree, whatever stands behind it.
use Rattle.std.proofs.Common.{◌≡◌, ℕ, ◌+◌, ◌<◌, ◌≤◌, Bool, true, false, cond, nat_lt, List, [], ◌∷◌, ◌++◌, Option, Some, None, Result, Ok, Err, refl, sym, ap, ◌∙◌, arith, append_assoc}
use Rattle.std.proofs.lemmas.Bool.Decides.{nat_tests}
use Rattle.asm_base.specs.Tokens.{SpelledToken}
use Rattle.asm_expr.specs.declared.faults.ExprCause.{ExprCause}
use Rattle.asm_expr.specs.declared.faults.ExprCause.TheVariants.{BadExpression, ExpressionTooDeep}
use Rattle.asm_expr.specs.declared.trees.UnaryOp.{UnaryOp}
use Rattle.asm_expr.specs.declared.trees.BinaryOp.{BinaryOp}
use Rattle.asm_expr.specs.Trees.{Tree, unary, binary, height}
use Rattle.asm_base.specs.Refusals.{◌>>=◌}
use Rattle.expr_texts.specs.Operators.{opens, closes, prefix_of, operator_of, level_of}
use Rattle.expr_texts.specs.Leaves.{leaf_of}
use Rattle.expr_texts.specs.Reading.{Read, read, whole, closed, deeper, unopened, operand_of, operator_from, operator_at, follow, reading, reading_more}
use Rattle.expr_texts.specs.Grammar.{Writes, leaf, prefixed, between, enclosed}
use Rattle.expr_texts.specs.Found.{operator_in}
use Rattle.expr_texts.proofs.Fuel.{right_of, reading_step, reading_more_step}
use Rattle.expr_texts.proofs.Marks.{leaf_opens_not, prefix_opens_not, closes_is_none, from_some, from_none, in_higher, in_seven}
use Rattle.expr_texts.proofs.ParsingLemmas.{whole_low, stops}

-- the operand that a token begins
pub choose : (token : SpelledToken) (rest : List SpelledToken) (depth : ℕ) (b : Bool) → opens token ≡ b
    → operand_of reading depth token rest ≡ cond b (deeper depth (reading 1 (depth + 1) rest >>= closed)) (unopened reading depth token rest (prefix_of token))
unfolding operand_of
choose token rest depth b is = ap (λ (b : Bool). cond b (deeper depth (reading 1 (depth + 1) rest >>= closed)) (unopened reading depth token rest (prefix_of token))) is

pub under : (depth : ℕ) (inner : Read) → depth < 64 → deeper depth inner ≡ inner
under depth inner low = by (nat_lt depth 64) refl
  where
    by : (b : Bool) → nat_lt depth 64 ≡ b → cond b inner (Err ExpressionTooDeep) ≡ inner
    by true is = refl
    by false is = absurd (grind (arith, nat_tests))

pub leaf_reads : (level depth : ℕ) (tree : Tree) (token : SpelledToken) (rest : List SpelledToken) → leaf_of token ≡ Ok tree
    → reading level depth (token ∷ rest) ≡ reading_more level depth tree rest
leaf_reads level depth tree token rest is =
    let plain = leaf_opens_not token tree is in
    reading_step level depth token rest
    ∙ ap (λ (r : Read). r >>= (λ left. reading_more level depth left.tree left.rest))
    (choose token rest depth false plain.0 ∙ ap (unopened reading depth token rest) plain.1 ∙ ap (λ (r : Result Tree ExprCause). r >>= (λ t. Ok (read t rest))) is)

pub prefix_reads : (level depth : ℕ) (op : UnaryOp) (operand : Tree) (token : SpelledToken) (inside rest : List SpelledToken) → prefix_of token ≡ Some op → depth < 64 → height (unary op operand) ≤ 256
    → reading 7 (depth + 1) inside ≡ Ok (read operand rest)
    → reading level depth (token ∷ inside) ≡ reading_more level depth (unary op operand) rest
prefix_reads level depth op operand token inside rest is low fits below =
    reading_step level depth token inside
    ∙ ap (λ (r : Read). r >>= (λ left. reading_more level depth left.tree left.rest))
    (choose token inside depth false (prefix_opens_not token op is)
    ∙ ap (unopened reading depth token inside) is
    ∙ under depth (reading 7 (depth + 1) inside >>= (λ operand. whole (unary op operand.tree) operand.rest)) low
    ∙ ap (λ (r : Read). r >>= (λ operand. whole (unary op operand.tree) operand.rest)) below
    ∙ whole_low (unary op operand) rest fits)

closes_read : (tree : Tree) (closing : SpelledToken) (rest : List SpelledToken) → closes closing ≡ true → closed (read tree (closing ∷ rest)) ≡ Ok (read tree rest)
closes_read tree closing rest is = ap (λ (b : Bool). cond b (Ok (read tree rest)) (Err BadExpression)) is

pub enclosed_reads : (level depth : ℕ) (tree : Tree) (opening closing : SpelledToken) (inside rest : List SpelledToken) → opens opening ≡ true → closes closing ≡ true → depth < 64
    → reading 1 (depth + 1) inside ≡ Ok (read tree (closing ∷ rest))
    → reading level depth (opening ∷ inside) ≡ reading_more level depth tree rest
enclosed_reads level depth tree opening closing inside rest is ends low below =
    reading_step level depth opening inside
    ∙ ap (λ (r : Read). r >>= (λ left. reading_more level depth left.tree left.rest))
    (choose opening inside depth true is
    ∙ under depth (reading 1 (depth + 1) inside >>= closed) low
    ∙ ap (λ (r : Read). r >>= closed) below
    ∙ closes_read tree closing rest ends)

-- a tree goes on with an operator and its right operand
pub more_reads : (level depth : ℕ) (op : BinaryOp) (left right : Tree) (token : SpelledToken) (inside rest : List SpelledToken) → operator_of token ≡ Some op → level ≤ level_of op
    → height (binary op left right) ≤ 256 → reading (level_of op + 1) depth inside ≡ Ok (read right rest)
    → reading_more level depth left (token ∷ inside) ≡ reading_more level depth (binary op left right) rest
more_reads level depth op left right token inside rest is tight fits below =
    let taken : operator_at level token ≡ Some op = ap (operator_from level) is ∙ from_some level op tight in
    reading_more_step level depth left token inside
    ∙ ap (λ (o : Option BinaryOp). follow o (Ok (read left (token ∷ inside))) (λ op. right_of reading depth left inside op >>= (λ joined. reading_more level depth joined.tree joined.rest))) taken
    ∙ ap (λ (r : Read). r >>= (λ right. whole (binary op left right.tree) right.rest) >>= (λ joined. reading_more level depth joined.tree joined.rest)) below
    ∙ ap (λ (r : Read). r >>= (λ joined. reading_more level depth joined.tree joined.rest)) (whole_low (binary op left right) rest fits)

unary_height : (op : UnaryOp) (operand : Tree) → height (unary op operand) ≤ 256 → height operand ≤ 256
unfolding height
unary_height op operand low = omega arith

binary_height : (op : BinaryOp) (left right : Tree) → height (binary op left right) ≤ 256 → (height left ≤ 256) × (height right ≤ 256)
unfolding height
binary_height op left right low = (omega arith, omega arith)

pub looser : (op : BinaryOp) (token : SpelledToken) (rest : List SpelledToken) → operator_of token ≡ Some op → operator_in (level_of op + 1) (token ∷ rest) ≡ None
unfolding operator_in
looser op token rest is = ap (operator_from (level_of op + 1)) is ∙ from_none (level_of op + 1) op (omega arith)

closing_stops : (level : ℕ) (closing : SpelledToken) (rest : List SpelledToken) → closes closing ≡ true → operator_in level (closing ∷ rest) ≡ None
unfolding operator_in
closing_stops level closing rest is = ap (operator_from level) (closes_is_none closing is)

pub written_reads : (most : ℕ) (tree : Tree) (lowest : ℕ) (text : List SpelledToken) → Writes most tree lowest text
    → (level depth : ℕ) (rest : List SpelledToken) → level ≤ lowest → most + depth ≤ 64 → height tree ≤ 256 → operator_in (lowest + 1) rest ≡ None
    → reading level depth (text ++ rest) ≡ reading_more level depth tree rest
written_reads _ _ _ _ (leaf most lowest tree token is) level depth rest loose few low none = leaf_reads level depth tree token rest is
written_reads _ _ _ _ (prefixed most lowest op operand token text is inside) level depth rest loose few low none =
    let below =
    written_reads most operand 7 text inside 7 (depth + 1) rest (omega arith) (omega arith) (unary_height op operand low) (in_seven 8 rest (omega arith))
    ∙ stops 7 (depth + 1) operand rest (sym (in_seven 7 rest (omega arith))) in
    prefix_reads level depth op operand token (text ++ rest) rest is (omega arith) low below
written_reads _ _ _ _ (between most lowest op left right token before behind text tight is one other spells) level depth rest loose few low none =
    let heights = binary_height op left right low in
    let quiet : operator_in (level_of op + 1) rest ≡ None = in_higher (lowest + 1) (level_of op + 1) rest (omega arith) none in
    let quieter : operator_in (level_of op + 1 + 1) rest ≡ None = in_higher (level_of op + 1) (level_of op + 1 + 1) rest (omega arith) quiet in
    let below =
    written_reads most right (level_of op + 1) behind other (level_of op + 1) depth rest (omega arith) few heights.1 quieter
    ∙ stops (level_of op + 1) depth right rest (sym quiet) in
    let apart : text ++ rest ≡ before ++ (token ∷ (behind ++ rest)) = rw spells (append_assoc before (token ∷ behind) rest) in
    ap (reading level depth) apart
    ∙ written_reads most left (level_of op) before one level depth (token ∷ (behind ++ rest)) (omega arith) few heights.0 (looser op token (behind ++ rest) is)
    ∙ more_reads level depth op left right token (behind ++ rest) rest is (omega arith) low below
written_reads _ _ _ _ (enclosed most lowest tree opening closing inside text is ends within spells) level depth rest loose few low none =
    let below =
    written_reads most tree 1 inside within 1 (depth + 1) (closing ∷ rest) (omega arith) (omega arith) low (closing_stops 2 closing rest ends)
    ∙ stops 1 (depth + 1) tree (closing ∷ rest) (sym (closing_stops 1 closing rest ends)) in
    let apart : text ++ rest ≡ opening ∷ (inside ++ (closing ∷ rest)) = rw spells (ap (λ (ts : List SpelledToken). opening ∷ ts) (append_assoc inside (closing ∷ []) rest)) in
    ap (reading level depth) apart
    ∙ enclosed_reads level depth tree opening closing (inside ++ (closing ∷ rest)) rest is ends (omega arith) below
