-- An expression that fails is refused by the reading, for the same cause.
use Rattle.std.proofs.Common.{◌≡◌, ℕ, ◌+◌, ◌<◌, ◌≤◌, ◌||◌, Bool, true, false, cond, nat_lt, List, [], ◌∷◌, ◌++◌, is_some, Option, Some, None, Result, Ok, Err, refl, sym, ap, ◌∙◌, arith}
use Rattle.std.proofs.lemmas.Bool.Decides.{nat_tests}
use Rattle.asm_base.specs.Tokens.{SpelledToken}
use Rattle.asm_expr.specs.declared.faults.ExprCause.{ExprCause}
use Rattle.asm_expr.specs.declared.faults.ExprCause.TheVariants.{BadExpression, NumberTooWide, ExpressionTooDeep}
use Rattle.asm_expr.specs.declared.trees.UnaryOp.{UnaryOp}
use Rattle.asm_expr.specs.declared.trees.BinaryOp.{BinaryOp}
use Rattle.asm_expr.specs.Trees.{Tree, unary, binary, height}
use Rattle.asm_base.specs.Refusals.{◌>>=◌}
use Rattle.expr_texts.specs.Operators.{opens, prefix_of, operator_of, level_of}
use Rattle.expr_texts.specs.Leaves.{leaf_of}
use Rattle.expr_texts.specs.Reading.{Read, read, whole, closed_by, closed, deeper, unopened, operator_from, operator_at, follow, reading, reading_more}
use Rattle.expr_texts.specs.Grammar.{Writes}
use Rattle.expr_texts.specs.Found.{operator_in}
use Rattle.expr_texts.specs.Failing.{closing_follows, Fails, ended, no_operand, too_wide, too_open, after_prefix, prefix_high, in_parentheses, unclosed, after_operator, operator_high}
use Rattle.expr_texts.proofs.Fuel.{right_of, reading_none, reading_step, reading_more_step}
use Rattle.expr_texts.proofs.Marks.{prefix_opens_not, from_some, in_higher, in_seven, in_one}
use Rattle.expr_texts.proofs.ParsingLemmas.{whole_high, stops}
use Rattle.expr_texts.proofs.WrittenIsRead.{choose, under, looser, written_reads}

-- what a reading gives whose operand gives this
abbrev goes_on : ℕ → ℕ → Read → Read
goes_on level depth operand = operand >>= (λ left. reading_more level depth left.tree left.rest)

over : (depth : ℕ) (inner : Read) → 64 ≤ depth → deeper depth inner ≡ Err ExpressionTooDeep
over depth inner high = by (nat_lt depth 64) refl
  where
    by : (b : Bool) → nat_lt depth 64 ≡ b → cond b inner (Err ExpressionTooDeep) ≡ Err ExpressionTooDeep
    by true is = absurd (grind (arith, nat_tests))
    by false is = refl

leaf_refused : (level depth : ℕ) (token : SpelledToken) (rest : List SpelledToken) (cause : ExprCause) → opens token ≡ false → prefix_of token ≡ None → leaf_of token ≡ Err cause
    → reading level depth (token ∷ rest) ≡ Err cause
leaf_refused level depth token rest cause plain none is =
    reading_step level depth token rest
    ∙ ap (goes_on level depth) (choose token rest depth false plain ∙ ap (unopened reading depth token rest) none ∙ ap (λ (r : Result Tree ExprCause). r >>= (λ t. Ok (read t rest))) is)

deep_refused : (level depth : ℕ) (token : SpelledToken) (rest : List SpelledToken) (b : Bool) (op : Option UnaryOp) → opens token ≡ b → prefix_of token ≡ op → (b || is_some op) ≡ true → 64 ≤ depth
    → reading level depth (token ∷ rest) ≡ Err ExpressionTooDeep
deep_refused level depth token rest true op is some more high =
    reading_step level depth token rest
    ∙ ap (goes_on level depth) (choose token rest depth true is ∙ over depth (reading 1 (depth + 1) rest >>= closed) high)
deep_refused level depth token rest false None is some more high = absurd cc
deep_refused level depth token rest false (Some op) is some more high =
    reading_step level depth token rest
    ∙ ap (goes_on level depth)
    (choose token rest depth false is ∙ ap (unopened reading depth token rest) some
    ∙ over depth (reading 7 (depth + 1) rest >>= (λ operand. whole (unary op operand.tree) operand.rest)) high)

-- a prefix operator, by what the reading of its operand gives
prefix_gives : (level depth : ℕ) (op : UnaryOp) (token : SpelledToken) (rest : List SpelledToken) (inner : Read) → prefix_of token ≡ Some op → depth < 64 → reading 7 (depth + 1) rest ≡ inner
    → reading level depth (token ∷ rest) ≡ goes_on level depth (inner >>= (λ operand. whole (unary op operand.tree) operand.rest))
prefix_gives level depth op token rest inner is low below =
    reading_step level depth token rest
    ∙ ap (goes_on level depth)
    (choose token rest depth false (prefix_opens_not token op is)
    ∙ ap (unopened reading depth token rest) is
    ∙ under depth (reading 7 (depth + 1) rest >>= (λ operand. whole (unary op operand.tree) operand.rest)) low
    ∙ ap (λ (r : Read). r >>= (λ operand. whole (unary op operand.tree) operand.rest)) below)

-- parentheses, by what the reading of what stands in them gives
parentheses_give : (level depth : ℕ) (token : SpelledToken) (rest : List SpelledToken) (inner : Read) → opens token ≡ true → depth < 64 → reading 1 (depth + 1) rest ≡ inner
    → reading level depth (token ∷ rest) ≡ goes_on level depth (inner >>= closed)
parentheses_give level depth token rest inner is low below =
    reading_step level depth token rest
    ∙ ap (goes_on level depth)
    (choose token rest depth true is
    ∙ under depth (reading 1 (depth + 1) rest >>= closed) low
    ∙ ap (λ (r : Read). r >>= closed) below)

not_closed : (tree : Tree) (behind : List SpelledToken) → closing_follows behind ≡ false → closed_by tree behind ≡ Err BadExpression
not_closed tree [] none = refl
not_closed tree (token ∷ rest) none = ap (λ (b : Bool). cond b (Ok (read tree rest)) (Err BadExpression)) none

-- an operator behind a left operand, by what the reading of the right one gives
operator_gives : (most level depth : ℕ) (op : BinaryOp) (left : Tree) (token : SpelledToken) (before behind tokens : List SpelledToken) (inner : Read) → most + depth ≡ 64
    → level ≤ level_of op → operator_of token ≡ Some op → Writes most left (level_of op) before → height left ≤ 256 → tokens ≡ before ++ (token ∷ behind) → reading (level_of op + 1) depth behind ≡ inner
    → reading level depth tokens ≡ (inner >>= (λ right. whole (binary op left right.tree) right.rest) >>= (λ joined. reading_more level depth joined.tree joined.rest))
operator_gives most level depth op left token before behind tokens inner room tight is writes low stands below =
    let taken : operator_at level token ≡ Some op = ap (operator_from level) is ∙ from_some level op tight in
    ap (reading level depth) stands
    ∙ written_reads most left (level_of op) before writes level depth (token ∷ behind) tight (omega arith) low (looser op token behind is)
    ∙ reading_more_step level depth left token behind
    ∙ ap (λ (o : Option BinaryOp). follow o (Ok (read left (token ∷ behind))) (λ op. right_of reading depth left behind op >>= (λ joined. reading_more level depth joined.tree joined.rest))) taken
    ∙ ap (λ (r : Read). r >>= (λ right. whole (binary op left right.tree) right.rest) >>= (λ joined. reading_more level depth joined.tree joined.rest)) below

pub refuses : (most level : ℕ) (tokens : List SpelledToken) (cause : ExprCause) → Fails most level tokens cause → (depth : ℕ) → most + depth ≡ 64 → reading level depth tokens ≡ Err cause
refuses _ _ _ _ (ended most level) depth room = reading_none level depth
refuses _ _ _ _ (no_operand most level token rest plain none is) depth room = leaf_refused level depth token rest BadExpression plain none is
refuses _ _ _ _ (too_wide most level token rest plain none is) depth room = leaf_refused level depth token rest NumberTooWide plain none is
refuses _ _ _ _ (too_open level token rest more) depth room = deep_refused level depth token rest (opens token) (prefix_of token) refl refl more (omega arith)
refuses _ _ _ _ (after_prefix most level op token rest cause is fails) depth room =
    prefix_gives level depth op token rest (Err cause) is (omega arith) (refuses most 7 rest cause fails (depth + 1) (omega arith))
refuses _ _ _ _ (prefix_high most level op operand token text behind rest is writes low high stands) depth room =
    let below : reading 7 (depth + 1) rest ≡ Ok (read operand behind) =
    ap (reading 7 (depth + 1)) stands
    ∙ written_reads most operand 7 text writes 7 (depth + 1) behind (omega arith) (omega arith) low (in_seven 8 behind (omega arith))
    ∙ stops 7 (depth + 1) operand behind (sym (in_seven 7 behind (omega arith))) in
    prefix_gives level depth op token rest (Ok (read operand behind)) is (omega arith) below ∙ ap (goes_on level depth) (whole_high (unary op operand) behind high)
refuses _ _ _ _ (in_parentheses most level token rest cause is fails) depth room =
    parentheses_give level depth token rest (Err cause) is (omega arith) (refuses most 1 rest cause fails (depth + 1) (omega arith))
refuses _ _ _ _ (unclosed most level tree token text behind rest is writes low quiet open_end stands) depth room =
    let none = in_one behind quiet in
    let below : reading 1 (depth + 1) rest ≡ Ok (read tree behind) =
    ap (reading 1 (depth + 1)) stands
    ∙ written_reads most tree 1 text writes 1 (depth + 1) behind (omega arith) (omega arith) low (in_higher 1 2 behind (omega arith) none)
    ∙ stops 1 (depth + 1) tree behind (sym none) in
    parentheses_give level depth token rest (Ok (read tree behind)) is (omega arith) below ∙ ap (goes_on level depth) (not_closed tree behind open_end)
refuses _ _ _ _ (after_operator most level op left token before behind tokens cause tight is writes low fails stands) depth room =
    operator_gives most level depth op left token before behind tokens (Err cause) room tight is writes low stands (refuses most (level_of op + 1) behind cause fails depth room)
refuses _ _ _ _ (operator_high most level op left right token before text behind tokens tight is writes low other fits quiet high stands) depth room =
    let quieter : operator_in (level_of op + 1 + 1) behind ≡ None = in_higher (level_of op + 1) (level_of op + 1 + 1) behind (omega arith) quiet in
    let below : reading (level_of op + 1) depth (text ++ behind) ≡ Ok (read right behind) =
    written_reads most right (level_of op + 1) text other (level_of op + 1) depth behind (omega arith) (omega arith) fits quieter
    ∙ stops (level_of op + 1) depth right behind (sym quiet) in
    operator_gives most level depth op left token before (text ++ behind) tokens (Ok (read right behind)) room tight is writes low stands below
    ∙ ap (λ (r : Read). r >>= (λ joined. reading_more level depth joined.tree joined.rest)) (whole_high (binary op left right) behind high)
