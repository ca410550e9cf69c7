-- Sums of one to three summands, as the reading of an expression finds them.
use Rattle.std.proofs.Common.{◌≡◌, ℕ, ◌+◌, ◌<◌, ◌≤◌, Bool, true, false, cond, List, [], ◌∷◌, Some, None, Result, Ok, length, get_or, map, refl, sym, ap, ◌∙◌, arith}
use Rattle.asm_base.specs.declared.tokens.Token.{Token}
use Rattle.asm_base.specs.Tokens.{SpelledToken, spelled}
use Rattle.asm_base.specs.Refusals.{◌>>=◌}
use Rattle.asm_expr.specs.declared.faults.ExprCause.{ExprCause}
use Rattle.asm_expr.specs.Trees.{Tree, height, binary}
use Rattle.expr_texts.specs.Operators.{prefix_of, level_of}
use Rattle.expr_texts.specs.Reading.{Reading, Read, read, closed, deeper, unopened, operand_of, operator_from, reading, read_at}
use Rattle.expr_texts.specs.Found.{operator_in}
use Rattle.asm_operands.specs.declared.sums.Summand.{Summand}
use Rattle.asm_operands.specs.declared.sums.Summand.TheVariants.{Number, Name, Back, Next, Here}
use Rattle.asm_operands.specs.declared.sums.Addend.{Addend}
use Rattle.asm_operands.specs.declared.sums.Addend.TheVariants.{Nothing, Plus, Minus}
use Rattle.asm_operands.specs.Counting.{operand_in, ReadsOperand, ReadsExpression, ReadsMore}
use Rattle.asm_operands.specs.Sums.{summand_tree, sign_operator, added_tree, IsSummand, IsSigned, IsAddend}
use Rattle.asm_operands.proofs.CountingLemmas.{begins, stops, goes}

-- a summand is one node
summand_height : (found : Summand) → height (summand_tree found) ≡ 1
unfolding height
summand_height (Number value) = refl
summand_height (Name text) = refl
summand_height (Back label) = refl
summand_height (Next label) = refl
summand_height Here = refl

-- `+` and `-` bind at level 4: a whole operand goes on with one, and what is added ends before one
sign_level : (minus : Bool) → level_of (sign_operator minus) ≡ 4
unfolding level_of
sign_level false = refl
sign_level true = refl

sign_binds : (minus : Bool) → Some (sign_operator minus) ≡ operator_from 1 (Some (sign_operator minus))
unfolding level_of
sign_binds false = refl
sign_binds true = refl

-- the token of a summand is an operand
summand_operand : (below : ℕ → ℕ → List SpelledToken → Read) (token : SpelledToken) (rest : List SpelledToken) (found : Summand) → IsSummand token found
    → operand_of below 0 token rest ≡ Ok (read (summand_tree found) rest)
unfolding operand_of
summand_operand below token rest found is =
    ap (λ (b : Bool). cond b (deeper 0 (below 1 1 rest >>= closed)) (unopened below 0 token rest (prefix_of token))) is.unopened
    ∙ ap (unopened below 0 token rest) is.unprefixed
    ∙ ap (λ (r : Result Tree ExprCause). r >>= (λ tree. Ok (read tree rest))) is.leaf

summand_read : (token : SpelledToken) (rest : List SpelledToken) (found : Summand) → IsSummand token found → ReadsOperand 0 (token ∷ rest) (read (summand_tree found) rest)
unfolding operand_in
summand_read token rest found is steps few = summand_operand (read_at steps) token rest found is

-- and an expression, where what is left begins with no operator that binds so tightly
summand_alone : (level : ℕ) (token : SpelledToken) (rest : List SpelledToken) (found : Summand) → IsSummand token found → None ≡ operator_in level rest
    → ReadsExpression level 0 (token ∷ rest) (read (summand_tree found) rest)
summand_alone level token rest found is none =
    begins level 0 (token ∷ rest) rest (summand_tree found) (read (summand_tree found) rest) (omega arith) (summand_read token rest found is) (stops level 0 (summand_tree found) rest none)

-- a tree goes on with what is added to it
addend_read : (left : Tree) (operator token : SpelledToken) (rest : List SpelledToken) (minus : Bool) (found : Summand) (all : Reading)
    → IsSigned operator token minus found → None ≡ operator_in 5 rest → height left ≤ 255
    → ReadsMore 1 0 (binary (sign_operator minus) left (summand_tree found)) rest all → ReadsMore 1 0 left (operator ∷ token ∷ rest) all
unfolding height
addend_read left operator token rest minus found all is none low more =
    let one = summand_height found in
    let level : 5 ≡ level_of (sign_operator minus) + 1 = omega (arith, sign_level minus) in
    goes 1 0 (sign_operator minus) left (summand_tree found) operator (token ∷ rest) rest all
    (sign_binds minus ∙ ap (operator_from 1) (sym is.sign))
    (rw level at (summand_alone 5 token rest found is.summand none))
    (omega arith) (omega arith) more

-- what is added to a summand ends before a sign
sign_ends : (minus : Bool) → None ≡ operator_from 5 (Some (sign_operator minus))
unfolding level_of
sign_ends false = refl
sign_ends true = refl

sign_after : (operator token : SpelledToken) (rest : List SpelledToken) (minus : Bool) (found : Summand) → IsSigned operator token minus found → None ≡ operator_in 5 (operator ∷ rest)
unfolding operator_in
sign_after operator token rest minus found is = sign_ends minus ∙ ap (operator_from 5) (sym is.sign)

-- one, three and five tokens are read as the trees of sums
one_reads : (one : SpelledToken) (first : Summand) → IsSummand one first → reading 1 0 (one ∷ []) ≡ Ok (read (summand_tree first) [])
unfolding reading operator_in
one_reads one first is = summand_alone 1 one [] first is refl 1 (omega arith)

two_by : (one operator other : SpelledToken) (first : Summand) (minus : Bool) (second : Summand) → IsSummand one first → IsSigned operator other minus second
    → reading 1 0 (one ∷ operator ∷ other ∷ []) ≡ Ok (read (binary (sign_operator minus) (summand_tree first) (summand_tree second)) [])
unfolding reading operator_in
two_by one operator other first minus second is second_is =
    let tree = binary (sign_operator minus) (summand_tree first) (summand_tree second) in
    let low = summand_height first in
    begins 1 0 (one ∷ operator ∷ other ∷ []) (operator ∷ other ∷ []) (summand_tree first) (read tree []) (omega arith) (summand_read one (operator ∷ other ∷ []) first is)
    (addend_read (summand_tree first) operator other [] minus second (read tree []) second_is refl (omega arith) (stops 1 0 tree [] refl))
    3 (omega arith)

two_read : (one operator other : SpelledToken) (first : Summand) (second : Addend) → IsSummand one first → IsAddend operator other second
    → reading 1 0 (one ∷ operator ∷ other ∷ []) ≡ Ok (read (added_tree (summand_tree first) second) [])
two_read one operator other first Nothing is second_is = absurd second_is
two_read one operator other first (Plus second) is second_is = two_by one operator other first false second is second_is
two_read one operator other first (Minus second) is second_is = two_by one operator other first true second is second_is

three_by : (one operator other behind last : SpelledToken) (first : Summand) (minus less : Bool) (second third : Summand) → IsSummand one first → IsSigned operator other minus second
    → IsSigned behind last less third
    → reading 1 0 (one ∷ operator ∷ other ∷ behind ∷ last ∷ [])
    ≡ Ok (read (binary (sign_operator less) (binary (sign_operator minus) (summand_tree first) (summand_tree second)) (summand_tree third)) [])
unfolding reading operator_in height
three_by one operator other behind last first minus less second third is second_is third_is =
    let left = binary (sign_operator minus) (summand_tree first) (summand_tree second) in
    let tree = binary (sign_operator less) left (summand_tree third) in
    let low = summand_height first in
    let right = summand_height second in
    begins 1 0 (one ∷ operator ∷ other ∷ behind ∷ last ∷ []) (operator ∷ other ∷ behind ∷ last ∷ []) (summand_tree first) (read tree []) (omega arith)
    (summand_read one (operator ∷ other ∷ behind ∷ last ∷ []) first is)
    (addend_read (summand_tree first) operator other (behind ∷ last ∷ []) minus second (read tree []) second_is (sign_after behind last (last ∷ []) less third third_is) (omega arith)
    (addend_read left behind last [] less third (read tree []) third_is refl (omega arith) (stops 1 0 tree [] refl)))
    5 (omega arith)

three_read : (one operator other behind last : SpelledToken) (first : Summand) (second third : Addend) → IsSummand one first → IsAddend operator other second → IsAddend behind last third
    → reading 1 0 (one ∷ operator ∷ other ∷ behind ∷ last ∷ []) ≡ Ok (read (added_tree (added_tree (summand_tree first) second) third) [])
three_read one operator other behind last first Nothing third is second_is third_is = absurd second_is
three_read one operator other behind last first (Plus second) Nothing is second_is third_is = absurd third_is
three_read one operator other behind last first (Plus second) (Plus third) is second_is third_is = three_by one operator other behind last first false false second third is second_is third_is
three_read one operator other behind last first (Plus second) (Minus third) is second_is third_is = three_by one operator other behind last first false true second third is second_is third_is
three_read one operator other behind last first (Minus second) Nothing is second_is third_is = absurd third_is
three_read one operator other behind last first (Minus second) (Plus third) is second_is third_is = three_by one operator other behind last first true false second third is second_is third_is
three_read one operator other behind last first (Minus second) (Minus third) is second_is third_is = three_by one operator other behind last first true true second third is second_is third_is

-- the same of as many tokens of the program
pub one_sum : (tokens : List Token) (d : Token) (first : Summand) → 1 ≤ length tokens → length tokens < 2 → IsSummand (spelled (get_or tokens 0 d)) first
    → reading 1 0 (map spelled tokens) ≡ Ok (read (summand_tree first) [])
one_sum [] d first some few is = absurd (omega arith)
one_sum (one ∷ []) d first some few is = one_reads (spelled one) first is
one_sum (one ∷ other ∷ rest) d first some few is = absurd (omega arith)

pub two_sum : (tokens : List Token) (d e f : Token) (first : Summand) (second : Addend) → 3 ≤ length tokens → length tokens < 4 → IsSummand (spelled (get_or tokens 0 d)) first
    → IsAddend (spelled (get_or tokens 1 e)) (spelled (get_or tokens 2 f)) second → reading 1 0 (map spelled tokens) ≡ Ok (read (added_tree (summand_tree first) second) [])
two_sum [] d e f first second some few is second_is = absurd (omega arith)
two_sum (one ∷ []) d e f first second some few is second_is = absurd (omega arith)
two_sum (one ∷ operator ∷ []) d e f first second some few is second_is = absurd (omega arith)
two_sum (one ∷ operator ∷ other ∷ []) d e f first second some few is second_is = two_read (spelled one) (spelled operator) (spelled other) first second is second_is
two_sum (one ∷ operator ∷ other ∷ behind ∷ rest) d e f first second some few is second_is = absurd (omega arith)

pub three_sum : (tokens : List Token) (d e f g h : Token) (first : Summand) (second third : Addend) → 5 ≤ length tokens → length tokens < 6 → IsSummand (spelled (get_or tokens 0 d)) first
    → IsAddend (spelled (get_or tokens 1 e)) (spelled (get_or tokens 2 f)) second → IsAddend (spelled (get_or tokens 3 g)) (spelled (get_or tokens 4 h)) third
    → reading 1 0 (map spelled tokens) ≡ Ok (read (added_tree (added_tree (summand_tree first) second) third) [])
three_sum [] d e f g h first second third some few is second_is third_is = absurd (omega arith)
three_sum (one ∷ []) d e f g h first second third some few is second_is third_is = absurd (omega arith)
three_sum (one ∷ operator ∷ []) d e f g h first second third some few is second_is third_is = absurd (omega arith)
three_sum (one ∷ operator ∷ other ∷ []) d e f g h first second third some few is second_is third_is = absurd (omega arith)
three_sum (one ∷ operator ∷ other ∷ behind ∷ []) d e f g h first second third some few is second_is third_is = absurd (omega arith)
three_sum (one ∷ operator ∷ other ∷ behind ∷ last ∷ []) d e f g h first second third some few is second_is third_is =
    three_read (spelled one) (spelled operator) (spelled other) (spelled behind) (spelled last) first second third is second_is third_is
three_sum (one ∷ operator ∷ other ∷ behind ∷ last ∷ more ∷ rest) d e f g h first second third some few is second_is third_is = absurd (omega arith)
