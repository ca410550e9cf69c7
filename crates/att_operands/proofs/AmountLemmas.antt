-- Amounts that are found, by the reading of an expression.
use Rattle.std.proofs.Common.{◌≡◌, ℕ, ◌+◌, ◌-◌, ◌<◌, ◌≤◌, false, List, [], Result, Ok, Err, length, map, drop, take, refl, sym, ap, subst, ◌∙◌, arith, length-drop}
use Rattle.std.proofs.lemmas.List.{drop-map, length-map}
use Rattle.std.specs.List.{take-map}
use Rattle.asm_base.specs.declared.refusals.Refusal.{Refusal}
use Rattle.asm_base.specs.declared.refusals.Refusal.TheVariants.{Fault, NoMemory}
use Rattle.asm_base.specs.Refusals.{Fails, Raises}
use Rattle.asm_base.specs.declared.tokens.Token.{Token}
use Rattle.asm_base.specs.Tokens.{SpelledToken, spelled}
use Rattle.asm_expr.specs.declared.faults.ExprCause.{ExprCause}
use Rattle.asm_expr.specs.declared.trees.Expr.{Expr}
use Rattle.asm_expr.specs.Trees.{Tree, number, tree_of}
use Rattle.asm_expr.specs.Forms.{constant_form}
use Rattle.asm_expr.specs.Knowledge.{Knowledge}
use Rattle.asm_expr.specs.Linear.{linear}
use Rattle.expr_texts.specs.Reading.{ReadTree, read, reading, reading_of}
use Rattle.expr_texts.specs.Grammar.{operator_follows}
use Rattle.expr_texts.specs.Found.{spelled_from, front_of}
use Rattle.asm_operands.specs.declared.constants.FrontConstant.{FrontConstant}
use Rattle.asm_operands.specs.Constants.{IsConstant, IsFront}
use Rattle.x86_insn.specs.declared.amounts.Amount.{Amount}
use Rattle.x86_insn.specs.declared.amounts.Amount.TheVariants as amount
use Rattle.att_operands.specs.declared.faults.OperandCause.{OperandCause}
use Rattle.att_operands.specs.declared.values.ReadAmount.{ReadAmount}
use Rattle.att_operands.specs.Values.{GivesSo, CountAlike, IsLike, IsAmountOf, stated}
use Rattle.att_operands.specs.Amounts.{IsAmountRead, in_operand, GivesAmount}
use Rattle.att_operands.proofs.FrontReadings.{TextsAreRead, ReadsAreTexts, placed_reads, placed_fails, slice_reads, left_at}

-- an amount of the tree that is read
pub amount_is : (tokens : List SpelledToken) (at next : ℕ) (tree : Tree) (held : Amount) → reading_of tokens at ≡ Ok (record { tree = tree; next = next }) → IsAmountOf held tree
    → (let found : Result ReadAmount (Refusal ExprCause) = Ok (record { amount = held; next = next }) in GivesSo IsAmountRead found (reading_of tokens at))
amount_is tokens at next tree held is of = rw is (record { amount = of; next = refl })

-- the amount of tokens that are read to their end
pub sum_is : TextsAreRead → ReadsAreTexts → (tokens : List Token) (at next : ℕ) (tree : Tree) (held : Amount) → at ≤ next → next ≤ length tokens
    → reading 1 0 (map spelled (take (next - at) (drop at tokens))) ≡ Ok (read tree []) → operator_follows (spelled_from tokens next) ≡ false → IsAmountOf held tree
    → (let found : Result ReadAmount (Refusal ExprCause) = Ok (record { amount = held; next = next }) in GivesSo IsAmountRead found (reading_of (map spelled tokens) at))
sum_is text_is_read read_is_text tokens at next tree held order within is none of = amount_is (map spelled tokens) at next tree held (slice_reads text_is_read read_is_text tokens at next tree order within is none) of

constant_alike : (value : ℕ) (tree : Tree) → ((known : Knowledge) → linear known tree ≡ Ok (constant_form value)) → CountAlike (number value) tree
unfolding linear
constant_alike value tree counts known fits = sym (counts known)

-- a tree without names that counts a number is like the number
constant_like : (tokens : List SpelledToken) (value : ℕ) (is : IsConstant tokens value) → IsLike (number value) is.tree
constant_like tokens value is = record { counts = constant_alike value is.tree is.counts; names = sym is.names }

-- the amount of numbers alone
constant_at : TextsAreRead → ReadsAreTexts → (tokens : List Token) (at : ℕ) (found : FrontConstant) → at ≤ length tokens → IsFront (map spelled (drop at tokens)) found
    → operator_follows (spelled_from tokens (at + found.length)) ≡ false
    → (let held : Result ReadAmount (Refusal ExprCause) = Ok (record { amount = amount.Number found.value; next = at + found.length }) in GivesSo IsAmountRead held (reading_of (map spelled tokens) at))
constant_at text_is_read read_is_text tokens at found order is none =
    let count : (at + found.length) - at ≡ found.length = omega arith in
    let few = is.within in
    let within : at + found.length ≤ length tokens = omega (arith, length-map (drop at tokens) spelled, length-drop at tokens) in
    let reads : reading 1 0 (map spelled (take ((at + found.length) - at) (drop at tokens))) ≡ Ok (read is.one.tree []) =
    ap (λ (n : ℕ). reading 1 0 (map spelled (take n (drop at tokens)))) count ∙ ap (reading 1 0) (sym (take-map spelled found.length (drop at tokens))) ∙ is.one.reads in
    sum_is text_is_read read_is_text tokens at (at + found.length) is.one.tree (amount.Number found.value) (omega arith) within reads none (constant_like (take found.length (map spelled (drop at tokens))) found.value is.one)

pub constant_is : TextsAreRead → ReadsAreTexts → (tokens : List Token) (at : ℕ) (found : FrontConstant) → at < length tokens → IsFront (map spelled (take (length tokens - at) (drop at tokens))) found
    → operator_follows (spelled_from tokens (at + found.length)) ≡ false
    → (let held : Result ReadAmount (Refusal ExprCause) = Ok (record { amount = amount.Number found.value; next = at + found.length }) in GivesSo IsAmountRead held (reading_of (map spelled tokens) at))
constant_is text_is_read read_is_text tokens at found order is none =
    constant_at text_is_read read_is_text tokens at found (omega arith) (subst (λ (ts : List Token). IsFront (map spelled ts) found) (left_at tokens at) is) none

pub constant_within : (tokens : List Token) (at : ℕ) (found : FrontConstant) → at < length tokens → IsFront (map spelled (take (length tokens - at) (drop at tokens))) found
    → at + found.length ≤ length tokens
constant_within tokens at found order is =
    let few = (subst (λ (ts : List Token). IsFront (map spelled ts) found) (left_at tokens at) is).within in
    omega (arith, length-map (drop at tokens) spelled, length-drop at tokens)

-- the tree that the parser finds
tree_at : (tokens : List Token) (at count : ℕ) (tree : Tree) → at ≤ length tokens → count ≤ length (drop at tokens)
    → reading 1 0 (map spelled (drop at tokens)) ≡ Ok (read tree (spelled_from (drop at tokens) count)) → reading_of (map spelled tokens) at ≡ Ok (record { tree = tree; next = at + count })
tree_at tokens at count tree order few is =
    let lengths : at + count ≡ length (map spelled tokens) - length (spelled_from (drop at tokens) count) =
    omega (arith, length-map tokens spelled, length-map (drop count (drop at tokens)) spelled, length-drop count (drop at tokens), length-drop at tokens) in
    placed_reads (map spelled tokens) at (at + count) tree (spelled_from (drop at tokens) count) (ap (reading 1 0) (drop-map spelled at tokens) ∙ is) lengths

pub tree_is : (tokens : List Token) (at count : ℕ) (expr : Expr) (held : Amount) → at < length tokens → count ≤ length (take (length tokens - at) (drop at tokens))
    → reading 1 0 (map spelled (take (length tokens - at) (drop at tokens))) ≡ Ok (front_of (take (length tokens - at) (drop at tokens)) (expr, count)) → IsAmountOf held (tree_of expr)
    → (let found : Result ReadAmount (Refusal OperandCause) = Ok (record { amount = held; next = at + count }) in GivesAmount (map spelled tokens) at found)
tree_is tokens at count expr held order few is of =
    let all = left_at tokens at in
    let short : count ≤ length (drop at tokens) = subst (λ (ts : List Token). count ≤ length ts) all few in
    let reads = subst (λ (ts : List Token). reading 1 0 (map spelled ts) ≡ Ok (front_of ts (expr, count))) all is in
    rw (tree_at tokens at count (tree_of expr) (omega arith) short reads) (record { amount = of; next = refl })

pub tree_within : (tokens : List Token) (at count : ℕ) → at < length tokens → count ≤ length (take (length tokens - at) (drop at tokens)) → at + count ≤ length tokens
tree_within tokens at count order few =
    let short : count ≤ length (drop at tokens) = subst (λ (ts : List Token). count ≤ length ts) (left_at tokens at) few in
    omega (arith, length-drop at tokens)

fails_as : (cause : ExprCause) (raised : OperandCause) (due : Result ReadTree ExprCause) → raised ≡ stated cause → due ≡ Err cause → in_operand due ≡ Err raised
fails_as cause raised due raises is = rw (is, raises) refl

-- the fault of the expression, raised
pub tree_fails : (tokens : List Token) (at : ℕ) (refusal : Refusal ExprCause) (raised : Refusal OperandCause)
    → Fails refusal (reading 1 0 (map spelled (take (length tokens - at) (drop at tokens)))) → Raises (λ cause e. e ≡ stated cause) refusal raised
    → Fails raised (in_operand (reading_of (map spelled tokens) at))
tree_fails tokens at (Fault cause) (Fault fault) is raises =
    let due = subst (λ (ts : List Token). reading 1 0 (map spelled ts) ≡ Err cause) (left_at tokens at) is in
    fails_as cause fault (reading_of (map spelled tokens) at) raises (placed_fails (map spelled tokens) at cause (ap (reading 1 0) (drop-map spelled at tokens) ∙ due))
tree_fails tokens at (Fault cause) NoMemory is raises = absurd raises
tree_fails tokens at NoMemory (Fault fault) is raises = absurd raises
tree_fails tokens at NoMemory NoMemory is raises = tt

-- an amount that needs no tree is given
pub found_gives : (found : ReadAmount) (due : Result ReadTree ExprCause)
    → (let held : Result ReadAmount (Refusal ExprCause) = Ok found in GivesSo IsAmountRead held due) → (let held : Result ReadAmount (Refusal OperandCause) = Ok found in GivesSo IsAmountRead held (in_operand due))
found_gives found (Ok due) is = is
found_gives found (Err cause) is = is
