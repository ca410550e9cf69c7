-- A `-` and a number are read as the number turned.
use Rattle.std.proofs.Common.{◌≡◌, ℕ, zero, suc, ◌+◌, ◌-◌, ◌<◌, ◌≤◌, true, false, List, [], ◌∷◌, ◌++◌, Some, Result, Ok, length, map, drop, take, get_or, slice_get, refl, sym, ap, subst, ◌∙◌, arith, length-append, drop-cons}
use Rattle.asm_base.specs.declared.tokens.Token.{Token}
use Rattle.asm_base.specs.Tokens.{SpelledToken, spelled}
use Rattle.asm_base.specs.Refusals.{◌>>=◌}
use Rattle.asm_expr.specs.declared.faults.ExprCause.{ExprCause}
use Rattle.asm_expr.specs.declared.trees.UnaryOp.TheVariants.{Minus}
use Rattle.asm_expr.specs.Trees.{Tree, number, unary, height}
use Rattle.asm_expr.specs.Forms.{Form, constant_form, wrapped, signed, with_terms}
use Rattle.asm_expr.specs.Knowledge.{Knowledge}
use Rattle.asm_expr.specs.Settled.{settled, put_all}
use Rattle.asm_expr.specs.Linear.{linear, unary_form}
use Rattle.expr_texts.specs.Operators.{mark_of, prefix_of, prefix_by, prefix_level, level_of}
use Rattle.expr_texts.specs.Leaves.{leaf_of}
use Rattle.expr_texts.specs.Reading.{read, reading, reading_of}
use Rattle.expr_texts.specs.Grammar.{IsTextOf, Writes, leaf, prefixed, between, enclosed, operator_follows}
use Rattle.asm_base.specs.declared.refusals.Refusal.{Refusal}
use Rattle.expr_texts.specs.Found.{spelled_from}
use Rattle.asm_operands.specs.Constants.{IsSingle}
use Rattle.x86_insn.specs.declared.amounts.Amount.TheVariants as amount
use Rattle.att_operands.specs.declared.values.ReadAmount.{ReadAmount}
use Rattle.att_operands.specs.Amounts.{IsAmountRead}
use Rattle.att_operands.proofs.AmountLemmas.{amount_is}
use Rattle.att_operands.specs.Marks.{mark_byte, mark_by, mark_at}
use Rattle.att_operands.specs.Values.{GivesSo, CountAlike}
use Rattle.att_operands.proofs.FrontReadings.{TextsAreRead, ReadsAreTexts, front_at, text_at, whole_is_text}
use Rattle.att_operands.proofs.SpelledIsRead.{text_some}

-- a text of one token is a number or a name
single_leaf : (most : ℕ) (tree : Tree) (level : ℕ) (text : List SpelledToken) (token : SpelledToken) → Writes most tree level text → text ≡ token ∷ [] → leaf_of token ≡ Ok tree
single_leaf _ _ _ _ token (leaf most level tree own is) same = let one : own ≡ token = cc in subst (λ (t : SpelledToken). leaf_of t ≡ Ok tree) one is
single_leaf _ _ _ _ token (prefixed most level op operand sign text is inside) same =
    let some = text_some most operand prefix_level text inside in absurd (omega (arith, ap length same))
single_leaf _ _ _ _ token (between most level op left right sign before behind text low is one other stands) same =
    let some = text_some most left (level_of op) before one in absurd (omega (arith, ap length (sym stands ∙ same), length-append before (sign ∷ behind)))
single_leaf _ _ _ _ token (enclosed most level tree opening closing inside text starts stops inner stands) same =
    absurd (omega (arith, ap length (sym stands ∙ same), length-append inside (closing ∷ [])))

minus_by : (bytes : List ℕ) → mark_byte bytes ≡ 45 → prefix_by bytes ≡ Some Minus
unfolding prefix_by
minus_by [] is = absurd (omega arith)
minus_by (byte ∷ []) is = rw is refl
minus_by (first ∷ second ∷ others) is = absurd (omega arith)

minus_prefix : (token : SpelledToken) → mark_by (Some token) ≡ 45 → prefix_of token ≡ Some Minus
unfolding mark_by
minus_prefix token is = minus_by (mark_of token) is

-- what a token alone spells is one node
abbrev pub LeavesAreSingle : Type 0
LeavesAreSingle = (token : SpelledToken) (tree : Tree) → leaf_of token ≡ Ok tree → height tree ≡ 1

-- the two tokens are a text
negative_text : ReadsAreTexts → LeavesAreSingle → (sign token : SpelledToken) (tree : Tree) → mark_by (Some sign) ≡ 45 → reading 1 0 (token ∷ []) ≡ Ok (read tree []) → IsTextOf (unary Minus tree) (sign ∷ token ∷ [])
unfolding height
negative_text read_is_text single sign token tree minus reads =
    let own = whole_is_text read_is_text tree (token ∷ []) reads in
    let spells = single_leaf 64 tree 1 (token ∷ []) token own.writes refl in
    let one = single token tree spells in
    record { writes = prefixed 63 1 Minus tree sign (token ∷ []) (minus_prefix sign minus) (leaf 63 prefix_level tree token spells); low = omega arith }

-- and count as the number turned
turned_form : (known : Knowledge) (held : Result Form ExprCause) (value : ℕ) → held ≡ Ok (constant_form value) → held >>= unary_form known.told Minus ≡ Ok (constant_form (wrapped (0 + signed true value)))
unfolding unary_form settled put_all with_terms
turned_form known held value is = rw is refl

pub negative_counts : (tree : Tree) (value turned : ℕ) → turned ≡ wrapped (0 + signed true value) → ((known : Knowledge) → linear known tree ≡ Ok (constant_form value))
    → CountAlike (number turned) (unary Minus tree)
unfolding linear
negative_counts tree value turned is counts known fits =
    ap (λ (n : ℕ). let made : Result Form ExprCause = Ok (constant_form n) in made) is ∙ sym (turned_form known (linear known tree) value (counts known))

got : (tokens : List Token) (at : ℕ) (d : Token) → at < length tokens → slice_get (map spelled tokens) at ≡ Some (spelled (get_or tokens at d))
got [] at d within = absurd (omega arith)
got (token ∷ tokens) zero d within = refl
got (token ∷ tokens) (suc at) d within = got tokens at d (omega arith)

two_tokens : (tokens : List Token) (at : ℕ) (d e : Token) → at + 2 ≤ length tokens → take ((at + 2) - at) (drop at tokens) ≡ get_or tokens at d ∷ get_or tokens (at + 1) e ∷ []
two_tokens tokens at d e within =
    let two : (at + 2) - at ≡ 2 = omega arith in
    let next : suc at ≡ at + 1 = omega arith in
    let second = drop-cons tokens (at + 1) e (omega arith) in
    let first : drop at tokens ≡ get_or tokens at d ∷ drop (at + 1) tokens = drop-cons tokens at d (omega arith) ∙ ap (λ (n : ℕ). get_or tokens at d ∷ drop n tokens) next in
    ap (λ (n : ℕ). take n (drop at tokens)) two
    ∙ ap (λ (ts : List Token). take 2 ts) first
    ∙ ap (λ (ts : List Token). get_or tokens at d ∷ take 1 ts) second

-- the amount of a `-` and a number
pub negative_is : TextsAreRead → ReadsAreTexts → LeavesAreSingle → (tokens : List Token) (at value turned : ℕ) (e : Token) → at + 2 ≤ length tokens → mark_at (map spelled tokens) at ≡ 45 → IsSingle (spelled (get_or tokens (at + 1) e)) value
    → operator_follows (spelled_from tokens (at + 2)) ≡ false → turned ≡ signed true value
    → (let found : Result ReadAmount (Refusal ExprCause) = Ok (record { amount = amount.Number turned; next = at + 2 }) in GivesSo IsAmountRead found (reading_of (map spelled tokens) at))
negative_is text_is_read read_is_text single tokens at value turned e within minus is none turns =
    let sign : mark_by (Some (spelled (get_or tokens at e))) ≡ 45 = sym (ap mark_by (got tokens at e (omega arith))) ∙ minus in
    let text = spelled (get_or tokens at e) ∷ spelled (get_or tokens (at + 1) e) ∷ [] in
    let both = negative_text read_is_text single (spelled (get_or tokens at e)) (spelled (get_or tokens (at + 1) e)) is.one.tree sign is.one.reads in
    let stands : drop at (map spelled tokens) ≡ text ++ spelled_from tokens (at + 2) =
    front_at tokens at (at + 2) (omega arith) ∙ ap (λ (ts : List Token). map spelled ts ++ spelled_from tokens (at + 2)) (two_tokens tokens at e e within) in
    amount_is (map spelled tokens) at (at + 2) (unary Minus is.one.tree) (amount.Number turned)
    (text_at text_is_read (map spelled tokens) at (at + 2) (unary Minus is.one.tree) text (spelled_from tokens (at + 2)) stands both none (omega arith))
    (record { counts = negative_counts is.one.tree value turned (omega (arith, turns)) is.one.counts; names = sym is.one.names })
