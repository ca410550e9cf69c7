-- An operand that is spelled is read.
use Rattle.std.proofs.Common.{◌≡◌, ℕ, zero, suc, ◌+◌, ◌<◌, ◌==◌, ◌||◌, Bool, true, false, not, List, [], ◌∷◌, ◌++◌, Some, None, Ok, length, drop, slice_get, refl, ap, inl, inr, ◌⊎◌, arith, length-append, append_assoc}
use Rattle.std.proofs.lemmas.Bool.{eqb-true, cases_Bool}
use Rattle.std.specs.Cmp.Lexicographic.{bytes_decides}
use Rattle.asm_base.specs.Tokens.{SpelledToken}
use Rattle.asm_base.specs.declared.tokens.TokenKind.{TokenKind}
use Rattle.asm_base.specs.declared.tokens.TokenKind.TheVariants as kind
use Rattle.asm_expr.specs.declared.trees.UnaryOp.{UnaryOp}
use Rattle.asm_expr.specs.declared.trees.BinaryOp.{BinaryOp}
use Rattle.asm_expr.specs.Trees.{Tree}
use Rattle.expr_texts.specs.Operators.{opens, mark_of, prefix_of, prefix_by, prefix_byte, operator_of, operator_by, operator_byte, level_of}
use Rattle.expr_texts.specs.Leaves.{leaf_of, leaf_by}
use Rattle.expr_texts.specs.Grammar.{Writes, leaf, prefixed, between, enclosed}
use Rattle.att_operands.specs.Marks.{mark_byte, mark_by, mark_at, begins_by}

-- what stands at a place, where the tokens from an earlier one on are known
pub stands_at : (k : ℕ) (tokens text : List SpelledToken) (at n : ℕ) → drop at tokens ≡ text → n ≡ at + k → slice_get tokens n ≡ slice_get text k
stands_at k tokens text zero n stands is = let same : n ≡ k = omega arith in rw same (ap (λ (ts : List SpelledToken). slice_get ts k) stands)
stands_at k [] text (suc at) zero stands is = absurd (omega arith)
stands_at k [] text (suc at) (suc n) stands is = ap (λ (ts : List SpelledToken). slice_get ts k) stands
stands_at k (token ∷ tokens) text (suc at) zero stands is = absurd (omega arith)
stands_at k (token ∷ tokens) text (suc at) (suc n) stands is = stands_at k tokens text at n stands (omega arith)

-- the mark may begin an expression
abbrev pub leads : ℕ → Bool
leads mark = not (mark == 37 || (mark == 36 || (mark == 44 || (mark == 64 || mark == 42))))

leaf_kind : (kind : TokenKind) (bytes : List ℕ) (start : ℕ) (tree : Tree) → leaf_by kind bytes ≡ Ok tree
    → (let token : SpelledToken = record { kind = kind; bytes = bytes; start = start } in mark_by (Some token) ≡ 0)
unfolding mark_by
leaf_kind kind.Name bytes start tree is = refl
leaf_kind kind.Digits bytes start tree is = refl
leaf_kind kind.Character bytes start tree is = refl
leaf_kind kind.String bytes start tree is = refl
leaf_kind kind.Operator bytes start tree is = cc
leaf_kind kind.Other bytes start tree is = cc

-- a number and a name are no marks
pub leaf_mark : (token : SpelledToken) (tree : Tree) → leaf_of token ≡ Ok tree → mark_by (Some token) ≡ 0
unfolding leaf_of
leaf_mark token tree is = leaf_kind token.kind token.bytes token.start tree is

-- a prefix operator is `-` or `~`
prefix_is : (bytes : List ℕ) (op : UnaryOp) → prefix_by bytes ≡ Some op → (mark_byte bytes ≡ 45) ⊎ (mark_byte bytes ≡ 126)
unfolding prefix_by
prefix_is [] op is = cc
prefix_is (byte ∷ []) op is = elim (cases_Bool (byte == 45)) [
  | inl t ↦ inl (eqb-true byte 45 t)
  | inr f ↦ elim (cases_Bool (byte == 126)) [
    | inl t ↦ inr (eqb-true byte 126 t)
    | inr g ↦ absurd (let none : prefix_byte byte ≡ None = rw (f, g) refl in cc)
  ]
]
prefix_is (first ∷ second ∷ others) op is = cc

pub prefix_mark : (token : SpelledToken) (op : UnaryOp) → prefix_of token ≡ Some op → (mark_by (Some token) ≡ 45) ⊎ (mark_by (Some token) ≡ 126)
unfolding mark_by
prefix_mark token op is = prefix_is (mark_of token) op is

-- `(` is a mark
pub opens_mark : (token : SpelledToken) → opens token ≡ true → mark_by (Some token) ≡ 40
unfolding mark_by
opens_mark token is = ap mark_byte ((bytes_decides (mark_of token) (40 ∷ [])).0 is)

-- no operator is `@`
operator_is : (bytes : List ℕ) (op : BinaryOp) → operator_by bytes ≡ Some op → (mark_byte bytes == 64) ≡ false
unfolding operator_by operator_byte
operator_is [] op is = refl
operator_is (byte ∷ []) op is = elim (cases_Bool (byte == 64)) [
  | inl t ↦ absurd (let same : byte ≡ 64 = eqb-true byte 64 t in let none : operator_byte byte ≡ None = rw same refl in cc)
  | inr f ↦ f
]
operator_is (first ∷ second ∷ []) op is = refl
operator_is (first ∷ second ∷ third ∷ others) op is = refl

pub operator_mark : (token : SpelledToken) (op : BinaryOp) → operator_of token ≡ Some op → (mark_by (Some token) == 64) ≡ false
unfolding mark_by
operator_mark token op is = operator_is (mark_of token) op is

either_leads : (mark : ℕ) → (mark ≡ 45) ⊎ (mark ≡ 126) → leads mark ≡ true
either_leads mark (inl is) = rw is refl
either_leads mark (inr is) = rw is refl

-- the first token of a text may begin an expression
pub first_leads : (most : ℕ) (tree : Tree) (level : ℕ) (text behind : List SpelledToken) → Writes most tree level text → leads (mark_at (text ++ behind) 0) ≡ true
first_leads _ _ _ _ behind (leaf most level tree token is) = rw (leaf_mark token tree is) refl
first_leads _ _ _ _ behind (prefixed most level op operand token text is inside) = either_leads (mark_by (Some token)) (prefix_mark token op is)
first_leads _ _ _ _ after (between most level op left right token before behind text low is one other stands) =
    rw (stands, append_assoc before (token ∷ behind) after) (first_leads most left (level_of op) before ((token ∷ behind) ++ after) one)
first_leads _ _ _ _ after (enclosed most level tree opening closing inside text starts stops inner stands) = rw (stands, opens_mark opening starts) refl

-- what begins no expression is another mark
pub apart_from : (other mark : ℕ) → leads other ≡ false → leads mark ≡ true → (mark == other) ≡ false
apart_from other mark none is = elim (cases_Bool (mark == other)) [
  | inl t ↦ absurd (let same : mark ≡ other = eqb-true mark other t in let bad : leads other ≡ true = rw same at is in cc)
  | inr f ↦ f
]

either_other : (mark : ℕ) → (mark ≡ 45) ⊎ (mark ≡ 126) → (mark == 40) ≡ true → ⊥
either_other mark (inl is) other = let none : (mark == 40) ≡ false = rw is refl in cc
either_other mark (inr is) other = let none : (mark == 40) ≡ false = rw is refl in cc

-- behind a `(` that begins a text, an expression begins
pub opened_leads : (most : ℕ) (tree : Tree) (level : ℕ) (text behind : List SpelledToken) → Writes most tree level text → (mark_at (text ++ behind) 0 == 40) ≡ true
    → leads (mark_at (text ++ behind) 1) ≡ true
opened_leads _ _ _ _ behind (leaf most level tree token is) opened = absurd (let none : (mark_by (Some token) == 40) ≡ false = rw (leaf_mark token tree is) refl in cc)
opened_leads _ _ _ _ behind (prefixed most level op operand token text is inside) opened = absurd (either_other (mark_by (Some token)) (prefix_mark token op is) opened)
opened_leads _ _ _ _ after (between most level op left right token before behind text low is one other stands) opened =
    let same : text ++ after ≡ before ++ ((token ∷ behind) ++ after) = rw (stands, append_assoc before (token ∷ behind) after) refl in
    let opens_here : (mark_at (before ++ ((token ∷ behind) ++ after)) 0 == 40) ≡ true = rw same at opened in
    rw same (opened_leads most left (level_of op) before ((token ∷ behind) ++ after) one opens_here)
opened_leads _ _ _ _ after (enclosed most level tree opening closing inside text starts stops inner stands) opened =
    rw (stands, append_assoc inside (closing ∷ []) after) (first_leads most tree 1 inside ((closing ∷ []) ++ after) inner)

all_apart : (a b c d e : Bool) → not (a || (b || (c || (d || e)))) ≡ true → not (a || b || c || e) ≡ true
all_apart true b c d e is = cc
all_apart false true c d e is = cc
all_apart false false true d e is = cc
all_apart false false false true e is = cc
all_apart false false false false true is = cc
all_apart false false false false false is = refl

pub leads_begin : (token : SpelledToken) → leads (mark_by (Some token)) ≡ true → begins_by (Some token) ≡ true
unfolding begins_by
leads_begin token is = all_apart (mark_by (Some token) == 37) (mark_by (Some token) == 36) (mark_by (Some token) == 44) (mark_by (Some token) == 64) (mark_by (Some token) == 42) is

-- the first token of a text begins a value
pub first_begins : (most : ℕ) (tree : Tree) (level : ℕ) (text behind : List SpelledToken) → Writes most tree level text → begins_by (slice_get (text ++ behind) 0) ≡ true
first_begins _ _ _ _ behind (leaf most level tree token is) = leads_begin token (first_leads most tree level (token ∷ []) behind (leaf most level tree token is))
first_begins _ _ _ _ behind (prefixed most level op operand token text is inside) = leads_begin token (either_leads (mark_by (Some token)) (prefix_mark token op is))
first_begins _ _ _ _ after (between most level op left right token before behind text low is one other stands) =
    rw (stands, append_assoc before (token ∷ behind) after) (first_begins most left (level_of op) before ((token ∷ behind) ++ after) one)
first_begins _ _ _ _ after (enclosed most level tree opening closing inside text starts stops inner stands) =
    rw stands (leads_begin opening (let mark = opens_mark opening starts in rw mark refl))

-- a text has a token
pub text_some : (most : ℕ) (tree : Tree) (level : ℕ) (text : List SpelledToken) → Writes most tree level text → 0 < length text
text_some _ _ _ _ (leaf most level tree token is) = omega arith
text_some _ _ _ _ (prefixed most level op operand token text is inside) = omega arith
text_some _ _ _ _ (between most level op left right token before behind text low is one other stands) =
    let all = length-append before (token ∷ behind) in rw stands (omega arith)
text_some _ _ _ _ (enclosed most level tree opening closing inside text starts stops inner stands) = rw stands (omega arith)
