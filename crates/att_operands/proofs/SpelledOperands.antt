-- Addresses, values and operands that are spelled are read.
use Rattle.std.proofs.Common.{◌≡◌, ℕ, zero, suc, ◌+◌, List, [], ◌∷◌, ◌++◌, Some, length, drop, slice_get, refl, ap, ◌∙◌, arith}
use Rattle.asm_base.specs.declared.tokens.TokenKind.{TokenKind}
use Rattle.asm_base.specs.declared.tokens.TokenKind.TheVariants as kind
use Rattle.asm_base.specs.Tokens.{SpelledToken}
use Rattle.x86_insn.specs.declared.insns.Base.{Base}
use Rattle.x86_insn.specs.declared.insns.Base.TheVariants as base
use Rattle.x86_insn.specs.declared.insns.Index.{Index}
use Rattle.x86_insn.specs.declared.insns.Index.TheVariants as index
use Rattle.att_operands.specs.Registers.{register_of}
use Rattle.att_operands.specs.Marks.{mark_by, mark_at}
use Rattle.att_operands.specs.Addresses.{register_at, scale_kind, scale_by, read_address, closed_at, index_at, address_at}
use Rattle.att_operands.specs.Spells.{IsMark, WritesIndex, unscaled, scaled, WritesAddress, based, indexed, unbased, lone}
use Rattle.att_operands.proofs.SpelledIsRead.{stands_at}

-- the token at a place
pub token_is : (k : ℕ) (tokens text : List SpelledToken) (at n : ℕ) (token : SpelledToken) → drop at tokens ≡ text → n ≡ at + k → slice_get text k ≡ Some token → slice_get tokens n ≡ Some token
token_is k tokens text at n token stands is there = stands_at k tokens text at n stands is ∙ there

-- the mark at a place
pub mark_is : (tokens : List SpelledToken) (n byte : ℕ) (token : SpelledToken) → slice_get tokens n ≡ Some token → IsMark byte token → mark_at tokens n ≡ byte
mark_is tokens n byte token there is = ap mark_by there ∙ is

pub closed_reads : (tokens : List SpelledToken) (base : Base) (index : Index) (n next : ℕ) → mark_at tokens n ≡ 41 → next ≡ n + 1 → closed_at tokens base index n ≡ Some (read_address base index next)
closed_reads tokens base index n next closes is = rw (closes, is) refl

register_reads : (tokens : List SpelledToken) (at : ℕ) (sign word : SpelledToken) → slice_get tokens at ≡ Some sign → IsMark 37 sign → slice_get tokens (at + 1) ≡ Some word
    → register_at tokens at ≡ register_of word.bytes
register_reads tokens at sign word here is there = let mark = mark_is tokens at 37 sign here is in rw (mark, there) refl

-- an index that is written is read
pub index_reads : (tokens : List SpelledToken) (at : ℕ) (base : Base) (index : Index) (text behind : List SpelledToken) → WritesIndex index text → drop at tokens ≡ text ++ behind
    → index_at tokens base at ≡ Some (read_address base index (at + length text))
unfolding index_at
index_reads tokens at base _ _ behind (unscaled number sign word closing sign_is names closes) stands =
    let text = sign ∷ word ∷ closing ∷ behind in
    let g0 = token_is 0 tokens text at at sign stands (omega arith) refl in
    let g1 = token_is 1 tokens text at (at + 1) word stands refl refl in
    let g2 = token_is 2 tokens text at (at + 2) closing stands refl refl in
    let r = register_reads tokens at sign word g0 sign_is g1 in
    let m = mark_is tokens (at + 2) 41 closing g2 closes in
    rw (r, names, m) (ap (λ (n : ℕ). Some (read_address base (index.By number 0) n)) (omega arith))
index_reads tokens at base _ _ behind (scaled number scale sign word comma digits closing sign_is names comma_is scales closes) stands =
    let text = sign ∷ word ∷ comma ∷ digits ∷ closing ∷ behind in
    let g0 = token_is 0 tokens text at at sign stands (omega arith) refl in
    let g1 = token_is 1 tokens text at (at + 1) word stands refl refl in
    let g2 = token_is 2 tokens text at (at + 2) comma stands refl refl in
    let g3 = token_is 3 tokens text at ((at + 2) + 1) digits stands (omega arith) refl in
    let g4 = token_is 4 tokens text at ((at + 2) + 2) closing stands (omega arith) refl in
    let r = register_reads tokens at sign word g0 sign_is g1 in
    let m = mark_is tokens (at + 2) 44 comma g2 comma_is in
    let c = mark_is tokens ((at + 2) + 2) 41 closing g4 closes in
    rw (r, names, m, g3, scales, c) (ap (λ (n : ℕ). Some (read_address base (index.By number scale) n)) (omega arith))

-- what is left behind some tokens
pub left_behind : (k : ℕ) (tokens text : List SpelledToken) (at n : ℕ) → drop at tokens ≡ text → n ≡ at + k → drop n tokens ≡ drop k text
left_behind k tokens text zero n stands is = let same : n ≡ k = omega arith in rw same (ap (λ (ts : List SpelledToken). drop k ts) stands)
left_behind k [] text (suc at) zero stands is = absurd (omega arith)
left_behind zero [] text (suc at) (suc n) stands is = stands
left_behind (suc k) [] text (suc at) (suc n) stands is = ap (λ (ts : List SpelledToken). drop (suc k) ts) stands
left_behind k (token ∷ tokens) text (suc at) zero stands is = absurd (omega arith)
left_behind k (token ∷ tokens) text (suc at) (suc n) stands is = left_behind k tokens text at n stands (omega arith)

-- an index begins with the sign of its register
index_signed : (tokens : List SpelledToken) (at : ℕ) (index : Index) (text behind : List SpelledToken) → WritesIndex index text → drop at tokens ≡ text ++ behind → mark_at tokens at ≡ 37
index_signed tokens at _ _ behind (unscaled number sign word closing sign_is names closes) stands =
    mark_is tokens at 37 sign (token_is 0 tokens (sign ∷ word ∷ closing ∷ behind) at at sign stands (omega arith) refl) sign_is
index_signed tokens at _ _ behind (scaled number scale sign word comma digits closing sign_is names comma_is scales closes) stands =
    mark_is tokens at 37 sign (token_is 0 tokens (sign ∷ word ∷ comma ∷ digits ∷ closing ∷ behind) at at sign stands (omega arith) refl) sign_is

scale_kind_mark : (kind : TokenKind) (bytes : List ℕ) (start scale : ℕ) → scale_kind kind bytes ≡ Some scale
    → (let token : SpelledToken = record { kind = kind; bytes = bytes; start = start } in mark_by (Some token) ≡ 0)
unfolding mark_by
scale_kind_mark kind.Name bytes start scale is = cc
scale_kind_mark kind.Digits bytes start scale is = refl
scale_kind_mark kind.Character bytes start scale is = cc
scale_kind_mark kind.String bytes start scale is = cc
scale_kind_mark kind.Operator bytes start scale is = cc
scale_kind_mark kind.Other bytes start scale is = cc

-- a scale is no mark
scale_mark : (token : SpelledToken) (scale : ℕ) → scale_by (Some token) ≡ Some scale → mark_by (Some token) ≡ 0
unfolding scale_by
scale_mark token scale is = scale_kind_mark token.kind token.bytes token.start scale is

-- an address that is written is read
pub address_reads : (tokens : List SpelledToken) (at : ℕ) (base : Base) (index : Index) (text behind : List SpelledToken) → WritesAddress base index text → drop at tokens ≡ text ++ behind
    → address_at tokens at ≡ Some (read_address base index (at + length text))
unfolding address_at
address_reads tokens at base _ _ behind (based _ sign word closing sign_is names closes) stands =
    let text = sign ∷ word ∷ closing ∷ behind in
    let g0 = token_is 0 tokens text at at sign stands (omega arith) refl in
    let g1 = token_is 1 tokens text at (at + 1) word stands refl refl in
    let g2 = token_is 2 tokens text at (at + 2) closing stands refl refl in
    let m0 = mark_is tokens at 37 sign g0 sign_is in
    let m = mark_is tokens (at + 2) 41 closing g2 closes in
    rw (m0, g1, names, m) (ap (λ (n : ℕ). Some (read_address base index.Absent n)) (omega arith))
address_reads tokens at base index _ behind (indexed _ _ sign word comma rest sign_is names takes comma_is writes) stands =
    let text = sign ∷ word ∷ comma ∷ (rest ++ behind) in
    let g0 = token_is 0 tokens text at at sign stands (omega arith) refl in
    let g1 = token_is 1 tokens text at (at + 1) word stands refl refl in
    let g2 = token_is 2 tokens text at (at + 2) comma stands refl refl in
    let m0 = mark_is tokens at 37 sign g0 sign_is in
    let m = mark_is tokens (at + 2) 44 comma g2 comma_is in
    let left : drop ((at + 2) + 1) tokens ≡ rest ++ behind = left_behind 3 tokens text at ((at + 2) + 1) stands (omega arith) in
    let later = index_reads tokens ((at + 2) + 1) base index rest behind writes left in
    rw (m0, g1, names, m, takes) (later ∙ ap (λ (n : ℕ). Some (read_address base index n)) (omega arith))
address_reads tokens at _ _ _ behind (lone comma digits closing comma_is scales closes) stands =
    let text = comma ∷ digits ∷ closing ∷ behind in
    let g0 = token_is 0 tokens text at at comma stands (omega arith) refl in
    let g1 = token_is 1 tokens text at (at + 1) digits stands refl refl in
    let g2 = token_is 2 tokens text at ((at + 1) + 1) closing stands (omega arith) refl in
    let m0 = mark_is tokens at 44 comma g0 comma_is in
    let m1 : mark_at tokens (at + 1) ≡ 0 = mark_is tokens (at + 1) 0 digits g1 (scale_mark digits 0 scales) in
    let m2 = mark_is tokens ((at + 1) + 1) 41 closing g2 closes in
    rw (m0, m1, g1, scales, m2) (ap (λ (n : ℕ). Some (read_address base.Absent index.Absent n)) (omega arith))
address_reads tokens at _ index _ behind (unbased _ comma rest comma_is writes) stands =
    let text = comma ∷ (rest ++ behind) in
    let g0 = token_is 0 tokens text at at comma stands (omega arith) refl in
    let m = mark_is tokens at 44 comma g0 comma_is in
    let left : drop (at + 1) tokens ≡ rest ++ behind = left_behind 1 tokens text at (at + 1) stands refl in
    let sign : mark_at tokens (at + 1) ≡ 37 = index_signed tokens (at + 1) index rest behind writes left in
    let later = index_reads tokens (at + 1) base.Absent index rest behind writes left in
    rw (m, sign) (later ∙ ap (λ (n : ℕ). Some (read_address base.Absent index n)) (omega arith))
