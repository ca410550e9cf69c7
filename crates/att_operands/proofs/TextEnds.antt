-- How texts of expressions end: in no sign, and without an `@`.
use Rattle.std.proofs.Common.{◌≡◌, ℕ, ◌+◌, ◌<◌, ◌==◌, ◌||◌, Bool, true, false, cond, not, List, [], ◌∷◌, ◌++◌, Some, length, is_some, refl, sym, ap, ◌∙◌, inl, inr, ◌⊎◌, arith}
use Rattle.std.specs.Cmp.Lexicographic.{bytes_decides}
use Rattle.asm_base.specs.Tokens.{SpelledToken}
use Rattle.asm_expr.specs.Trees.{Tree}
use Rattle.expr_texts.specs.Operators.{closes, mark_of, operator_by, operator_byte, level_of, prefix_level}
use Rattle.expr_texts.specs.Grammar.{Writes, leaf, prefixed, between, enclosed, operator_follows}
use Rattle.att_operands.specs.Marks.{mark_byte, mark_by, mark_at}
use Rattle.att_operands.specs.Spells.{IsMark, LeadsName, nothing, number, negative}
use Rattle.att_operands.proofs.SpelledIsRead.{leaf_mark, prefix_mark, opens_mark, operator_mark}

-- the mark is `+` or `-`
abbrev pub is_sign : ℕ → Bool
is_sign mark = mark == 43 || mark == 45

-- no token is `@`, and the last one, before which a sign stands or does not, is no sign
abbrev pub ends_well : Bool → List SpelledToken → Bool
ends_well signed [] = not signed
ends_well signed (token ∷ rest) = cond (mark_by (Some token) == 64) false (ends_well (is_sign (mark_by (Some token))) rest)

any_sign : (signed : Bool) (text : List SpelledToken) → ends_well true text ≡ true → ends_well signed text ≡ true
any_sign true text is = is
any_sign false [] is = cc
any_sign false (token ∷ rest) is = is

one_more : (signed : Bool) (token : SpelledToken) (rest : List SpelledToken) → (mark_by (Some token) == 64) ≡ false → ends_well true rest ≡ true → ends_well signed (token ∷ rest) ≡ true
one_more signed token rest apart is = rw apart (any_sign (is_sign (mark_by (Some token))) rest is)

joined_by : (b : Bool) (one other : Bool) → (one ≡ true → other ≡ true) → cond b false one ≡ true → cond b false other ≡ true
joined_by true one other more is = is
joined_by false one other more is = more is

both_end : (signed : Bool) (before rest : List SpelledToken) → ends_well signed before ≡ true → ends_well false rest ≡ true → ends_well signed (before ++ rest) ≡ true
both_end true [] rest is more = cc
both_end false [] rest is more = more
both_end signed (token ∷ before) rest is more =
    joined_by (mark_by (Some token) == 64) (ends_well (is_sign (mark_by (Some token))) before) (ends_well (is_sign (mark_by (Some token))) (before ++ rest))
    (λ left. both_end (is_sign (mark_by (Some token))) before rest left more) is

closes_mark : (token : SpelledToken) → closes token ≡ true → mark_by (Some token) ≡ 41
unfolding mark_by
closes_mark token is = ap mark_byte ((bytes_decides (mark_of token) (41 ∷ [])).0 is)

either_apart : (mark : ℕ) → (mark ≡ 45) ⊎ (mark ≡ 126) → (mark == 64) ≡ false
either_apart mark (inl is) = rw is refl
either_apart mark (inr is) = rw is refl

-- a text ends so
pub text_ends : (most : ℕ) (tree : Tree) (level : ℕ) (text : List SpelledToken) → Writes most tree level text → ends_well true text ≡ true
text_ends _ _ _ _ (leaf most level tree token is) = let mark = leaf_mark token tree is in rw mark refl
text_ends _ _ _ _ (prefixed most level op operand token text is inside) =
    one_more true token text (either_apart (mark_by (Some token)) (prefix_mark token op is)) (text_ends most operand prefix_level text inside)
text_ends _ _ _ _ (between most level op left right token before behind text low is one other stands) =
    rw stands (both_end true before (token ∷ behind) (text_ends most left (level_of op) before one)
    (one_more false token behind (operator_mark token op is) (text_ends most right (level_of op + 1) behind other)))
text_ends _ _ _ _ (enclosed most level tree opening closing inside text starts stops inner stands) =
    let first = opens_mark opening starts in
    let last = closes_mark closing stops in
    let ended : ends_well false (closing ∷ []) ≡ true = rw last refl in
    rw (stands, first) (both_end false inside (closing ∷ []) (any_sign false inside (text_ends most tree 1 inside inner)) ended)

-- a text that begins with what leads a name goes on behind it
pub record Parted (front rest text behind : List SpelledToken) : Type 0 where
  pub more : List SpelledToken
  pub is : text ≡ front ++ more
  pub left : rest ≡ more ++ behind
  pub some : 0 < length more

plus_bytes : (bytes : List ℕ) → mark_byte bytes ≡ 43 → is_some (operator_by bytes) ≡ true
unfolding operator_by operator_byte
plus_bytes [] is = cc
plus_bytes (byte ∷ []) is = rw is refl
plus_bytes (first ∷ second ∷ others) is = cc

-- `+` is an operator
plus_follows : (plus : SpelledToken) (rest : List SpelledToken) → IsMark 43 plus → operator_follows (plus ∷ rest) ≡ true
unfolding mark_by
plus_follows plus rest is = plus_bytes (mark_of plus) is

cond_else : (b x : Bool) → cond b false x ≡ true → x ≡ true
cond_else true x is = cc
cond_else false x is = is

cond_not : (b x : Bool) → cond b false x ≡ true → b ≡ false
cond_not true x is = cc
cond_not false x is = refl

tail_ends : (signed : Bool) (token : SpelledToken) (rest : List SpelledToken) → ends_well signed (token ∷ rest) ≡ true → ends_well (is_sign (mark_by (Some token))) rest ≡ true
tail_ends signed token rest is = cond_else (mark_by (Some token) == 64) (ends_well (is_sign (mark_by (Some token))) rest) is

-- behind a sign a text goes on
sign_goes : (signed : Bool) (token : SpelledToken) (mark : ℕ) (more : List SpelledToken) → IsMark mark token → is_sign mark ≡ true → ends_well signed (token ∷ more) ≡ true → 0 < length more
sign_goes signed token mark [] is sign ends =
    absurd (let tail = tail_ends signed token [] ends in let signs : is_sign (mark_by (Some token)) ≡ true = rw is sign in let bad : ends_well (is_sign (mark_by (Some token))) [] ≡ false = rw signs refl in cc)
sign_goes signed token mark (next ∷ more) is sign ends = omega arith

text_goes : (text : List SpelledToken) → ends_well true text ≡ true → 0 < length text
text_goes [] is = cc
text_goes (token ∷ rest) is = omega arith

plus_behind : (plus : SpelledToken) (rest behind : List SpelledToken) → IsMark 43 plus → operator_follows behind ≡ false → behind ≡ plus ∷ rest → ⊥
plus_behind plus rest behind is none same = let follows : operator_follows behind ≡ true = ap operator_follows same ∙ plus_follows plus rest is in cc

tail_is : {first other : SpelledToken} {one two : List SpelledToken} → first ∷ one ≡ other ∷ two → one ≡ two
tail_is h = cc

head_is : {first other : SpelledToken} {one two : List SpelledToken} → first ∷ one ≡ other ∷ two → first ≡ other
head_is h = cc

pub parted : (front rest text behind : List SpelledToken) → LeadsName front → ends_well true text ≡ true → operator_follows behind ≡ false → text ++ behind ≡ front ++ rest → Parted front rest text behind
parted _ rest text behind nothing ends none is = record { more = text; is = refl; left = sym is; some = text_goes text ends }
parted _ rest [] behind (number digits plus numbers marks) ends none is = cc
parted _ rest (t ∷ []) behind (number digits plus numbers marks) ends none is = absurd (plus_behind plus rest behind marks none (tail_is is))
parted _ rest (t ∷ u ∷ more) behind (number digits plus numbers marks) ends none is =
    let first = head_is is in
    let second = head_is (tail_is is) in
    let tail = tail_ends true t (u ∷ more) ends in
    record {
      more = more;
      is = rw (first, second) refl;
      left = sym (tail_is (tail_is is));
      some = sign_goes (is_sign (mark_by (Some t))) u 43 more (ap (λ (v : SpelledToken). mark_by (Some v)) second ∙ marks) refl tail;
    }
parted _ rest [] behind (negative minus digits plus signs numbers marks) ends none is = cc
parted _ rest (t ∷ []) behind (negative minus digits plus signs numbers marks) ends none is =
    absurd (let goes = sign_goes true t 45 [] (ap (λ (v : SpelledToken). mark_by (Some v)) (head_is is) ∙ signs) refl ends in omega arith)
parted _ rest (t ∷ u ∷ []) behind (negative minus digits plus signs numbers marks) ends none is = absurd (plus_behind plus rest behind marks none (tail_is (tail_is is)))
parted _ rest (t ∷ u ∷ v ∷ more) behind (negative minus digits plus signs numbers marks) ends none is =
    let first = head_is is in
    let second = head_is (tail_is is) in
    let third = head_is (tail_is (tail_is is)) in
    let tail = tail_ends (is_sign (mark_by (Some t))) u (v ∷ more) (tail_ends true t (u ∷ v ∷ more) ends) in
    record {
      more = more;
      is = rw (first, second, third) refl;
      left = sym (tail_is (tail_is (tail_is is)));
      some = sign_goes (is_sign (mark_by (Some u))) v 43 more (ap (λ (w : SpelledToken). mark_by (Some w)) third ∙ marks) refl tail;
    }

later_ends : (signed : Bool) (front : List SpelledToken) (name : SpelledToken) (more : List SpelledToken) → ends_well signed (front ++ (name ∷ more)) ≡ true → ends_well true (name ∷ more) ≡ true
later_ends signed [] name more ends = ends
later_ends signed (token ∷ front) name more ends = later_ends (is_sign (mark_by (Some token))) front name more (tail_ends signed token (front ++ (name ∷ more)) ends)

more_apart : (signed : Bool) (more behind : List SpelledToken) → ends_well signed more ≡ true → (mark_at behind 0 == 64) ≡ false → (mark_at (more ++ behind) 0 == 64) ≡ false
more_apart signed [] behind ends apart = apart
more_apart signed (token ∷ more) behind ends apart = cond_not (mark_by (Some token) == 64) (ends_well (is_sign (mark_by (Some token))) more) ends

-- no `@` stands behind a name in a text
pub name_apart : (front : List SpelledToken) (name : SpelledToken) (more behind : List SpelledToken) → ends_well true (front ++ (name ∷ more)) ≡ true → (mark_at behind 0 == 64) ≡ false
    → (mark_at (more ++ behind) 0 == 64) ≡ false
name_apart front name more behind ends apart =
    more_apart (is_sign (mark_by (Some name))) more behind (tail_ends true name more (later_ends true front name more ends)) apart
