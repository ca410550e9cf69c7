-- The place of the name that a suffix belongs to.
use Rattle.std.proofs.Common.{◌≡◌, ℕ, zero, suc, ◌+◌, ◌≤◌, ◌<◌, ◌==◌, Bool, true, false, cond, List, [], ◌∷◌, ◌++◌, Option, Some, None, length, drop, take, slice_get, refl, sym, ap, ◌∙◌, inl, inr, arith}
use Rattle.std.proofs.lemmas.Bool.{cases_Bool, eqb-true}
use Rattle.asm_base.specs.Tokens.{SpelledToken}
use Rattle.asm_base.specs.declared.tokens.TokenKind.{TokenKind}
use Rattle.asm_base.specs.declared.tokens.TokenKind.TheVariants as kind
use Rattle.x86_insn.specs.declared.amounts.Suffix.{Suffix}
use Rattle.att_operands.specs.Marks.{mark_by, mark_at}
use Rattle.att_operands.specs.Values.{names_by, suffix_by, numbers_by, adds_at, before_name, suffixed_name, suffix_behind, suffix_at, without_suffix}
use Rattle.att_operands.specs.Spells.{LeadsName, nothing, number, negative}
use Rattle.att_operands.proofs.SpelledIsRead.{stands_at}
use Rattle.att_operands.proofs.ReadAddresses.{Marked, marked, front_is}

number_kind : (kind : TokenKind) (bytes : List ℕ) (start : ℕ) → (let token : SpelledToken = record { kind = kind; bytes = bytes; start = start } in numbers_by (Some token) ≡ true → mark_by (Some token) ≡ 0)
unfolding numbers_by mark_by
number_kind kind.Name bytes start is = refl
number_kind kind.Digits bytes start is = refl
number_kind kind.Character bytes start is = refl
number_kind kind.String bytes start is = refl
number_kind kind.Operator bytes start is = cc
number_kind kind.Other bytes start is = refl

-- a number is no mark
pub number_mark : (found : Option SpelledToken) → numbers_by found ≡ true → mark_by found ≡ 0
unfolding mark_by
number_mark None is = refl
number_mark (Some token) is = number_kind token.kind token.bytes token.start is

-- a number and a `+` stand there
pub record Added (tokens : List SpelledToken) (at : ℕ) : Type 0 where
  pub digits : SpelledToken
  pub plus : Marked tokens (at + 1) 43
  pub there : slice_get tokens at ≡ Some digits
  pub numbers : numbers_by (Some digits) ≡ true

added_digits : (tokens : List SpelledToken) (at : ℕ) (found : Option SpelledToken) → Marked tokens (at + 1) 43 → slice_get tokens at ≡ found → numbers_by found ≡ true → Added tokens at
unfolding numbers_by
added_digits tokens at None plus there is = cc
added_digits tokens at (Some token) plus there is = record { digits = token; plus = plus; there = there; numbers = is }

added_by : (tokens : List SpelledToken) (at : ℕ) (b : Bool) → (mark_at tokens (at + 1) == 43) ≡ b → cond b (numbers_by (slice_get tokens at)) false ≡ true → Added tokens at
added_by tokens at false test is = cc
added_by tokens at true test is = added_digits tokens at (slice_get tokens at) (marked tokens (at + 1) 43 test refl) refl is

added : (tokens : List SpelledToken) (at : ℕ) → adds_at tokens at ≡ true → Added tokens at
added tokens at is = added_by tokens at (mark_at tokens (at + 1) == 43) refl is

-- What stands before the name, by its length.
pub data Before : (tokens : List SpelledToken) (at n : ℕ) → Type 0 where
  none_before : (tokens : List SpelledToken) (at : ℕ) → Before tokens at 0
  number_before : (tokens : List SpelledToken) (at : ℕ) → Added tokens at → Before tokens at 2
  negative_before : (tokens : List SpelledToken) (at : ℕ) → Marked tokens at 45 → Added tokens (at + 1) → Before tokens at 3

before_by : (tokens : List SpelledToken) (at : ℕ) (a m b : Bool) → adds_at tokens at ≡ a → (mark_at tokens at == 45) ≡ m → adds_at tokens (at + 1) ≡ b → Before tokens at (cond a 2 (cond m (cond b 3 0) 0))
before_by tokens at true m b adds minus later = number_before tokens at (added tokens at adds)
before_by tokens at false true true adds minus later = negative_before tokens at (marked tokens at 45 minus refl) (added tokens (at + 1) later)
before_by tokens at false true false adds minus later = none_before tokens at
before_by tokens at false false b adds minus later = none_before tokens at

pub before_is : (tokens : List SpelledToken) (at : ℕ) → Before tokens at (before_name tokens at)
unfolding before_name
before_is tokens at = before_by tokens at (adds_at tokens at) (mark_at tokens at == 45) (adds_at tokens (at + 1)) refl refl refl

-- what stands before the name, as the tokens that may
pub record FrontRead (tokens : List SpelledToken) (at n : ℕ) : Type 0 where
  pub front : List SpelledToken
  pub writes : LeadsName front
  pub is : n ≡ length front
  pub stands : drop at tokens ≡ front ++ drop (at + n) tokens

front_by : (tokens : List SpelledToken) (at n : ℕ) → Before tokens at n → FrontRead tokens at n
front_by _ _ _ (none_before tokens at) = record { front = []; writes = nothing; is = refl; stands = (let same : at + 0 ≡ at = omega arith in rw same refl) }
front_by _ _ _ (number_before tokens at adds) =
    let one = front_is tokens at adds.digits adds.there in
    let two = front_is tokens (at + 1) adds.plus.token adds.plus.there in
    let same : (at + 1) + 1 ≡ at + 2 = omega arith in
    record {
      front = adds.digits ∷ adds.plus.token ∷ [];
      writes = number adds.digits adds.plus.token adds.numbers adds.plus.is;
      is = refl;
      stands = one ∙ ap (λ (ts : List SpelledToken). adds.digits ∷ ts) (two ∙ ap (λ (n : ℕ). adds.plus.token ∷ drop n tokens) same);
    }
front_by _ _ _ (negative_before tokens at minus adds) =
    let zero_is = front_is tokens at minus.token minus.there in
    let one = front_is tokens (at + 1) adds.digits adds.there in
    let two = front_is tokens ((at + 1) + 1) adds.plus.token adds.plus.there in
    let same : ((at + 1) + 1) + 1 ≡ at + 3 = omega arith in
    record {
      front = minus.token ∷ adds.digits ∷ adds.plus.token ∷ [];
      writes = negative minus.token adds.digits adds.plus.token minus.is adds.numbers adds.plus.is;
      is = refl;
      stands = zero_is ∙ ap (λ (ts : List SpelledToken). minus.token ∷ ts) (one ∙ ap (λ (ts : List SpelledToken). adds.digits ∷ ts) (two ∙ ap (λ (n : ℕ). adds.plus.token ∷ drop n tokens) same));
    }

pub front_read : (tokens : List SpelledToken) (at : ℕ) → FrontRead tokens at (before_name tokens at)
front_read tokens at = front_by tokens at (before_name tokens at) (before_is tokens at)

-- a mark is no number
pub unnumbered : (found : Option SpelledToken) → (mark_by found == 0) ≡ false → numbers_by found ≡ false
unnumbered found some = elim (cases_Bool (numbers_by found)) [
  | inl t ↦ absurd (let mark = number_mark found t in let bad : (mark_by found == 0) ≡ true = rw mark refl in cc)
  | inr f ↦ f
]

-- no number leads the name where the second token is no `+` and no number
marked_first : (tokens : List SpelledToken) (at n : ℕ) → Before tokens at n → (mark_at tokens (at + 1) == 43) ≡ false → numbers_by (slice_get tokens (at + 1)) ≡ false → n ≡ 0
marked_first _ _ _ (none_before tokens at) unadded some = refl
marked_first _ _ _ (number_before tokens at adds) unadded some =
    absurd (let mark : mark_at tokens (at + 1) ≡ 43 = ap mark_by adds.plus.there ∙ adds.plus.is in let bad : (mark_at tokens (at + 1) == 43) ≡ true = rw mark refl in cc)
marked_first _ _ _ (negative_before tokens at minus adds) unadded some =
    absurd (let bad : numbers_by (slice_get tokens (at + 1)) ≡ true = ap numbers_by adds.there ∙ adds.numbers in cc)

pub first_before : (tokens : List SpelledToken) (at : ℕ) → mark_at tokens (at + 1) ≡ 64 → before_name tokens at ≡ 0
first_before tokens at is = marked_first tokens at (before_name tokens at) (before_is tokens at) (rw is refl) (unnumbered (slice_get tokens (at + 1)) (rw is refl))

pub first_name : (tokens : List SpelledToken) (at : ℕ) → mark_at tokens (at + 1) ≡ 64 → suffixed_name tokens at ≡ at
first_name tokens at is =
    let none = first_before tokens at is in
    omega arith

pub first_suffix : (tokens : List SpelledToken) (at : ℕ) → mark_at tokens (at + 1) ≡ 64 → suffix_behind tokens at ≡ suffix_at tokens at
first_suffix tokens at is = sym (ap (suffix_behind tokens) (first_name tokens at is))

pub no_mark : (tokens : List SpelledToken) (name : ℕ) → (mark_at tokens (name + 1) == 64) ≡ false → suffix_behind tokens name ≡ None
no_mark tokens name none = rw none refl

-- no suffix where neither of the places has its mark
absent_by : (tokens : List SpelledToken) (at n place : ℕ) → Before tokens at n → (mark_at tokens (at + 1) == 64) ≡ false
    → ((mark_at tokens (at + 1) == 43) ≡ true → place ≡ at + 3) → ((mark_at tokens (at + 1) == 43) ≡ false → place ≡ at + 4)
    → (mark_at tokens place == 64) ≡ false → suffix_behind tokens (at + n) ≡ None
absent_by _ _ _ place (none_before tokens at) first three four none = let same : at + 0 ≡ at = omega arith in rw same (no_mark tokens at first)
absent_by _ _ _ place (number_before tokens at adds) first three four none =
    let mark : mark_at tokens (at + 1) ≡ 43 = ap mark_by adds.plus.there ∙ adds.plus.is in
    let here : place ≡ at + 3 = three (rw mark refl) in
    let same : place ≡ (at + 2) + 1 = omega arith in
    no_mark tokens (at + 2) (rw same at none)
absent_by _ _ _ place (negative_before tokens at minus adds) first three four none =
    let mark : mark_at tokens (at + 1) ≡ 0 = ap mark_by adds.there ∙ number_mark (Some adds.digits) adds.numbers in
    let here : place ≡ at + 4 = four (rw mark refl) in
    let same : place ≡ (at + 3) + 1 = omega arith in
    no_mark tokens (at + 3) (rw same at none)

pub absent_suffix : (tokens : List SpelledToken) (at place : ℕ) → (mark_at tokens (at + 1) == 64) ≡ false
    → ((mark_at tokens (at + 1) == 43) ≡ true → place ≡ at + 3) → ((mark_at tokens (at + 1) == 43) ≡ false → place ≡ at + 4)
    → (mark_at tokens place == 64) ≡ false → suffix_at tokens at ≡ None
absent_suffix tokens at place first three four none = absent_by tokens at (before_name tokens at) place (before_is tokens at) first three four none

pub none_there : (tokens : List SpelledToken) (at : ℕ) → length tokens ≤ at → slice_get tokens at ≡ None
none_there [] at within = refl
none_there (token ∷ tokens) zero within = absurd (omega arith)
none_there (token ∷ tokens) (suc at) within = none_there tokens at (omega arith)

both_none : (a b : Bool) (found : Option Suffix) → found ≡ None → cond a (cond b found None) None ≡ None
both_none true true found is = is
both_none true false found is = refl
both_none false b found is = refl

no_word : (tokens : List SpelledToken) (name : ℕ) → length tokens ≤ name + 2 → suffix_behind tokens name ≡ None
unfolding suffix_by
no_word tokens name few =
    let none = none_there tokens (name + 2) few in
    both_none (mark_at tokens (name + 1) == 64) (names_by (slice_get tokens name)) (suffix_by (slice_get tokens (name + 2))) (rw none refl)

few_by : (tokens : List SpelledToken) (at n : ℕ) → Before tokens at n → (mark_at tokens (at + 1) == 64) ≡ false → length tokens < at + 5 → suffix_behind tokens (at + n) ≡ None
few_by _ _ _ (none_before tokens at) first few = let same : at + 0 ≡ at = omega arith in rw same (no_mark tokens at first)
few_by _ _ _ (number_before tokens at adds) first few = no_word tokens (at + 2) (omega arith)
few_by _ _ _ (negative_before tokens at minus adds) first few = no_word tokens (at + 3) (omega arith)

-- and none where too few tokens stand
pub few_suffix : (tokens : List SpelledToken) (at : ℕ) → (mark_at tokens (at + 1) == 64) ≡ false → length tokens < at + 5 → suffix_at tokens at ≡ None
few_suffix tokens at first few = few_by tokens at (before_name tokens at) (before_is tokens at) first few

other_mark : (mark due byte : ℕ) → mark ≡ due → (mark ≡ byte → ⊥) → (due == byte) ≡ false
other_mark mark due byte is other = elim (cases_Bool (due == byte)) [
  | inl t ↦ absurd (other (is ∙ eqb-true due byte t))
  | inr f ↦ f
]

no_plus : (due : ℕ) → (due == 43) ≡ false → due ≡ 43 → ⊥
no_plus due other is = let same : (due == 43) ≡ true = rw is refl in cc

pub few_found : (tokens : List SpelledToken) (at mark : ℕ) → mark ≡ mark_at tokens (at + 1) → (mark ≡ 64 → ⊥) → length tokens < at + 5 → suffix_at tokens at ≡ None
few_found tokens at mark is other few = few_suffix tokens at (other_mark mark (mark_at tokens (at + 1)) 64 is other) few

pub absent_found : (tokens : List SpelledToken) (at mark place late : ℕ) → mark ≡ mark_at tokens (at + 1) → (mark ≡ 64 → ⊥) → (mark ≡ 43 → place ≡ at + 3) → ((mark ≡ 43 → ⊥) → place ≡ at + 4)
    → late ≡ mark_at tokens place → (late ≡ 64 → ⊥) → suffix_at tokens at ≡ None
absent_found tokens at mark place late is other three four there absent =
    absent_suffix tokens at place (other_mark mark (mark_at tokens (at + 1)) 64 is other)
    (λ added. three (is ∙ eqb-true (mark_at tokens (at + 1)) 43 added)) (λ unadded. four (λ same. no_plus (mark_at tokens (at + 1)) unadded (sym is ∙ same)))
    (other_mark late (mark_at tokens place) 64 there absent)

-- and none where the second token is none of its own
pub quiet_suffix : (tokens : List SpelledToken) (at : ℕ) → (mark_at tokens (at + 1) == 64) ≡ false → (mark_at tokens (at + 1) == 43) ≡ false
    → numbers_by (slice_get tokens (at + 1)) ≡ false → suffix_at tokens at ≡ None
quiet_suffix tokens at quiet unadded some =
    let none = marked_first tokens at (before_name tokens at) (before_is tokens at) unadded some in
    let name : at + before_name tokens at ≡ at = omega arith in
    ap (suffix_behind tokens) name ∙ no_mark tokens at quiet

-- the same, seen from the front of what is left at the place
pub same_before : (tokens : List SpelledToken) (at : ℕ) → before_name (drop at tokens) 0 ≡ before_name tokens at
unfolding before_name
same_before tokens at =
    let g0 : slice_get tokens at ≡ slice_get (drop at tokens) 0 = stands_at 0 tokens (drop at tokens) at at refl (omega arith) in
    let g1 : slice_get tokens (at + 1) ≡ slice_get (drop at tokens) 1 = stands_at 1 tokens (drop at tokens) at (at + 1) refl refl in
    let g2 : slice_get tokens ((at + 1) + 1) ≡ slice_get (drop at tokens) 2 = stands_at 2 tokens (drop at tokens) at ((at + 1) + 1) refl (omega arith) in
    rw (g0, g1, g2) refl

same_behind : (tokens : List SpelledToken) (at n name : ℕ) → name ≡ at + n → suffix_behind (drop at tokens) n ≡ suffix_behind tokens name
same_behind tokens at n name is =
    let g0 = stands_at n tokens (drop at tokens) at name refl is in
    let g1 = stands_at (n + 1) tokens (drop at tokens) at (name + 1) refl (omega arith) in
    let g2 = stands_at (n + 2) tokens (drop at tokens) at (name + 2) refl (omega arith) in
    rw (g0, g1, g2) refl

pub same_suffix : (tokens : List SpelledToken) (at : ℕ) → suffix_at (drop at tokens) 0 ≡ suffix_at tokens at
same_suffix tokens at = let same = same_before tokens at in same_behind tokens at (0 + before_name (drop at tokens) 0) (at + before_name tokens at) (omega arith)

same_left : (tokens : List SpelledToken) (at n name : ℕ) → name ≡ at + n
    → drop at (take (name + 1) tokens ++ drop (name + 3) tokens) ≡ take (n + 1) (drop at tokens) ++ drop (n + 3) (drop at tokens)
same_left tokens zero n name is = let same : name ≡ n = omega arith in rw same refl
same_left [] (suc at) n name is =
    let one : name + 1 ≡ suc name = omega arith in
    let three : name + 3 ≡ suc (name + 2) = omega arith in
    let one_left : n + 1 ≡ suc n = omega arith in
    let three_left : n + 3 ≡ suc (n + 2) = omega arith in
    rw (one, three, one_left, three_left) refl
same_left (token ∷ tokens) (suc at) n zero is = absurd (omega arith)
same_left (token ∷ tokens) (suc at) n (suc name) is =
    let one : suc name + 1 ≡ suc (name + 1) = omega arith in
    let three : suc name + 3 ≡ suc (name + 3) = omega arith in
    rw (one, three) (same_left tokens at n name (omega arith))

pub same_expression : (tokens : List SpelledToken) (at : ℕ) → drop at (without_suffix tokens (suffixed_name tokens at)) ≡ without_suffix (drop at tokens) (suffixed_name (drop at tokens) 0)
unfolding without_suffix
same_expression tokens at = let same = same_before tokens at in same_left tokens at (0 + before_name (drop at tokens) 0) (at + before_name tokens at) (omega arith)
