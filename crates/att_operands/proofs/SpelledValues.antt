-- Values that are spelled are read.
use Rattle.std.proofs.Common.{◌≡◌, ℕ, suc, ◌+◌, ◌-◌, ◌<◌, ◌==◌, ◌||◌, Bool, true, false, cond, List, [], ◌∷◌, ◌++◌, Some, None, Result, Ok, Err, length, drop, slice_get, refl, sym, ap, ◌∙◌, arith, length-append, length-drop, append_assoc}
use Rattle.std.proofs.lemmas.Bool.{eqb-true}
use Rattle.asm_base.specs.Tokens.{SpelledToken}
use Rattle.asm_base.specs.declared.tokens.TokenKind.{TokenKind}
use Rattle.asm_base.specs.declared.tokens.TokenKind.TheVariants as kind
use Rattle.asm_expr.specs.Trees.{Tree}
use Rattle.expr_texts.specs.Operators.{mark_of, operator_by, operator_byte}
use Rattle.expr_texts.specs.Reading.{reading, reading_of}
use Rattle.expr_texts.specs.Grammar.{IsTextOf, operator_follows}
use Rattle.att_operands.specs.declared.faults.OperandCause.{OperandCause}
use Rattle.att_operands.specs.declared.faults.OperandCause.TheVariants.{BadOperand}
use Rattle.att_operands.specs.Marks.{mark_byte, mark_by, mark_at, ends_by, begins_by}
use Rattle.att_operands.specs.Values.{ValueText, ReadText, names_by, numbers_by, before_name, suffix_behind, suffix_at, without_suffix, as_value, value_with, value_at, begun_at}
use Rattle.att_operands.specs.OperandTexts.{opens_address}
use Rattle.att_operands.specs.Spells.{IsMark, LeadsName, nothing, number, negative, WritesValue, plain, suffixed, ends}
use Rattle.att_operands.proofs.FrontReadings.{TextsAreRead, text_at}
use Rattle.att_operands.proofs.SuffixLemmas.{joined_front}
use Rattle.att_operands.proofs.SuffixPlaces.{number_mark, FrontRead, front_read, first_before, no_mark}
use Rattle.att_operands.proofs.TextEnds.{ends_well, text_ends, parted, name_apart}
use Rattle.att_operands.proofs.SpelledIsRead.{stands_at, leads, leads_begin, apart_from, first_leads, opened_leads, first_begins, text_some}
use Rattle.att_operands.proofs.SpelledOperands.{token_is, mark_is, left_behind}

-- what stands behind a value: no operator and no `@`
pub record IsQuiet (behind : List SpelledToken) : Type 0 where
  pub stops : operator_follows behind ≡ false
  pub apart : (mark_at behind 0 == 64) ≡ false

no_operator : (bytes : List ℕ) (mark : ℕ) → mark_byte bytes ≡ mark → (mark == 0) ≡ false → operator_byte mark ≡ None → operator_by bytes ≡ None
unfolding operator_by
no_operator [] mark is some none = absurd (let zero_is : mark ≡ 0 = sym is in let bad : (mark == 0) ≡ true = rw zero_is refl in cc)
no_operator (byte ∷ []) mark is some none = rw is none
no_operator (first ∷ second ∷ []) mark is some none = absurd (let zero_is : mark ≡ 0 = sym is in let bad : (mark == 0) ≡ true = rw zero_is refl in cc)
no_operator (first ∷ second ∷ third ∷ others) mark is some none = refl

marked_quiet : (token : SpelledToken) (rest : List SpelledToken) (mark : ℕ) → IsMark mark token → (mark == 0) ≡ false → operator_byte mark ≡ None → (mark == 64) ≡ false → IsQuiet (token ∷ rest)
unfolding mark_by
marked_quiet token rest mark is some none other =
    let not_one = no_operator (mark_of token) mark is some none in
    record { stops = rw not_one refl; apart = rw is other }

-- an operand ends behind the value
pub ended_quiet : (behind : List SpelledToken) → ends behind ≡ true → IsQuiet behind
unfolding ends_by mark_by operator_byte
ended_quiet [] is = record { stops = refl; apart = refl }
ended_quiet (token ∷ rest) is = marked_quiet token rest 44 (eqb-true (mark_by (Some token)) 44 is) refl refl refl

-- a parenthesis opens behind the value
pub opened_quiet : (token : SpelledToken) (rest : List SpelledToken) → IsMark 40 token → IsQuiet (token ∷ rest)
unfolding operator_byte
opened_quiet token rest is = marked_quiet token rest 40 is refl refl refl

-- and no parenthesis opens where an operand ends
pub ended_unopened : (behind : List SpelledToken) → ends behind ≡ true → (mark_at behind 0 == 40) ≡ false
unfolding ends_by mark_by
ended_unopened [] is = refl
ended_unopened (token ∷ rest) is = let mark : mark_by (Some token) ≡ 44 = eqb-true (mark_by (Some token)) 44 is in rw mark refl

name_kind : (kind : TokenKind) (bytes : List ℕ) (start : ℕ) → (let token : SpelledToken = record { kind = kind; bytes = bytes; start = start } in names_by (Some token) ≡ true → mark_by (Some token) ≡ 0)
unfolding names_by mark_by
name_kind kind.Name bytes start is = refl
name_kind kind.Digits bytes start is = refl
name_kind kind.Character bytes start is = refl
name_kind kind.String bytes start is = refl
name_kind kind.Operator bytes start is = cc
name_kind kind.Other bytes start is = refl

-- a name is no mark
name_mark : (token : SpelledToken) → names_by (Some token) ≡ true → mark_by (Some token) ≡ 0
name_mark token is = name_kind token.kind token.bytes token.start is

-- the first token of a value with a suffix
record FirstToken (text : List SpelledToken) : Type 0 where
  pub token : SpelledToken
  pub there : slice_get text 0 ≡ Some token
  pub leads_here : leads (mark_by (Some token)) ≡ true
  pub unopened_here : (mark_by (Some token) == 40) ≡ false

front_first : (front : List SpelledToken) (name : SpelledToken) (more : List SpelledToken) → LeadsName front → names_by (Some name) ≡ true → FirstToken (front ++ (name ∷ more))
front_first _ name more nothing named = let mark = name_mark name named in record { token = name; there = refl; leads_here = rw mark refl; unopened_here = rw mark refl }
front_first _ name more (number digits plus numbers marks) named =
    let mark = number_mark (Some digits) numbers in record { token = digits; there = refl; leads_here = rw mark refl; unopened_here = rw mark refl }
front_first _ name more (negative minus digits plus signs numbers marks) named = record { token = minus; there = refl; leads_here = rw signs refl; unopened_here = rw signs refl }

-- a value with a suffix among other tokens
with_behind : (front : List SpelledToken) (name mark word : SpelledToken) (rest text behind : List SpelledToken) → text ≡ front ++ (name ∷ mark ∷ word ∷ rest)
    → text ++ behind ≡ front ++ (name ∷ mark ∷ word ∷ (rest ++ behind))
with_behind front name mark word rest text behind is = ap (λ (ts : List SpelledToken). ts ++ behind) is ∙ append_assoc front (name ∷ mark ∷ word ∷ rest) behind

-- the first token of a value may begin an expression
pub value_leads : (value : ValueText) (text behind : List SpelledToken) → WritesValue value text → leads (mark_at (text ++ behind) 0) ≡ true
value_leads _ text behind (plain tree _ is) = first_leads 64 tree 1 text behind is.writes
value_leads _ text behind (suffixed tree suffix name mark word front rest _ led named marked words is written) =
    let first = front_first front name (mark ∷ word ∷ (rest ++ behind)) led named in
    let there = first.there in
    rw (with_behind front name mark word rest text behind written, there) first.leads_here

-- no value begins with the parenthesis of an address
unopened : (one other : Bool) (mark : ℕ) → (one ≡ true → leads mark ≡ true) → cond one (mark == 37 || mark == 44) false ≡ false
unopened false other mark is = refl
unopened true other mark is = rw (apart_from 37 mark refl (is refl), apart_from 44 mark refl (is refl)) refl

pub value_unopened : (tokens : List SpelledToken) (at : ℕ) (value : ValueText) (text behind : List SpelledToken) → WritesValue value text → drop at tokens ≡ text ++ behind → opens_address tokens at ≡ false
value_unopened tokens at _ text behind (plain tree _ is) stands =
    let here : mark_at tokens at ≡ mark_at (text ++ behind) 0 = ap mark_by (stands_at 0 tokens (text ++ behind) at at stands (omega arith)) in
    let next : mark_at tokens (at + 1) ≡ mark_at (text ++ behind) 1 = ap mark_by (stands_at 1 tokens (text ++ behind) at (at + 1) stands refl) in
    rw (here, next) (unopened (mark_at (text ++ behind) 0 == 40) true (mark_at (text ++ behind) 1) (λ opens. opened_leads 64 tree 1 text behind is.writes opens))
value_unopened tokens at _ text behind (suffixed tree suffix name mark word front rest _ led named marked words is written) stands =
    let first = front_first front name (mark ∷ word ∷ (rest ++ behind)) led named in
    let here = token_is 0 tokens (front ++ (name ∷ mark ∷ word ∷ (rest ++ behind))) at at first.token (stands ∙ with_behind front name mark word rest text behind written) (omega arith) first.there in
    let none = first.unopened_here in
    rw (here, none) refl

-- the value that was read
read_value : ValueText → ℕ → Result ReadText OperandCause
read_value value next = Ok (record { text = value; next = next })

-- no suffix stands in a text without one
name_quiet : (front more text behind : List SpelledToken) → ends_well true text ≡ true → text ≡ front ++ more → 0 < length more → (mark_at behind 0 == 64) ≡ false
    → (mark_at (more ++ behind) 1 == 64) ≡ false
name_quiet front [] text behind ends is some apart = absurd (omega arith)
name_quiet front (name ∷ more) text behind ends is some apart = name_apart front name more behind (sym (ap (ends_well true) is) ∙ ends) apart

plain_quiet : (tokens : List SpelledToken) (at n : ℕ) (tree : Tree) (text behind : List SpelledToken) → FrontRead tokens at n → IsTextOf tree text → drop at tokens ≡ text ++ behind → IsQuiet behind
    → suffix_behind tokens (at + n) ≡ None
plain_quiet tokens at n tree text behind led is stands quiet =
    let ends = text_ends 64 tree 1 text is.writes in
    let split = parted led.front (drop (at + n) tokens) text behind led.writes ends quiet.stops (sym stands ∙ led.stands) in
    let apart = name_quiet led.front split.more text behind ends split.is split.some quiet.apart in
    let next : mark_at tokens ((at + n) + 1) ≡ mark_at (split.more ++ behind) 1 = ap mark_by (stands_at 1 tokens (split.more ++ behind) (at + n) ((at + n) + 1) split.left refl) in
    no_mark tokens (at + n) (rw next apart)

-- so many tokens, by what stands there
abbrev count_before : Bool → Bool → Bool → ℕ
count_before adds minus later = cond adds 2 (cond minus (cond later 3 0) 0)

negative_three : (first minus third : ℕ) (one two : Bool) → first ≡ 0 → minus ≡ 45 → third ≡ 43 → two ≡ true
    → count_before (cond (first == 43) one false) (minus == 45) (cond (third == 43) two false) ≡ 3
negative_three first minus third one two a b c d = rw (a, b, c, d) refl

-- what is written before the name is what stands before it
written_before : (tokens : List SpelledToken) (at : ℕ) (front : List SpelledToken) (name mark : SpelledToken) (more : List SpelledToken) → LeadsName front → IsMark 64 mark
    → drop at tokens ≡ front ++ (name ∷ mark ∷ more) → before_name tokens at ≡ length front
unfolding before_name
written_before tokens at _ name mark more nothing marked stands =
    first_before tokens at (mark_is tokens (at + 1) 64 mark (token_is 1 tokens (name ∷ mark ∷ more) at (at + 1) mark stands refl refl) marked)
written_before tokens at _ name mark more (number digits plus numbers marks) marked stands =
    let text = digits ∷ plus ∷ name ∷ mark ∷ more in
    let g0 = token_is 0 tokens text at at digits stands (omega arith) refl in
    let m1 = mark_is tokens (at + 1) 43 plus (token_is 1 tokens text at (at + 1) plus stands refl refl) marks in
    rw (m1, g0, numbers) refl
written_before tokens at _ name mark more (negative minus digits plus signs numbers marks) marked stands =
    let text = minus ∷ digits ∷ plus ∷ name ∷ mark ∷ more in
    let m0 = mark_is tokens at 45 minus (token_is 0 tokens text at at minus stands (omega arith) refl) signs in
    let g1 = token_is 1 tokens text at (at + 1) digits stands refl refl in
    let m1 : mark_at tokens (at + 1) ≡ 0 = ap mark_by g1 ∙ number_mark (Some digits) numbers in
    let m2 = mark_is tokens ((at + 1) + 1) 43 plus (token_is 2 tokens text at ((at + 1) + 1) plus stands (omega arith) refl) marks in
    negative_three (mark_at tokens (at + 1)) (mark_at tokens at) (mark_at tokens ((at + 1) + 1)) (numbers_by (slice_get tokens at)) (numbers_by (slice_get tokens (at + 1))) m1 m0 m2 (ap numbers_by g1 ∙ numbers)

behind_front : (front more : List SpelledToken) (k : ℕ) → slice_get (front ++ more) (length front + k) ≡ slice_get more k
behind_front [] more k = let same : 0 + k ≡ k = omega arith in rw same refl
behind_front (token ∷ front) more k = let next : length (token ∷ front) + k ≡ suc (length front + k) = omega arith in rw next (behind_front front more k)

drop_front : (front more : List SpelledToken) (k : ℕ) → drop (length front + k) (front ++ more) ≡ drop k more
drop_front [] more k = let same : 0 + k ≡ k = omega arith in rw same refl
drop_front (token ∷ front) more k = let next : length (token ∷ front) + k ≡ suc (length front + k) = omega arith in rw next (drop_front front more k)

-- a value that is written is read
pub value_reads : TextsAreRead → (tokens : List SpelledToken) (at : ℕ) (value : ValueText) (text behind : List SpelledToken) → WritesValue value text → drop at tokens ≡ text ++ behind → IsQuiet behind
    → value_at tokens at ≡ Ok (record { text = value; next = at + length text })
unfolding value_at read_value
value_reads text_is_read tokens at _ text behind (plain tree _ is) stands quiet =
    let suffix : suffix_at tokens at ≡ None = plain_quiet tokens at (before_name tokens at) tree text behind (front_read tokens at) is stands quiet in
    let reads = text_at text_is_read tokens at (at + length text) tree text behind stands is quiet.stops refl in
    ap (value_with tokens at) suffix
    ∙ ap (as_value None 0) reads
    ∙ ap (read_value (record { tree = tree; suffix = None })) (omega arith)
value_reads text_is_read tokens at _ text behind (suffixed tree suffix name mark word front rest _ led named marked words is written) stands quiet =
    let n = length front in
    let more = name ∷ mark ∷ word ∷ (rest ++ behind) in
    let whole : drop at tokens ≡ front ++ more = stands ∙ with_behind front name mark word rest text behind written in
    let before = written_before tokens at front name mark (word ∷ (rest ++ behind)) led marked whole in
    let g0 = stands_at (n + 0) tokens (front ++ more) at (at + n) whole (omega arith) ∙ behind_front front more 0 in
    let g1 = stands_at (n + 1) tokens (front ++ more) at ((at + n) + 1) whole (omega arith) ∙ behind_front front more 1 in
    let g2 = stands_at (n + 2) tokens (front ++ more) at ((at + n) + 2) whole (omega arith) ∙ behind_front front more 2 in
    let m = mark_is tokens ((at + n) + 1) 64 mark g1 marked in
    let there : suffix_behind tokens (at + n) ≡ Some suffix = rw (m, g0, named, g2, words) refl in
    let found : suffix_at tokens at ≡ Some suffix = ap (λ (k : ℕ). suffix_behind tokens (at + k)) before ∙ there in
    let counts = length-append front more in
    let inside = length-append rest behind in
    let left_count = length-drop at tokens in
    let total : length (drop at tokens) ≡ n + length more = ap length whole ∙ counts in
    let many : (at + n) + 2 < length tokens = omega arith in
    let left : drop ((at + n) + 3) tokens ≡ rest ++ behind = left_behind (n + 3) tokens (front ++ more) at ((at + n) + 3) whole (omega arith) ∙ drop_front front more 3 in
    let joins : drop at (without_suffix tokens (at + n)) ≡ (front ++ (name ∷ rest)) ++ behind =
    joined_front tokens at n front name mark word (rest ++ behind) refl whole many ∙ ap (λ (ts : List SpelledToken). front ++ (name ∷ ts)) left ∙ sym (append_assoc front (name ∷ rest) behind) in
    let own = length-append front (name ∷ rest) in
    let written_length : length text ≡ n + length (name ∷ mark ∷ word ∷ rest) = ap length written ∙ length-append front (name ∷ mark ∷ word ∷ rest) in
    let reads = text_at text_is_read (without_suffix tokens (at + n)) at (at + length (front ++ (name ∷ rest))) tree (front ++ (name ∷ rest)) behind joins is quiet.stops refl in
    ap (value_with tokens at) found
    ∙ ap (λ (k : ℕ). as_value (Some suffix) 2 (reading_of (without_suffix tokens (at + k)) at)) before
    ∙ ap (as_value (Some suffix) 2) reads
    ∙ ap (read_value (record { tree = tree; suffix = Some suffix })) (omega arith)

value_begins : (tokens : List SpelledToken) (at : ℕ) (value : ValueText) (text behind : List SpelledToken) → WritesValue value text → drop at tokens ≡ text ++ behind
    → begins_by (slice_get tokens at) ≡ true
value_begins tokens at _ text behind (plain tree _ is) stands = ap begins_by (stands_at 0 tokens (text ++ behind) at at stands (omega arith)) ∙ first_begins 64 tree 1 text behind is.writes
value_begins tokens at _ text behind (suffixed tree suffix name mark word front rest _ led named marked words is written) stands =
    let first = front_first front name (mark ∷ word ∷ (rest ++ behind)) led named in
    let here = token_is 0 tokens (front ++ (name ∷ mark ∷ word ∷ (rest ++ behind))) at at first.token (stands ∙ with_behind front name mark word rest text behind written) (omega arith) first.there in
    rw here (leads_begin first.token first.leads_here)

-- and so is it where a mark of another operand may stand
pub begun_reads : TextsAreRead → (tokens : List SpelledToken) (at : ℕ) (value : ValueText) (text behind : List SpelledToken) → WritesValue value text → drop at tokens ≡ text ++ behind → IsQuiet behind
    → begun_at tokens at ≡ Ok (record { text = value; next = at + length text })
unfolding begun_at
begun_reads text_is_read tokens at value text behind writes stands quiet =
    ap (λ (b : Bool). cond b (value_at tokens at) (Err BadOperand)) (value_begins tokens at value text behind writes stands)
    ∙ value_reads text_is_read tokens at value text behind writes stands quiet
