-- Sums are read as they are written.
use Rattle.std.proofs.Common.{◌≡◌, ℕ, zero, suc, ◌-◌, ◌≤◌, ◌==◌, ◌&&◌, ◌||◌, nat_lt, Bool, true, false, cond, List, [], ◌∷◌, ◌++◌, Option, Some, None, Ok, Err, length, refl, sym, ap, subst, ◌∙◌, arith, length-append, append_assoc}
use Rattle.std.proofs.lemmas.Bool.{eqb-true, and_parts, lt-ltb}
use Rattle.std.proofs.lemmas.List.{append-nil}
use Rattle.asm_base.specs.Tokens.{SpelledToken}
use Rattle.att_operands.specs.declared.faults.OperandCause.TheVariants.{BadOperand}
use Rattle.att_operands.specs.Marks.{mark_by}
use Rattle.intel_sums.specs.declared.parts.Parts.{Parts}
use Rattle.intel_sums.specs.declared.parts.Parts.TheVariants.{Nothing}
use Rattle.intel_sums.specs.declared.parts.FoundPart.{FoundPart}
use Rattle.intel_sums.specs.Parts.{found_part, part_in, with_part}
use Rattle.intel_sums.specs.Sums.{SumSoFar, plus_at, is_loose, is_register, depth_behind, kept_at, kept, added, adds, with_token, sum_of, is_whole}
use Rattle.intel_sums.specs.Spells.{WritesSum, done, register_next, summand, other}
use Rattle.intel_sums.specs.SumLaws.{SumsAreRead, SumsAreWritten}
use Rattle.intel_sums.proofs.TextLemmas.{ok_is}
use Rattle.intel_sums.proofs.PartTexts.{part_reads, PartRead, part_written}

-- how far a sum was read
abbrev so_far : Bool → ℕ → ℕ → Parts → List SpelledToken → SumSoFar
so_far opened depth passed parts text = record { opened = opened; depth = depth; passed = passed; parts = parts; text = text }

-- the tokens of a part are passed over
passes : (opened : Bool) (depth : ℕ) (parts : Parts) (front written behind : List SpelledToken)
    → sum_of (Ok (so_far opened depth (length written) parts front)) (written ++ behind) ≡ sum_of (Ok (so_far opened depth 0 parts front)) behind
passes opened depth parts front [] behind = refl
passes opened depth parts front (token ∷ written) behind =
    let less : length (token ∷ written) - 1 ≡ length written = omega arith in
    let some : nat_lt 0 (length (token ∷ written)) ≡ true = lt-ltb 0 (length (token ∷ written)) (omega arith) in
    ap (λ (b : Bool). sum_of (cond b (Ok (so_far opened depth (length (token ∷ written) - 1) parts front)) (with_token (so_far opened depth (length (token ∷ written)) parts front) token (written ++ behind))) (written ++ behind)) some
    ∙ ap (λ (n : ℕ). sum_of (Ok (so_far opened depth n parts front)) (written ++ behind)) less ∙ passes opened depth parts front written behind

-- a token that begins a summand
sign_step : (opened : Bool) (sign : SpelledToken) (from : Parts) (front behind : List SpelledToken) (found : Option FoundPart) → adds opened (mark_by (Some sign)) ≡ true → part_in behind ≡ found
    → sum_of (Ok (so_far opened 0 0 from front)) (sign ∷ behind) ≡ sum_of (Ok (added (so_far opened 0 0 from front) sign found)) behind
unfolding with_token
sign_step opened sign from front behind found signs parts = rw (signs, parts) refl

-- a token that stays
other_step : (opened : Bool) (depth next : ℕ) (token : SpelledToken) (from : Parts) (front behind : List SpelledToken) → ((depth == 0) && adds opened (mark_by (Some token))) ≡ false
    → (is_register token || ((depth == 0) && is_loose token)) ≡ false → depth_behind depth (mark_by (Some token)) ≡ Some next
    → sum_of (Ok (so_far opened depth 0 from front)) (token ∷ behind) ≡ sum_of (Ok (so_far opened next 0 from (front ++ (token ∷ [])))) behind
unfolding with_token kept
other_step opened depth next token from front behind no_sign right deeper =
    ap (λ (b : Bool). sum_of (cond b (Ok (added (so_far opened depth 0 from front) token (part_in behind))) (kept (so_far opened depth 0 from front) token)) behind) no_sign
    ∙ ap (λ (b : Bool). sum_of (cond b (Err BadOperand) (kept_at (so_far opened depth 0 from front) token (depth_behind depth (mark_by (Some token))))) behind) right
    ∙ ap (λ (d : Option ℕ). sum_of (kept_at (so_far opened depth 0 from front) token d) behind) deeper

-- a sum that is written is read
pub sum_reads : (opened : Bool) (depth : ℕ) (from to : Parts) (left text front : List SpelledToken) → WritesSum opened depth from to left text
    → sum_of (Ok (so_far opened depth 0 from front)) text ≡ Ok (so_far true 0 0 to (front ++ left))
sum_reads _ _ _ _ _ _ front (done parts) = ap (λ (ts : List SpelledToken). Ok (so_far true 0 0 parts ts)) (sym (append-nil front))
sum_reads _ _ from to left text front (register_next opened sign part _ _ _ written behind _ signs writes ended rest stands) =
    let found = part_reads part written behind writes ended in
    ap (λ (ts : List SpelledToken). sum_of (Ok (so_far opened 0 0 from front)) ts) stands
    ∙ sign_step opened sign from front (written ++ behind) (Some (found_part part (length written))) signs found
    ∙ passes true 0 (with_part from part) front written behind
    ∙ sum_reads true 0 (with_part from part) to left behind front rest
sum_reads _ _ from to _ _ front (summand opened sign _ _ left behind signs none rest) =
    sign_step opened sign from front behind None signs none
    ∙ sum_reads true 0 from to left behind (front ++ (plus_at sign ∷ [])) rest
    ∙ ap (λ (ts : List SpelledToken). Ok (so_far true 0 0 to ts)) (append_assoc front (plus_at sign ∷ []) left)
sum_reads _ _ from to _ _ front (other opened depth next token _ _ left behind no_sign right deeper rest) =
    other_step opened depth next token from front behind no_sign right deeper
    ∙ sum_reads opened next from to left behind (front ++ (token ∷ [])) rest
    ∙ ap (λ (ts : List SpelledToken). Ok (so_far true 0 0 to ts)) (append_assoc front (token ∷ []) left)

-- a sum that was read, with its text
record SumRead (opened : Bool) (depth : ℕ) (from : Parts) (front text : List SpelledToken) (sum : SumSoFar) : Type 0 where
  pub left : List SpelledToken
  pub is : sum.text ≡ front ++ left
  pub writes : WritesSum opened depth from sum.parts left text

-- so many tokens are read as they are written
abbrev Rest : ℕ → SumSoFar → Type 0
Rest fuel sum = (opened : Bool) (depth : ℕ) (from : Parts) (front text : List SpelledToken) → length text ≤ fuel
    → sum_of (Ok (so_far opened depth 0 from front)) text ≡ Ok sum → sum.opened ≡ true → sum.depth ≡ 0 → SumRead opened depth from front text sum

ended_by : (opened : Bool) (depth : ℕ) (from : Parts) (front : List SpelledToken) (sum : SumSoFar) → so_far opened depth 0 from front ≡ sum → sum.opened ≡ true → sum.depth ≡ 0
    → SumRead opened depth from front [] sum
ended_by opened depth from front sum is whole closed =
    let same : sum.text ≡ front = ap (λ (s : SumSoFar). s.text) (sym is) in
    let opens : opened ≡ true = ap (λ (s : SumSoFar). s.opened) is ∙ whole in
    let level : depth ≡ 0 = ap (λ (s : SumSoFar). s.depth) is ∙ closed in
    let parts : from ≡ sum.parts = ap (λ (s : SumSoFar). s.parts) is in
    record { left = []; is = same ∙ sym (append-nil front); writes = rw (opens, level, parts) (done sum.parts) }

part_next : (fuel : ℕ) (sum : SumSoFar) → Rest fuel sum → (opened : Bool) (sign : SpelledToken) (from : Parts) (front behind : List SpelledToken) (found : FoundPart) → adds opened (mark_by (Some sign)) ≡ true
    → PartRead behind found → length behind ≤ fuel → sum_of (Ok (added (so_far opened 0 0 from front) sign (Some found))) behind ≡ Ok sum → sum.opened ≡ true → sum.depth ≡ 0
    → SumRead opened 0 from front (sign ∷ behind) sum
part_next fuel sum rest opened sign from front behind found signs part few is whole closed =
    let all = ap length part.stands ∙ length-append part.written part.behind in
    let moved : sum_of (Ok (so_far true 0 (length part.written) (with_part from found.part) front)) (part.written ++ part.behind) ≡ Ok sum =
    sym (ap (λ (n : ℕ). sum_of (Ok (so_far true 0 n (with_part from found.part) front)) (part.written ++ part.behind)) part.size)
    ∙ sym (ap (λ (ts : List SpelledToken). sum_of (Ok (so_far true 0 found.length (with_part from found.part) front)) ts) part.stands) ∙ is in
    let more = rest true 0 (with_part from found.part) front part.behind (omega arith) (sym (passes true 0 (with_part from found.part) front part.written part.behind) ∙ moved) whole closed in
    record {
      left = more.left;
      is = more.is;
      writes = register_next opened sign found.part from sum.parts more.left part.written part.behind (sign ∷ behind) signs part.writes part.ended more.writes
          (ap (λ (ts : List SpelledToken). sign ∷ ts) part.stands);
    }

plus_next : (fuel : ℕ) (sum : SumSoFar) → Rest fuel sum → (opened : Bool) (sign : SpelledToken) (from : Parts) (front behind : List SpelledToken) → adds opened (mark_by (Some sign)) ≡ true
    → part_in behind ≡ None → length behind ≤ fuel → sum_of (Ok (added (so_far opened 0 0 from front) sign None)) behind ≡ Ok sum → sum.opened ≡ true → sum.depth ≡ 0
    → SumRead opened 0 from front (sign ∷ behind) sum
plus_next fuel sum rest opened sign from front behind signs none few is whole closed =
    let more = rest true 0 from (front ++ (plus_at sign ∷ [])) behind few is whole closed in
    record {
      left = plus_at sign ∷ more.left;
      is = more.is ∙ append_assoc front (plus_at sign ∷ []) more.left;
      writes = summand opened sign from sum.parts more.left behind signs none more.writes;
    }

sign_next : (fuel : ℕ) (sum : SumSoFar) → Rest fuel sum → (opened : Bool) (sign : SpelledToken) (from : Parts) (front behind : List SpelledToken) (found : Option FoundPart) → adds opened (mark_by (Some sign)) ≡ true
    → part_in behind ≡ found → length behind ≤ fuel → sum_of (Ok (added (so_far opened 0 0 from front) sign found)) behind ≡ Ok sum → sum.opened ≡ true → sum.depth ≡ 0
    → SumRead opened 0 from front (sign ∷ behind) sum
sign_next fuel sum rest opened sign from front behind None signs parts few is whole closed = plus_next fuel sum rest opened sign from front behind signs parts few is whole closed
sign_next fuel sum rest opened sign from front behind (Some found) signs parts few is whole closed =
    part_next fuel sum rest opened sign from front behind found signs (part_written behind found parts) few is whole closed

deeper_next : (fuel : ℕ) (sum : SumSoFar) → Rest fuel sum → (opened : Bool) (depth : ℕ) (token : SpelledToken) (from : Parts) (front behind : List SpelledToken) (next : Option ℕ)
    → ((depth == 0) && adds opened (mark_by (Some token))) ≡ false → (is_register token || ((depth == 0) && is_loose token)) ≡ false → depth_behind depth (mark_by (Some token)) ≡ next
    → length behind ≤ fuel → sum_of (kept_at (so_far opened depth 0 from front) token next) behind ≡ Ok sum → sum.opened ≡ true → sum.depth ≡ 0
    → SumRead opened depth from front (token ∷ behind) sum
deeper_next fuel sum rest opened depth token from front behind None no_sign right deeper few is whole closed = cc
deeper_next fuel sum rest opened depth token from front behind (Some next) no_sign right deeper few is whole closed =
    let more = rest opened next from (front ++ (token ∷ [])) behind few is whole closed in
    record {
      left = token ∷ more.left;
      is = more.is ∙ append_assoc front (token ∷ []) more.left;
      writes = other opened depth next token from sum.parts more.left behind no_sign right deeper more.writes;
    }

kept_next : (fuel : ℕ) (sum : SumSoFar) → Rest fuel sum → (opened : Bool) (depth : ℕ) (token : SpelledToken) (from : Parts) (front behind : List SpelledToken) (b : Bool)
    → ((depth == 0) && adds opened (mark_by (Some token))) ≡ false → (is_register token || ((depth == 0) && is_loose token)) ≡ b
    → length behind ≤ fuel → sum_of (cond b (Err BadOperand) (kept_at (so_far opened depth 0 from front) token (depth_behind depth (mark_by (Some token))))) behind ≡ Ok sum → sum.opened ≡ true → sum.depth ≡ 0
    → SumRead opened depth from front (token ∷ behind) sum
kept_next fuel sum rest opened depth token from front behind true no_sign right few is whole closed = cc
kept_next fuel sum rest opened depth token from front behind false no_sign right few is whole closed =
    deeper_next fuel sum rest opened depth token from front behind (depth_behind depth (mark_by (Some token))) no_sign right refl few is whole closed

token_next : (fuel : ℕ) (sum : SumSoFar) → Rest fuel sum → (opened : Bool) (depth : ℕ) (token : SpelledToken) (from : Parts) (front behind : List SpelledToken) (b : Bool)
    → ((depth == 0) && adds opened (mark_by (Some token))) ≡ b → length behind ≤ fuel
    → sum_of (cond b (Ok (added (so_far opened depth 0 from front) token (part_in behind))) (kept (so_far opened depth 0 from front) token)) behind ≡ Ok sum → sum.opened ≡ true → sum.depth ≡ 0
    → SumRead opened depth from front (token ∷ behind) sum
unfolding kept
token_next fuel sum rest opened depth token from front behind true test few is whole closed =
    let both = and_parts (depth == 0) (adds opened (mark_by (Some token))) test in
    let level : depth ≡ 0 = eqb-true depth 0 both.0 in
    subst (λ (n : ℕ). SumRead opened n from front (token ∷ behind) sum) (sym level)
    (sign_next fuel sum rest opened token from front behind (part_in behind) both.1 refl few
    (subst (λ (n : ℕ). sum_of (Ok (added (so_far opened n 0 from front) token (part_in behind))) behind ≡ Ok sum) level is) whole closed)
token_next fuel sum rest opened depth token from front behind false test few is whole closed =
    kept_next fuel sum rest opened depth token from front behind (is_register token || ((depth == 0) && is_loose token)) test refl few is whole closed

-- a sum that is read is written
sum_written_by : (fuel : ℕ) (sum : SumSoFar) → Rest fuel sum
unfolding with_token
sum_written_by fuel sum opened depth from front [] few is whole closed = ended_by opened depth from front sum (ok_is is) whole closed
sum_written_by zero sum opened depth from front (token ∷ behind) few is whole closed = absurd (omega arith)
sum_written_by (suc fuel) sum opened depth from front (token ∷ behind) few is whole closed =
    token_next fuel sum (sum_written_by fuel sum) opened depth token from front behind ((depth == 0) && adds opened (mark_by (Some token))) refl (omega arith) is whole closed

sum_written : (sum : SumSoFar) (opened : Bool) (depth : ℕ) (from : Parts) (text : List SpelledToken) → sum_of (Ok (so_far opened depth 0 from [])) text ≡ Ok sum
    → sum.opened ≡ true → sum.depth ≡ 0 → SumRead opened depth from [] text sum
sum_written sum opened depth from text is whole closed = sum_written_by (length text) sum opened depth from [] text (omega arith) is whole closed

whole_parts : (sum : SumSoFar) → is_whole sum ≡ true → (sum.opened ≡ true) × (sum.depth ≡ 0)
whole_parts sum is = let both = and_parts sum.opened (sum.depth == 0) is in (both.0, eqb-true sum.depth 0 both.1)

pub sums_are_read : SumsAreRead
sums_are_read parts left text writes = sum_reads false 0 Nothing parts left text [] writes

pub sums_are_written : SumsAreWritten
sums_are_written sum text reads whole =
    let both = whole_parts sum whole in
    let read = sum_written sum false 0 Nothing text reads both.0 both.1 in
    subst (λ (ts : List SpelledToken). WritesSum false 0 Nothing sum.parts ts text) (sym read.is) read.writes
