-- Memory, registers and whole operands that are spelled are read.
use Rattle.std.proofs.Common.{◌≡◌, ℕ, ◌+◌, ◌==◌, ◌||◌, Bool, true, false, cond, List, [], ◌∷◌, ◌++◌, Option, Some, None, Result, Ok, Err, length, drop, refl, sym, ap, ◌∙◌, arith, length-append, append_assoc}
use Rattle.std.proofs.lemmas.List.{append-nil}
use Rattle.std.proofs.Math.Seq.{drop-append_seam}
use Rattle.asm_base.specs.Tokens.{SpelledToken}
use Rattle.x86_insn.specs.declared.insns.Segment.{Segment}
use Rattle.x86_insn.specs.declared.insns.Base.{Base}
use Rattle.x86_insn.specs.declared.insns.Index.{Index}
use Rattle.att_operands.specs.declared.faults.OperandCause.{OperandCause}
use Rattle.att_operands.specs.declared.faults.OperandCause.TheVariants.{BadOperand}
use Rattle.att_operands.specs.Marks.{mark_by, mark_at, ends_by, ends_at}
use Rattle.att_operands.specs.Addresses.{address_at}
use Rattle.att_operands.specs.Values.{value_at, begun_at}
use Rattle.att_operands.specs.OperandTexts.{OperandText, immediate, memory, ReadPart, part, no_displacement, addressed, displaced, displaced_by, opens_address, memory_at, place_at, immediate_by, target_by, target_at, other_by, operand_by, ended, operand_at}
use Rattle.att_operands.specs.Spells.{WritesAddress, based, indexed, unbased, lone, in_segment, WritesMemory, displacement, address, both, SpellsPlace, plain, unnamed, segmented, SpellsOperand, immediate_of, place, target_of, indirect, ends}
use Rattle.att_operands.proofs.FrontReadings.{TextsAreRead}
use Rattle.att_operands.proofs.SpelledIsRead.{stands_at, leads, apart_from}
use Rattle.att_operands.proofs.SpelledOperands.{token_is, mark_is, left_behind, address_reads}
use Rattle.att_operands.proofs.SpelledValues.{value_leads, value_unopened, value_reads, begun_reads, ended_quiet, opened_quiet, ended_unopened}

-- a parenthesis before what begins an address opens it
address_opens : (tokens : List SpelledToken) (at : ℕ) (base : Base) (index : Index) (text behind : List SpelledToken) → WritesAddress base index text → drop at tokens ≡ text ++ behind
    → (mark_at tokens at == 37 || mark_at tokens at == 44) ≡ true
address_opens tokens at base _ _ behind (based _ sign word closing sign_is names closes) stands =
    let here = token_is 0 tokens (sign ∷ word ∷ closing ∷ behind) at at sign stands (omega arith) refl in
    let mark = mark_is tokens at 37 sign here sign_is in
    rw mark refl
address_opens tokens at base index _ behind (indexed _ _ sign word comma rest sign_is names takes comma_is writes) stands =
    let here = token_is 0 tokens (sign ∷ word ∷ comma ∷ (rest ++ behind)) at at sign stands (omega arith) refl in
    let mark = mark_is tokens at 37 sign here sign_is in
    rw mark refl
address_opens tokens at _ _ _ behind (lone comma digits closing comma_is scales closes) stands =
    let here = token_is 0 tokens (comma ∷ digits ∷ closing ∷ behind) at at comma stands (omega arith) refl in
    let mark = mark_is tokens at 44 comma here comma_is in
    rw mark refl
address_opens tokens at _ index _ behind (unbased _ comma rest comma_is writes) stands =
    let here = token_is 0 tokens (comma ∷ (rest ++ behind)) at at comma stands (omega arith) refl in
    let mark = mark_is tokens at 44 comma here comma_is in
    rw mark refl

-- memory that is written is read
pub memory_reads : TextsAreRead → (tokens : List SpelledToken) (at : ℕ) (segment : Option Segment) (operand : OperandText) (text behind : List SpelledToken) → WritesMemory segment operand text
    → drop at tokens ≡ text ++ behind → ends behind ≡ true → memory_at tokens segment at ≡ Ok (part operand (at + length text))
unfolding memory_at displaced
memory_reads text_is_read tokens at segment _ text behind (displacement _ value _ writes) stands ended_here =
    let reads = begun_reads text_is_read tokens at value text behind writes stands (ended_quiet behind ended_here) in
    let unopened = value_unopened tokens at value text behind writes stands in
    let left : drop (at + length text) tokens ≡ drop (length text) (text ++ behind) = left_behind (length text) tokens (text ++ behind) at (at + length text) stands refl in
    let mark : mark_at tokens (at + length text) ≡ mark_at behind 0 = ap mark_by (stands_at 0 tokens behind (at + length text) (at + length text) (left ∙ drop-append_seam text behind) (omega arith)) in
    let none : (mark_at tokens (at + length text) == 40) ≡ false = rw mark (ended_unopened behind ended_here) in
    ap (λ (b : Bool). cond b (addressed segment no_displacement (address_at tokens (at + 1))) (displaced_by tokens segment (begun_at tokens at))) unopened
    ∙ ap (displaced_by tokens segment) reads
    ∙ (rw none refl)
memory_reads text_is_read tokens at segment _ _ behind (address _ base index opening text opening_is writes) stands ended_here =
    let here = token_is 0 tokens (opening ∷ (text ++ behind)) at at opening stands (omega arith) refl in
    let mark = mark_is tokens at 40 opening here opening_is in
    let left : drop (at + 1) tokens ≡ text ++ behind = left_behind 1 tokens (opening ∷ (text ++ behind)) at (at + 1) stands refl in
    let opens = address_opens tokens (at + 1) base index text behind writes left in
    let reads = address_reads tokens (at + 1) base index text behind writes left in
    let opened : opens_address tokens at ≡ true = rw (mark, opens) refl in
    ap (λ (b : Bool). cond b (addressed segment no_displacement (address_at tokens (at + 1))) (displaced_by tokens segment (begun_at tokens at))) opened
    ∙ ap (addressed segment no_displacement) reads
    ∙ ap (λ (n : ℕ). Ok (part (memory (in_segment segment base index) no_displacement) n)) (omega arith)
memory_reads text_is_read tokens at segment _ all behind (both _ base index value opening before text _ writes opening_is addresses is) stands ended_here =
    let after = opening ∷ (text ++ behind) in
    let split : drop at tokens ≡ before ++ after = stands ∙ rw is (append_assoc before (opening ∷ text) behind) in
    let reads = begun_reads text_is_read tokens at value before after writes split (opened_quiet opening (text ++ behind) opening_is) in
    let unopened = value_unopened tokens at value before after writes split in
    let next : drop (at + length before) tokens ≡ after = left_behind (length before) tokens (before ++ after) at (at + length before) split refl ∙ drop-append_seam before after in
    let here = token_is 0 tokens after (at + length before) (at + length before) opening next (omega arith) refl in
    let mark = mark_is tokens (at + length before) 40 opening here opening_is in
    let left : drop ((at + length before) + 1) tokens ≡ text ++ behind = left_behind 1 tokens after (at + length before) ((at + length before) + 1) next refl in
    let found = address_reads tokens ((at + length before) + 1) base index text behind addresses left in
    let lengths : ((at + length before) + 1) + length text ≡ at + length all = rw is (omega (arith, length-append before (opening ∷ text))) in
    ap (λ (b : Bool). cond b (addressed segment no_displacement (address_at tokens (at + 1))) (displaced_by tokens segment (begun_at tokens at))) unopened
    ∙ ap (displaced_by tokens segment) reads
    ∙ (rw mark (ap (addressed segment value) found ∙ ap (λ (n : ℕ). Ok (part (memory (in_segment segment base index) value) n)) lengths))

-- the mark in front of memory is none of these
memory_front : (tokens : List SpelledToken) (at other : ℕ) (segment : Option Segment) (operand : OperandText) (text behind : List SpelledToken) → WritesMemory segment operand text
    → drop at tokens ≡ text ++ behind → leads other ≡ false → (40 == other) ≡ false → (mark_at tokens at == other) ≡ false
memory_front tokens at other segment _ text behind (displacement _ value _ writes) stands none unlike =
    let here : mark_at tokens at ≡ mark_at (text ++ behind) 0 = ap mark_by (stands_at 0 tokens (text ++ behind) at at stands (omega arith)) in
    rw here (apart_from other (mark_at (text ++ behind) 0) none (value_leads value text behind writes))
memory_front tokens at other segment _ _ behind (address _ base index opening text opening_is writes) stands none unlike =
    let here = token_is 0 tokens (opening ∷ (text ++ behind)) at at opening stands (omega arith) refl in
    rw (mark_is tokens at 40 opening here opening_is) unlike
memory_front tokens at other segment _ all behind (both _ base index value opening before text _ writes opening_is addresses is) stands none unlike =
    let split : drop at tokens ≡ before ++ (opening ∷ (text ++ behind)) = stands ∙ rw is (append_assoc before (opening ∷ text) behind) in
    let here : mark_at tokens at ≡ mark_at (before ++ (opening ∷ (text ++ behind))) 0 = ap mark_by (stands_at 0 tokens (before ++ (opening ∷ (text ++ behind))) at at split (omega arith)) in
    rw here (apart_from other (mark_at (before ++ (opening ∷ (text ++ behind))) 0) none (value_leads value before (opening ∷ (text ++ behind)) writes))

-- a register or memory that is spelled is read
pub place_reads : TextsAreRead → (tokens : List SpelledToken) (at : ℕ) (operand : OperandText) (text behind : List SpelledToken) → SpellsPlace operand text → drop at tokens ≡ text ++ behind → ends behind ≡ true
    → place_at tokens at ≡ Ok (part operand (at + length text))
unfolding place_at
place_reads text_is_read tokens at _ _ behind (plain reg sign word sign_is names) stands ended_here =
    let text = sign ∷ word ∷ behind in
    let g0 = token_is 0 tokens text at at sign stands (omega arith) refl in
    let g1 = token_is 1 tokens text (at) (at + 1) word stands refl refl in
    let m = mark_is tokens at 37 sign g0 sign_is in
    rw (m, g1, names) refl
place_reads text_is_read tokens at operand text behind (unnamed _ _ writes) stands ended_here =
    let none = memory_front tokens at 37 None operand text behind writes stands refl refl in
    rw none (memory_reads text_is_read tokens at None operand text behind writes stands ended_here)
place_reads text_is_read tokens at operand _ behind (segmented segment _ sign word colon rest sign_is names colon_is writes) stands ended_here =
    let text = sign ∷ word ∷ colon ∷ (rest ++ behind) in
    let g0 = token_is 0 tokens text at at sign stands (omega arith) refl in
    let g1 = token_is 1 tokens text at (at + 1) word stands refl refl in
    let g2 = token_is 2 tokens text at (at + 2) colon stands refl refl in
    let m = mark_is tokens at 37 sign g0 sign_is in
    let c = mark_is tokens (at + 2) 58 colon g2 colon_is in
    let left : drop ((at + 2) + 1) tokens ≡ rest ++ behind = left_behind 3 tokens text at ((at + 2) + 1) stands (omega arith) in
    let reads = memory_reads text_is_read tokens ((at + 2) + 1) (Some segment) operand rest behind writes left ended_here in
    rw (m, g1, names, c) (reads ∙ ap (λ (n : ℕ). Ok (part operand n)) (omega arith))

-- the mark in front of a register or memory is none of these
place_front : (tokens : List SpelledToken) (at other : ℕ) (operand : OperandText) (text behind : List SpelledToken) → SpellsPlace operand text → drop at tokens ≡ text ++ behind
    → leads other ≡ false → (40 == other) ≡ false → (37 == other) ≡ false → (mark_at tokens at == other) ≡ false
place_front tokens at other _ _ behind (plain reg sign word sign_is names) stands none unlike also =
    let g0 = token_is 0 tokens (sign ∷ word ∷ behind) at at sign stands (omega arith) refl in
    rw (mark_is tokens at 37 sign g0 sign_is) also
place_front tokens at other operand text behind (unnamed _ _ writes) stands none unlike also = memory_front tokens at other None operand text behind writes stands none unlike
place_front tokens at other operand _ behind (segmented segment _ sign word colon rest sign_is names colon_is writes) stands none unlike also =
    let g0 = token_is 0 tokens (sign ∷ word ∷ colon ∷ (rest ++ behind)) at at sign stands (omega arith) refl in
    rw (mark_is tokens at 37 sign g0 sign_is) also

-- an operand that is spelled is found
operand_found : TextsAreRead → (tokens : List SpelledToken) (at : ℕ) (branch : Bool) (operand : OperandText) (text behind : List SpelledToken) → SpellsOperand branch operand text → drop at tokens ≡ text ++ behind
    → ends behind ≡ true → operand_by branch tokens at ≡ Ok (part operand (at + length text))
operand_found text_is_read tokens at _ _ _ behind (immediate_of branch value sign rest sign_is writes) stands ended_here =
    let g0 = token_is 0 tokens (sign ∷ (rest ++ behind)) at at sign stands (omega arith) refl in
    let m = mark_is tokens at 36 sign g0 sign_is in
    let left : drop (at + 1) tokens ≡ rest ++ behind = left_behind 1 tokens (sign ∷ (rest ++ behind)) at (at + 1) stands refl in
    let reads = value_reads text_is_read tokens (at + 1) value rest behind writes left (ended_quiet behind ended_here) in
    rw (m, reads) (ap (λ (n : ℕ). Ok (part (immediate value) n)) (omega arith))
operand_found text_is_read tokens at _ operand text behind (place _ _ spells) stands ended_here =
    let none = place_front tokens at 36 operand text behind spells stands refl refl refl in
    rw none (place_reads text_is_read tokens at operand text behind spells stands ended_here)
operand_found text_is_read tokens at _ _ text behind (target_of value _ writes) stands ended_here =
    let here : mark_at tokens at ≡ mark_at (text ++ behind) 0 = ap mark_by (stands_at 0 tokens (text ++ behind) at at stands (omega arith)) in
    let none : (mark_at tokens at == 42) ≡ false = rw here (apart_from 42 (mark_at (text ++ behind) 0) refl (value_leads value text behind writes)) in
    let unsigned : (mark_at tokens at == 36) ≡ false = rw here (apart_from 36 (mark_at (text ++ behind) 0) refl (value_leads value text behind writes)) in
    let unopened : opens_address tokens at ≡ false = value_unopened tokens at value text behind writes stands in
    let reads = begun_reads text_is_read tokens at value text behind writes stands (ended_quiet behind ended_here) in
    ap (λ (b : Bool). cond b (immediate_by (value_at tokens (at + 1))) (other_by true tokens at)) unsigned
    ∙ ap (λ (b : Bool). cond b (place_at tokens (at + 1)) (target_at tokens at)) none
    ∙ ap (λ (b : Bool). cond b (Err BadOperand) (target_by (begun_at tokens at))) unopened
    ∙ ap target_by reads
operand_found text_is_read tokens at _ operand _ behind (indirect _ star rest star_is spells) stands ended_here =
    let g0 = token_is 0 tokens (star ∷ (rest ++ behind)) at at star stands (omega arith) refl in
    let m = mark_is tokens at 42 star g0 star_is in
    let left : drop (at + 1) tokens ≡ rest ++ behind = left_behind 1 tokens (star ∷ (rest ++ behind)) at (at + 1) stands refl in
    rw m (place_reads text_is_read tokens (at + 1) operand rest behind spells left ended_here ∙ ap (λ (n : ℕ). Ok (part operand n)) (omega arith))

-- an operand that is spelled is read whole
pub operand_reads : TextsAreRead → (branch : Bool) (operand : OperandText) (tokens : List SpelledToken) (at : ℕ) (text behind : List SpelledToken) → SpellsOperand branch operand text → drop at tokens ≡ text ++ behind
    → ends behind ≡ true → operand_at branch tokens at ≡ Ok (part operand (at + length text))
unfolding operand_at
operand_reads text_is_read branch operand tokens at text behind spells stands ended_here =
    let left : drop (at + length text) tokens ≡ behind = left_behind (length text) tokens (text ++ behind) at (at + length text) stands refl ∙ drop-append_seam text behind in
    let done : ends_at tokens (at + length text) ≡ true = ap ends_by (stands_at 0 tokens behind (at + length text) (at + length text) left (omega arith)) ∙ ended_here in
    ap (ended tokens) (operand_found text_is_read tokens at branch operand text behind spells stands ended_here) ∙ (rw done refl)

same_part : (one other : OperandText) (next : ℕ) → (let read : Result ReadPart OperandCause = Ok (part one next) in read ≡ Ok (part other next)) → one ≡ other
same_part one other next is = let same : part one next ≡ part other next = cc in ap (λ (p : ReadPart). p.operand) same

nothing_ends : ends [] ≡ true
unfolding ends_by
nothing_ends = refl

-- a text spells one operand
pub one_operand : TextsAreRead → (branch : Bool) (one other : OperandText) (text : List SpelledToken) → SpellsOperand branch one text → SpellsOperand branch other text → one ≡ other
one_operand text_is_read branch one other text spells also =
    let first = operand_reads text_is_read branch one text 0 text [] spells (sym (append-nil text)) nothing_ends in
    let second = operand_reads text_is_read branch other text 0 text [] also (sym (append-nil text)) nothing_ends in
    same_part one other (0 + length text) (sym first ∙ second)
