-- What stands round a value is read as it is written.
use Rattle.std.proofs.Common.{◌≡◌, ℕ, zero, suc, ◌≤◌, ◌==◌, ◌&&◌, nat_lt, Bool, true, false, cond, List, [], ◌∷◌, ◌++◌, Option, Some, None, Result, Ok, Err, length, map, drop, slice_get, codes, refl, sym, ap, subst, ◌∙◌, arith}
use Rattle.std.proofs.lemmas.Bool.{eqb-true, and_parts, ltb-false}
use Rattle.asm_base.specs.declared.tokens.Token.{Token}
use Rattle.asm_base.specs.Tokens.{SpelledToken, spelled}
use Rattle.x86_insn.specs.declared.registers.Reg.{Reg}
use Rattle.x86_insn.specs.declared.insns.Segment.{Segment}
use Rattle.x86_insn.specs.declared.insns.Base.TheVariants as base
use Rattle.x86_insn.specs.declared.insns.Index.TheVariants as index
use Rattle.x86_insn.specs.declared.insns.Address.{Address}
use Rattle.att_operands.specs.declared.faults.OperandCause.{OperandCause}
use Rattle.att_operands.specs.declared.registers.NamedRegister.{NamedRegister}
use Rattle.att_operands.specs.declared.registers.NamedRegister.TheVariants as named
use Rattle.att_operands.specs.Registers.{register_of}
use Rattle.att_operands.specs.Marks.{mark_by, mark_at}
use Rattle.att_operands.specs.Addresses.{register_by}
use Rattle.att_operands.specs.Spells.{IsMark, in_segment}
use Rattle.intel_sums.specs.declared.parts.Part.TheVariants.{Plain}
use Rattle.intel_sums.specs.declared.parts.Parts.TheVariants.{One}
use Rattle.intel_sums.specs.declared.lone_sums.LoneSum.{LoneSum}
use Rattle.intel_sums.specs.Parts.{address_of}
use Rattle.intel_sums.specs.Sums.{SumSoFar, no_sum, sum_of, is_whole, but_last}
use Rattle.intel_sums.specs.LoneSums.{left_in, IsFoundIn}
use Rattle.intel_sums.specs.SumLaws.{SumsAreRead, SumsAreWritten}
use Rattle.intel_operands.specs.Words.{is_word, bits_by, bits_in, offset_words}
use Rattle.intel_operands.specs.OperandTexts.{Outline, lone, held, bare, moved, register_in, segment_in, lone_register, segment_of, has_register, has_bracket, closes_bracket, is_nested, is_memory, summed_by, summed, bracketed, is_placed, placed, segmented, sized, memory_of, bare_of, held_of, other_of, outline_by, outline_of}
use Rattle.intel_operands.specs.Spells.{PlacesMemory, displacement, bracket, SegmentsMemory, plain, behind_segment, SizesMemory, unsaid, said, IsOutline, alone, offset, place, nested, value}
use Rattle.intel_operands.proofs.TextLemmas.{some_is, closed, without_last, Closed, closing_apart}

-- WRITTEN IS READ

places_reads : SumsAreRead → (bits : ℕ) (segment : Option Segment) (outline : Outline) (text : List SpelledToken) → PlacesMemory bits segment outline text → placed bits segment text ≡ Some outline
unfolding bracketed
places_reads sums _ _ _ _ (displacement bits segment text none apart placed_there) = rw (none, apart, placed_there) refl
places_reads sums _ _ _ text (bracket bits segment address parts closing left before _ has writes is closes split) =
    let ends = closed before text closing closes split in
    let inside = without_last before text closing split in
    let reads = sums parts left before writes in
    rw (has, ends)
    (ap (λ (ts : List SpelledToken). summed bits (mark_at text 0) segment (sum_of (Ok no_sum) ts)) inside
    ∙ ap (summed bits (mark_at text 0) segment) reads
    ∙ ap (summed_by bits (mark_at text 0) left) is)

segment_reads : (word colon : SpelledToken) (text : List SpelledToken) (segment : Segment) → register_of word.bytes ≡ Some (named.Segment segment) → IsMark 58 colon
    → segment_of (word ∷ colon ∷ text) ≡ Some segment
unfolding segment_of
segment_reads word colon text segment names is = rw (is, names) refl

segments_reads : SumsAreRead → (bits : ℕ) (outline : Outline) (text : List SpelledToken) → SegmentsMemory bits outline text → segmented bits text (segment_of text) ≡ Some outline
segments_reads sums _ _ _ (plain bits outline text none places) = ap (segmented bits text) none ∙ places_reads sums bits None outline text places
segments_reads sums _ _ _ (behind_segment bits segment outline word colon text names is places) =
    ap (segmented bits (word ∷ colon ∷ text)) (segment_reads word colon text segment names is) ∙ places_reads sums bits (Some segment) outline text places

sizes_reads : SumsAreRead → (outline : Outline) (text : List SpelledToken) → SizesMemory outline text → sized text ≡ Some outline
unfolding sized
sizes_reads sums _ _ (unsaid outline text none segments) = rw none (segments_reads sums 0 outline text segments)
sizes_reads sums _ _ (said bits outline size pointer text says some points segments) =
    let front : bits_in (size ∷ pointer ∷ text) ≡ bits = rw points says in
    rw (front, some) (segments_reads sums bits outline text segments)

lone_reads : (word : SpelledToken) (reg : Reg) → register_of word.bytes ≡ Some (named.Plain reg) → lone_register (word ∷ []) ≡ Some reg
unfolding lone_register
lone_reads word reg names = rw names refl

dropped : (front text : List SpelledToken) → drop (length front) (front ++ text) ≡ text
dropped [] text = refl
dropped (token ∷ front) text = dropped front text

other_reads : (all : List SpelledToken) (outline : Outline) → lone_register all ≡ None → other_of all ≡ Some outline → outline_of all ≡ Some outline
unfolding outline_of
other_reads all outline none is = ap (outline_by all) none ∙ is

nested_reads : SumsAreRead → (outline : Outline) (opening closing : SpelledToken) (text all : List SpelledToken) → IsMark 91 opening → nat_lt 0 (bits_in (text ++ (closing ∷ []))) ≡ true → IsMark 93 closing
    → SizesMemory outline text → all ≡ opening ∷ (text ++ (closing ∷ [])) → memory_of all ≡ Some outline
nested_reads sums outline opening closing text all opens says closes sizes split =
    let ends = closed (opening ∷ text) all closing closes split in
    let inside = without_last (opening ∷ text) all closing split in
    let nests : is_nested all ≡ true = rw (split, opens) says in
    rw (nests, ends) (ap (λ (ts : List SpelledToken). sized (drop 1 ts)) inside ∙ sizes_reads sums outline text sizes)

-- a register alone
pub lone_outline : (reg : Reg) (word : SpelledToken) → register_of word.bytes ≡ Some (named.Plain reg) → outline_of (word ∷ []) ≡ Some (lone reg)
unfolding outline_of
lone_outline reg word names = ap (outline_by (word ∷ [])) (lone_reads word reg names)

-- a value alone
pub bare_outline : (text : List SpelledToken) → lone_register text ≡ None → offset_words text ≡ 0 → is_memory text ≡ false → has_register text ≡ false → outline_of text ≡ Some (bare text)
bare_outline text none words memory apart = other_reads text (bare text) none (rw (words, memory, apart) refl)

-- what is written round a value is read
pub outline_reads : SumsAreRead → (outline : Outline) (text : List SpelledToken) → IsOutline outline text → outline_of text ≡ Some outline
unfolding outline_of
outline_reads sums _ _ (alone reg word names) = lone_outline reg word names
outline_reads sums _ all (offset front text _ none some words apart split) =
    let left : drop (length front) all ≡ text = ap (drop (length front)) split ∙ dropped front text in
    other_reads all (held text) none (rw (words, some) (ap held_of left ∙ rw apart refl))
outline_reads sums _ _ (place outline text none words memory unnested sizes) = other_reads text outline none (rw (words, memory, unnested) (sizes_reads sums outline text sizes))
outline_reads sums _ all (nested outline opening closing text _ none words memory opens says closes sizes split) =
    other_reads all outline none (rw (words, memory) (nested_reads sums outline opening closing text all opens says closes sizes split))
outline_reads sums _ _ (value text none words memory apart) = bare_outline text none words memory apart

-- READ IS WRITTEN

summed_written : SumsAreWritten → (bits : ℕ) (segment : Option Segment) (outline : Outline) (text : List SpelledToken) (ending : Closed text) (sum : SumSoFar) (address : Option Address) → has_bracket text ≡ true
    → sum_of (Ok no_sum) ending.before ≡ Ok sum → is_whole sum ≡ true → address_of segment sum.parts ≡ address → summed_by bits (mark_at text 0) sum.text address ≡ Some outline
    → PlacesMemory bits segment outline text
summed_written sums bits segment outline text ending sum None has reads whole addresses is = cc
summed_written sums bits segment outline text ending sum (Some address) has reads whole addresses is =
    let writes = sums sum ending.before reads whole in
    subst (λ (o : Outline). PlacesMemory bits segment o text) (some_is is)
    (bracket bits segment address sum.parts ending.closing sum.text ending.before text has writes addresses ending.is ending.stands)

whole_written : SumsAreWritten → (bits : ℕ) (segment : Option Segment) (outline : Outline) (text : List SpelledToken) (ending : Closed text) (sum : SumSoFar) (b : Bool) → has_bracket text ≡ true
    → sum_of (Ok no_sum) ending.before ≡ Ok sum → is_whole sum ≡ b
    → cond b (summed_by bits (mark_at text 0) sum.text (address_of segment sum.parts)) None ≡ Some outline → PlacesMemory bits segment outline text
whole_written sums bits segment outline text ending sum true has reads whole is = summed_written sums bits segment outline text ending sum (address_of segment sum.parts) has reads whole refl is
whole_written sums bits segment outline text ending sum false has reads whole is = cc

sum_by_result : SumsAreWritten → (bits : ℕ) (segment : Option Segment) (outline : Outline) (text : List SpelledToken) (ending : Closed text) (read : Result SumSoFar OperandCause) → has_bracket text ≡ true
    → sum_of (Ok no_sum) ending.before ≡ read → summed bits (mark_at text 0) segment read ≡ Some outline → PlacesMemory bits segment outline text
sum_by_result sums bits segment outline text ending (Err fault) has reads is = cc
sum_by_result sums bits segment outline text ending (Ok sum) has reads is = whole_written sums bits segment outline text ending sum (is_whole sum) has reads refl is

bracketed_by : SumsAreWritten → (bits : ℕ) (segment : Option Segment) (outline : Outline) (text : List SpelledToken) (b : Bool) → has_bracket text ≡ true → closes_bracket text ≡ b
    → cond b (summed bits (mark_at text 0) segment (sum_of (Ok no_sum) (but_last text))) None ≡ Some outline → PlacesMemory bits segment outline text
bracketed_by sums bits segment outline text false has closes is = cc
bracketed_by sums bits segment outline text true has closes is =
    let ending = closing_apart text closes in
    sum_by_result sums bits segment outline text ending (sum_of (Ok no_sum) ending.before) has refl
    (ap (λ (ts : List SpelledToken). summed bits (mark_at text 0) segment (sum_of (Ok no_sum) ts)) (sym (without_last ending.before text ending.closing ending.stands)) ∙ is)

unbracketed_at : (bits : ℕ) (segment : Option Segment) (outline : Outline) (text : List SpelledToken) (b : Bool) → has_bracket text ≡ false → has_register text ≡ false
    → is_placed segment text ≡ b → cond b (Some (moved bits (in_segment segment base.Absent index.Absent) text)) None ≡ Some outline → PlacesMemory bits segment outline text
unbracketed_at bits segment outline text false none apart stands is = cc
unbracketed_at bits segment outline text true none apart stands is =
    subst (λ (o : Outline). PlacesMemory bits segment o text) (some_is is) (displacement bits segment text none apart stands)

unbracketed_by : (bits : ℕ) (segment : Option Segment) (outline : Outline) (text : List SpelledToken) (b : Bool) → has_bracket text ≡ false → has_register text ≡ b
    → cond b None (cond (is_placed segment text) (Some (moved bits (in_segment segment base.Absent index.Absent) text)) None) ≡ Some outline → PlacesMemory bits segment outline text
unbracketed_by bits segment outline text true none apart is = cc
unbracketed_by bits segment outline text false none apart is = unbracketed_at bits segment outline text (is_placed segment text) none apart refl is

placed_by : SumsAreWritten → (bits : ℕ) (segment : Option Segment) (outline : Outline) (text : List SpelledToken) (b : Bool) → has_bracket text ≡ b
    → cond b (bracketed bits segment text) (cond (has_register text) None (cond (is_placed segment text) (Some (moved bits (in_segment segment base.Absent index.Absent) text)) None)) ≡ Some outline
    → PlacesMemory bits segment outline text
unfolding bracketed
placed_by sums bits segment outline text true has is = bracketed_by sums bits segment outline text (closes_bracket text) has refl is
placed_by sums bits segment outline text false has is = unbracketed_by bits segment outline text (has_register text) has refl is

places_written : SumsAreWritten → (bits : ℕ) (segment : Option Segment) (outline : Outline) (text : List SpelledToken) → placed bits segment text ≡ Some outline → PlacesMemory bits segment outline text
places_written sums bits segment outline text is = placed_by sums bits segment outline text (has_bracket text) refl is

-- a segment stands in front
record SegmentFront (text : List SpelledToken) (segment : Segment) : Type 0 where
  word : SpelledToken
  colon : SpelledToken
  rest : List SpelledToken
  names : register_of word.bytes ≡ Some (named.Segment segment)
  is : IsMark 58 colon
  splits : text ≡ word ∷ colon ∷ rest

segment_named : (found : Option NamedRegister) (segment : Segment) → segment_in found ≡ Some segment → found ≡ Some (named.Segment segment)
segment_named None segment is = cc
segment_named (Some (named.Plain reg)) segment is = cc
segment_named (Some named.Rip) segment is = cc
segment_named (Some (named.Segment own)) segment is = let same : own ≡ segment = some_is is in rw same refl

segment_by : (text : List SpelledToken) (segment : Segment) (b : Bool) → (mark_at text 1 == 58) ≡ b → cond b (segment_in (register_by (slice_get text 0))) None ≡ Some segment → SegmentFront text segment
unfolding mark_by
segment_by text segment false test is = cc
segment_by [] segment true test is = cc
segment_by (word ∷ []) segment true test is = cc
segment_by (word ∷ colon ∷ rest) segment true test is =
    record { word = word; colon = colon; rest = rest; names = segment_named (register_of word.bytes) segment is; is = eqb-true (mark_by (Some colon)) 58 test; splits = refl }

segment_front : (text : List SpelledToken) (segment : Segment) → segment_of text ≡ Some segment → SegmentFront text segment
unfolding segment_of
segment_front text segment is = segment_by text segment (mark_at text 1 == 58) refl is

segmented_by : SumsAreWritten → (bits : ℕ) (outline : Outline) (text : List SpelledToken) (found : Option Segment) → segment_of text ≡ found → segmented bits text found ≡ Some outline → SegmentsMemory bits outline text
segmented_by sums bits outline text None segments is = plain bits outline text segments (places_written sums bits None outline text is)
segmented_by sums bits outline text (Some segment) segments is =
    let front = segment_front text segment segments in
    let inside : placed bits (Some segment) front.rest ≡ Some outline = sym (ap (λ (ts : List SpelledToken). placed bits (Some segment) (drop 2 ts)) front.splits) ∙ is in
    subst (SegmentsMemory bits outline) (sym front.splits)
    (behind_segment bits segment outline front.word front.colon front.rest front.names front.is (places_written sums bits (Some segment) outline front.rest inside))

segments_written : SumsAreWritten → (bits : ℕ) (outline : Outline) (text : List SpelledToken) → segmented bits text (segment_of text) ≡ Some outline → SegmentsMemory bits outline text
segments_written sums bits outline text is = segmented_by sums bits outline text (segment_of text) refl is

-- a size stands in front
pub record SizeFront (text : List SpelledToken) : Type 0 where
  pub size : SpelledToken
  pub pointer : SpelledToken
  pub rest : List SpelledToken
  pub points : is_word (codes "ptr") (Some pointer) ≡ true
  pub splits : text ≡ size ∷ pointer ∷ rest

size_by : (text : List SpelledToken) (b : Bool) → is_word (codes "ptr") (slice_get text 1) ≡ b → nat_lt 0 (cond b (bits_by (slice_get text 0)) 0) ≡ true → SizeFront text
unfolding is_word
size_by text false points is = cc
size_by [] true points is = cc
size_by (size ∷ []) true points is = cc
size_by (size ∷ pointer ∷ rest) true points is = record { size = size; pointer = pointer; rest = rest; points = points; splits = refl }

pub size_front : (text : List SpelledToken) → nat_lt 0 (bits_in text) ≡ true → SizeFront text
size_front text is = size_by text (is_word (codes "ptr") (slice_get text 1)) refl is

pub nothing_said : (n : ℕ) → nat_lt 0 n ≡ false → n ≡ 0
nothing_said n is = let most = ltb-false 0 n is in omega arith

said_written : SumsAreWritten → (outline : Outline) (size pointer : SpelledToken) (rest : List SpelledToken) → is_word (codes "ptr") (Some pointer) ≡ true → nat_lt 0 (bits_in (size ∷ pointer ∷ rest)) ≡ true
    → segmented (bits_in (size ∷ pointer ∷ rest)) rest (segment_of rest) ≡ Some outline → SizesMemory outline (size ∷ pointer ∷ rest)
said_written sums outline size pointer rest points some is =
    let says : bits_in (size ∷ pointer ∷ rest) ≡ bits_by (Some size) = rw points refl in
    said (bits_by (Some size)) outline size pointer rest refl (rw says at some) points
    (segments_written sums (bits_by (Some size)) outline rest (ap (λ (n : ℕ). segmented n rest (segment_of rest)) (sym says) ∙ is))

sized_by : SumsAreWritten → (outline : Outline) (text : List SpelledToken) (b : Bool) → nat_lt 0 (bits_in text) ≡ b
    → cond b (segmented (bits_in text) (drop 2 text) (segment_of (drop 2 text))) (segmented 0 text (segment_of text)) ≡ Some outline → SizesMemory outline text
sized_by sums outline text false says is = unsaid outline text (nothing_said (bits_in text) says) (segments_written sums 0 outline text is)
sized_by sums outline text true says is =
    let front = size_front text says in
    subst (SizesMemory outline) (sym front.splits)
    (said_written sums outline front.size front.pointer front.rest front.points (subst (λ (ts : List SpelledToken). nat_lt 0 (bits_in ts) ≡ true) front.splits says)
    (subst (λ (ts : List SpelledToken). segmented (bits_in ts) (drop 2 ts) (segment_of (drop 2 ts)) ≡ Some outline) front.splits is))

sizes_written : SumsAreWritten → (outline : Outline) (text : List SpelledToken) → sized text ≡ Some outline → SizesMemory outline text
unfolding sized
sizes_written sums outline text is = sized_by sums outline text (nat_lt 0 (bits_in text)) refl is

-- a bracket opens round memory
record Opened (text : List SpelledToken) : Type 0 where
  opening : SpelledToken
  closing : SpelledToken
  inside : List SpelledToken
  opens : IsMark 91 opening
  closes : IsMark 93 closing
  splits : text ≡ opening ∷ (inside ++ (closing ∷ []))

opened_by : (text before : List SpelledToken) (closing : SpelledToken) → text ≡ before ++ (closing ∷ []) → IsMark 93 closing → (mark_at text 0 == 91) ≡ true → Opened text
opened_by text [] closing splits closes opens = absurd
    (let first : mark_at text 0 ≡ 93 = ap (λ (ts : List SpelledToken). mark_at ts 0) splits ∙ closes in let bad : (mark_at text 0 == 91) ≡ false = rw first refl in cc)
opened_by text (opening ∷ inside) closing splits closes opens =
    let first : mark_at text 0 ≡ mark_by (Some opening) = ap (λ (ts : List SpelledToken). mark_at ts 0) splits in
    record { opening = opening; closing = closing; inside = inside; opens = sym first ∙ eqb-true (mark_at text 0) 91 opens; closes = closes; splits = splits }

-- an operand of what stands before others
record Front (outline : Outline) (text : List SpelledToken) : Type 0 where
  none : lone_register text ≡ None
  words : offset_words text ≡ 0
  memory : is_memory text ≡ true

nested_written : SumsAreWritten → (outline : Outline) (text : List SpelledToken) (opened : Opened text) → lone_register text ≡ None → offset_words text ≡ 0 → is_memory text ≡ true → is_nested text ≡ true
    → sized (drop 1 (but_last text)) ≡ Some outline → IsOutline outline text
nested_written sums outline text opened none words memory nests is =
    let both = and_parts (mark_at text 0 == 91) (nat_lt 0 (bits_in (drop 1 text))) nests in
    let says : nat_lt 0 (bits_in (opened.inside ++ (opened.closing ∷ []))) ≡ true = subst (λ (ts : List SpelledToken). nat_lt 0 (bits_in (drop 1 ts)) ≡ true) opened.splits both.1 in
    let front = without_last (opened.opening ∷ opened.inside) text opened.closing opened.splits in
    let inner : sized opened.inside ≡ Some outline = sym (ap (λ (ts : List SpelledToken). sized (drop 1 ts)) front) ∙ is in
    nested outline opened.opening opened.closing opened.inside text none words memory opened.opens says opened.closes (sizes_written sums outline opened.inside inner) opened.splits

nested_by : SumsAreWritten → (outline : Outline) (text : List SpelledToken) (b : Bool) → lone_register text ≡ None → offset_words text ≡ 0 → is_memory text ≡ true → is_nested text ≡ true → closes_bracket text ≡ b
    → cond b (sized (drop 1 (but_last text))) None ≡ Some outline → IsOutline outline text
nested_by sums outline text false none words memory nests closes is = cc
nested_by sums outline text true none words memory nests closes is =
    let ending = closing_apart text closes in
    let both = and_parts (mark_at text 0 == 91) (nat_lt 0 (bits_in (drop 1 text))) nests in
    nested_written sums outline text (opened_by text ending.before ending.closing ending.stands ending.is both.0) none words memory nests is

memory_by : SumsAreWritten → (outline : Outline) (text : List SpelledToken) (b : Bool) → lone_register text ≡ None → offset_words text ≡ 0 → is_memory text ≡ true → is_nested text ≡ b
    → cond b (cond (closes_bracket text) (sized (drop 1 (but_last text))) None) (sized text) ≡ Some outline → IsOutline outline text
memory_by sums outline text true none words memory nests is = nested_by sums outline text (closes_bracket text) none words memory nests refl is
memory_by sums outline text false none words memory nests is = place outline text none words memory nests (sizes_written sums outline text is)

bare_by : (outline : Outline) (text : List SpelledToken) (b : Bool) → lone_register text ≡ None → offset_words text ≡ 0 → is_memory text ≡ false → has_register text ≡ b
    → cond b None (Some (bare text)) ≡ Some outline → IsOutline outline text
bare_by outline text true none words memory apart is = cc
bare_by outline text false none words memory apart is = subst (λ (o : Outline). IsOutline o text) (some_is is) (value text none words memory apart)

unheld_by : SumsAreWritten → (outline : Outline) (text : List SpelledToken) (b : Bool) → lone_register text ≡ None → offset_words text ≡ 0 → is_memory text ≡ b
    → cond b (memory_of text) (bare_of text) ≡ Some outline → IsOutline outline text
unheld_by sums outline text true none words memory is = memory_by sums outline text (is_nested text) none words memory refl is
unheld_by sums outline text false none words memory is = bare_by outline text (has_register text) none words memory refl is

-- so many tokens in front
record Taken (n : ℕ) (text : List SpelledToken) : Type 0 where
  front : List SpelledToken
  splits : text ≡ front ++ drop n text
  size : length front ≡ n

taken_by : (n : ℕ) (text : List SpelledToken) → n ≤ length text → Taken n text
taken_by zero text few = record { front = []; splits = refl; size = refl }
taken_by (suc n) [] few = absurd (omega arith)
taken_by (suc n) (token ∷ text) few =
    let rest = taken_by n text (omega arith) in
    record { front = token ∷ rest.front; splits = ap (λ (ts : List SpelledToken). token ∷ ts) rest.splits; size = ap suc rest.size }

flat_few : (token : SpelledToken) (rest : List SpelledToken) (one two : Bool) → is_word (codes "flat") (slice_get (token ∷ rest) 1) ≡ one → (mark_at (token ∷ rest) 2 == 58) ≡ two
    → cond (one && two) 3 1 ≤ length (token ∷ rest)
unfolding mark_by
flat_few token rest false two flat colon = omega arith
flat_few token rest true false flat colon = omega arith
flat_few token [] true true flat colon = cc
flat_few token (second ∷ []) true true flat colon = cc
flat_few token (second ∷ third ∷ rest) true true flat colon = omega arith

offset_few : (text : List SpelledToken) (b : Bool) → is_word (codes "offset") (slice_get text 0) ≡ b
    → cond b (cond (is_word (codes "flat") (slice_get text 1) && (mark_at text 2 == 58)) 3 1) 0 ≤ length text
unfolding is_word
offset_few text false is = omega arith
offset_few [] true is = cc
offset_few (token ∷ rest) true is = flat_few token rest (is_word (codes "flat") (slice_get (token ∷ rest) 1)) (mark_at (token ∷ rest) 2 == 58) refl refl

held_written : (outline : Outline) (text : List SpelledToken) (b : Bool) → lone_register text ≡ None → nat_lt 0 (offset_words text) ≡ true → has_register (drop (offset_words text) text) ≡ b
    → cond b None (Some (held (drop (offset_words text) text))) ≡ Some outline → IsOutline outline text
held_written outline text true none some apart is = cc
held_written outline text false none some apart is =
    let few = offset_few text (is_word (codes "offset") (slice_get text 0)) refl in
    let front = taken_by (offset_words text) text few in
    subst (λ (o : Outline). IsOutline o text) (some_is is)
    (offset front.front (drop (offset_words text) text) text none (rw front.size some) (sym front.size) apart front.splits)

other_by : SumsAreWritten → (outline : Outline) (text : List SpelledToken) (b : Bool) → lone_register text ≡ None → nat_lt 0 (offset_words text) ≡ b
    → cond b (held_of (drop (offset_words text) text)) (cond (is_memory text) (memory_of text) (bare_of text)) ≡ Some outline → IsOutline outline text
other_by sums outline text true none words is = held_written outline text (has_register (drop (offset_words text) text)) none words refl is
other_by sums outline text false none words is = unheld_by sums outline text (is_memory text) none (nothing_said (offset_words text) words) refl is

register_named : (found : Option NamedRegister) (reg : Reg) → register_in found ≡ Some reg → found ≡ Some (named.Plain reg)
register_named None reg is = cc
register_named (Some (named.Plain own)) reg is = let same : own ≡ reg = some_is is in rw same refl
register_named (Some named.Rip) reg is = cc
register_named (Some (named.Segment segment)) reg is = cc

lone_written : (text : List SpelledToken) (reg : Reg) → lone_register text ≡ Some reg → IsOutline (lone reg) text
unfolding lone_register
lone_written [] reg is = cc
lone_written (word ∷ []) reg is = alone reg word (register_named (register_of word.bytes) reg is)
lone_written (word ∷ second ∷ rest) reg is = cc

outline_written_by : SumsAreWritten → (outline : Outline) (text : List SpelledToken) (found : Option Reg) → lone_register text ≡ found → outline_by text found ≡ Some outline → IsOutline outline text
outline_written_by sums outline text (Some reg) names is = subst (λ (o : Outline). IsOutline o text) (some_is is) (lone_written text reg names)
outline_written_by sums outline text None names is = other_by sums outline text (nat_lt 0 (offset_words text)) names refl is

-- what is read round a value is written
pub outline_written : SumsAreWritten → (outline : Outline) (text : List SpelledToken) → outline_of text ≡ Some outline → IsOutline outline text
unfolding outline_of
outline_written sums outline text is = outline_written_by sums outline text (lone_register text) refl is

-- memory as a usual sum
pub lone_summed : (tokens : List Token) (found : LoneSum) (bits mark : ℕ) (segment : Option Segment) → IsFoundIn tokens found
    → summed bits mark segment (sum_of (Ok no_sum) (but_last (map spelled tokens))) ≡ summed_by bits mark (left_in tokens found) (address_of segment (One (Plain found.named)))
lone_summed tokens found bits mark segment is = ap (summed bits mark segment) is.sum
