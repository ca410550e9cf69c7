-- Memory at one register or two is read so.
use Rattle.std.proofs.Common.{◌≡◌, ℕ, ◌+◌, ◌==◌, ◌||◌, ◌&&◌, nat_lt, is_some, Bool, true, false, cond, List, [], ◌∷◌, ◌++◌, Option, Some, None, Result, Ok, Err, length, map, take, drop, slice_get, codes, refl, sym, ap, subst, ◌∙◌, arith, inl, inr, append_assoc, length-append}
use Rattle.std.proofs.lemmas.Bool.{eqb-true, cases_Bool, and_from, and_parts, lt-ltb}
use Rattle.std.proofs.lemmas.List.{drop-map}
use Rattle.std.specs.List.{list_all}
use Rattle.asm_base.specs.declared.tokens.Token.{Token}
use Rattle.asm_base.specs.Tokens.{SpelledToken, spelled}
use Rattle.x86_insn.specs.declared.insns.Address.{Address}
use Rattle.att_operands.specs.declared.faults.OperandCause.{OperandCause}
use Rattle.att_operands.specs.Marks.{mark_by, mark_at}
use Rattle.att_operands.specs.Values.{GivesSo}
use Rattle.intel_sums.specs.declared.parts.Parts.{Parts}
use Rattle.intel_sums.specs.declared.parts.Parts.TheVariants.{Nothing}
use Rattle.intel_sums.specs.Spells.{WritesSum, other}
use Rattle.intel_sums.specs.LoneSums.{is_calm}
use Rattle.intel_sums.specs.SumLaws.{SumsAreRead, CalmTokensStay}
use Rattle.intel_operands.specs.declared.operands.SizedOperand.{SizedOperand}
use Rattle.intel_operands.specs.declared.operands.FoundOperand.{FoundOperand}
use Rattle.intel_operands.specs.Words.{is_word, bits_by, bits_in, offset_words}
use Rattle.intel_operands.specs.OperandTexts.{SizedText, Outline, lone_register, segment_of, has_bracket, is_nested, is_memory, summed_at, outlined, operand_of, is_no_comma, up_to_comma, ReadPart, ended, operand_at, IsSized, IsPartRead}
use Rattle.intel_operands.specs.Spells.{PlacesMemory, bracket, SegmentsMemory, plain, unsaid, said, IsOutline, place, HasNoComma, ends}
use Rattle.intel_operands.specs.Usual.{OpensBehind, HoldsAddress, sized_of, ShowsMemory, said_words, SaysPlainly}
use Rattle.intel_operands.proofs.OutlineTexts.{outline_reads, nothing_said, size_front}
use Rattle.intel_operands.proofs.SpelledTests.{take_spelled}
use Rattle.intel_operands.proofs.UsualOperands.{text_reads, found_so}
use Rattle.intel_operands.proofs.UsualSums.{stands, Parted, unmarked_comma, comma_behind, finished, parted, text_in, whole_in}

-- WHAT STANDS ROUND THE VALUE

always : (b : Bool) → (b || true) ≡ true
always true = refl
always false = refl

bracket_in : (front : List SpelledToken) (opening : SpelledToken) (more : List SpelledToken) → mark_by (Some opening) ≡ 91 → has_bracket (front ++ (opening ∷ more)) ≡ true
unfolding has_bracket
bracket_in [] opening more is = rw is refl
bracket_in (token ∷ front) opening more is = ap (λ (b : Bool). (mark_by (Some token) == 91) || b) (bracket_in front opening more is) ∙ always (mark_by (Some token) == 91)

writes_before : CalmTokensStay → (front : List SpelledToken) (to : Parts) (rest : List SpelledToken) → list_all is_calm front ≡ true → WritesSum false 0 Nothing to [] rest
    → WritesSum false 0 Nothing to front (front ++ rest)
writes_before calm_stay [] to rest calm writes = writes
writes_before calm_stay (token ∷ front) to rest calm writes =
    let both = and_parts (is_calm token) (list_all is_calm front) calm in
    let own = calm_stay token both.0 in
    other false 0 0 token Nothing to front (front ++ rest) own.no_bracket own.right own.level (writes_before calm_stay front to rest both.1 writes)

-- the mark of a token that stays in the text is none of a bracket
same_sum : CalmTokensStay → (bits : ℕ) (address : Address) (front more : List SpelledToken) → list_all is_calm front ≡ true → summed_at bits (mark_at (front ++ more) 0) address front ≡ summed_at bits 0 address front
same_sum calm_stay bits address [] more calm = refl
same_sum calm_stay bits address (token ∷ front) more calm =
    let both = and_parts (is_calm token) (list_all is_calm front) calm in
    let own = (calm_stay token both.0).no_bracket in
    rw own refl

places : CalmTokensStay → (bits : ℕ) (text : List SpelledToken) (count : ℕ) (address : Address) (next : ℕ) (apart : Parted text count address next)
    → PlacesMemory bits None (summed_at bits 0 address (take count text)) (text_in text count address next apart)
places calm_stay bits text count address next apart =
    let inside : List SpelledToken = apart.opening ∷ apart.word ∷ apart.more in
    let closing : List SpelledToken = apart.closing ∷ [] in
    let own = text_in text count address next apart in
    let writes = writes_before calm_stay (take count text) apart.inside.parts inside apart.calm apart.inside.writes in
    let has = bracket_in (take count text) apart.opening (apart.word ∷ (apart.more ++ closing)) apart.opens in
    subst (λ (o : Outline). PlacesMemory bits None o own) (same_sum calm_stay bits address (take count text) (apart.opening ∷ apart.word ∷ (apart.more ++ closing)) apart.calm)
    (bracket bits None address apart.inside.parts apart.closing (take count text) (take count text ++ inside) own has writes
    apart.inside.makes apart.closes (sym (append_assoc (take count text) inside closing)))

unsegmented : (text : List SpelledToken) → (mark_at text 1 == 58) ≡ false → segment_of text ≡ None
unfolding segment_of
unsegmented text is = rw is refl

first_get : (front : List SpelledToken) (a b : SpelledToken) (one two : List SpelledToken) → slice_get (front ++ (a ∷ b ∷ one)) 0 ≡ slice_get (front ++ (a ∷ b ∷ two)) 0
first_get [] a b one two = refl
first_get (x ∷ front) a b one two = refl

second_get : (front : List SpelledToken) (a b : SpelledToken) (one two : List SpelledToken) → slice_get (front ++ (a ∷ b ∷ one)) 1 ≡ slice_get (front ++ (a ∷ b ∷ two)) 1
second_get [] a b one two = refl
second_get (x ∷ []) a b one two = refl
second_get (x ∷ y ∷ front) a b one two = refl

second_in : (text : List SpelledToken) (count : ℕ) (address : Address) (next : ℕ) (apart : Parted text count address next) → slice_get text 1 ≡ slice_get (text_in text count address next apart) 1
second_in text count address next apart =
    ap (λ (ts : List SpelledToken). slice_get ts 1) (whole_in text count address next apart)
    ∙ second_get (take count text) apart.opening apart.word (apart.more ++ (apart.closing ∷ apart.behind)) (apart.more ++ (apart.closing ∷ []))

segments : CalmTokensStay → (bits : ℕ) (text : List SpelledToken) (count : ℕ) (address : Address) (next : ℕ) (apart : Parted text count address next) → (mark_at text 1 == 58) ≡ false
    → SegmentsMemory bits (summed_at bits 0 address (take count text)) (text_in text count address next apart)
segments calm_stay bits text count address next apart uncolon =
    let own = text_in text count address next apart in
    plain bits (summed_at bits 0 address (take count text)) own
    (unsegmented own (ap (λ (o : Option SpelledToken). mark_by o == 58) (sym (second_in text count address next apart)) ∙ uncolon)) (places calm_stay bits text count address next apart)

-- COMMAS

uncommaed : (token : SpelledToken) → (mark_by (Some token) == 44) ≡ false → is_no_comma token ≡ true
unfolding is_no_comma
uncommaed token is = rw is refl

commas_behind : CalmTokensStay → (front more : List SpelledToken) → list_all is_calm front ≡ true → HasNoComma more → HasNoComma (front ++ more)
commas_behind calm_stay [] more calm apart = apart
commas_behind calm_stay (token ∷ front) more calm apart =
    let both = and_parts (is_calm token) (list_all is_calm front) calm in
    and_from (is_no_comma token) (list_all is_no_comma (front ++ more)) (uncommaed token (calm_stay token both.0).no_comma) (commas_behind calm_stay front more both.1 apart)

both_apart : (one two : List SpelledToken) → HasNoComma one → HasNoComma two → HasNoComma (one ++ two)
both_apart [] two apart also = also
both_apart (token ∷ one) two apart also =
    let both = and_parts (is_no_comma token) (list_all is_no_comma one) apart in
    and_from (is_no_comma token) (list_all is_no_comma (one ++ two)) both.0 (both_apart one two both.1 also)

commas : CalmTokensStay → (text : List SpelledToken) (count : ℕ) (address : Address) (next : ℕ) (apart : Parted text count address next) → HasNoComma (text_in text count address next apart)
commas calm_stay text count address next apart =
    let behind : List SpelledToken = apart.more ++ (apart.closing ∷ []) in
    commas_behind calm_stay (take count text) (apart.opening ∷ apart.word ∷ behind) apart.calm
    (comma_behind apart.opening 91 (apart.word ∷ behind) apart.opens refl
    (comma_behind apart.word 0 behind apart.inside.unmarked refl (both_apart apart.more (apart.closing ∷ []) apart.inside.plain (comma_behind apart.closing 93 [] apart.closes refl refl))))

sized_words : (size pointer : SpelledToken) (text : List SpelledToken) → mark_by (Some size) ≡ 0 → mark_by (Some pointer) ≡ 0 → HasNoComma text → HasNoComma (size ∷ pointer ∷ text)
sized_words size pointer text front second apart =
    and_from (is_no_comma size) (is_no_comma pointer && list_all is_no_comma text) (unmarked_comma size 0 front refl)
    (and_from (is_no_comma pointer) (list_all is_no_comma text) (unmarked_comma pointer 0 second refl) apart)

-- THE OUTLINE

several : (a b : SpelledToken) (rest : List SpelledToken) → lone_register (a ∷ b ∷ rest) ≡ None
unfolding lone_register
several a b rest = refl

-- memory behind a size
said_outline : (bits : ℕ) (outline : Outline) (size pointer : SpelledToken) (text : List SpelledToken) → bits_by (Some size) ≡ bits → nat_lt 0 bits ≡ true → is_word (codes "ptr") (Some pointer) ≡ true
    → is_word (codes "offset") (Some size) ≡ false → mark_by (Some size) ≡ 0 → SegmentsMemory bits outline text → IsOutline outline (size ∷ pointer ∷ text)
said_outline bits outline size pointer text says some points shown unmarked segments =
    let all : List SpelledToken = size ∷ pointer ∷ text in
    let front : bits_in all ≡ bits = rw points says in
    let words : offset_words all ≡ 0 = rw shown refl in
    let memory : is_memory all ≡ true = rw (front, some) refl in
    let outside : is_nested all ≡ false = rw unmarked refl in
    place outline all (several size pointer text) words memory outside (said bits outline size pointer text says some points segments)

several_in : (front : List SpelledToken) (a b : SpelledToken) (rest : List SpelledToken) → lone_register (front ++ (a ∷ b ∷ rest)) ≡ None
several_in [] a b rest = several a b rest
several_in (x ∷ []) a b rest = several x a (b ∷ rest)
several_in (x ∷ y ∷ front) a b rest = several x y (front ++ (a ∷ b ∷ rest))

some_in : (front : List SpelledToken) (a : SpelledToken) (rest : List SpelledToken) → nat_lt 0 (length (front ++ (a ∷ rest))) ≡ true
some_in front a rest = let total = length-append front (a ∷ rest) in lt-ltb 0 (length (front ++ (a ∷ rest))) (omega arith)

some_more : (token : SpelledToken) (rest : List SpelledToken) → nat_lt 0 (length (token ∷ rest)) ≡ true
some_more token rest = lt-ltb 0 (length (token ∷ rest)) (omega arith)

unnested : CalmTokensStay → (front : List SpelledToken) (a b : SpelledToken) (rest : List SpelledToken) → list_all is_calm front ≡ true → mark_by (Some a) ≡ 91 → is_word (codes "ptr") (slice_get rest 0) ≡ false
    → is_nested (front ++ (a ∷ b ∷ rest)) ≡ false
unnested calm_stay [] a b rest calm opens none = rw (opens, none) refl
unnested calm_stay (token ∷ front) a b rest calm opens none =
    let both = and_parts (is_calm token) (list_all is_calm front) calm in
    let own = (calm_stay token both.0).no_bracket in
    rw own refl

-- memory that says no size
unsaid_outline : CalmTokensStay → (outline : Outline) (text : List SpelledToken) (count : ℕ) (address : Address) (next : ℕ) (apart : Parted text count address next) → bits_in text ≡ 0
    → is_word (codes "offset") (slice_get text 0) ≡ false → SegmentsMemory 0 outline (text_in text count address next apart) → IsOutline outline (text_in text count address next apart)
unsaid_outline calm_stay outline text count address next apart none shown segments_of =
    let all = text_in text count address next apart in
    let rest : List SpelledToken = apart.more ++ (apart.closing ∷ []) in
    let first : slice_get text 0 ≡ slice_get all 0 =
    ap (λ (ts : List SpelledToken). slice_get ts 0) (whole_in text count address next apart)
    ∙ first_get (take count text) apart.opening apart.word (apart.more ++ (apart.closing ∷ apart.behind)) rest in
    let second : slice_get text 1 ≡ slice_get all 1 = second_in text count address next apart in
    let bits : bits_in all ≡ 0 =
    ap (λ (o : Option SpelledToken). cond (is_word (codes "ptr") o) (bits_by (slice_get all 0)) 0) (sym second)
    ∙ ap (λ (o : Option SpelledToken). cond (is_word (codes "ptr") (slice_get text 1)) (bits_by o) 0) (sym first) ∙ none in
    let own : is_word (codes "offset") (slice_get all 0) ≡ false = ap (is_word (codes "offset")) (sym first) ∙ shown in
    let words : offset_words all ≡ 0 = rw own refl in
    let has = bracket_in (take count text) apart.opening (apart.word ∷ rest) apart.opens in
    let memory : is_memory all ≡ true = rw (bits, has) (always (is_some (segment_of all))) in
    let outside = unnested calm_stay (take count text) apart.opening apart.word rest apart.calm apart.opens apart.wordless in
    place outline all (several_in (take count text) apart.opening apart.word rest) words memory outside (unsaid outline all bits segments_of)

-- THE OPERAND

operand_reads : SumsAreRead → (branch : Bool) (all : List SpelledToken) (outline : Outline) → nat_lt 0 (length all) ≡ true → IsOutline outline all → operand_of branch all ≡ outlined branch (Some outline)
unfolding operand_of
operand_reads sums branch [] outline some is = cc
operand_reads sums branch (token ∷ rest) outline some is = ap (outlined branch) (outline_reads sums outline (token ∷ rest) is)

whole_reads : SumsAreRead → (branch : Bool) (tokens all behind : List SpelledToken) (outline : Outline) (sized : SizedOperand) (next : ℕ) → tokens ≡ all ++ behind → HasNoComma all → ends behind ≡ true
    → nat_lt 0 (length all) ≡ true → IsOutline outline all → next ≡ length all → GivesSo IsSized (Ok sized) (outlined branch (Some outline))
    → GivesSo IsPartRead (Ok (record { operand = sized.operand; bits = sized.bits; next = next })) (operand_at branch tokens 0)
whole_reads sums branch tokens all behind outline sized next stands apart finished some is size gives =
    let reads : operand_at branch tokens 0 ≡ ended (0 + length all) (outlined branch (Some outline)) =
    text_reads branch tokens 0 all behind stands apart finished ∙ ap (ended (0 + length all)) (operand_reads sums branch all outline some is) in
    let here : 0 + length all ≡ next = omega arith in
    subst (λ (n : ℕ). GivesSo IsPartRead (Ok (record { operand = sized.operand; bits = sized.bits; next = n })) (operand_at branch tokens 0)) here
    (subst (λ (r : Result ReadPart OperandCause). GivesSo IsPartRead (Ok (record { operand = sized.operand; bits = sized.bits; next = 0 + length all })) r) (sym reads)
    (found_so sized (0 + length all) (outlined branch (Some outline)) gives))

ending_in : (text : List SpelledToken) (count : ℕ) (address : Address) (next : ℕ) (apart : Parted text count address next) → text ≡ text_in text count address next apart ++ apart.behind
ending_in text count address next apart =
    whole_in text count address next apart
    ∙ ap (λ (ts : List SpelledToken). take count text ++ (apart.opening ∷ apart.word ∷ ts)) (sym (append_assoc apart.more (apart.closing ∷ []) apart.behind))
    ∙ sym (append_assoc (take count text) (apart.opening ∷ apart.word ∷ (apart.more ++ (apart.closing ∷ []))) apart.behind)

long_in : (text : List SpelledToken) (count : ℕ) (address : Address) (next : ℕ) (apart : Parted text count address next) → length (text_in text count address next apart) ≡ next
long_in text count address next apart =
    let total = length-append (take count text) (apart.opening ∷ apart.word ∷ (apart.more ++ (apart.closing ∷ []))) in
    let inner = length-append apart.more (apart.closing ∷ []) in
    let front = apart.size in
    let there = apart.ends_there in
    omega arith

sized_in : (tokens rest own behind : List SpelledToken) (size pointer : SpelledToken) → tokens ≡ size ∷ pointer ∷ rest → rest ≡ own ++ behind → tokens ≡ (size ∷ pointer ∷ own) ++ behind
sized_in tokens rest own behind size pointer splits inside = splits ∙ ap (λ (ts : List SpelledToken). size ∷ pointer ∷ ts) inside

memory_by : CalmTokensStay → SumsAreRead → (branch : Bool) (tokens : List SpelledToken) (bits : ℕ) (found : FoundOperand) (b : Bool) → nat_lt 0 bits ≡ b → is_word (codes "offset") (slice_get tokens 0) ≡ false → bits ≡ bits_in tokens
    → SaysPlainly bits tokens → ShowsMemory (drop (cond b 2 0) tokens) bits found
    → GivesSo IsPartRead (Ok (record { operand = found.operand; bits = found.bits; next = cond b 2 0 + found.next })) (operand_at branch tokens 0)
memory_by calm_stay sums branch tokens bits found true some shown is plainly given =
    let sizes = size_front tokens (ap (nat_lt 0) (sym is) ∙ some) in
    let inside : drop 2 tokens ≡ sizes.rest = ap (λ (ts : List SpelledToken). drop 2 ts) sizes.splits in
    let shows : ShowsMemory sizes.rest bits found = subst (λ (ts : List SpelledToken). ShowsMemory ts bits found) inside given in
    let apart = parted sizes.rest shows.before (record { address = shows.address; next = found.next }) shows.opens shows.holds in
    let own = text_in sizes.rest shows.before shows.address found.next apart in
    let all : List SpelledToken = sizes.size ∷ sizes.pointer ∷ own in
    let outline : Outline = summed_at bits 0 shows.address (take shows.before sizes.rest) in
    let points = sizes.points in
    let held : bits_in (sizes.size ∷ sizes.pointer ∷ sizes.rest) ≡ bits_by (Some sizes.size) = rw points refl in
    let says : bits_by (Some sizes.size) ≡ bits = sym (is ∙ ap (λ (ts : List SpelledToken). bits_in ts) sizes.splits ∙ held) in
    let offset : is_word (codes "offset") (Some sizes.size) ≡ false = sym (ap (λ (ts : List SpelledToken). is_word (codes "offset") (slice_get ts 0)) sizes.splits) ∙ shown in
    let first : mark_by (Some sizes.size) ≡ 0 = sym (ap (λ (ts : List SpelledToken). mark_at ts 0) sizes.splits) ∙ (plainly some).0 in
    let second : mark_by (Some sizes.pointer) ≡ 0 = sym (ap (λ (ts : List SpelledToken). mark_at ts 1) sizes.splits) ∙ (plainly some).1 in
    let round = said_outline bits outline sizes.size sizes.pointer own says some points offset first (segments calm_stay bits sizes.rest shows.before shows.address found.next apart shows.apart) in
    let stands_so : tokens ≡ all ++ apart.behind =
    sized_in tokens sizes.rest own apart.behind sizes.size sizes.pointer sizes.splits (ending_in sizes.rest shows.before shows.address found.next apart) in
    let total = long_in sizes.rest shows.before shows.address found.next apart in
    let size : 2 + found.next ≡ length all = omega arith in
    whole_reads sums branch tokens all apart.behind outline (sized_of found) (2 + found.next) stands_so
    (sized_words sizes.size sizes.pointer own first second (commas calm_stay sizes.rest shows.before shows.address found.next apart)) apart.ended (some_more sizes.size (sizes.pointer ∷ own)) round size
    (shows.reads branch)
memory_by calm_stay sums branch tokens bits found false some shown is plainly shows =
    let none = nothing_said bits some in
    let apart = parted tokens shows.before (record { address = shows.address; next = found.next }) shows.opens shows.holds in
    let all = text_in tokens shows.before shows.address found.next apart in
    let outline : Outline = summed_at bits 0 shows.address (take shows.before tokens) in
    let within : SegmentsMemory 0 outline all = subst (λ (n : ℕ). SegmentsMemory n outline all) none (segments calm_stay bits tokens shows.before shows.address found.next apart shows.apart) in
    let round = unsaid_outline calm_stay outline tokens shows.before shows.address found.next apart (sym is ∙ none) shown within in
    let total = long_in tokens shows.before shows.address found.next apart in
    let size : 0 + found.next ≡ length all = omega arith in
    whole_reads sums branch tokens all apart.behind outline (sized_of found) (0 + found.next) (ending_in tokens shows.before shows.address found.next apart)
    (commas calm_stay tokens shows.before shows.address found.next apart) apart.ended
    (some_in (take shows.before tokens) apart.opening (apart.word ∷ (apart.more ++ (apart.closing ∷ [])))) round size
    (shows.reads branch)

-- memory in front of the tokens
pub memory_is : CalmTokensStay → SumsAreRead → (branch : Bool) (tokens text : List Token) (bits count : ℕ) (found : FoundOperand) → is_word (codes "offset") (slice_get (map spelled tokens) 0) ≡ false → bits ≡ bits_in (map spelled tokens)
    → SaysPlainly bits (map spelled tokens) → count ≡ said_words bits → text ≡ drop count tokens → ShowsMemory (map spelled text) bits found
    → GivesSo IsPartRead (Ok (record { operand = found.operand; bits = found.bits; next = count + found.next })) (operand_at branch (map spelled tokens) 0)
memory_is calm_stay sums branch tokens text bits count found shown is plainly counted from shows =
    let same : text ≡ drop (said_words bits) tokens = from ∙ ap (λ (n : ℕ). drop n tokens) counted in
    let own : ShowsMemory (map spelled (drop (said_words bits) tokens)) bits found = subst (λ (ts : List Token). ShowsMemory (map spelled ts) bits found) same shows in
    subst (λ (n : ℕ). GivesSo IsPartRead (Ok (record { operand = found.operand; bits = found.bits; next = n + found.next })) (operand_at branch (map spelled tokens) 0)) (sym counted)
    (memory_by calm_stay sums branch (map spelled tokens) bits found (nat_lt 0 bits) refl shown is plainly
    (subst (λ (ts : List SpelledToken). ShowsMemory ts bits found) (sym (drop-map spelled (said_words bits) tokens)) own))

other_mark : (mark due : ℕ) → (mark ≡ due → ⊥) → (mark == due) ≡ false
other_mark mark due apart = elim (cases_Bool (mark == due)) [
  | inl t ↦ absurd (apart (eqb-true mark due t))
  | inr f ↦ f
]

-- the parts of such memory make it
pub shows : (tokens : List Token) (bits before : ℕ) (address : Address) (found : FoundOperand) → OpensBehind (map spelled tokens) before → (mark_at (map spelled tokens) 1 ≡ 58 → ⊥)
    → HoldsAddress (map spelled tokens) before (record { address = address; next = found.next })
    → ((branch : Bool) → GivesSo IsSized (Ok (sized_of found)) (outlined branch (Some (summed_at bits 0 address (map spelled (take before tokens))))))
    → ShowsMemory (map spelled tokens) bits found
shows tokens bits count address found opens apart holds reads = record {
  before = count;
  address = address;
  opens = opens;
  apart = other_mark (mark_at (map spelled tokens) 1) 58 apart;
  holds = holds;
  reads = λ branch.
      subst (λ (ts : List SpelledToken). GivesSo IsSized (Ok (sized_of found)) (outlined branch (Some (summed_at bits 0 address ts)))) (take_spelled count tokens) (reads branch);
}

shifted : (found : FoundOperand) (at n : ℕ) (read : Result SizedText OperandCause) → GivesSo IsPartRead (Ok found) (ended (0 + n) read)
    → GivesSo IsPartRead (Ok (record { operand = found.operand; bits = found.bits; next = at + found.next })) (ended (at + n) read)
shifted found at n (Ok due) is = let same = is.next in record { operand = is.operand; bits = is.bits; next = omega arith }
shifted found at n (Err cause) is = absurd is

-- an operand in front of the tokens from a place on stands at the place
pub moved_on : (branch : Bool) (tokens text : List Token) (at : ℕ) (found : FoundOperand) → text ≡ drop at tokens → GivesSo IsPartRead (Ok found) (operand_at branch (map spelled text) 0)
    → GivesSo IsPartRead (Ok (record { operand = found.operand; bits = found.bits; next = at + found.next })) (operand_at branch (map spelled tokens) at)
unfolding operand_at
moved_on branch tokens text at found from is =
    let behind = drop at (map spelled tokens) in
    let own : GivesSo IsPartRead (Ok found) (operand_at branch behind 0) =
    subst (λ (ts : List SpelledToken). GivesSo IsPartRead (Ok found) (operand_at branch ts 0)) (ap (λ (ts : List Token). map spelled ts) from ∙ sym (drop-map spelled at tokens)) is in
    shifted found at (up_to_comma behind) (operand_of branch (take (up_to_comma behind) behind)) own
