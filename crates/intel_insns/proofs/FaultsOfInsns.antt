-- An instruction is refused exactly for the fault that it has.
use Rattle.std.proofs.Common.{◌≡◌, ◌<◌, ℕ, zero, suc, ◌+◌, ◌-◌, ◌==◌, ◌||◌, not, nat_lt, Bool, true, false, cond, List, [], ◌∷◌, ◌++◌, Option, Some, None, Result, Ok, Err, length, drop, slice_get, refl, sym, ap, subst, ◌∙◌, arith, length-append, length-drop}
use Rattle.std.proofs.lemmas.Bool.{ltb-true, lt-ltb, or_parts, both_ways, eq-eqb, eqb-true, false_from_ne_true}
use Rattle.std.specs.List.{find, list_all}
use Rattle.asm_base.specs.Refusals.{◌>>=◌}
use Rattle.asm_base.specs.Tokens.{SpelledToken}
use Rattle.x86_insn.specs.declared.insns.Prefix.{Prefix}
use Rattle.x86_table.specs.declared.forms.Row.{Row}
use Rattle.x86_table.specs.Rows.{the_rows}
use Rattle.x86_lookup.specs.declared.names.Named.{Named}
use Rattle.x86_lookup.specs.declared.names.Rule.{Rule}
use Rattle.x86_lookup.specs.declared.names.Rule.TheVariants as rule
use Rattle.att_operands.specs.declared.faults.OperandCause.{OperandCause}
use Rattle.att_operands.specs.declared.faults.OperandCause.TheVariants.{UnknownMnemonic, BadOperand, UnknownOperandSize}
use Rattle.att_insns.specs.InsnTexts.{InsnText, blank}
use Rattle.att_insns.specs.Rules.{is_branch}
use Rattle.x86_lookup.specs.Forms.{is_form}
use Rattle.att_insns.specs.Sources.{word_name, source_name, renamed, source_bits, unless_form, from_unsized, by_bits}
use Rattle.intel_operands.specs.OperandTexts.{SizedText, ReadPart, operand_at}
use Rattle.intel_operands.specs.Spells.{IsSpelledIn}
use Rattle.intel_operands.specs.Failing.{HasFault as OperandHasFault, front_of}
use Rattle.intel_insns.specs.InsnTexts.{FilledText, with_operand}
use Rattle.intel_insns.specs.Rules.{meant_by}
use Rattle.intel_insns.specs.Sizes.{form_of, agrees, sized_by, size_left, sized}
use Rattle.intel_insns.specs.Heads.{Head, head, head_of}
use Rattle.intel_insns.specs.Reading.{operand_then, operands_at, with_all, unfilled, finished, insn_by, insn_of}
use Rattle.intel_insns.specs.Spells.{WritesAll, IsHead, filled_by, OperandsAreRead, OperandsAreSpelled}
use Rattle.intel_insns.specs.Failing.{HasNoHead, OperandsFail, over, first, later, HasTwoSizes, HasTwoSources, HasFault, unknown, operands, sources, sizes, HasFaultExactly, OperandsFailExactly}
use Rattle.intel_insns.proofs.SizesFound.{found_one, none_passes, all_passes, one_fails}
use Rattle.intel_insns.proofs.SpelledInsns.{drop_more, drop_past, comma_ends, all_read, head_reads}
use Rattle.intel_insns.proofs.ReadInsns.{comma_of, all_spelled, HeadStands, head_stands}

err_is : {A : Type 0} (one other : OperandCause) → (let given : Result A OperandCause = Err one in given ≡ Err other) → one ≡ other
err_is one other h = cc

-- OPERANDS

-- operands of which one has a fault are refused for it
operands_refused : OperandsAreRead → OperandsFailExactly → (most : ℕ) (branch : Bool) (text tokens : List SpelledToken) (at : ℕ) (insn : FilledText) (cause : OperandCause)
    → OperandsFail most branch text cause → drop at tokens ≡ text → operands_at most branch tokens at insn ≡ Err cause
operands_refused law faults _ _ text tokens at insn _ (over branch _) stands = refl
operands_refused law faults _ _ text tokens at insn cause (first others branch _ _ has) stands =
    let given : OperandHasFault branch (front_of (drop at tokens)) cause = subst (λ (ts : List SpelledToken). OperandHasFault branch (front_of ts) cause) (sym stands) has in
    ap (operand_then tokens (operands_at others branch tokens) insn) ((faults branch tokens at cause).refused given)
operands_refused law faults _ _ text tokens at insn cause (later others branch operand comma before rest _ _ spells comma_is fails is) stands =
    let split : drop at tokens ≡ before ++ (comma ∷ rest) = stands ∙ is in
    let reads = law branch operand tokens at before (comma ∷ rest) spells split (comma_ends comma rest comma_is) in
    let sum : length before + suc (length rest) ≡ length tokens - at = sym (ap length split ∙ length-append before (comma ∷ rest)) ∙ length-drop at tokens in
    let under : nat_lt (at + length before) (length tokens) ≡ true = lt-ltb (at + length before) (length tokens) (omega arith) in
    let left : drop ((at + length before) + 1) tokens ≡ rest =
    drop_more (length before + 1) tokens (before ++ (comma ∷ rest)) at ((at + length before) + 1) split (omega arith) ∙ drop_past before comma rest (length before + 1) refl in
    ap (operand_then tokens (operands_at others branch tokens) insn) reads
    ∙ (rw under (operands_refused law faults others branch rest tokens ((at + length before) + 1) (with_operand operand insn) cause fails left))

-- so many operands at a place fail where they are refused
abbrev Rest : ℕ → Bool → List SpelledToken → Type 0
Rest most branch tokens = (at : ℕ) (insn : FilledText) (cause : OperandCause) → operands_at most branch tokens at insn ≡ Err cause → OperandsFail most branch (drop at tokens) cause

later_fails : (others : ℕ) (branch : Bool) (tokens : List SpelledToken) (at : ℕ) (found : ReadPart) (cause : OperandCause) → IsSpelledIn branch tokens at found
    → nat_lt found.next (length tokens) ≡ true → OperandsFail others branch (drop (found.next + 1) tokens) cause → OperandsFail (suc others) branch (drop at tokens) cause
later_fails others branch tokens at found cause read under rest =
    let next = read.next in
    let sum : length read.text + length read.behind ≡ length tokens - at = sym (ap length read.stands ∙ length-append read.text read.behind) ∙ length-drop at tokens in
    let below = ltb-true found.next (length tokens) under in
    let comma = comma_of read.behind read.ended (omega arith) in
    let split : drop at tokens ≡ read.text ++ (comma.comma ∷ comma.others) = read.stands ∙ ap (λ (ts : List SpelledToken). read.text ++ ts) comma.is in
    let left : drop (found.next + 1) tokens ≡ comma.others =
    drop_more (length read.text + 1) tokens (read.text ++ (comma.comma ∷ comma.others)) at (found.next + 1) split (omega arith) ∙ drop_past read.text comma.comma comma.others (length read.text + 1) refl in
    later others branch found.sized comma.comma read.text comma.others (drop at tokens) cause read.spells comma.mark
    (subst (λ (ts : List SpelledToken). OperandsFail others branch ts cause) left rest) split

by_place : (others : ℕ) (branch : Bool) (tokens : List SpelledToken) (at : ℕ) (insn : FilledText) (cause : OperandCause) (found : ReadPart) (b : Bool) → Rest others branch tokens
    → IsSpelledIn branch tokens at found → nat_lt found.next (length tokens) ≡ b
    → cond b (operands_at others branch tokens (found.next + 1) (with_operand found.sized insn)) (Ok (with_operand found.sized insn)) ≡ Err cause
    → OperandsFail (suc others) branch (drop at tokens) cause
by_place others branch tokens at insn cause found true rest read test is =
    later_fails others branch tokens at found cause read test (rest (found.next + 1) (with_operand found.sized insn) cause is)
by_place others branch tokens at insn cause found false rest read test is = cc

by_operand : OperandsAreSpelled → OperandsFailExactly → (others : ℕ) (branch : Bool) (tokens : List SpelledToken) (at : ℕ) (insn : FilledText) (cause : OperandCause)
    (read : Result ReadPart OperandCause) → Rest others branch tokens → operand_at branch tokens at ≡ read
    → operand_then tokens (operands_at others branch tokens) insn read ≡ Err cause → OperandsFail (suc others) branch (drop at tokens) cause
by_operand law faults others branch tokens at insn cause (Err own) rest reads is =
    let same : own ≡ cause = err_is own cause is in
    first others branch (drop at tokens) cause ((faults branch tokens at cause).fails (reads ∙ ap Err same))
by_operand law faults others branch tokens at insn cause (Ok found) rest reads is =
    by_place others branch tokens at insn cause found (nat_lt found.next (length tokens)) rest (law branch tokens at found reads) refl is

operands_fail : OperandsAreSpelled → OperandsFailExactly → (most : ℕ) (branch : Bool) (tokens : List SpelledToken) → Rest most branch tokens
operands_fail law faults zero branch tokens at insn cause given =
    subst (λ (c : OperandCause). OperandsFail zero branch (drop at tokens) c) (err_is BadOperand cause given) (over branch (drop at tokens))
operands_fail law faults (suc others) branch tokens at insn cause given =
    by_operand law faults others branch tokens at insn cause (operand_at branch tokens at) (operands_fail law faults others branch tokens) refl given

-- SIZES

unlike : (bits : ℕ) (insn : InsnText) (one other : Row) (found : Row) → form_of bits insn one ≡ true → form_of bits insn other ≡ true → (other.size == one.size) ≡ false
    → list_all (agrees bits insn found.size) the_rows ≡ true → (i j : ℕ) → slice_get the_rows i ≡ Some one → slice_get the_rows j ≡ Some other → ⊥
unlike bits insn one other found form also differ all i j stands also_stands =
    let here : (not (form_of bits insn one) || (one.size == found.size)) ≡ true = all_passes (agrees bits insn found.size) the_rows i one all stands in
    let there : (not (form_of bits insn other) || (other.size == found.size)) ≡ true = all_passes (agrees bits insn found.size) the_rows j other all also_stands in
    let same : one.size ≡ found.size = eqb-true one.size found.size (rw form at here) in
    let alike : other.size ≡ found.size = eqb-true other.size found.size (rw also at there) in
    both_ways (other.size == one.size) differ (eq-eqb other.size one.size (alike ∙ sym same))

pub refused_by : (bits : ℕ) (insn : InsnText) (found : Option Row) → HasTwoSizes bits insn → find (form_of bits insn) the_rows ≡ found
    → sized_by bits insn found ≡ Err UnknownOperandSize
refused_by bits insn None two is = absurd (both_ways (form_of bits insn two.one) (none_passes (form_of bits insn) the_rows two.at two.one is two.stands) two.form)
refused_by bits insn (Some r) two is =
    let none : list_all (agrees bits insn r.size) the_rows ≡ false =
    false_from_ne_true (list_all (agrees bits insn r.size) the_rows)
    (λ all. unlike bits insn two.one two.other r two.form two.also_form two.differ all two.at two.also_at two.stands two.also_stands) in
    rw none refl

-- an instruction of two sizes gets none
size_refused : (bits : ℕ) (insn : InsnText) → HasTwoSizes bits insn → sized bits insn ≡ Err UnknownOperandSize
unfolding size_left
size_refused bits insn two =
    let none : sized_by bits insn (find (form_of bits insn) the_rows) ≡ Err UnknownOperandSize = refused_by bits insn (find (form_of bits insn) the_rows) two refl in
    let open_size = two.not_fixed in
    rw open_size none

-- the instruction has two sizes, and the fault is that none is known
record TwoSizes (bits : ℕ) (insn : InsnText) (cause : OperandCause) : Type 0 where
  has : HasTwoSizes bits insn
  is : cause ≡ UnknownOperandSize

missing_form : (a b : Bool) → (not a || b) ≡ false → a ≡ true
missing_form true b h = refl
missing_form false b h = cc

fails_some : (bits : ℕ) (insn : InsnText) (cause : OperandCause) (r : Row) (b : Bool) → (insn.size == 0) ≡ true → find (form_of bits insn) the_rows ≡ Some r
    → list_all (agrees bits insn r.size) the_rows ≡ b → cond b (Ok (record insn { size = r.size })) (Err UnknownOperandSize) ≡ Err cause → TwoSizes bits insn cause
fails_some bits insn cause r true open_size is all given = cc
fails_some bits insn cause r false open_size is all given =
    let one = found_one (form_of bits insn) the_rows r is in
    let miss = one_fails (agrees bits insn r.size) the_rows all in
    let parts = or_parts (not (form_of bits insn miss.row)) (miss.row.size == r.size) miss.fails in
    record {
      has = record {
        not_fixed = open_size;
        at = one.at;
        one = r;
        stands = one.stands;
        form = one.passes;
        also_at = miss.at;
        other = miss.row;
        also_stands = miss.stands;
        also_form = missing_form (form_of bits insn miss.row) (miss.row.size == r.size) miss.fails;
        differ = parts.1;
      };
      is = sym (err_is UnknownOperandSize cause given);
    }

fails_left : (bits : ℕ) (insn : InsnText) (cause : OperandCause) (found : Option Row) → (insn.size == 0) ≡ true → find (form_of bits insn) the_rows ≡ found
    → sized_by bits insn found ≡ Err cause → TwoSizes bits insn cause
fails_left bits insn cause None open_size is given = cc
fails_left bits insn cause (Some r) open_size is given = fails_some bits insn cause r (list_all (agrees bits insn r.size) the_rows) open_size is refl given

fails_by : (bits : ℕ) (insn : InsnText) (cause : OperandCause) (b : Bool) → (insn.size == 0) ≡ b
    → cond b (size_left bits insn) (Ok insn) ≡ Err cause → TwoSizes bits insn cause
unfolding size_left
fails_by bits insn cause true open_size given = fails_left bits insn cause (find (form_of bits insn) the_rows) open_size refl given
fails_by bits insn cause false open_size given = cc

size_fails : (bits : ℕ) (insn : InsnText) (cause : OperandCause) → sized bits insn ≡ Err cause → TwoSizes bits insn cause
size_fails bits insn cause given = fails_by bits insn cause (insn.size == 0) refl given

-- SOURCES

-- the rows that take 16 bits of a source
abbrev wider_form : InsnText → Row → Bool
wider_form insn r = is_form (word_name insn.name.0) insn.first insn.second insn.third r

wider_found : (insn : InsnText) (found : Option Row) (at : ℕ) (r : Row) → find (wider_form insn) the_rows ≡ found → slice_get the_rows at ≡ Some r → wider_form insn r ≡ true
    → unless_form insn found ≡ Err UnknownOperandSize
wider_found insn None at r is stands form = absurd (both_ways (wider_form insn r) (none_passes (wider_form insn) the_rows at r is stands) form)
wider_found insn (Some s) at r is stands form = refl

unsized_refused : (insn : InsnText) (at : ℕ) (r : Row) → slice_get the_rows at ≡ Some r → wider_form insn r ≡ true → from_unsized insn ≡ Err UnknownOperandSize
unfolding from_unsized
unsized_refused insn at r stands form = wider_found insn (find (wider_form insn) the_rows) at r refl stands form

-- a source of two sizes leaves it open
source_refused : (own : Rule) (filled : FilledText) → HasTwoSources own filled → meant_by own filled ≡ Err UnknownOperandSize
source_refused own filled two =
    let unsaid = two.unsaid in
    ap (λ (r : Rule). meant_by r filled) two.by_source ∙ rw unsaid (unsized_refused filled.insn two.at two.wider two.stands two.form)

-- the source has two sizes, and the fault is that none is known
record TwoSources (own : Rule) (filled : FilledText) (cause : OperandCause) : Type 0 where
  has : HasTwoSources own filled
  is : cause ≡ UnknownOperandSize

wider_by : (filled : FilledText) (cause : OperandCause) (found : Option Row) → (source_bits filled.bits filled.insn.second == 0) ≡ true → find (wider_form filled.insn) the_rows ≡ found
    → unless_form filled.insn found ≡ Err cause → TwoSources rule.BySource filled cause
wider_by filled cause None unsaid is given = cc
wider_by filled cause (Some r) unsaid is given =
    let one = found_one (wider_form filled.insn) the_rows r is in
    record {
      has = record { by_source = refl; unsaid = unsaid; at = one.at; wider = r; stands = one.stands; form = one.passes };
      is = sym (err_is UnknownOperandSize cause given);
    }

source_by : (filled : FilledText) (cause : OperandCause) (bits : ℕ) (b : Bool) → source_bits filled.bits filled.insn.second ≡ bits → (bits == 0) ≡ b
    → cond b (from_unsized filled.insn) (Ok (renamed filled.insn (source_name bits filled.insn.name.0))) ≡ Err cause → TwoSources rule.BySource filled cause
unfolding from_unsized
source_by filled cause bits true are test given =
    wider_by filled cause (find (wider_form filled.insn) the_rows) (ap (λ (n : ℕ). n == 0) are ∙ test) refl given
source_by filled cause bits false are test given = cc

source_fails : (filled : FilledText) (cause : OperandCause) (bits : ℕ) → source_bits filled.bits filled.insn.second ≡ bits → by_bits filled.insn bits ≡ Err cause → TwoSources rule.BySource filled cause
source_fails filled cause bits are given = source_by filled cause bits (bits == 0) are refl given

ruled_fails : (own : Rule) (filled : FilledText) (cause : OperandCause) → meant_by own filled ≡ Err cause → TwoSources own filled cause
ruled_fails rule.Plain filled cause given = cc
ruled_fails (rule.Predicate value) filled cause given = cc
ruled_fails rule.ByOne filled cause given = cc
ruled_fails rule.ByCl filled cause given = cc
ruled_fails rule.OneForTwo filled cause given = cc
ruled_fails rule.MemoryFirst filled cause given = cc
ruled_fails rule.AccumulatorFirst filled cause given = cc
ruled_fails rule.WithXmm0 filled cause given = cc
ruled_fails rule.Branch filled cause given = cc
ruled_fails rule.QuadIsMovq filled cause given = cc
ruled_fails rule.LongMemory filled cause given = cc
ruled_fails rule.OrMove filled cause given = cc
ruled_fails (rule.OrString name) filled cause given = cc
ruled_fails rule.BySource filled cause given = source_fails filled cause (source_bits filled.bits filled.insn.second) refl given

-- THE WHOLE

-- tokens that have a fault are refused for it
headless : (tokens : List SpelledToken) (found : Option Head) → head_of tokens ≡ found → HasNoHead tokens → insn_by tokens found ≡ Err UnknownMnemonic
headless tokens None heads headless_so = refl
headless tokens (Some found) heads headless_so = absurd (headless_so found.named found.«prefix» (drop found.next tokens) (head_stands tokens found heads).stands)

all_refused : OperandsAreRead → OperandsFailExactly → (branch : Bool) (token : SpelledToken) (text tokens : List SpelledToken) (at : ℕ) (insn : FilledText) (cause : OperandCause)
    → OperandsFail 3 branch (token ∷ text) cause → drop at tokens ≡ token ∷ text → with_all branch tokens at insn ≡ Err cause
unfolding with_all
all_refused law faults branch token text tokens at insn cause fails stands =
    let count : suc (length text) ≡ length tokens - at = sym (ap length stands) ∙ length-drop at tokens in
    let under : nat_lt at (length tokens) ≡ true = lt-ltb at (length tokens) (omega arith) in
    rw under (operands_refused law faults 3 branch (token ∷ text) tokens at insn cause fails stands)

insn_refused : OperandsAreRead → OperandsFailExactly → (tokens : List SpelledToken) (cause : OperandCause) → HasFault tokens cause → insn_of tokens ≡ Err cause
unfolding insn_of
insn_refused law faults _ _ (unknown tokens headless_so) = headless tokens (head_of tokens) refl headless_so
insn_refused law faults _ _ (operands named word token text tokens cause heads fails) =
    let front = head_reads named word (token ∷ text) tokens heads in
    ap (insn_by tokens) front.is
    ∙ ap (λ (read : Result FilledText OperandCause). read >>= finished (head named word front.next))
    (all_refused law faults (is_branch named.rule) token text tokens front.next (unfilled (blank named.name named.size word)) cause fails front.stands)
insn_refused law faults _ _ (sources named word written text tokens heads writes two) =
    let front = head_reads named word text tokens heads in
    ap (insn_by tokens) front.is
    ∙ ap (λ (read : Result FilledText OperandCause). read >>= finished (head named word front.next))
    (all_read law (is_branch named.rule) written text tokens front.next (unfilled (blank named.name named.size word)) writes front.stands)
    ∙ ap (λ (read : Result InsnText OperandCause). read >>= (λ insn. sized (filled_by named word written).bits insn)) (source_refused named.rule (filled_by named word written) two)
insn_refused law faults _ _ (sizes named word written insn text tokens heads writes means two) =
    let front = head_reads named word text tokens heads in
    ap (insn_by tokens) front.is
    ∙ ap (λ (read : Result FilledText OperandCause). read >>= finished (head named word front.next))
    (all_read law (is_branch named.rule) written text tokens front.next (unfilled (blank named.name named.size word)) writes front.stands)
    ∙ ap (λ (read : Result InsnText OperandCause). read >>= (λ insn. sized (filled_by named word written).bits insn)) means
    ∙ size_refused (filled_by named word written).bits insn two

-- tokens that are refused have the fault
split_front : (tokens : List SpelledToken) (at : ℕ) → at < length tokens → (token : SpelledToken) × (rest : List SpelledToken) × (drop at tokens ≡ token ∷ rest)
split_front [] at l = absurd (omega arith)
split_front (token ∷ tokens) zero l = (token, tokens, refl)
split_front (token ∷ tokens) (suc at) l = split_front tokens at (omega arith)

all_fails_by : OperandsAreSpelled → OperandsFailExactly → (found : Head) (tokens : List SpelledToken) (cause : OperandCause) (insn : FilledText) (b : Bool) → HeadStands tokens found
    → nat_lt found.next (length tokens) ≡ b → cond b (operands_at 3 (is_branch found.named.rule) tokens found.next insn) (Ok insn) ≡ Err cause → HasFault tokens cause
all_fails_by law faults found tokens cause insn true heads test given =
    let front = split_front tokens found.next (ltb-true found.next (length tokens) test) in
    let fails = operands_fail law faults 3 (is_branch found.named.rule) tokens found.next insn cause given in
    operands found.named found.«prefix» front.0 front.1 tokens cause
    (subst (λ (ts : List SpelledToken). IsHead found.named found.«prefix» ts tokens) front.2 heads.stands)
    (subst (λ (ts : List SpelledToken). OperandsFail 3 (is_branch found.named.rule) ts cause) front.2 fails)
all_fails_by law faults found tokens cause insn false heads test given = cc

all_fails : OperandsAreSpelled → OperandsFailExactly → (found : Head) (tokens : List SpelledToken) (cause : OperandCause) (insn : FilledText) → HeadStands tokens found
    → with_all (is_branch found.named.rule) tokens found.next insn ≡ Err cause → HasFault tokens cause
unfolding with_all
all_fails law faults found tokens cause insn heads given = all_fails_by law faults found tokens cause insn (nat_lt found.next (length tokens)) heads refl given

meant_fails : (named : Named) (word : Prefix) (written : List SizedText) (text tokens : List SpelledToken) (cause : OperandCause) (read : Result InsnText OperandCause) → IsHead named word text tokens
    → WritesAll (is_branch named.rule) written text → meant_by named.rule (filled_by named word written) ≡ read
    → (read >>= (λ insn. sized (filled_by named word written).bits insn)) ≡ Err cause → HasFault tokens cause
meant_fails named word written text tokens cause (Err own) heads writes means is =
    let two = ruled_fails named.rule (filled_by named word written) cause (means ∙ is) in
    subst (HasFault tokens) (sym two.is) (sources named word written text tokens heads writes two.has)
meant_fails named word written text tokens cause (Ok insn) heads writes means is =
    let two = size_fails (filled_by named word written).bits insn cause is in
    subst (HasFault tokens) (sym two.is) (sizes named word written insn text tokens heads writes means two.has)

headed_fails : OperandsAreSpelled → OperandsFailExactly → (found : Head) (tokens : List SpelledToken) (cause : OperandCause) (read : Result FilledText OperandCause) → HeadStands tokens found
    → with_all (is_branch found.named.rule) tokens found.next (unfilled (blank found.named.name found.named.size found.«prefix»)) ≡ read
    → (read >>= finished found) ≡ Err cause → HasFault tokens cause
headed_fails law faults found tokens cause (Err own) heads reads is =
    all_fails law faults found tokens cause (unfilled (blank found.named.name found.named.size found.«prefix»)) heads (reads ∙ ap Err (err_is own cause is))
headed_fails law faults found tokens cause (Ok filled) heads reads is =
    let all = all_spelled law (is_branch found.named.rule) tokens found.next (unfilled (blank found.named.name found.named.size found.«prefix»)) filled reads in
    let own : finished found (filled_by found.named found.«prefix» all.operands) ≡ Err cause = ap (finished found) (sym all.is) ∙ is in
    meant_fails found.named found.«prefix» all.operands (drop found.next tokens) tokens cause (meant_by found.named.rule (filled_by found.named found.«prefix» all.operands)) heads.stands all.writes refl own

fails_by_head : OperandsAreSpelled → OperandsFailExactly → (tokens : List SpelledToken) (cause : OperandCause) (found : Option Head) → head_of tokens ≡ found
    → insn_by tokens found ≡ Err cause → HasFault tokens cause
fails_by_head law faults tokens cause None heads is =
    subst (HasFault tokens) (err_is UnknownMnemonic cause is) (unknown tokens (λ named word text stands. let front = head_reads named word text tokens stands in let bad : None ≡ Some (head named word front.next) = sym heads ∙ front.is in cc))
fails_by_head law faults tokens cause (Some found) heads is =
    headed_fails law faults found tokens cause (with_all (is_branch found.named.rule) tokens found.next (unfilled (blank found.named.name found.named.size found.«prefix»))) (head_stands tokens found heads) refl is

insn_fails : OperandsAreSpelled → OperandsFailExactly → (tokens : List SpelledToken) (cause : OperandCause) → insn_of tokens ≡ Err cause → HasFault tokens cause
unfolding insn_of
insn_fails law faults tokens cause given = fails_by_head law faults tokens cause (head_of tokens) refl given

-- an instruction is refused exactly for the fault that it has
pub has_fault_exactly : OperandsAreRead → OperandsAreSpelled → OperandsFailExactly → (tokens : List SpelledToken) (cause : OperandCause) → HasFaultExactly tokens cause
has_fault_exactly read spelled faults tokens cause = record {
  fails = insn_fails spelled faults tokens cause;
  refused = insn_refused read faults tokens cause;
}
