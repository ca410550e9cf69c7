-- The numbers of instructions that are read in Intel syntax from bytes have 64 bits.
use Rattle.std.proofs.Common.{◌≡◌, ℕ, Bool, true, false, cond, List, [], ◌∷◌, ◌++◌, Some, Result, Ok, refl, subst, arith}
use Rattle.std.specs.Prelude.{◌<◌, ◌^◌, ◌==◌, All}
use Rattle.std.proofs.lemmas.List.Elements.{All-nil, All-cons, All-head, All-tail}
use Rattle.asm_base.specs.Tokens.{SpelledToken}
use Rattle.x86_insn.specs.declared.insns.Address.{Address}
use Rattle.x86_insn.specs.declared.insns.Prefix.{Prefix}
use Rattle.x86_lookup.specs.declared.names.Named.{Named}
use Rattle.x86_lookup.specs.declared.names.Rule.{Rule}
use Rattle.x86_lookup.specs.declared.names.Rule.TheVariants as rule
use Rattle.att_operands.specs.declared.faults.OperandCause.{OperandCause}
use Rattle.att_operands.specs.Marks.{mark_at, mark_by}
use Rattle.att_operands.specs.OperandTexts as operand
use Rattle.att_operands.specs.OperandTexts.{OperandText}
use Rattle.att_insns.specs.InsnTexts.{InsnText, blank, has_immediate, has_displacement}
use Rattle.att_insns.specs.Rules.{long_memory, ruled}
use Rattle.att_insns.specs.Slots.{is_absent}
use Rattle.att_insns.specs.Sources.{source_bits}
use Rattle.intel_sums.specs.declared.parts.Parts.{Parts}
use Rattle.intel_sums.specs.Spells.{WritesSum}
use Rattle.intel_sums.specs.Spells as summed
use Rattle.intel_sums.specs.Sums.{plus_at}
use Rattle.intel_operands.specs.OperandTexts.{SizedText, Outline, lone, held, bare, stands, moved, unled, summed_at}
use Rattle.intel_operands.specs.Spells.{PlacesMemory, SegmentsMemory, SizesMemory, IsOutline, HoldsValue, SpellsOperand}
use Rattle.intel_operands.specs.Spells as written
use Rattle.intel_insns.specs.InsnTexts.{FilledText, followed_by, with_text, with_operand, with_operands}
use Rattle.intel_insns.specs.Reading.{unfilled, insn_of}
use Rattle.intel_insns.specs.Rules.{or_string, if_unsized, meant_by}
use Rattle.intel_insns.specs.Spells.{WritesOperands, WritesAll, GetsSize, IsHead, filled_by, Spells}
use Rattle.intel_insns.specs.Spells as spelled
use Rattle.form_laws.specs.Numbers.{IsInBytes}
use Rattle.form_laws.proofs.AttTexts.{value_fits}
use Rattle.form_laws.proofs.Texts.{IsFitting, OperandFits, beside_fits, blank_fits, RuleFits, intel_rule_fits, choice_fits, as_fits, ruled_fits, ok_fits, bits_fit}
use Rattle.form_laws.proofs.Trees.{all_first, all_last}

-- SUMS

-- the `+` in place of a bracket is spelled in bytes
plus_spelled : (token : SpelledToken) → IsInBytes (plus_at token)
plus_spelled token = All-cons (λ byte. byte < 2 ^ 8) 43 [] (omega arith) (All-nil (λ byte. byte < 2 ^ 8))

-- what is left of a sum
sum_spelled : (opened : Bool) (depth : ℕ) (from to : Parts) (left text : List SpelledToken) → WritesSum opened depth from to left text → All IsInBytes text → All IsInBytes left
sum_spelled _ _ _ _ _ _ (summed.done parts) all = All-nil IsInBytes
sum_spelled _ _ _ _ _ _ (summed.register_next opened sign part from to left written behind text adds writes ends later spells) all =
    let whole : All IsInBytes (sign ∷ (written ++ behind)) = subst (All IsInBytes) spells all in
    sum_spelled _ _ _ to left behind later (all_last IsInBytes written behind (All-tail IsInBytes sign (written ++ behind) whole))
sum_spelled _ _ _ _ _ _ (summed.summand opened sign from to left behind adds none later) all =
    All-cons IsInBytes (plus_at sign) left (plus_spelled sign) (sum_spelled _ _ from to left behind later (All-tail IsInBytes sign behind all))
sum_spelled _ _ _ _ _ _ (summed.other opened depth next token from to left behind no_sum no_register deeper later) all =
    All-cons IsInBytes token left (All-head IsInBytes token behind all) (sum_spelled opened next from to left behind later (All-tail IsInBytes token behind all))

unled_spelled : (text : List SpelledToken) → All IsInBytes text → All IsInBytes (unled text)
unled_spelled [] all = all
unled_spelled (token ∷ rest) all = by (mark_by (Some token) == 43)
  where
    by : (b : Bool) → All IsInBytes (cond b rest (token ∷ rest))
    by true = All-tail IsInBytes token rest all
    by false = all

displacement_spelled : (b : Bool) (text : List SpelledToken) → All IsInBytes text → All IsInBytes (cond b (unled text) text)
displacement_spelled true text all = unled_spelled text all
displacement_spelled false text all = all

-- OPERANDS

-- the text of the value that an outline shows is spelled in bytes
abbrev OutlineSpelled : Outline → Type 0
OutlineSpelled (lone reg) = Unit {0}
OutlineSpelled (held text) = All IsInBytes text
OutlineSpelled (bare text) = All IsInBytes text
OutlineSpelled (stands bits address) = Unit {0}
OutlineSpelled (moved bits address text) = All IsInBytes text

summed_spelled : (bits mark : ℕ) (address : Address) (left : List SpelledToken) → All IsInBytes left → OutlineSpelled (summed_at bits mark address left)
summed_spelled bits mark address [] all = tt
summed_spelled bits mark address (token ∷ rest) all = displacement_spelled (mark == 91) (token ∷ rest) all

places_spelled : (bits : ℕ) (segment : _) (outline : Outline) (text : List SpelledToken) → PlacesMemory bits segment outline text → All IsInBytes text → OutlineSpelled outline
places_spelled _ _ _ _ (written.displacement bits segment text no_bracket no_register placed) all = all
places_spelled _ _ _ _ (written.bracket bits segment address parts closing left before text has writes is closes spells) all =
    summed_spelled bits (mark_at text 0) address left (sum_spelled _ _ _ parts left before writes (all_first IsInBytes before (closing ∷ []) (subst (All IsInBytes) spells all)))

segments_spelled : (bits : ℕ) (outline : Outline) (text : List SpelledToken) → SegmentsMemory bits outline text → All IsInBytes text → OutlineSpelled outline
segments_spelled _ _ _ (written.plain bits outline text none places) all = places_spelled bits _ outline text places all
segments_spelled _ _ _ (written.behind_segment bits segment outline word colon text named is places) all =
    places_spelled bits _ outline text places (All-tail IsInBytes colon text (All-tail IsInBytes word (colon ∷ text) all))

sizes_spelled : (outline : Outline) (text : List SpelledToken) → SizesMemory outline text → All IsInBytes text → OutlineSpelled outline
sizes_spelled _ _ (written.unsaid outline text none segments) all = segments_spelled 0 outline text segments all
sizes_spelled _ _ (written.said bits outline size pointer text is some word segments) all =
    segments_spelled bits outline text segments (All-tail IsInBytes pointer text (All-tail IsInBytes size (pointer ∷ text) all))

outline_spelled : (outline : Outline) (text : List SpelledToken) → IsOutline outline text → All IsInBytes text → OutlineSpelled outline
outline_spelled _ _ (written.alone reg word named) all = tt
outline_spelled _ _ (written.offset front text whole no_lone some words no_register apart) all = all_last IsInBytes front text (subst (All IsInBytes) apart all)
outline_spelled _ _ (written.place outline text no_lone no_words memory flat sizes) all = sizes_spelled outline text sizes all
outline_spelled _ _ (written.nested outline opening closing text whole no_lone no_words memory opens some closes sizes apart) all =
    sizes_spelled outline text sizes
    (all_first IsInBytes text (closing ∷ []) (All-tail IsInBytes opening (text ++ (closing ∷ [])) (subst (All IsInBytes) apart all)))
outline_spelled _ _ (written.value text no_lone no_words no_memory no_register) all = all

holds_fits : (branch : Bool) (outline : Outline) (sized : SizedText) → HoldsValue branch outline sized → OutlineSpelled outline → OperandFits sized.operand
holds_fits _ _ _ (written.of_register branch reg) all = tt
holds_fits _ _ _ (written.of_offset branch value text writes) all = value_fits value text writes all
holds_fits _ _ _ (written.of_target value text writes) all = value_fits value text writes all
holds_fits _ _ _ (written.of_symbol value text names writes) all = value_fits value text writes all
holds_fits _ _ _ (written.of_number value text no_names no_symbol writes) all = value_fits value text writes all
holds_fits _ _ _ (written.of_address branch bits address) all = omega arith
holds_fits _ _ _ (written.of_displacement branch bits address value text writes) all = value_fits value text writes all

operand_fits : (branch : Bool) (sized : SizedText) (text : List SpelledToken) → SpellsOperand branch sized text → All IsInBytes text → OperandFits sized.operand
operand_fits branch sized text spells all = holds_fits branch spells.outline sized spells.holds (outline_spelled spells.outline text spells.round all)

-- all of them
abbrev AllFit : List SizedText → Type 0
AllFit operands = All (λ (sized : SizedText). OperandFits sized.operand) operands

operands_fit : (most : ℕ) (branch : Bool) (operands : List SizedText) (text : List SpelledToken) → WritesOperands most branch operands text → All IsInBytes text → AllFit operands
operands_fit _ _ _ _ (spelled.last others branch sized text spells) all =
    All-cons (λ (one : SizedText). OperandFits one.operand) sized [] (operand_fits branch sized text spells all) (All-nil (λ (one : SizedText). OperandFits one.operand))
operands_fit _ _ _ _ (spelled.more others branch sized operands comma before behind text spells is writes apart) all =
    let whole : All IsInBytes (before ++ (comma ∷ behind)) = subst (All IsInBytes) apart all in
    All-cons (λ (one : SizedText). OperandFits one.operand) sized operands (operand_fits branch sized before spells (all_first IsInBytes before (comma ∷ behind) whole))
    (operands_fit others branch operands behind writes (All-tail IsInBytes comma behind (all_last IsInBytes before (comma ∷ behind) whole)))

all_fit : (branch : Bool) (operands : List SizedText) (text : List SpelledToken) → WritesAll branch operands text → All IsInBytes text → AllFit operands
all_fit _ _ _ (spelled.none branch) all = All-nil (λ (one : SizedText). OperandFits one.operand)
all_fit _ _ _ (spelled.some branch operands text writes) all = operands_fit _ branch operands text writes all

-- INSTRUCTIONS

followed_fits : (last : _) (insn : InsnText) → IsFitting insn → IsFitting (followed_by last insn)
followed_fits last insn fits =
    choice_fits (is_absent insn.first) _ _ (as_fits insn _ refl refl fits) (choice_fits (is_absent insn.second) _ _ (as_fits insn _ refl refl fits) (as_fits insn _ refl refl fits))

with_fits : (one : OperandText) (insn : InsnText) → OperandFits one → IsFitting insn → IsFitting (with_text one insn)
with_fits (operand.register reg) insn low fits = followed_fits _ insn fits
with_fits (operand.immediate value) insn low fits = record {
  immediate = beside_fits (has_immediate insn.first insn.second) insn.immediate value fits.immediate low;
  displacement = (followed_fits _ insn fits).displacement;
}
with_fits (operand.memory place value) insn low fits = record {
  immediate = (followed_fits _ insn fits).immediate;
  displacement = beside_fits (has_displacement insn.first insn.second) insn.displacement value fits.displacement low;
}
with_fits (operand.target value) insn low fits = record {
  immediate = (followed_fits _ insn fits).immediate;
  displacement = beside_fits (has_displacement insn.first insn.second) insn.displacement value fits.displacement low;
}

with_all_fit : (operands : List SizedText) (filled : FilledText) → AllFit operands → IsFitting filled.insn → IsFitting (with_operands operands filled).insn
with_all_fit [] filled low fits = fits
with_all_fit (sized ∷ operands) filled low fits =
    with_all_fit operands (with_operand sized filled) (All-tail (λ (one : SizedText). OperandFits one.operand) sized operands low)
    (with_fits sized.operand filled.insn (All-head (λ (one : SizedText). OperandFits one.operand) sized operands low) fits)

or_fits : (by_rule : Rule) (insn made : InsnText) → RuleFits by_rule → IsFitting insn → (let given : Result InsnText OperandCause = Ok (ruled by_rule insn) in given ≡ Ok made) → IsFitting made
or_fits by_rule insn made small fits is = ok_fits (ruled by_rule insn) made (ruled_fits by_rule insn small fits) is

meant_fits : (by_rule : Rule) (filled : FilledText) (made : InsnText) → RuleFits by_rule → IsFitting filled.insn → meant_by by_rule filled ≡ Ok made → IsFitting made
meant_fits rule.BySource filled made small fits is = bits_fit filled.insn made (source_bits filled.bits filled.insn.second) fits is
meant_fits (rule.OrString name) filled made small fits is =
    ok_fits (or_string name filled.insn) made (choice_fits (is_absent filled.insn.first) _ _ (as_fits filled.insn _ refl refl fits) fits) is
meant_fits rule.LongMemory filled made small fits is =
    ok_fits (if_unsized filled.bits filled.insn) made (choice_fits (filled.bits == 0) (long_memory filled.insn) filled.insn (ruled_fits rule.LongMemory filled.insn tt fits) fits) is
meant_fits rule.Plain filled made small fits is = ok_fits filled.insn made fits is
meant_fits (rule.Predicate value) filled made small fits is = or_fits (rule.Predicate value) filled.insn made small fits is
meant_fits rule.ByOne filled made small fits is = or_fits rule.ByOne filled.insn made small fits is
meant_fits rule.ByCl filled made small fits is = or_fits rule.ByCl filled.insn made small fits is
meant_fits rule.OneForTwo filled made small fits is = or_fits rule.OneForTwo filled.insn made small fits is
meant_fits rule.MemoryFirst filled made small fits is = or_fits rule.MemoryFirst filled.insn made small fits is
meant_fits rule.AccumulatorFirst filled made small fits is = or_fits rule.AccumulatorFirst filled.insn made small fits is
meant_fits rule.WithXmm0 filled made small fits is = or_fits rule.WithXmm0 filled.insn made small fits is
meant_fits rule.Branch filled made small fits is = ok_fits filled.insn made fits is
meant_fits rule.QuadIsMovq filled made small fits is = or_fits rule.QuadIsMovq filled.insn made small fits is
meant_fits rule.OrMove filled made small fits is = or_fits rule.OrMove filled.insn made small fits is

head_rule : (named : Named) (word : Prefix) (text tokens : List SpelledToken) → IsHead named word text tokens → RuleFits named.rule
head_rule _ _ _ _ (spelled.bare named name text is) = intel_rule_fits name.bytes named is
head_rule _ _ _ _ (spelled.prefixed named word lead name text leads is) = intel_rule_fits name.bytes named is

head_rest : (named : Named) (word : Prefix) (text tokens : List SpelledToken) → IsHead named word text tokens → All IsInBytes tokens → All IsInBytes text
head_rest _ _ _ _ (spelled.bare named name text is) all = All-tail IsInBytes name text all
head_rest _ _ _ _ (spelled.prefixed named word lead name text leads is) all = All-tail IsInBytes name text (All-tail IsInBytes lead (name ∷ text) all)

sized_fits : (bits : ℕ) (insn made : InsnText) → GetsSize bits insn made → IsFitting insn → IsFitting made
sized_fits _ _ _ (spelled.fixed bits insn some) fits = fits
sized_fits _ _ _ (spelled.left bits insn i r none there form have) fits = as_fits insn _ refl refl fits
sized_fits _ _ _ (spelled.formless bits insn none no_form) fits = as_fits insn _ refl refl fits

spells_fits : (made : InsnText) (tokens : List SpelledToken) → Spells made tokens → All IsInBytes tokens → IsFitting made
spells_fits _ _ (spelled.behind named word operands insn made text tokens head writes meant sized) all =
    sized_fits _ insn made sized
    (meant_fits named.rule (filled_by named word operands) insn (head_rule named word text tokens head)
    (with_all_fit operands (unfilled (blank named.name named.size word)) (all_fit _ operands text writes (head_rest named word text tokens head all))
    (blank_fits named.name named.size word)) meant)

-- the law of instructions: tokens that are read spell what is read
abbrev pub ReadIsSpelled : Type 0
ReadIsSpelled = (insn : InsnText) (tokens : List SpelledToken) → insn_of tokens ≡ Ok insn → Spells insn tokens

-- an instruction that is read
pub intel_fits : ReadIsSpelled → (tokens : List SpelledToken) (insn : InsnText) → All IsInBytes tokens → insn_of tokens ≡ Ok insn → IsFitting insn
intel_fits law tokens insn all is = spells_fits insn tokens (law insn tokens is) all
