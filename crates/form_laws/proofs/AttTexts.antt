-- The numbers of instructions that are read in AT&T syntax from bytes have 64 bits.
use Rattle.std.proofs.Common.{◌≡◌, ℕ, Bool, true, false, cond, List, [], ◌∷◌, ◌++◌, Ok, refl, subst, arith}
use Rattle.std.specs.Prelude.{All}
use Rattle.std.proofs.lemmas.List.Elements.{All-nil, All-cons, All-head, All-tail, All-append}
use Rattle.asm_base.specs.Tokens.{SpelledToken}
use Rattle.x86_insn.specs.declared.insns.Prefix.{Prefix}
use Rattle.x86_lookup.specs.declared.names.Named.{Named}
use Rattle.x86_lookup.specs.declared.names.Rule.{Rule}
use Rattle.x86_lookup.specs.Mnemonics.{is_by_source}
use Rattle.att_operands.specs.OperandTexts.{OperandText}
use Rattle.att_operands.specs.OperandTexts as operand
use Rattle.att_operands.specs.Spells.{WritesValue, WritesMemory, SpellsPlace, SpellsOperand}
use Rattle.att_operands.specs.Spells as written
use Rattle.att_operands.specs.Values.{ValueText}
use Rattle.att_insns.specs.InsnTexts.{InsnText, blank, has_immediate, has_displacement, with_operand, with_operands}
use Rattle.att_insns.specs.Reading.{insn_of}
use Rattle.att_insns.specs.Rules.{ruled}
use Rattle.att_insns.specs.Sources.{said_bits, by_source, meant_by}
use Rattle.att_insns.specs.Spells.{WritesOperands, WritesAll, IsHead, Spells}
use Rattle.att_insns.specs.Spells as spelled
use Rattle.form_laws.specs.Numbers.{IsInBytes}
use Rattle.form_laws.proofs.Fitting.{NumbersFit}
use Rattle.form_laws.proofs.Texts.{IsFitting, OperandFits, beside_fits, blank_fits, RuleFits, att_rule_fits, as_fits, ruled_fits, ok_fits, bits_fit}
use Rattle.form_laws.proofs.Trees.{all_first, all_last, text_fits}

-- OPERANDS

-- a value, without the suffix in it
pub value_fits : (value : ValueText) (text : List SpelledToken) → WritesValue value text → All IsInBytes text → NumbersFit value.tree
value_fits _ _ (written.plain tree text is) all = text_fits tree text is all
value_fits _ _ (written.suffixed tree suffix name mark word front rest text leads names at_mark by_word is spells) all =
    let whole : All IsInBytes (front ++ (name ∷ mark ∷ word ∷ rest)) = subst (All IsInBytes) spells all in
    let behind = all_last IsInBytes front (name ∷ mark ∷ word ∷ rest) whole in
    let more = All-tail IsInBytes word rest (All-tail IsInBytes mark (word ∷ rest) (All-tail IsInBytes name (mark ∷ word ∷ rest) behind)) in
    text_fits tree (front ++ (name ∷ rest)) is
    (All-append IsInBytes front (name ∷ rest) (all_first IsInBytes front (name ∷ mark ∷ word ∷ rest) whole)
    (All-cons IsInBytes name rest (All-head IsInBytes name (mark ∷ word ∷ rest) behind) more))

memory_fits : (segment : _) (held : OperandText) (text : List SpelledToken) → WritesMemory segment held text → All IsInBytes text → OperandFits held
memory_fits _ _ _ (written.displacement segment value text writes) all = value_fits value text writes all
memory_fits _ _ _ (written.address segment base index opening text is writes) all = omega arith
memory_fits _ _ _ (written.both segment base index value opening before behind text writes is address spells) all =
    value_fits value before writes (all_first IsInBytes before (opening ∷ behind) (subst (All IsInBytes) spells all))

place_fits : (held : OperandText) (text : List SpelledToken) → SpellsPlace held text → All IsInBytes text → OperandFits held
place_fits _ _ (written.plain reg sign word is named) all = tt
place_fits _ _ (written.unnamed held text writes) all = memory_fits _ held text writes all
place_fits _ _ (written.segmented segment held sign word colon text is named at_colon writes) all =
    memory_fits _ held text writes (All-tail IsInBytes colon text (All-tail IsInBytes word (colon ∷ text) (All-tail IsInBytes sign (word ∷ colon ∷ text) all)))

operand_fits : (branch : Bool) (held : OperandText) (text : List SpelledToken) → SpellsOperand branch held text → All IsInBytes text → OperandFits held
operand_fits _ _ _ (written.immediate_of branch value sign text is writes) all = value_fits value text writes (All-tail IsInBytes sign text all)
operand_fits _ _ _ (written.place held text spells) all = place_fits held text spells all
operand_fits _ _ _ (written.target_of value text writes) all = value_fits value text writes all
operand_fits _ _ _ (written.indirect held star text is spells) all = place_fits held text spells (All-tail IsInBytes star text all)

operands_fit : (most : ℕ) (branch : Bool) (operands : List OperandText) (text : List SpelledToken) → WritesOperands most branch operands text → All IsInBytes text
    → All OperandFits operands
operands_fit _ _ _ _ (spelled.last others branch held text spells) all = All-cons OperandFits held [] (operand_fits branch held text spells all) (All-nil OperandFits)
operands_fit _ _ _ _ (spelled.more others branch held operands comma before behind text spells is writes apart) all =
    let whole : All IsInBytes (before ++ (comma ∷ behind)) = subst (All IsInBytes) apart all in
    All-cons OperandFits held operands (operand_fits branch held before spells (all_first IsInBytes before (comma ∷ behind) whole))
    (operands_fit others branch operands behind writes (All-tail IsInBytes comma behind (all_last IsInBytes before (comma ∷ behind) whole)))

all_fit : (branch : Bool) (operands : List OperandText) (text : List SpelledToken) → WritesAll branch operands text → All IsInBytes text → All OperandFits operands
all_fit _ _ _ (spelled.none branch) all = All-nil OperandFits
all_fit _ _ _ (spelled.some branch operands text writes) all = operands_fit _ branch operands text writes all

-- INSTRUCTIONS

with_fits : (held : OperandText) (insn : InsnText) → OperandFits held → IsFitting insn → IsFitting (with_operand held insn)
with_fits (operand.register reg) insn low fits = as_fits insn _ refl refl fits
with_fits (operand.immediate value) insn low fits = record {
  immediate = beside_fits (has_immediate insn.first insn.second) insn.immediate value fits.immediate low;
  displacement = fits.displacement;
}
with_fits (operand.memory place value) insn low fits = record {
  immediate = fits.immediate;
  displacement = beside_fits (has_displacement insn.first insn.second) insn.displacement value fits.displacement low;
}
with_fits (operand.target value) insn low fits = record {
  immediate = fits.immediate;
  displacement = beside_fits (has_displacement insn.first insn.second) insn.displacement value fits.displacement low;
}

with_all_fit : (operands : List OperandText) (insn : InsnText) → All OperandFits operands → IsFitting insn → IsFitting (with_operands operands insn)
with_all_fit [] insn low fits = fits
with_all_fit (held ∷ operands) insn low fits =
    with_all_fit operands (with_operand held insn) (All-tail OperandFits held operands low) (with_fits held insn (All-head OperandFits held operands low) fits)

meant_fits : (by_rule : Rule) (insn made : InsnText) → RuleFits by_rule → IsFitting insn → meant_by by_rule insn ≡ Ok made → IsFitting made
meant_fits by_rule insn made small fits is = by (is_by_source by_rule) is
  where
    by : (b : Bool) → cond b (by_source insn) (Ok (ruled by_rule insn)) ≡ Ok made → IsFitting made
    by true has = bits_fit (record insn { size = 0 }) made (said_bits insn.size insn.second) (as_fits insn _ refl refl fits) has
    by false has = ok_fits (ruled by_rule insn) made (ruled_fits by_rule insn small fits) has

head_rule : (named : Named) (word : Prefix) (text tokens : List SpelledToken) → IsHead named word text tokens → RuleFits named.rule
head_rule _ _ _ _ (spelled.bare named name text is) = att_rule_fits name.bytes named is
head_rule _ _ _ _ (spelled.prefixed named word lead name text leads is) = att_rule_fits name.bytes named is

head_rest : (named : Named) (word : Prefix) (text tokens : List SpelledToken) → IsHead named word text tokens → All IsInBytes tokens → All IsInBytes text
head_rest _ _ _ _ (spelled.bare named name text is) all = All-tail IsInBytes name text all
head_rest _ _ _ _ (spelled.prefixed named word lead name text leads is) all = All-tail IsInBytes name text (All-tail IsInBytes lead (name ∷ text) all)

spells_fits : (made : InsnText) (tokens : List SpelledToken) → Spells made tokens → All IsInBytes tokens → IsFitting made
spells_fits _ _ (spelled.behind named word operands insn size text tokens head writes meant sized) all =
    as_fits insn _ refl refl
    (meant_fits named.rule (with_operands operands (blank named.name named.size word)) insn (head_rule named word text tokens head)
    (with_all_fit operands (blank named.name named.size word) (all_fit _ operands text writes (head_rest named word text tokens head all))
    (blank_fits named.name named.size word)) meant)

-- the law of instructions: tokens that are read spell what is read
abbrev pub ReadIsSpelled : Type 0
ReadIsSpelled = (insn : InsnText) (tokens : List SpelledToken) → insn_of tokens ≡ Ok insn → Spells insn tokens

-- an instruction that is read
pub att_fits : ReadIsSpelled → (tokens : List SpelledToken) (insn : InsnText) → All IsInBytes tokens → insn_of tokens ≡ Ok insn → IsFitting insn
att_fits law tokens insn all is = spells_fits insn tokens (law insn tokens is) all
