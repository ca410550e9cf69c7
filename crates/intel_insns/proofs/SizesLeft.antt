-- The size of the rows that take such operands is the one that they leave.
use Rattle.std.proofs.Common.{◌≡◌, ℕ, ◌==◌, ◌∙◌, Bool, true, false, List, Option, Some, None, Result, Ok, Err, slice_get, refl, sym, ap, subst}
use Rattle.std.proofs.lemmas.Bool.{both_ways}
use Rattle.std.specs.List.{find}
use Rattle.asm_base.specs.declared.refusals.Refusal.{Refusal}
use Rattle.x86_insn.specs.declared.insns.Insn.{Insn}
use Rattle.x86_table.specs.declared.forms.Row.{Row}
use Rattle.x86_table.specs.Rows.{the_rows}
use Rattle.x86_lookup.specs.declared.form_sizes.FormSize.{FormSize}
use Rattle.x86_lookup.specs.declared.form_sizes.FormSize.TheVariants as sizes
use Rattle.x86_lookup.specs.Forms.{is_form_of, IsOneSize, AreTwoSizes, AreSizes}
use Rattle.att_operands.specs.declared.faults.OperandCause.{OperandCause}
use Rattle.att_operands.specs.Values.{ValueText}
use Rattle.att_operands.specs.declared.faults.OperandCause.TheVariants.{UnknownOperandSize}
use Rattle.att_insns.specs.InsnTexts.{InsnText, text_of, HasTexts}
use Rattle.att_insns.specs.Reading.{Makes}
use Rattle.att_insns.specs.Rules.{no_name}
use Rattle.intel_insns.specs.Sizes.{form_of, sized_by, size_left}
use Rattle.intel_insns.proofs.Fillings.{sized_text}
use Rattle.intel_insns.proofs.SizesFound.{none_passes, none_found, left_by}
use Rattle.intel_insns.proofs.FaultsOfInsns.{refused_by}

-- the instruction with the size that is left, or its fault
abbrev answer_by : InsnText → FormSize → Result InsnText OperandCause
answer_by insn sizes.Absent = Ok (record insn { name = no_name })
answer_by insn (sizes.One size) = Ok (record insn { size = size })
answer_by insn sizes.Several = Err UnknownOperandSize

-- rows of two sizes leave none
open_by : (bits : ℕ) (insn : InsnText) (found : Option Row) → AreTwoSizes (form_of bits insn) → find (form_of bits insn) the_rows ≡ found → sized_by bits insn found ≡ Err UnknownOperandSize
open_by bits insn None two is = absurd (both_ways (form_of bits insn two.one) (none_passes (form_of bits insn) the_rows two.at two.one is two.stands) two.passes)
open_by bits insn (Some r) two is = refused_by bits (record insn { size = 0 }) (Some r) (record {
  not_fixed = refl;
  at = two.at;
  one = two.one;
  stands = two.stands;
  form = two.passes;
  also_at = two.also_at;
  other = two.other;
  also_stands = two.also_stands;
  also_form = two.also_passes;
  differ = two.differ;
}) is

pub left_is : (bits : ℕ) (insn : InsnText) (found : FormSize) → AreSizes (form_of bits insn) found → size_left bits insn ≡ answer_by insn found
unfolding size_left
left_is bits insn sizes.Absent none =
    let nothing : find (form_of bits insn) the_rows ≡ None = none_found (form_of bits insn) the_rows none in
    rw nothing refl
left_is bits insn (sizes.One size) one =
    left_by bits insn one.at one.row (find (form_of bits insn) the_rows) one.stands one.passes (λ j q at form. one.all j q at form ∙ sym one.is) refl
    ∙ ap (λ (n : ℕ). Ok (record insn { size = n })) one.is
left_is bits insn sizes.Several two = open_by bits insn (find (form_of bits insn) the_rows) two refl

-- THE SAME BY FIELDS

pub none_made : {T : Type 0} (done : T) (bits : ℕ) (held : Insn) (i d : ValueText) → HasTexts held i d → AreSizes (is_form_of bits held.name.0 held.first held.second held.third) sizes.Absent
    → (let answer : Result T (Refusal OperandCause) = Ok done in Makes (record held { name = no_name }) answer (size_left bits (text_of held i d)))
none_made {T} done bits held i d has none =
    let answer : Result T (Refusal OperandCause) = Ok done in
    subst (Makes (record held { name = no_name }) answer) (sym (left_is bits (text_of held i d) sizes.Absent none))
    (record { name = refl; size = refl; «prefix» = refl; first = refl; second = refl; third = refl; address = refl; immediate = has.immediate; displacement = has.displacement })

pub size_made : {T : Type 0} (done : T) (bits size : ℕ) (held : Insn) (i d : ValueText) → HasTexts held i d → AreSizes (is_form_of bits held.name.0 held.first held.second held.third) (sizes.One size)
    → (let answer : Result T (Refusal OperandCause) = Ok done in Makes (record held { size = size }) answer (size_left bits (text_of held i d)))
size_made {T} done bits size held i d has one =
    let answer : Result T (Refusal OperandCause) = Ok done in
    subst (Makes (record held { size = size }) answer) (sym (left_is bits (text_of held i d) (sizes.One size) one)) (sized_text held size i d has)
