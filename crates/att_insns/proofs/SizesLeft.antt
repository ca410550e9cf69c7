-- The size of the rows that take such operands is the one that they leave.
use Rattle.std.proofs.Common.{◌≡◌, ℕ, ◌==◌, ◌&&◌, ◌∙◌, Bool, true, false, List, Option, Some, None, Result, Ok, Err, slice_get, refl, sym, ap, subst}
use Rattle.std.proofs.lemmas.Bool.{both_ways}
use Rattle.std.specs.List.{find}
use Rattle.asm_base.specs.declared.refusals.Refusal.{Refusal}
use Rattle.x86_insn.specs.declared.insns.Slot.{Slot}
use Rattle.x86_insn.specs.declared.insns.Insn.{Insn}
use Rattle.x86_insn.specs.declared.insns.Slot.TheVariants as slot
use Rattle.x86_insn.specs.declared.insns.Prefix.TheVariants as prefix
use Rattle.x86_table.specs.declared.forms.Pattern.{Pattern}
use Rattle.x86_table.specs.declared.forms.Pattern.TheVariants as pattern
use Rattle.x86_table.specs.declared.forms.Row.{Row}
use Rattle.x86_table.specs.Rows.{the_rows}
use Rattle.x86_lookup.specs.declared.form_sizes.FormSize.{FormSize}
use Rattle.x86_lookup.specs.declared.form_sizes.FormSize.TheVariants as sizes
use Rattle.x86_lookup.specs.Forms.{takes_all, is_form, holds_at, takes_sized, is_form_of, IsOneSize, AreTwoSizes, AreSizes}
use Rattle.att_operands.specs.declared.faults.OperandCause.{OperandCause}
use Rattle.att_operands.specs.Values.{ValueText}
use Rattle.att_operands.specs.declared.faults.OperandCause.TheVariants.{UnknownOperandSize}
use Rattle.att_insns.specs.InsnTexts.{InsnText, blank, text_of, HasTexts}
use Rattle.att_insns.specs.Reading.{Makes}
use Rattle.att_insns.specs.Sizes.{size_by, size_left}
use Rattle.att_insns.specs.Sources.{word_name, unless_form, from_unsized}
use Rattle.att_insns.proofs.SizesFound.{none_passes, none_found, left_by}
use Rattle.att_insns.proofs.FaultsOfInsns.{refused_by}

-- where no size of memory is said, it counts for no pattern
held : (s : Slot) (p : Pattern) → holds_at 0 s p ≡ true
held slot.Absent p = refl
held (slot.Register r) p = refl
held slot.Immediate p = refl
held slot.Memory pattern.Absent = refl
held slot.Memory (pattern.RegMem c n) = refl
held slot.Memory (pattern.Reg c) = refl
held slot.Memory (pattern.Low c) = refl
held slot.Memory (pattern.Accumulator c) = refl
held slot.Memory pattern.Cl = refl
held slot.Memory pattern.One = refl
held slot.Memory pattern.Immediate = refl
held slot.Memory pattern.Target = refl
held slot.Target p = refl

and_true : (b : Bool) → (b && true) ≡ b
and_true true = refl
and_true false = refl

same_form : (name : ℕ) (first second third : Slot) (r : Row) → is_form_of 0 name first second third r ≡ is_form name first second third r
unfolding takes_sized
same_form name first second third r = rw (held first r.first, held second r.second, held third r.third, and_true (takes_all first second third r)) refl

-- an instruction of the name with the operands, of which lemmas on sizes speak
abbrev insn_by : ℕ → Slot → Slot → Slot → InsnText
insn_by name first second third = record (blank (record { 0 = name }) 0 prefix.Absent) { first = first; second = second; third = third }

-- the size that is left, or its fault
abbrev answer_by : FormSize → Result ℕ OperandCause
answer_by sizes.Absent = Ok 0
answer_by (sizes.One size) = Ok size
answer_by sizes.Several = Err UnknownOperandSize

pub left_is : (name : ℕ) (first second third : Slot) (found : FormSize) → AreSizes (is_form_of 0 name first second third) found → size_left name first second third ≡ answer_by found
unfolding size_left
left_is name first second third sizes.Absent none =
    let nothing : find (is_form name first second third) the_rows ≡ None =
    none_found (is_form name first second third) the_rows (λ j r e. sym (same_form name first second third r) ∙ none j r e) in
    rw nothing refl
left_is name first second third (sizes.One size) one =
    left_by (insn_by name first second third) one.at one.row (find (is_form name first second third) the_rows) one.stands (sym (same_form name first second third one.row) ∙ one.passes)
    (λ j q at form. one.all j q at (same_form name first second third q ∙ form) ∙ sym one.is) refl ∙ ap Ok one.is
left_is name first second third sizes.Several two =
    refused_by (insn_by name first second third) (find (is_form name first second third) the_rows) (record {
      not_fixed = refl;
      at = two.at;
      one = two.one;
      stands = two.stands;
      form = sym (same_form name first second third two.one) ∙ two.passes;
      also_at = two.also_at;
      other = two.other;
      also_stands = two.also_stands;
      also_form = sym (same_form name first second third two.other) ∙ two.also_passes;
      differ = two.differ;
    }) refl

-- WHERE THE SOURCE SAYS NO SIZE

-- a row that may have a wider source, if there is one
abbrev wider : InsnText → Row → Bool
wider insn r = is_form (word_name insn.name.0) insn.first insn.second insn.third r

found_wider : (insn : InsnText) (found : Option Row) (at : ℕ) (r : Row) → find (wider insn) the_rows ≡ found → slice_get the_rows at ≡ Some r → wider insn r ≡ true
    → unless_form insn found ≡ Err UnknownOperandSize
found_wider insn None at r is stands form = absurd (both_ways (wider insn r) (none_passes (wider insn) the_rows at r is stands) form)
found_wider insn (Some s) at r is stands form = refl

-- what is answered where the rows with a wider source have such sizes
abbrev unsized_by : InsnText → FormSize → Result InsnText OperandCause
unsized_by insn sizes.Absent = Ok insn
unsized_by insn (sizes.One size) = Err UnknownOperandSize
unsized_by insn sizes.Several = Err UnknownOperandSize

unsized_is : (insn : InsnText) (found : FormSize) → AreSizes (is_form_of 0 (word_name insn.name.0) insn.first insn.second insn.third) found → from_unsized insn ≡ unsized_by insn found
unfolding from_unsized
unsized_is insn sizes.Absent none =
    let nothing : find (wider insn) the_rows ≡ None =
    none_found (wider insn) the_rows (λ j r e. sym (same_form (word_name insn.name.0) insn.first insn.second insn.third r) ∙ none j r e) in
    rw nothing refl
unsized_is insn (sizes.One size) one =
    found_wider insn (find (wider insn) the_rows) one.at one.row refl one.stands (sym (same_form (word_name insn.name.0) insn.first insn.second insn.third one.row) ∙ one.passes)
unsized_is insn sizes.Several two =
    found_wider insn (find (wider insn) the_rows) two.at two.one refl two.stands (sym (same_form (word_name insn.name.0) insn.first insn.second insn.third two.one) ∙ two.passes)

-- the same of an instruction by its fields
pub unsized_answer : (held : Insn) (i d : ValueText) (name : ℕ) (found : FormSize) → name ≡ word_name held.name.0 → AreSizes (is_form_of 0 name held.first held.second held.third) found
    → from_unsized (text_of held i d) ≡ unsized_by (text_of held i d) found
unsized_answer held i d name found e sizes_are =
    unsized_is (text_of held i d) found (subst (λ (n : ℕ). AreSizes (is_form_of 0 n held.first held.second held.third) found) e sizes_are)

pub unsized_made : {T : Type 0} (done : T) (held : Insn) (i d : ValueText) (name : ℕ) → HasTexts held i d → name ≡ word_name held.name.0
    → AreSizes (is_form_of 0 name held.first held.second held.third) sizes.Absent → (let answer : Result T (Refusal OperandCause) = Ok done in Makes held answer (from_unsized (text_of held i d)))
unsized_made {T} done held i d name has e none =
    let answer : Result T (Refusal OperandCause) = Ok done in
    subst (Makes held answer) (sym (unsized_answer held i d name sizes.Absent e none))
    (record { name = refl; size = refl; «prefix» = refl; first = refl; second = refl; third = refl; address = refl; immediate = has.immediate; displacement = has.displacement })
