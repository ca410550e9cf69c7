-- Instructions from which control goes by a direct jump: their operands, and the fields of their encodings.
use Rattle.std.proofs.Common.{◌≡◌, ℕ, ◌||◌, inl, inr, false, Option, Some, None, Ok, refl, ap, ◌∙◌, subst}
use Rattle.std.specs.Prelude.{◌==◌}
use Rattle.x86_insn.specs.declared.amounts.FieldKind.TheVariants as kind
use Rattle.x86_insn.specs.declared.amounts.Values.{Values}
use Rattle.x86_insn.specs.declared.insns.Slot.{Slot}
use Rattle.x86_insn.specs.declared.insns.Slot.TheVariants as slot
use Rattle.x86_insn.specs.Views.{Seen, absent, target, View}
use Rattle.x86_table.specs.declared.mnemonics.integers.TheConstants.{CALL, HLT, JMP, RET, UD2}
use Rattle.x86_parts.specs.declared.encoded.Field.{Field as CodedField}
use Rattle.x86_parts.specs.declared.encoded.Position.{Position}
use Rattle.x86_parts.specs.declared.encoded.Position.TheVariants as position
use Rattle.x86_encode.specs.Answers.{Placed as FieldsPlaced}
use Rattle.x86_parts.specs.Codes.{meant}
use Rattle.x86_encode.specs.EncodingLaws.{EncodingsPlace, EncodingsNote}
use Rattle.x86_encode.specs.FieldPlaces.{lacks_number, any_operand, HoldUnknown, Unknown, EncodingsHoldUnknown}
use Rattle.x86_parts.specs.Filling.{Coding, FieldAt, in_memory, operand_in}
use Rattle.insn_effects.specs.Decoding.{is_branch}
use Rattle.att_insns.specs.InsnTexts.{InsnText}
use Rattle.asm_place.specs.Coding.{view_in, seen_in}
use Rattle.target_laws.specs.Branches.{BranchesHaveTargets, TargetsAreAlone}
use Rattle.target_laws.proofs.Fitting.{has_target}
use Rattle.target_laws.proofs.LoneTargets.{target_alone}

-- what an instruction has first from which control goes so
pub branches_have_targets : BranchesHaveTargets
branches_have_targets insn falls goes =
    let name = insn.name.0 in
    has_target (name == JMP) (is_branch name) (name == CALL) (name == RET) ((name == UD2) || (name == HLT)) insn.first falls goes

-- a target that is written is not known
target_there : (text : InsnText) (values : Values) (there : Slot) (distance : Option ℕ) → seen_in text values there ≡ target distance → seen_in text values there ≡ target None
target_there text values slot.Absent distance is = absurd cc
target_there text values (slot.Register r) distance is = absurd cc
target_there text values slot.Immediate distance is = absurd cc
target_there text values slot.Memory distance is = absurd cc
target_there text values slot.Target distance is = refl

module _ (view : View) (first_is : view.first ≡ target None) (second_is : view.second ≡ absent) (third_is : view.third ≡ absent) where
  none_in_memory : (p : Position) → in_memory (operand_in (meant view) p) ≡ false
  none_in_memory position.First = ap in_memory first_is
  none_in_memory position.Second = ap in_memory second_is
  none_in_memory position.Third = ap in_memory third_is

  none_lacks : any_operand lacks_number (meant view) ≡ false
  none_lacks =
      ap (λ (o : Seen). lacks_number o || (lacks_number view.second || lacks_number view.third)) first_is
      ∙ ap (λ (o : Seen). lacks_number o || lacks_number view.third) second_is ∙ ap lacks_number third_is

  -- so there is no displacement,
  no_displacement : (found : Option CodedField) → FieldAt in_memory (meant view) found → found ≡ None
  no_displacement None at = refl
  no_displacement (Some field) at = absurd (let none = none_in_memory field.position in cc)

  -- and the other field is that of a distance
  branch_kind : (made : Coding) (field : CodedField) → HoldUnknown (meant view) made → made.immediate ≡ Some field → field.kind ≡ kind.Branch
  branch_kind made field unknown is = elim (unknown.immediate field is) [
    | inl branch ↦ branch
    | inr lacks ↦ absurd (let none = none_lacks in cc)
  ]

pub targets_are_alone : EncodingsNote → EncodingsPlace → EncodingsHoldUnknown → TargetsAreAlone
targets_are_alone note place hold text values made falls goes is =
    let view = view_in text values in
    let found = branches_have_targets view falls goes in
    let first = target_there text values text.first found.0 found.1 in
    let alone = target_alone note (view_in text) values made is first in
    let places : FieldsPlaced (meant view) (Ok made) = subst (FieldsPlaced (meant view)) is (place (view_in text) values) in
    let unknown : HoldUnknown (meant view) made = subst (Unknown (meant view)) is (hold (view_in text) values) in
    record {
      first = first;
      second = alone.second;
      third = alone.third;
      displacement = no_displacement view first alone.second alone.third made.displacement places.0;
      field = alone.field;
      immediate = alone.held;
      kind = branch_kind view first alone.second alone.third made alone.field unknown alone.held;
    }
