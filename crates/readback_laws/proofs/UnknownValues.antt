-- A field of an instruction stands for a value that is not known, unless the value is a distance.
use Rattle.std.proofs.Common.{◌≡◌, ℕ, ◌||◌, ◌⊎◌, inl, inr, not, Bool, true, false, Option, Some, None, refl, sym, ap, ◌∙◌}
use Rattle.std.proofs.lemmas.Bool.{or_cases}
use Rattle.x86_insn.specs.declared.amounts.Values.{Values}
use Rattle.x86_insn.specs.declared.insns.Address.{Address}
use Rattle.x86_insn.specs.declared.insns.Base.{Base}
use Rattle.x86_insn.specs.declared.insns.Base.TheVariants as base
use Rattle.x86_insn.specs.declared.insns.Slot.{Slot}
use Rattle.x86_insn.specs.declared.insns.Slot.TheVariants as slot
use Rattle.x86_insn.specs.Views.{Seen, immediate as shown_immediate, memory, displaced}
use Rattle.x86_parts.specs.declared.encoded.Field.{Field}
use Rattle.x86_insn.specs.declared.amounts.FieldKind.TheVariants as kind
use Rattle.x86_parts.specs.Codes.{meant}
use Rattle.x86_encode.specs.FieldPlaces.{is_rip, lacks_number, lacks_displacement, any_operand, HoldUnknown}
use Rattle.x86_parts.specs.Filling.{Coding}
use Rattle.att_insns.specs.InsnTexts.{InsnText}
use Rattle.asm_place.specs.Coding.{seen_in, view_in}

number_unknown : (v : Option ℕ) → lacks_number (shown_immediate v) ≡ true → v ≡ None
number_unknown None is = refl
number_unknown (Some n) is = absurd cc

-- a displacement from a base that is not rip is not known
moved_unknown : (a : Address) (b : Base) (v : Option ℕ) → a.base ≡ b → lacks_displacement (memory a (displaced b v)) ≡ true → v ≡ None
moved_unknown a base.Absent None at is = refl
moved_unknown a base.Absent (Some n) at is = absurd cc
moved_unknown a base.Rip v at is = absurd (let far : false ≡ true = sym (ap (λ b. not (is_rip b)) at) ∙ is in cc)
moved_unknown a (base.Of n) None at is = refl
moved_unknown a (base.Of n) (Some m) at is = absurd cc

module _ (text : InsnText) (values : Values) where
  immediate_unknown : (s : Slot) → lacks_number (seen_in text values s) ≡ true → values.immediate ≡ None
  immediate_unknown slot.Absent is = absurd cc
  immediate_unknown (slot.Register reg) is = absurd cc
  immediate_unknown slot.Immediate is = number_unknown values.immediate is
  immediate_unknown slot.Memory is = absurd (no_number (displaced text.address.base values.displacement) is)
    where
      no_number : (v : Option ℕ) → lacks_number (memory text.address v) ≡ true → ⊥
      no_number v is = cc
  immediate_unknown slot.Target is = absurd cc

  displacement_unknown : (s : Slot) → lacks_displacement (seen_in text values s) ≡ true → values.displacement ≡ None
  displacement_unknown slot.Absent is = absurd cc
  displacement_unknown (slot.Register reg) is = absurd cc
  displacement_unknown slot.Immediate is = absurd cc
  displacement_unknown slot.Memory is = moved_unknown text.address text.address.base values.displacement refl is
  displacement_unknown slot.Target is = absurd cc

  -- what is so of some operand is so of a slot
  one_slot : {C : Type 0} (test : Seen → Bool) → ((s : Slot) → test (seen_in text values s) ≡ true → C) → any_operand test (meant (view_in text values)) ≡ true → C
  one_slot test each some = elim (or_cases (test (seen_in text values text.first)) (test (seen_in text values text.second) || test (seen_in text values text.third)) some) [
    | inl is ↦ each text.first is
    | inr more ↦ elim (or_cases (test (seen_in text values text.second)) (test (seen_in text values text.third)) more) [
      | inl is ↦ each text.second is
      | inr is ↦ each text.third is
    ]
  ]

  module _ (made : Coding) (field : Field) (unknown : HoldUnknown (meant (view_in text values)) made) where
    -- where an immediate has a field that is not of a distance, its value is not known
    pub immediate_open : made.immediate ≡ Some field → (field.kind ≡ kind.Branch) ⊎ (values.immediate ≡ None)
    immediate_open is = elim (unknown.immediate field is) [ inl branch ↦ inl branch | inr some ↦ inr (one_slot lacks_number immediate_unknown some) ]

    -- where a displacement has a field that is not of a distance, its value is not known
    pub displacement_open : made.displacement ≡ Some field → (field.kind ≡ kind.Address) ⊎ (values.displacement ≡ None)
    displacement_open is =
        elim (unknown.displacement field is) [ inl address ↦ inl address | inr some ↦ inr (one_slot lacks_displacement displacement_unknown some) ]
