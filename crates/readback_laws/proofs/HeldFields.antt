-- Where there is a layout, each field holds its value.
use Rattle.std.proofs.Common.{◌≡◌, ℕ, zero, suc, Bool, true, false, cond, List, [], ◌∷◌, Option, Some, None, Ok, refl, ap, ◌∙◌, subst}
use Rattle.std.specs.Prelude.{slice_get, unwrap_or}
use Rattle.std.proofs.lemmas.Option.{none-some, same_Some}
use Rattle.asm_base.specs.declared.positions.Pos.{Pos}
use Rattle.asm_symbols.specs.SymbolMap.{SymbolMap}
use Rattle.asm_frags.specs.declared.fields.Field.{Field}
use Rattle.asm_frags.specs.declared.fields.FieldSize.{FieldSize}
use Rattle.x86_insn.specs.declared.amounts.FieldKind.{FieldKind}
use Rattle.asm_frags.specs.Fields.{holds}
use Rattle.asm_frags.specs.SectionOf.{SectionOf}
use Rattle.asm_frags.specs.Substituting.{substituted_field}
use Rattle.asm_relax.specs.declared.faults.LayoutFault.TheVariants.{DistanceOutOfRange}
use Rattle.asm_relax.specs.Faults.{or_later, first_of}
use Rattle.assigned_forms.specs.Linked.{linked}
use Rattle.asm_relax.specs.FieldValues.{held_value}
use Rattle.asm_relax.specs.RangeChecks.{large_section, section_back, misfit, field_misfit, section_misfit, first_fault}
use Rattle.asm_relax.specs.Settling.{LaidItem, LooseSections, LaidSections, planned, unless, settled_sections, layout_of}
use Rattle.readback_laws.specs.Instructions.{final_value}
use Rattle.readback_laws.proofs.CodeValues.{holds_zero}

-- what is answered without a fault
unless_is : {A E : Type 0} (fault : Option E) (made answer : A) → unless fault made ≡ Ok answer → answer ≡ made
unless_is None made answer e = cc
unless_is (Some fault) made answer e = absurd cc

unless_none : {A E : Type 0} (fault : Option E) (made answer : A) → unless fault made ≡ Ok answer → fault ≡ None
unless_none None made answer e = refl
unless_none (Some fault) made answer e = absurd cc

layout_fine : (symbols : SymbolMap) (sections : LooseSections) (laid : LaidSections) → layout_of symbols sections ≡ Ok laid → first_fault symbols laid ≡ None
layout_fine symbols sections laid e =
    let settled = settled_sections symbols (planned symbols sections) in
    ap (first_fault symbols) (unless_is (first_fault symbols settled) settled laid e) ∙ unless_none (first_fault symbols settled) settled laid e

later_none : {E : Type 0} (first later : Option E) → or_later first later ≡ None → (first ≡ None) × (later ≡ None)
later_none None later e = (refl, e)
later_none (Some fault) later e = absurd cc

-- where no element has a fault, the one at this place has none
each_fine : {X E : Type 0} (fault : X → Option E) (xs : List X) (n : ℕ) (x : X) → first_of fault xs ≡ None → slice_get xs n ≡ Some x → fault x ≡ None
unfolding first_of
each_fine fault [] n x none there = absurd (none-some x there)
each_fine fault (y ∷ xs) zero x none there = subst (λ z. fault z ≡ None) (same_Some y x there) (later_none (fault y) (first_of fault xs) none).0
each_fine fault (y ∷ xs) (suc n) x none there = each_fine fault xs n x (later_none (fault y) (first_of fault xs) none).1 there

sections_fine : (symbols : SymbolMap) (laid : LaidSections) → first_fault symbols laid ≡ None → first_of (section_misfit symbols laid) laid ≡ None
unfolding first_fault
sections_fine symbols laid none =
    (later_none (first_of section_back laid) (first_of (section_misfit symbols laid) laid)
    (later_none (first_of large_section laid) (or_later (first_of section_back laid) (first_of (section_misfit symbols laid) laid)) none).1).1

no_misfit : (pos : Pos) (kind : FieldKind) (size : FieldSize) (value : ℕ) (test : Bool) → holds kind size value ≡ test
    → cond test None (Some (DistanceOutOfRange pos value)) ≡ None → holds kind size value ≡ true
no_misfit pos kind size value true is none = is
no_misfit pos kind size value false is none = absurd cc

value_held : (pos : Pos) (kind : FieldKind) (size : FieldSize) (value : Option ℕ) → misfit pos kind size value ≡ None
    → holds kind size (unwrap_or value 0) ≡ true
value_held pos kind size None none = holds_zero kind size
value_held pos kind size (Some value) none = no_misfit pos kind size value (holds kind size value) refl none

-- a field of a section that is laid out holds its value
pub field_held : (symbols : SymbolMap) (sections : LooseSections) (laid : LaidSections) (n index : ℕ) (section : SectionOf LaidItem) (field : Field)
    → layout_of symbols sections ≡ Ok laid
    → slice_get laid n ≡ Some section → slice_get section.fields index ≡ Some (substituted_field (linked symbols) field)
    → holds field.role.kind field.size (final_value symbols laid field) ≡ true
field_held symbols sections laid n index section field e found there =
    let substituted = substituted_field (linked symbols) field in
    let all = sections_fine symbols laid (layout_fine symbols sections laid e) in
    let fields = each_fine (section_misfit symbols laid) laid n section all found in
    value_held field.pos field.role.kind field.size (held_value symbols laid substituted)
    (each_fine (field_misfit symbols laid) section.fields index substituted fields there)
