-- Items that hold fields with relocations have the bytes of these fields, in the sections with the frame table.
use Rattle.std.proofs.Common.{◌≡◌, ℕ, ◌<◌, List, All, Option, Some, Ok, refl, sym, ap, subst, ◌∙◌}
use Rattle.std.specs.Prelude.{slice_get}
use Rattle.std.proofs.lemmas.List.Elements.{All-map}
use Rattle.std.proofs.lemmas.Option.{same_Some}
use Rattle.item_contents.specs.declared.kinds.Growth.{Growth}
use Rattle.item_contents.specs.declared.kinds.Growth.TheVariants as growth
use Rattle.x86_insn.specs.declared.amounts.Suffix.{Suffix}
use Rattle.asm_symbols.specs.SymbolMap.{SymbolMap}
use Rattle.asm_frags.specs.declared.fields.Field.{Field}
use Rattle.asm_frags.specs.declared.roles.FieldRole.{FieldRole}
use Rattle.asm_frags.specs.Fields.{growth_role, own_place}
use Rattle.asm_frags.specs.SectionOf.{SectionOf}
use Rattle.asm_frags.specs.Substituting.{substituted_field}
use Rattle.asm_frags.specs.Writing.{LooseSection}
use Rattle.assigned_forms.specs.Linked.{linked}
use Rattle.section_laws.specs.Within.{CountsItems, AreWithin, IsWithin}
use Rattle.asm_relax.specs.KeptSections.{LayoutsKeepSections, kept_section}
use Rattle.asm_relax.specs.Settling.{LaidItem, LaidSections, planned, layout_of}
use Rattle.asm_place.specs.SymbolPlaces.{IsOwnField, FieldsAreOwn}
use Rattle.loaded_laws.specs.Beside.{HoldsRelocated}
use Rattle.code_laws.specs.Relocated.{JumpIsInItem, RelocatedFieldsAreHeld}
use Rattle.place_laws.specs.Low.{LayoutsAreLow}
use Rattle.target_laws.specs.Rooms.{StandIn, JumpFieldsStand}
use Rattle.recovery_laws.proofs.Lists.{all_there}
use Rattle.recovery_laws.proofs.StandingSymbols.{names_no_field}

-- what is known of layouts
pub record LayoutFacts : Type 0 where
  pub layouts : LayoutsKeepSections
  pub low : LayoutsAreLow
  pub stand : JumpFieldsStand
  pub held : RelocatedFieldsAreHeld

-- the role of what grows counts from its end
nothing_behind : (kind : Growth) (suffix : Option Suffix) → (growth_role kind suffix).behind ≡ 0
nothing_behind (growth.Jump condition) suffix = refl
nothing_behind (growth.Leb128 signed) suffix = refl
nothing_behind growth.Advance suffix = refl

module _ (facts : LayoutFacts) (symbols : SymbolMap) (later : List LooseSection) (laid : LaidSections) (settles : layout_of symbols later ≡ Ok laid) (within : AreWithin later)
    (stand : StandIn symbols later) (last : ℕ) (low : last < own_place) (own : FieldsAreOwn last later) (number : ℕ) (section : LooseSection) (there : slice_get later number ≡ Some section) where
  whole : IsWithin section
  whole = all_there IsWithin later number section there within

  -- the field of a jump stands in its item
  jump_stands : (field : Field) → IsOwnField last number field → CountsItems section.fields section.items field
      → JumpIsInItem symbols (planned symbols later) (substituted_field (linked symbols) field)
  jump_stands field is counts = λ in_item branch.
      let held = counts.inside in_item in
      let target = is.target in_item branch in
      let enough = counts.between.enough in
      facts.stand symbols later field stand
      (record { section = section; there = ap (slice_get later) is.own ∙ there; enough = enough })
      (record {
        in_item = in_item;
        behind = ap (λ (r : FieldRole). r.behind) held.role ∙ nothing_behind held.growth held.suffix;
        holds = record { kind = branch; target = target.target; plain = names_no_field last target.target low target.named; form = target.form_is };
      })

  abbrev Stands : Field → Type 0
  Stands field = JumpIsInItem symbols (planned symbols later) (substituted_field (linked symbols) field)

  all_stand : All Stands section.fields
  all_stand = λ k default few. jump_stands _ (own number section there k default few) (whole.counted k default few)

  pub relocated : (kept : SectionOf LaidItem) → slice_get laid number ≡ Some kept → All (HoldsRelocated symbols laid number kept) kept.fields
  relocated kept kept_there =
      let got = facts.layouts.section symbols later laid number section settles there in
      let same : kept ≡ kept_section symbols got.0 section = same_Some kept (kept_section symbols got.0 section) (sym kept_there ∙ got.1) in
      facts.held symbols later laid number section kept settles there kept_there whole (facts.low.rows symbols later laid settles within)
      (subst (λ (s : SectionOf LaidItem). All (JumpIsInItem symbols (planned symbols later)) s.fields) (sym same)
      (All-map (JumpIsInItem symbols (planned symbols later)) (substituted_field (linked symbols)) section.fields all_stand))
