-- Items have the bytes of the fields that a linker fills in.
use Rattle.std.proofs.Common.{◌≡◌, ℕ, ◌-◌, ◌≤◌, ◌⊎◌, inl, inr, Bool, true, false, Option, Some, None, Ok, get_or, refl, sym, ap, subst, ◌∙◌, arith}
use Rattle.std.specs.Prelude.{slice_get, option_map, option_and_then}
use Rattle.std.specs.Option.{option_map_or}
use Rattle.item_bytes.specs.declared.jumps.Condition.{Condition}
use Rattle.item_bytes.specs.Levels.{jump_size}
use Rattle.item_bytes.specs.Jumps.{is_conditional}
use Rattle.item_contents.specs.declared.kinds.Growth.{Growth}
use Rattle.item_contents.specs.declared.kinds.Growth.TheVariants.{Jump, Leb128, Advance}
use Rattle.item_contents.specs.Contents.{level_size}
use Rattle.x86_insn.specs.declared.amounts.FieldKind.TheVariants.{Branch}
use Rattle.asm_symbols.specs.SymbolMap.{SymbolMap}
use Rattle.asm_frags.specs.declared.fields.Field.{Field}
use Rattle.asm_frags.specs.declared.roles.FieldRole.{FieldRole}
use Rattle.asm_frags.specs.Fields.{width, growth_role}
use Rattle.asm_frags.specs.SectionOf.{SectionOf}
use Rattle.section_laws.specs.Within.{IsInItem as IsHeld}
use Rattle.item_rows.specs.ItemRows.{rows_of, levels_of}
use Rattle.asm_relax.specs.FieldValues.{held_value}
use Rattle.asm_relax.specs.ItemValues.{AreLow}
use Rattle.asm_relax.specs.KeptSections.{LayoutsKeepSections}
use Rattle.asm_relax.specs.SettledRoom.{HasRoomFor, SettledHaveRoom}
use Rattle.asm_relax.specs.Settling.{LaidItem, LooseSections, LaidSections, planned, settled_sections, layout_of}
use Rattle.elf_object.specs.declared.references.Reference.{Reference}
use Rattle.elf_object.specs.declared.relocations.Relocation.{Relocation}
use Rattle.elf_object.specs.Relocations.{relocation, relocation_with, kind_for, field_place, final_reference, field_relocation}
use Rattle.loaded_laws.specs.Beside.{LayoutsKeepCounts, ValuesAreAlone, size_before}
use Rattle.code_laws.specs.Relocated.{JumpIsInItem, RelocatedFieldsAreHeld}

-- what is known of layouts
pub record Facts : Type 0 where
  pub layouts : LayoutsKeepSections
  pub counts : LayoutsKeepCounts
  pub values : ValuesAreAlone
  pub room : SettledHaveRoom

-- a field with the role of a number has no relocation
none_then : (f : Reference → Option Relocation) (found : Option Reference) → ((r : Reference) → f r ≡ None) → option_and_then f found ≡ None
none_then f None none = refl
none_then f (Some r) none = none r

no_number : (map : SymbolMap) (sections : LaidSections) (number : ℕ) (section : SectionOf LaidItem) (field : Field)
    → ((relative local : Bool) → kind_for relative field.role local field.size ≡ None) → field_relocation map sections number section field ≡ None
unfolding field_relocation
no_number map sections number section field none =
    let place = field_place section field in
    none_then (relocation place field) (final_reference map sections number place field)
    (λ found. ap (option_map (relocation_with place field found)) (none found.relative found.local))

-- a near jump has four bytes and more
near_long : (conditional : Bool) → 4 ≤ jump_size conditional 1
near_long true = omega arith
near_long false = omega arith

module _ (facts : Facts) (symbols : SymbolMap) (later : LooseSections) (laid : LaidSections) (number : ℕ) (kept : SectionOf LaidItem) (is : layout_of symbols later ≡ Ok laid)
    (kept_there : slice_get laid number ≡ Some kept) (low : AreLow symbols (levels_of (rows_of symbols (planned symbols later))) (planned symbols later)) (field : Field)
    (own : IsHeld kept.fields kept.items field) (jumps : JumpIsInItem symbols (planned symbols later) field) (in_item : field.in_item ≡ true) where
  settled : laid ≡ settled_sections symbols (planned symbols later)
  settled = facts.layouts.settled symbols later laid is

  -- the bytes of its item
  size_is : size_before kept.items field.item ≡ own.item.size
  size_is =
      let next = own.next in
      let one : field.item - 1 ≡ own.index = omega (arith, next) in
      ap (λ (o : Option LaidItem). option_map_or (λ (i : LaidItem). i.size) o 0) (ap (slice_get kept.items) one ∙ own.item_there)

  room : field.role.kind ≡ Branch → HasRoomFor symbols laid own.growth own.item.size field
  room branch =
      subst (λ (s : LaidSections). HasRoomFor symbols s own.growth own.item.size field) (sym settled)
      (facts.room symbols (planned symbols later) number own.index own.number kept own.item own.growth field low (jumps in_item branch)
      (ap (λ (s : LaidSections). slice_get s number) (sym settled) ∙ kept_there) own.item_there own.content own.field_there)

  -- of a jump
  jump_holds : (condition : Option Condition) (value : Option ℕ) → own.growth ≡ Jump condition → held_value symbols laid field ≡ value
      → (field_relocation symbols laid number kept field ≡ None) ⊎ (width field.size ≤ size_before kept.items field.item)
  jump_holds condition (Some value) jump held = inl (facts.values symbols laid number value kept field held)
  jump_holds condition None jump held =
      let branch = ap (λ (r : FieldRole). r.kind) (own.role ∙ ap (λ g. growth_role g own.suffix) jump) in
      let has = room branch in
      let near : has.level ≡ 1 = has.linked held condition jump in
      let sized : own.item.size ≡ jump_size (is_conditional condition) 1 = has.sized ∙ ap (λ g. level_size g has.level) jump ∙ ap (level_size (Jump condition)) near in
      let long = near_long (is_conditional condition) in
      let four : width field.size ≡ 4 = ap width own.size in
      let same = size_is in
      inr (omega (arith, sized, long, four, same))

  -- of any
  pub holds : (kind : Growth) → own.growth ≡ kind → (field_relocation symbols laid number kept field ≡ None) ⊎ (width field.size ≤ size_before kept.items field.item)
  holds (Jump condition) grows = jump_holds condition (held_value symbols laid field) grows refl
  holds (Leb128 signed) grows =
      inl (no_number symbols laid number kept field
      (λ relative local. ap (λ r. kind_for relative r local field.size) (own.role ∙ ap (λ g. growth_role g own.suffix) grows)))
  holds Advance grows =
      inl (no_number symbols laid number kept field
      (λ relative local. ap (λ r. kind_for relative r local field.size) (own.role ∙ ap (λ g. growth_role g own.suffix) grows)))

pub relocated_fields_are_held : Facts → RelocatedFieldsAreHeld
relocated_fields_are_held facts symbols later laid number section kept is there kept_there within low jumps = λ k d few in_item.
    let own = (facts.counts.counted symbols later laid number section kept is there kept_there within k d few).inside in_item in
    holds facts symbols later laid number kept is kept_there low (get_or kept.fields k d) own (jumps k d few) in_item own.growth refl
