-- What a layout keeps of sections: the offsets of their items, and where their fields stand; and how large they are.
use Rattle.std.specs.Prelude.{◌≡◌, ◌≤◌, ◌^◌, ℕ, List, Some, Ok, All, map, take, drop, slice_get}
use Rattle.asm_symbols.specs.SymbolMap.{SymbolMap}
use Rattle.asm_frags.specs.declared.fields.Field.{Field}
use Rattle.asm_frags.specs.PlainBytes.{IsBeside, FieldsStand}
use Rattle.asm_frags.specs.Writing.{LooseItem, LooseSection}
use Rattle.asm_frags.specs.SectionOf.{SectionOf}
use Rattle.asm_frags.specs.Addresses.{item_laid_at}
use Rattle.asm_frags.specs.Substituting.{substituted_field, laid_item, laid_section}
use Rattle.assigned_forms.specs.Linked.{linked}
use Rattle.asm_relax.specs.Layout.{laid_from, laid_out_section, AreSized}
use Rattle.asm_relax.specs.Placing.{placed_section}
use Rattle.asm_relax.specs.RangeChecks.{whole_size}
use Rattle.asm_relax.specs.Settling.{LaidItem, LooseSections, LaidSections, planned, settled_sections, layout_of}

-- the section as it is laid out, by the shifts of its own rows
abbrev pub kept_section : SymbolMap → List ℕ → LooseSection → SectionOf LaidItem
kept_section symbols own section = laid_out_section own (laid_section (linked symbols) section)

-- the items as they are laid out
abbrev pub kept_items : List ℕ → List LooseItem → List LaidItem
kept_items shifts items = laid_from shifts (map laid_item items)

-- the fields as they are laid out
abbrev pub kept_fields : SymbolMap → List Field → List Field
kept_fields symbols fields = map (substituted_field (linked symbols)) fields

-- the section has at most 2^30 bytes
pub record IsSmall (section : SectionOf LaidItem) : Type 0 where
  pub size : whole_size section ≤ 2 ^ 30

-- what a layout keeps of sections
pub record LayoutsKeepSections : Type 0 where
  -- a layout is that of its sections
  pub settled : (symbols : SymbolMap) (sections : LooseSections) (laid : LaidSections) → layout_of symbols sections ≡ Ok laid
      → laid ≡ settled_sections symbols (planned symbols sections)
  -- none of its sections is too large
  pub small : (symbols : SymbolMap) (sections : LooseSections) (laid : LaidSections) → layout_of symbols sections ≡ Ok laid → All IsSmall laid
  -- each section stands in it as it is laid out
  pub section : (symbols : SymbolMap) (sections : LooseSections) (laid : LaidSections) (n : ℕ) (section : LooseSection) → layout_of symbols sections ≡ Ok laid
      → slice_get sections n ≡ Some section → (own : List ℕ) × (slice_get laid n ≡ Some (kept_section symbols own section))
  -- its items stand one behind the other,
  pub placed : (symbols : SymbolMap) (sections : LooseSections) (laid : LaidSections) (n : ℕ) (kept : SectionOf LaidItem) → layout_of symbols sections ≡ Ok laid
      → slice_get laid n ≡ Some kept → placed_section kept ≡ kept
  -- and have sizes that they may have
  pub sized : (symbols : SymbolMap) (sections : LooseSections) (laid : LaidSections) (n : ℕ) (kept : SectionOf LaidItem) → layout_of symbols sections ≡ Ok laid
      → slice_get laid n ≡ Some kept → AreSized kept.items
  -- an item keeps all but its address and its size
  pub item : (items : List LooseItem) (shifts : List ℕ) (index : ℕ) (item : LooseItem) → slice_get items index ≡ Some item
      → (address : ℕ) × (size : ℕ) × (slice_get (kept_items shifts items) index ≡ Some (item_laid_at address size (laid_item item)))
  -- items up to an offset stay so,
  pub up_to : (bound : ℕ) (items : List LooseItem) (shifts : List ℕ) → All (λ item. item.offset ≤ bound) items → All (λ item. item.offset ≤ bound) (kept_items shifts items)
  -- so do the first ones,
  pub first : (bound count : ℕ) (items : List LooseItem) (shifts : List ℕ) → All (λ item. item.offset ≤ bound) (take count items)
      → All (λ item. item.offset ≤ bound) (take count (kept_items shifts items))
  -- and the others that stand from an offset on
  pub others : (bound count : ℕ) (items : List LooseItem) (shifts : List ℕ) → All (λ item. bound ≤ item.offset) (drop count items)
      → All (λ item. bound ≤ item.offset) (drop count (kept_items shifts items))
  -- fields keep their places,
  pub beside : (symbols : SymbolMap) (from to : ℕ) (fields : List Field) → All (IsBeside from to) fields → All (IsBeside from to) (kept_fields symbols fields)
  -- over the same bytes
  pub stand : (symbols : SymbolMap) (bytes : List ℕ) (from : ℕ) (fields : List Field) → FieldsStand bytes from fields → FieldsStand bytes from (kept_fields symbols fields)
