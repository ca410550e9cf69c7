-- The range checks of a layout: a section that is too large, else an `.org` that moves back, and else a field that does not hold its value.
use Rattle.std.specs.Prelude.{ℕ, ◌+◌, ◌-◌, ◌^◌, nat_lt, Bool, false, List, [], ◌∷◌, length, Option, None, Some, slice_get, if◌then◌else◌}
use Rattle.std.specs.List.{position_or_len}
use Rattle.std.specs.Option.{option_map_or}
use Rattle.asm_base.specs.declared.positions.Pos.{Pos}
use Rattle.asm_symbols.specs.SymbolMap.{SymbolMap}
use Rattle.item_contents.specs.declared.contents.Content.{Content}
use Rattle.item_contents.specs.declared.contents.Content.TheVariants.{Run, Fill, Align, Org, Growing}
use Rattle.item_contents.specs.ItemParts.{OrgOf}
use Rattle.asm_frags.specs.declared.fields.Field.{Field}
use Rattle.asm_frags.specs.declared.fields.FieldSize.{FieldSize}
use Rattle.x86_insn.specs.declared.amounts.FieldKind.{FieldKind}
use Rattle.asm_frags.specs.Fields.{holds}
use Rattle.asm_frags.specs.declared.items.Frag.{Frag}
use Rattle.asm_frags.specs.SectionOf.{SectionOf}
use Rattle.asm_relax.specs.declared.faults.LayoutFault.{LayoutFault}
use Rattle.asm_relax.specs.declared.faults.LayoutFault.TheVariants.{SectionTooLarge, OrgMovesBackwards, DistanceOutOfRange}
use Rattle.asm_relax.specs.Final.{shift_in, section_size}
use Rattle.asm_relax.specs.FieldValues.{held_value}
use Rattle.asm_relax.specs.Faults.{or_later, first_of}

-- a section that ends at this address is too large: it has more than 2^30 bytes
abbrev pub is_large : ℕ → Bool
is_large end = nat_lt (2 ^ 30) end

-- the item begins behind more than the most bytes of a section
abbrev pub begins_late : {P : Type 0} → Frag P ℕ → Bool
begins_late item = is_large item.address

-- the item that ends, with its plain bytes, past the most bytes of a section: the one before the first that begins late, or the last one where none does
abbrev pub first_large : {P : Type 0} → List (Frag P ℕ) → Option (Frag P ℕ)
first_large items = slice_get items (position_or_len begins_late items - 1)

-- the first line of the source file
abbrev pub source_start : Pos
source_start = record { file = 0; line = 1 }

-- the place of the item that ends past the most bytes, or the first line where there are no items
abbrev pub large_place : {P : Type 0} → List (Frag P ℕ) → Pos
large_place items = option_map_or (λ item. item.pos) (first_large items) source_start

-- the last item of a section
abbrev pub last_item : {P : Type 0} → List (Frag P ℕ) → Option (Frag P ℕ)
last_item items = slice_get items (length items - 1)

-- how far the items of a section move its end: as far as the last one moves what stands behind it
abbrev pub end_shift : {P : Type 0} → List (Frag P ℕ) → ℕ
end_shift items = option_map_or (λ item. item.address + item.size - item.offset) (last_item items) 0

-- how many bytes a section has, of which `sh_size` tells 64 bits: its plain bytes, and as many as its items move the end
abbrev pub whole_size : {P : Type 0} → SectionOf (Frag P ℕ) → ℕ
whole_size section = length section.bytes + end_shift section.items

-- the fault of a section that is too large, at the first item that ends past the most bytes
abbrev pub large_section : {P : Type 0} → SectionOf (Frag P ℕ) → Option LayoutFault
large_section section =
    if is_large (whole_size section) then Some (SectionTooLarge (large_place section.items) (section_size section)) else None

-- the place that an `.org` counts from is moved so far: the items before it move it, at most those before the `.org`, which has this index
abbrev pub origin_shift : {P : Type 0} → List (Frag P ℕ) → ℕ → OrgOf → ℕ
origin_shift items index org = shift_in items (index - (index - org.from))

-- the item of this index, which stands at this address, is an `.org` to a place before it
abbrev pub moves_back : {P : Type 0} → List (Frag P ℕ) → ℕ → ℕ → Content → Bool
moves_back items index address Run = false
moves_back items index address (Fill held) = false
moves_back items index address (Align held) = false
moves_back items index address (Org held) = nat_lt (origin_shift items index held + held.ahead) (address + held.behind)
moves_back items index address (Growing held) = false

-- the fault of the first such item of these, the first of which has this index among them all
abbrev pub first_back : {P : Type 0} → List (Frag P ℕ) → ℕ → List (Frag P ℕ) → Option LayoutFault
first_back all index [] = None
first_back all index (item ∷ items) = if moves_back all index item.address item.content then Some (OrgMovesBackwards item.pos) else first_back all (index + 1) items

-- the fault of the first such item of a section
abbrev pub section_back : {P : Type 0} → SectionOf (Frag P ℕ) → Option LayoutFault
section_back section = first_back section.items 0 section.items

-- the fault of a field that does not hold its value; a field without a value is left to the linker
abbrev pub misfit : Pos → FieldKind → FieldSize → Option ℕ → Option LayoutFault
misfit pos kind size None = None
misfit pos kind size (Some value) = if holds kind size value then None else Some (DistanceOutOfRange pos value)

module _ {P : Type 0} (map : SymbolMap) (sections : List (SectionOf (Frag P ℕ))) where
  -- the fault of a field whose value is out of its range
  abbrev pub field_misfit : Field → Option LayoutFault
  field_misfit field = misfit field.pos field.role.kind field.size (held_value map sections field)

  -- the fault of the first such field of a section
  abbrev pub section_misfit : SectionOf (Frag P ℕ) → Option LayoutFault
  section_misfit section = first_of field_misfit section.fields

  -- the first fault of a layout: sections that are too large come before `.org`s that move back, and these before all fields
  unfoldable pub first_fault : Option LayoutFault
  first_fault = or_later (first_of large_section sections) (or_later (first_of section_back sections) (first_of section_misfit sections))
