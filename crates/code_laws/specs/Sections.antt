-- Sections as a linker leaves them, and items of functions in them.
use Rattle.std.specs.Prelude.{◌≡◌, ◌==◌, ℕ, false, List, All, Some, Ok, slice_get}
use Rattle.asm_symbols.specs.SymbolMap.{SymbolMap}
use Rattle.asm_frags.specs.SectionOf.{SectionOf}
use Rattle.asm_frags.specs.Writing.{LooseSection}
use Rattle.section_laws.specs.Within.{AreWithin}
use Rattle.asm_relax.specs.RangeChecks.{whole_size}
use Rattle.asm_relax.specs.Settling.{LaidItem, LooseSections, LaidSections, layout_of}
use Rattle.elf_file.specs.Sections.{no_bits}
use Rattle.elf_object.specs.Contents.{section_relocations}
use Rattle.elf_object.specs.Image.{image_of}
use Rattle.elf_object.specs.Places.{section_offset}
use Rattle.asm_place.specs.Instructions.{Grows}
use Rattle.code_functions.specs.declared.items.CodeItem.{CodeItem}
use Rattle.flow_graph.specs.declared.nodes.Node.{Node}
use Rattle.scfi_laws.specs.Laid.{Kind, size, Fits, ReadsItem}
use Rattle.place_laws.specs.Ends.{place_in}
use Rattle.place_laws.specs.Statements.{MovesPlace}
use Rattle.loaded_laws.specs.Loaded.{IsLoaded}
use Rattle.loaded_laws.specs.Beside.{HoldsRelocated}

-- these are the bytes of the section of this number as a linker leaves it. The section is one of a
-- layout of later sections, which have grown from these, and in which fields and items stand within
-- the bytes; it has bytes in the file, and an item of it that holds a field with a relocation has
-- the bytes of the field
pub record IsLoadedLater (symbols : SymbolMap) (laid : LaidSections) (number : ℕ)
    (sections : List LooseSection) (code : List ℕ) : Type 0 where
  pub later : LooseSections
  pub grows : Grows sections later
  pub is : layout_of symbols later ≡ Ok laid
  pub within : AreWithin later
  pub kept : SectionOf LaidItem
  pub there : slice_get laid number ≡ Some kept
  pub takes_bytes : (kept.kind == no_bits) ≡ false
  pub relocated : All (HoldsRelocated symbols laid number kept) kept.fields
  pub loaded : IsLoaded (image_of symbols laid) (section_offset symbols laid number)
      (whole_size kept) (section_relocations symbols laid number kept) code

-- the item is what was put between these sections: it has as many bytes as moved the place of what
-- is put next into the section, and what is read where they are does what the item may do
pub record IsLaidBetween (laid : LaidSections) (number : ℕ) (before after : List LooseSection)
    (starts : ℕ → ℕ) (code : List ℕ) (kind : Kind) (item : CodeItem) (node : Node)
    : Type 0 where
  pub placed : MovesPlace laid number before after (size kind)
  pub fits : Fits kind item node
  pub reads_back : ReadsItem starts code (place_in laid number before) kind item node
