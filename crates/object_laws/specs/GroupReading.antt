-- What a reader finds of the groups of each object (gABI, chapter 4, "Section Groups").
use Rattle.std.specs.Prelude.{◌≡◌, ◌≢◌, ℕ, zero, suc, ◌+◌, ◌*◌, ◌/◌, ◌<◌, ◌==◌, ◌⊎◌, ◌↔◌, bit_and, Bool, true, List, [], ◌∷◌, length, drop, Option, Some, codes, unwrap_or, slice_get, option_and_then, if◌then◌else◌}
use Rattle.asm_expr.specs.declared.naming.Name.TheVariants.{Plain}
use Rattle.asm_frags.specs.declared.groups.Group.{Group}
use Rattle.asm_frags.specs.Groups.{groups_of, is_in}
use Rattle.asm_frags.specs.SectionOf.{SectionOf}
use Rattle.asm_symbols.specs.SymbolMap.{SymbolMap, names, index_of}
use Rattle.asm_relax.specs.Settling.{LaidItem, LaidSections}
use Rattle.elf_file.specs.declared.reader.SectionHeader.{SectionHeader}
use Rattle.elf_file.specs.Fields.{word_at}
use Rattle.elf_file.specs.Reader.{content_at, section_header_of, section_name_of}
use Rattle.elf_file.specs.Sections.{in_group}
use Rattle.elf_symbols.specs.SymbolTable.{SymbolEntry, listed_all, signature_entry}
use Rattle.elf_object.specs.declared.relocations.Relocation.{Relocation}
use Rattle.elf_object.specs.Contents.{relocations_of}
use Rattle.elf_object.specs.Image.{image_of}
use Rattle.elf_object.specs.Sections.{members_of}
use Rattle.elf_object.specs.TableLaws.{named_targets}
use Rattle.object_laws.specs.ObjectLimits.{ObjectFits, symbol_table_index}
use Rattle.object_laws.specs.SymbolReading.{header_index, ObjectSymbolRead}

-- so many words of bytes, the first first
abbrev pub words_of : ℕ → List ℕ → List ℕ
words_of zero bytes = []
words_of (suc count) bytes = word_at bytes 0 ∷ words_of count (drop 4 bytes)

-- the words of bytes
abbrev pub all_words : List ℕ → List ℕ
all_words bytes = words_of (length bytes / 4) bytes

-- GRP_COMDAT, or no flag
abbrev pub flag_word : Bool → ℕ
flag_word comdat = if comdat then 1 else 0

-- the header of this index is that of a section in the group of this signature, or that of the relocations of one
pub record IsGrouped (symbols : SymbolMap) (sections : LaidSections) (signature : List ℕ) (index : ℕ) : Type 0 where
  pub number : ℕ
  pub section : SectionOf LaidItem
  pub own : List Relocation
  pub there : slice_get sections number ≡ Some section
  pub listed : slice_get (relocations_of symbols sections) number ≡ Some own
  pub grouped : is_in signature section.group ≡ true
  pub here : (index ≡ header_index symbols sections number) ⊎ ((0 < length own) × (index ≡ header_index symbols sections number + 1))

-- the entry of the symbol of this name, if it has one
abbrev pub named_entry : SymbolMap → LaidSections → List ℕ → Option SymbolEntry
named_entry symbols sections name =
    option_and_then (λ number. option_and_then (λ entry. entry) (slice_get (listed_all symbols sections (named_targets symbols sections)) number)) (index_of (Plain name) (names symbols.symbols))

-- the entry of the signature of the group of this place: that of its symbol, if that has one, and else one whose section is the group itself
abbrev pub signed_entry : SymbolMap → LaidSections → ℕ → List ℕ → SymbolEntry
signed_entry symbols sections place signature = unwrap_or (named_entry symbols sections signature) (signature_entry place signature)

-- the header of this index is that of the group of this place: behind its flags it lists, in the order of `members_of`, the headers of just its sections and
-- of their relocations, and it names the symbol of its signature in the symbol table
pub record GroupRead (symbols : SymbolMap) (sections : LaidSections) (index place : ℕ) (group : Group) : Type 0 where
  pub header : SectionHeader
  pub found : section_header_of (image_of symbols sections) index ≡ Some header
  pub kind : header.kind ≡ 17
  pub flags : header.flags ≡ 0
  pub alignment : header.alignment ≡ 4
  pub entry_size : header.entry_size ≡ 4
  pub own_name : section_name_of (image_of symbols sections) index ≡ Some (codes ".group")
  pub table : header.link ≡ symbol_table_index symbols sections
  pub bytes : List ℕ
  pub content : content_at (image_of symbols sections) index ≡ Some bytes
  pub whole : length bytes ≡ 4 * length (all_words bytes)
  pub words : all_words bytes ≡ flag_word group.comdat ∷ members_of group.signature sections (relocations_of symbols sections)
  pub listed : (member : ℕ) → ((n : ℕ) × (slice_get (members_of group.signature sections (relocations_of symbols sections)) n ≡ Some member))
      ↔ IsGrouped symbols sections group.signature member
  pub name : (signed_entry symbols sections place group.signature).name ≡ group.signature
  pub symbol : ObjectSymbolRead symbols sections header.info (signed_entry symbols sections place group.signature)

-- the groups stand behind the null header, in the order in which they are first seen
abbrev pub AreGroupsRead : SymbolMap → LaidSections → Type 0
AreGroupsRead symbols sections = (place : ℕ) (group : Group) → slice_get (groups_of sections) place ≡ Some group
    → GroupRead symbols sections (place + 1) place group

-- so in each object whose numbers fit
abbrev pub GroupsRead : Type 0
GroupsRead = (symbols : SymbolMap) (sections : LaidSections) → ObjectFits symbols sections → AreGroupsRead symbols sections

-- the header of this index is that of a group, and is read as such
pub record IsGroupHeader (symbols : SymbolMap) (sections : LaidSections) (index : ℕ) : Type 0 where
  pub place : ℕ
  pub group : Group
  pub there : slice_get (groups_of sections) place ≡ Some group
  pub read : GroupRead symbols sections index place group

-- the header of this index is one of those that a group lists
pub record IsMember (symbols : SymbolMap) (sections : LaidSections) (index : ℕ) : Type 0 where
  pub place : ℕ
  pub group : Group
  pub there : slice_get (groups_of sections) place ≡ Some group
  pub grouped : IsGrouped symbols sections group.signature index

-- each header of type SHT_GROUP is that of a group; so it lists the headers of just the sections in the group and of their relocations
abbrev pub AreGroupHeaders : SymbolMap → LaidSections → Type 0
AreGroupHeaders symbols sections = (index : ℕ) (header : SectionHeader) → section_header_of (image_of symbols sections) index ≡ Some header
    → header.kind ≡ 17 → IsGroupHeader symbols sections index

-- so it is where no section of the source has that type
abbrev pub GroupsFound : SymbolMap → LaidSections → Type 0
GroupsFound symbols sections = ((number : ℕ) (section : SectionOf LaidItem) → slice_get sections number ≡ Some section → section.kind ≢ 17)
    → AreGroupHeaders symbols sections

-- just the headers that groups list have the flag SHF_GROUP
abbrev pub MembersFlagged : SymbolMap → LaidSections → Type 0
MembersFlagged symbols sections = (index : ℕ) (header : SectionHeader) → section_header_of (image_of symbols sections) index ≡ Some header
    → ((bit_and header.flags in_group == in_group) ≡ true) ↔ IsMember symbols sections index

-- so in each object whose numbers fit, and where of its sections just those in groups have the flag, as `ObjectFits` says of them
abbrev pub GroupsStand : Type 0
GroupsStand = (symbols : SymbolMap) (sections : LaidSections) → ObjectFits symbols sections → GroupsFound symbols sections × MembersFlagged symbols sections
