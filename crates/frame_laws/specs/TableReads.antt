-- A frame table as it stands in the file (psABI for AMD64, section 4.2.4; DWARF 5, section 6.4.1).
use Rattle.std.specs.Prelude.{◌≡◌, ℕ, ◌+◌, ◌^◌, ◌≤◌, ◌==◌, true, false, List, [], ◌∷◌, ◌++◌, All, codes, drop, length, IsSomeAnd, Option, None, Some, Ok, slice_get}
use Rattle.std.specs.List.{find}
use Rattle.std.specs.Option.{option_map, unwrap_or}
use Rattle.asm_frags.specs.SectionOf.{SectionOf, is_section_named}
use Rattle.asm_symbols.specs.SymbolMap.{SymbolMap}
use Rattle.asm_relax.specs.Settling.{LaidItem, LaidSections, layout_of}
use Rattle.cfi_directives.specs.declared.frames.Frame.{Frame}
use Rattle.cfi_directives.specs.Meant.{from_start, place_in, row_meant, stop_of}
use Rattle.cfi_directives.specs.declared.frames.Pointer.{Pointer}
use Rattle.cfi_rows.specs.Commons.{common_entry, common_head, common_length}
use Rattle.cfi_entries.specs.Entries.{entry_of, row_of}
use Rattle.cfi_rows.specs.Instructions.{four_bytes_of}
use Rattle.cfi_rows.specs.Pointers.{size_if}
use Rattle.table_pieces.specs.Pieces.{Tables}
use Rattle.table_pieces.specs.Ready.{AreReady}
use Rattle.eh_frame.specs.Commons.{form_of, pointer_field, pointer_form, share_common}
use Rattle.eh_frame.specs.Placing.{placed}
use Rattle.elf_file.specs.Places.{PieceAt}
use Rattle.elf_file.specs.Sections.{no_bits}
use Rattle.elf_object.specs.Faults.{object_fault}
use Rattle.elf_object.specs.Image.{image_of}
use Rattle.elf_object.specs.Places.{section_offset, moved}
use Rattle.piece_laws.specs.LaidTables.{IsLow, place_address}
use Rattle.piece_laws.specs.Pointers.{HoldsForm, PointsTo}
use Rattle.frame_laws.specs.PlacedTables.{IsCovered, GoesOn}

-- a pointer stands at this offset of the section of this number, if there is one: its field is written as its encoding says. Filled, by the linker where its
-- relocation says it, the field is the address of what the directive names, less the field's own place where the encoding counts from there
abbrev pub Names : SymbolMap → LaidSections → ℕ → ℕ → Option Pointer → Type 0
Names map laid number offset None = Unit {0}
Names map laid number offset (Some pointer) =
    IsSomeAnd (slice_get laid number) (λ section. HoldsForm map laid number section offset (pointer_field pointer.encoding) (pointer_form pointer))

-- the CIE of a procedure stands at this offset of the section of this number in the file: it says how the procedure's pointers are written, and names its
-- personality
pub record CommonReads (file : List ℕ) (map : SymbolMap) (laid : LaidSections) (number offset : ℕ) (frame : Frame) : Type 0 where
  pub pointer : List ℕ
  pub sized : length pointer ≡ size_if (form_of frame).personality
  pub stands : PieceAt file (section_offset map laid number + offset) (common_entry (form_of frame) pointer)
  pub names_it : Names map laid number (offset + length (common_head (form_of frame))) frame.personality

-- where the initial location of the FDE at this offset stands: behind its length and its CIE pointer
abbrev pub location_offset : ℕ → ℕ
location_offset offset = offset + 8

-- where its pointer to the LSDA stands: behind the initial location, the range and the length of the augmentation data
abbrev pub lsda_offset : ℕ → ℕ
lsda_offset offset = offset + 17

-- the FDE of a procedure stands at this offset of the section of this number in the file: it is whole, and covers as many bytes as the procedure; its CIE
-- pointer leads back to a CIE that says how its pointers are written and names its personality, its initial location is the procedure's beginning, it names
-- the LSDA of the procedure, and at each distance from there the CIE and the FDE give the row that the procedure's directives mean, and none from its end on
pub record EntryReads (file : List ℕ) (map : SymbolMap) (laid : LaidSections) (number offset : ℕ) (frame : Frame) : Type 0 where
  pub entry : List ℕ
  pub common : ℕ
  pub cie : CommonReads file map laid number common frame
  pub stands : PieceAt file (section_offset map laid number + offset) entry
  pub whole : IsSomeAnd (entry_of (form_of frame) entry) (λ read. read.0 ≡ from_start (place_address laid) frame (stop_of frame))
  pub back : IsSomeAnd (four_bytes_of (drop 4 entry)) (λ read. read.0 + common ≡ offset + 4)
  pub start : IsSomeAnd (slice_get laid number) (λ section. PointsTo map laid number section (location_offset offset) (place_in frame.section frame.start))
  pub lsda : Names map laid number (lsda_offset offset) frame.lsda
  pub rows : (at : ℕ) → row_of (common_entry (form_of frame) cie.pointer) entry at ≡ row_meant (place_address laid) frame at

-- a procedure whose FDE stands before, and the offset of its CIE
pub record Preceding : Type 0 where
  pub frame : Frame
  pub common : ℕ

-- where the CIE of the first of these procedures stands that shares it with this one, if one does
abbrev pub shared_common : List Preceding → Frame → Option ℕ
shared_common earlier frame = option_map (λ one. one.common) (find (λ one. share_common one.frame frame) earlier)

-- so many bytes stand between the entries before and the FDE of a procedure: those of its CIE, unless that is shared
abbrev pub bytes_before : Option ℕ → Frame → ℕ
bytes_before (Some common) frame = 0
bytes_before None frame = 4 + common_length (form_of frame)

-- behind this offset stands the FDE of a procedure. Its CIE is that of the first earlier procedure that shares it; where none does, it stands at the offset,
-- directly before the FDE
pub record FrameReads (file : List ℕ) (map : SymbolMap) (laid : LaidSections) (number offset : ℕ) (earlier : List Preceding) (frame : Frame) : Type 0 where
  pub count : ℕ
  pub before : count ≡ bytes_before (shared_common earlier frame) frame
  pub read : EntryReads file map laid number (offset + count) frame
  pub leads : read.common ≡ unwrap_or (shared_common earlier frame) offset

-- from this offset to the end of the section stand the entries of these procedures behind those of earlier ones, in their order, one directly behind the
-- other: of each its CIE, unless an earlier one shares it, then its FDE
abbrev pub EntriesFill : List ℕ → SymbolMap → LaidSections → ℕ → ℕ → List Preceding → List Frame → Type 0
EntriesFill file map laid number offset earlier [] =
    IsSomeAnd (slice_get laid number) (λ section. moved section.items (length section.items) (length section.bytes) ≡ offset)
EntriesFill file map laid number offset earlier (frame ∷ frames) =
    (one : FrameReads file map laid number offset earlier frame)
    × EntriesFill file map laid number (offset + one.count + length one.read.entry) (earlier ++ record { frame = frame; common = one.read.common } ∷ []) frames

-- the section of this number is `.eh_frame`, and has bytes in the file
pub record IsTableSection (section : SectionOf LaidItem) : Type 0 where
  pub named : is_section_named (codes ".eh_frame") section ≡ true
  pub filed : (section.kind == no_bits) ≡ false

-- in `.eh_frame` in the file stand, from an offset up to the section's end, the CIE of the first procedure and the entries of all, in order; at most two labels a
-- byte of the section are symbols for it, and at most 2^30 for what is put behind it
pub record TableReads (file : List ℕ) (map : SymbolMap) (laid : LaidSections) (frames : List Frame) : Type 0 where
  pub number : ℕ
  pub section : IsSomeAnd (slice_get laid number) IsTableSection
  pub common : ℕ
  pub entries : EntriesFill file map laid number common [] frames
  pub few : length map.symbols ≤ 2 ^ 24 + 2 ^ 31 + 2 ^ 30

-- where what was placed is ready for a table, the procedures have ended and stand in order, no section of a layout is too large that goes on behind the table,
-- and an object is made of it: the table reads in the file as their directives mean
abbrev pub FrameTablesRead : Type 0
FrameTablesRead = (frame : Frame) (frames : List Frame) (tables after last : Tables) (laid : LaidSections) → AreReady tables
    → All (IsCovered tables.sections) (frame ∷ frames) → placed (frame ∷ frames) tables ≡ Ok after → GoesOn after last
    → layout_of last.symbols last.sections ≡ Ok laid → object_fault last.symbols laid ≡ None → IsLow last laid
    → TableReads (image_of last.symbols laid) last.symbols laid (frame ∷ frames)
