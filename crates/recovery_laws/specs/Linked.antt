-- The bytes of a section of the object as a linker leaves them, and the entries of the frame table
-- of the object.
use Rattle.std.specs.Prelude.{◌≡◌, ◌+◌, ◌==◌, ℕ, zero, suc, false, List, [], ◌∷◌, ◌++◌, length, Option, Some, slice_get}
use Rattle.asm_symbols.specs.SymbolMap.{SymbolMap}
use Rattle.asm_frags.specs.SectionOf.{SectionOf}
use Rattle.asm_relax.specs.RangeChecks.{whole_size}
use Rattle.asm_relax.specs.Settling.{LaidItem, LaidSections}
use Rattle.cfi_directives.specs.declared.frames.Frame.{Frame}
use Rattle.cfi_rows.specs.declared.rows.CfaRow.{CfaRow}
use Rattle.cfi_rows.specs.Commons.{common_entry}
use Rattle.cfi_entries.specs.Entries.{row_of}
use Rattle.eh_frame.specs.Commons.{form_of}
use Rattle.elf_file.specs.Sections.{no_bits}
use Rattle.elf_object.specs.Contents.{section_relocations}
use Rattle.elf_object.specs.Places.{section_offset}
use Rattle.frame_laws.specs.TableReads.{EntryReads, Preceding, EntriesFill, TableReads}
use Rattle.loaded_laws.specs.Loaded.{IsLoaded}

module _ (object : List ℕ) (map : SymbolMap) (laid : LaidSections) where
  -- these are bytes of the section of this number once it is linked: those of the object but for
  -- the bytes of relocated fields, which may be any. The section has bytes in the object
  pub record IsLinked (number : ℕ) (code : List ℕ) : Type 0 where
    pub section : SectionOf LaidItem
    pub there : slice_get laid number ≡ Some section
    pub filed : (section.kind == no_bits) ≡ false
    pub loaded : IsLoaded object (section_offset map laid number) (whole_size section)
        (section_relocations map laid number section) code

  -- of entries that fill a section from this offset on, behind those of earlier procedures, the
  -- offset of the FDE of this number
  abbrev pub offset_of : (table offset : ℕ) → (earlier : List Preceding) → (frames : List Frame)
      → EntriesFill object map laid table offset earlier frames → (number : ℕ) → ℕ
  offset_of table offset earlier [] fill number = offset
  offset_of table offset earlier (frame ∷ frames) fill zero = offset + fill.0.count
  offset_of table offset earlier (frame ∷ frames) fill (suc number) =
      offset_of table (offset + fill.0.count + length fill.0.read.entry)
      (earlier ++ record { frame = frame; common = fill.0.read.common } ∷ []) frames fill.1 number

  -- a frame has the entry of this number in the frame table of the object, which has one for each
  -- of these frames: its FDE. It stands at this offset of `.eh_frame`, behind the entries before it,
  -- and begins and ends where the frame does
  pub record HasEntry {frames : List Frame} (table : TableReads object map laid frames)
      (number : ℕ) (frame : Frame) : Type 0 where
    pub offset : ℕ
    pub numbered : offset ≡ offset_of table.number table.common [] frames table.entries number
    pub reads : EntryReads object map laid table.number offset frame

  -- the row that the bytes of the CIE and of this FDE give so far from where the FDE begins, if
  -- they give one
  abbrev pub row_by : {frames : List Frame} → {table : TableReads object map laid frames}
      → {number : ℕ} → {frame : Frame} → HasEntry table number frame → ℕ → Option CfaRow
  row_by {frame = frame} has at = row_of (common_entry (form_of frame) has.reads.cie.pointer) has.reads.entry at
