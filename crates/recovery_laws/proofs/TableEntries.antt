-- Each frame has an entry in the frame table.
use Rattle.std.proofs.Common.{◌≡◌, ◌+◌, ℕ, zero, suc, List, [], ◌∷◌, ◌++◌, Some, length, refl, subst}
use Rattle.std.specs.Prelude.{slice_get}
use Rattle.std.proofs.lemmas.Option.{none-some, same_Some}
use Rattle.asm_symbols.specs.SymbolMap.{SymbolMap}
use Rattle.asm_relax.specs.Settling.{LaidSections}
use Rattle.cfi_directives.specs.declared.frames.Frame.{Frame}
use Rattle.frame_laws.specs.TableReads.{EntryReads, Preceding, EntriesFill, TableReads}
use Rattle.recovery_laws.specs.Linked.{offset_of, HasEntry}

module _ (object : List ℕ) (map : SymbolMap) (laid : LaidSections) where
  entry_there : (table offset : ℕ) (earlier : List Preceding) (frames : List Frame) (fill : EntriesFill object map laid table offset earlier frames) (n : ℕ) (frame : Frame)
      → slice_get frames n ≡ Some frame → EntryReads object map laid table (offset_of object map laid table offset earlier frames fill n) frame
  entry_there table offset earlier [] fill n frame there = absurd (none-some frame there)
  entry_there table offset earlier (one ∷ frames) fill zero frame there = subst (EntryReads object map laid table (offset + fill.0.count)) (same_Some one frame there) fill.0.read
  entry_there table offset earlier (one ∷ frames) fill (suc n) frame there =
      entry_there table (offset + fill.0.count + length fill.0.read.entry) (earlier ++ record { frame = one; common = fill.0.read.common } ∷ []) frames fill.1 n frame there

  pub has_entry : (frames : List Frame) (table : TableReads object map laid frames) (n : ℕ) (frame : Frame) → slice_get frames n ≡ Some frame → HasEntry object map laid table n frame
  has_entry frames table n frame there = record {
    offset = offset_of object map laid table.number table.common [] frames table.entries n;
    numbered = refl;
    reads = entry_there table.number table.common [] frames table.entries n frame there;
  }
