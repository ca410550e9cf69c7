-- What is known of all layouts, and of what their objects hold.
use Rattle.std.proofs.Common.{◌≡◌, ℕ, ◌++◌, List, map, drop, ap, ◌∙◌}
use Rattle.std.proofs.lemmas.List.{drop_at}
use Rattle.asm_symbols.specs.SymbolMap.{SymbolMap}
use Rattle.asm_relax.specs.KeptSections.{LayoutsKeepSections}
use Rattle.asm_relax.specs.Placing.{placed_section}
use Rattle.asm_relax.specs.Settling.{LaidSections, settled_sections}
use Rattle.elf_file.specs.Places.{PieceAt}
use Rattle.elf_object.specs.Places.{BytesStand, ValuesStand}

-- sections are kept in their layout, and its items stand one behind the other; in the object plain bytes and the values of fields stand where they are
-- said to
pub record AreSettled : Type 0 where
  pub layouts : LayoutsKeepSections
  pub placed : (symbols : SymbolMap) (sections : LaidSections) → map placed_section (settled_sections symbols sections) ≡ settled_sections symbols sections
  pub bytes : BytesStand
  pub values : ValuesStand

-- from its place on, the bytes begin with what stands there
pub drop_stands : (bytes : List ℕ) (at : ℕ) (piece : List ℕ) (there : PieceAt bytes at piece) → drop at bytes ≡ piece ++ there.rest
drop_stands bytes at piece there = ap (drop at) there.whole ∙ drop_at there.front (piece ++ there.rest) at there.long
