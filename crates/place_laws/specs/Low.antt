-- How far behind the beginnings of their sections items and rows are in a layout.
use Rattle.std.specs.Prelude.{◌≡◌, ◌<◌, ◌^◌, All, Ok}
use Rattle.asm_symbols.specs.SymbolMap.{SymbolMap}
use Rattle.section_laws.specs.Within.{AreWithin}
use Rattle.item_rows.specs.ItemRows.{rows_of, levels_of}
use Rattle.asm_relax.specs.ItemValues.{AreLow}
use Rattle.asm_relax.specs.Settling.{LooseSections, LaidSections, planned, layout_of}

-- where fields and items stand within their bytes, nothing of a layout is far behind
pub record LayoutsAreLow : Type 0 where
  -- items stand after fewer than 2^64 plain bytes,
  pub items : (symbols : SymbolMap) (sections : LooseSections) (laid : LaidSections)
      → layout_of symbols sections ≡ Ok laid → AreWithin sections
      → All (λ section. All (λ item. item.offset < 2 ^ 64) section.items) sections
  -- and no row is moved by as many
  pub rows : (symbols : SymbolMap) (sections : LooseSections) (laid : LaidSections)
      → layout_of symbols sections ≡ Ok laid → AreWithin sections
      → AreLow symbols (levels_of (rows_of symbols (planned symbols sections)))
      (planned symbols sections)
