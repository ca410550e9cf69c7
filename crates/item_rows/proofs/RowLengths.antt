-- How many rows there are.
use Rattle.std.proofs.Common.{◌≡◌, ℕ, ◌+◌, ◌<◌, List, [], ◌∷◌, ◌++◌, length, get_or, drop, refl, sym, ap, ◌∙◌, arith, length-append, append_assoc, suc}
use Rattle.std.proofs.lemmas.List.{at_drop_more}
use Rattle.asm_frags.specs.declared.items.Frag.{Frag}
use Rattle.asm_frags.specs.SectionOf.{SectionOf}
use Rattle.asm_symbols.specs.SymbolMap.{SymbolMap}
use Rattle.asm_frags.specs.declared.fields.Field.{Field}
use Rattle.asm_levels.specs.declared.rows.Row.{Row}
use Rattle.item_rows.specs.ItemRows.{RowsIn, row_count, all_rows, rows_in, item_rows, end_of, section_rows, rows_from, rows_of}

module _ {P : Type 0} where
  items_long : (rows : RowsIn) (fields : List Field) (number index : ℕ) (items : List (Frag P ℕ)) → length (item_rows rows fields number index items) ≡ length items
  items_long rows fields number index [] = refl
  items_long rows fields number index (item ∷ items) = ap suc (items_long rows fields (number + 1) (index + 1) items)

  section_long : (rows : RowsIn) (first : ℕ) (section : SectionOf (Frag P ℕ)) → length (section_rows rows first section) ≡ row_count section
  section_long rows first section =
      let items = items_long rows section.fields first 0 section.items in
      omega (arith, length-append (item_rows rows section.fields first 0 section.items) (end_of section ∷ []))

  -- there are as many rows as there are of each section
  all_long : (rows : RowsIn) (first : ℕ) (sections : List (SectionOf (Frag P ℕ))) → length (rows_from rows first sections) ≡ all_rows sections
  all_long rows first [] = refl
  all_long rows first (section ∷ sections) =
      let own = section_long rows first section in
      let later = all_long rows (first + row_count section) sections in
      omega (arith, length-append (section_rows rows first section) (rows_from rows (first + row_count section) sections))

  -- a section more goes last
  pub rows_step : (rows : RowsIn) (sections : List (SectionOf (Frag P ℕ))) (i : ℕ) (section : SectionOf (Frag P ℕ)) (old new whole : List Row) → i < length sections
      → section ≡ get_or sections i section → new ≡ old ++ section_rows rows (length old) section → old ++ rows_from rows (length old) (drop i sections) ≡ whole
      → new ++ rows_from rows (length new) (drop (i + 1) sections) ≡ whole
  rows_step rows sections i section old new whole inside is put before =
      let own = section_rows rows (length old) section in
      let long : length new ≡ length old + row_count section = ap (λ (all : List Row). length all) put ∙ length-append old own ∙ ap (λ (n : ℕ). length old + n) (section_long rows (length old) section) in
      let rest = rows_from rows (length old + row_count section) (drop (i + 1) sections) in
      let head : rows_from rows (length old) (drop i sections) ≡ own ++ rest =
      at_drop_more (rows_from rows (length old)) sections i section inside ∙ ap (λ (s : SectionOf (Frag P ℕ)). rows_from rows (length old) (s ∷ drop (i + 1) sections)) (sym is) in
      ap (λ (n : ℕ). new ++ rows_from rows n (drop (i + 1) sections)) long ∙ ap (λ (all : List Row). all ++ rest) put ∙ append_assoc old own rest
      ∙ ap (λ (all : List Row). old ++ all) (sym head) ∙ before

  -- there are as many rows as the sections have
  pub rows_are_all : (map : SymbolMap) (sections : List (SectionOf (Frag P ℕ))) → length (rows_of map sections) ≡ all_rows sections
  unfolding rows_of
  rows_are_all map sections = all_long (rows_in map sections) 0 sections
