-- The rounds of the rows of sections are counted.
use Rattle.std.proofs.Common.{◌≡◌, ℕ, zero, suc, List, [], ◌∷◌, length, refl, sym, ◌∙◌, arith}
use Rattle.std.specs.Prelude.{All}
use Rattle.std.proofs.lemmas.List.{length-map}
use Rattle.asm_levels.specs.declared.rows.Row.{Row}
use Rattle.asm_levels.specs.Needs.{need, tops}
use Rattle.asm_symbols.specs.SymbolMap.{SymbolMap}
use Rattle.item_rows.specs.ItemRows.{rows_of, lowest_levels}
use Rattle.level_ranks.specs.Ranks.{IsLayout}
use Rattle.level_ranks.specs.Rounds.{NeedsWithin}
use Rattle.asm_relax.specs.Settling.{LaidSections, LooseSections, IsLaidOut, planned}
use Rattle.layout_counts.specs.Counted.{rounds_for, rounds_of}
use Rattle.layout_counts.proofs.RisingRounds.{RoundLaws, rounds_are}

lowest_all : (rows : List Row) → All (λ level. level ≡ 0) (lowest_levels rows)
lowest_all [] index default inside = absurd (omega arith)
lowest_all (row ∷ rows) zero default inside = refl
lowest_all (row ∷ rows) (suc index) default inside = lowest_all rows index default (omega arith)

module _ (laws : RoundLaws) (within : (rows : List Row) → NeedsWithin (need rows) (tops rows)) where
  row_rounds : (rows : List Row) (levels : List ℕ) (rounds : ℕ) → IsLayout (need rows) (tops rows) levels rounds → rounds ≡ rounds_for rows
  row_rounds rows =
      let long : length (lowest_levels rows) ≡ length (tops rows) = length-map rows _ ∙ sym (length-map rows _) in
      rounds_are laws (need rows) (tops rows) (lowest_levels rows) long (lowest_all rows) (within rows)

  pub rounds_counted : (symbols : SymbolMap) (sections : LooseSections) (laid : LaidSections) (rounds : ℕ) → IsLaidOut symbols (planned symbols sections) laid rounds
      → rounds ≡ rounds_of symbols sections
  unfolding rounds_of
  rounds_counted symbols sections laid rounds out = row_rounds (rows_of symbols (planned symbols sections)) out.levels rounds out.layout
