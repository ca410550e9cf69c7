-- The rounds of the rows give the layout of the sections.
use Rattle.std.proofs.Common.{◌≡◌, ℕ, zero, suc, ◌+◌, ◌<◌, ◌≤◌, List, [], ◌∷◌, length, map, sum, refl, sym, ap, ◌∙◌, subst, arith}
use Rattle.std.specs.Prelude.{All, slice_index}
use Rattle.std.proofs.lemmas.List.{length-map}
use Rattle.level_ranks.specs.Ranks.{Ranks, greatest, levels_taken, IsRanking, IsLayout}
use Rattle.level_ranks.specs.Rounds.{NeedsWithin, after}
use Rattle.asm_levels.specs.declared.rows.Row.{Row}
use Rattle.asm_levels.specs.Needs.{need, tops}
use Rattle.asm_levels.specs.Shifts.{shifts_of}
use Rattle.item_rows.specs.ItemRows.{rows_of, lowest_levels, levels_of}
use Rattle.asm_symbols.specs.SymbolMap.{SymbolMap}
use Rattle.asm_relax.specs.Layout.{laid_out, laid_by, AreSized, AreWithin}
use Rattle.asm_relax.specs.Placing.{placed_section}
use Rattle.asm_relax.proofs.ShiftTail.{ranked_within, laid_is_placed, laid_is_sized}
use Rattle.asm_relax.specs.Settling.{LaidSections, settled_sections, IsLaidOut}

-- what rounds reach where some layout is the one that they reach
abbrev pub AreReached : Type 0
AreReached = (need : List ℕ → List ℕ) (tops start levels : List ℕ) (rounds : ℕ) → length start ≡ length tops → All (λ level. level ≡ 0) start → NeedsWithin need tops
    → IsLayout need tops levels rounds → levels ≡ after need start (sum tops)

lowest_all : (rows : List Row) → All (λ level. level ≡ 0) (lowest_levels rows)
lowest_all [] index default inside = absurd (omega arith)
lowest_all (row ∷ rows) zero default inside = refl
lowest_all (row ∷ rows) (suc index) default inside = lowest_all rows index default (omega arith)

-- the levels of rows are those of a ranking, where there is one
pub levels_ranked : AreReached → ((rows : List Row) → NeedsWithin (need rows) (tops rows)) → ((need' : List ℕ → List ℕ) (tops' : List ℕ) → (ranks : Ranks) × IsRanking need' tops' ranks)
    → (rows : List Row) → (rounds : ℕ) × IsLayout (need rows) (tops rows) (levels_of rows) rounds
unfolding levels_of
levels_ranked reached within ranked rows =
    let ranking = ranked (need rows) (tops rows) in
    let layout : IsLayout (need rows) (tops rows) (levels_taken ranking.0) (1 + greatest ranking.0) = record { ranks = ranking.0; ranking = ranking.1; taken = refl; count = refl } in
    let long : length (lowest_levels rows) ≡ length (tops rows) = length-map rows _ ∙ sym (length-map rows _) in
    let same = reached (need rows) (tops rows) (lowest_levels rows) (levels_taken ranking.0) (1 + greatest ranking.0) long (lowest_all rows) (within rows) layout in
    (1 + greatest ranking.0, subst (λ (levels : List ℕ). IsLayout (need rows) (tops rows) levels (1 + greatest ranking.0)) same layout)

module _ (reached : AreReached) (within : (rows : List Row) → NeedsWithin (need rows) (tops rows)) (ranked : (need' : List ℕ → List ℕ) (tops' : List ℕ) → (ranks : Ranks) × IsRanking need' tops' ranks)
    (symbols : SymbolMap) (sections : LaidSections) where
  -- no level of the layout is above its row's highest
  pub settled_within : AreWithin (levels_of (rows_of symbols sections)) (rows_of symbols sections)
  settled_within =
      let (rounds, layout) = levels_ranked reached within ranked (rows_of symbols sections) in
      ranked_within (rows_of symbols sections) (levels_of (rows_of symbols sections)) rounds layout

  -- the items of settled sections stand one behind the other
  pub settled_placed : map placed_section (settled_sections symbols sections) ≡ settled_sections symbols sections
  unfolding settled_sections
  settled_placed = laid_is_placed symbols (levels_of (rows_of symbols sections)) sections settled_within

  -- and have sizes that they may have
  pub settled_sized : All (λ section. AreSized section.items) (settled_sections symbols sections)
  unfolding settled_sections
  settled_sized = laid_is_sized symbols (levels_of (rows_of symbols sections)) sections settled_within

module _ (reached : AreReached) (within : (rows : List Row) → NeedsWithin (need rows) (tops rows)) (symbols : SymbolMap) (sections laid : LaidSections) (rows : List Row) (levels shifts : List ℕ)
    (rounds : ℕ) (same : rows ≡ rows_of symbols sections) (layout : IsLayout (need rows) (tops rows) levels rounds) (moved : shifts ≡ shifts_of rows levels)
    (placed : laid ≡ laid_out shifts sections) where
  by_levels : laid ≡ laid_by symbols levels sections
  unfolding laid_by
  by_levels = placed ∙ ap (λ (all : List ℕ). laid_out all sections) (moved ∙ ap (λ (all : List Row). shifts_of all levels) same)

  levels_are : levels ≡ levels_of rows
  unfolding levels_of
  levels_are =
      let long : length (lowest_levels rows) ≡ length (tops rows) = length-map rows _ ∙ sym (length-map rows _) in
      reached (need rows) (tops rows) (lowest_levels rows) levels rounds long (lowest_all rows) (within rows) layout

  -- the sections are those of the definition
  pub sections_settled : laid ≡ settled_sections symbols sections
  unfolding settled_sections
  sections_settled = by_levels ∙ ap (λ (all : List ℕ). laid_by symbols all sections) (levels_are ∙ ap levels_of same)

  -- and laid out by the ranking
  pub sections_laid_out : ((index : ℕ) → index < length rows → slice_index (need rows levels) index ≤ slice_index levels index) → IsLaidOut symbols sections laid rounds
  sections_laid_out enough = record {
    levels = levels;
    layout = rw same at layout;
    enough = rw same at enough;
    placed = by_levels;
  }
