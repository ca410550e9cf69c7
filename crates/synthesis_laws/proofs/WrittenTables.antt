-- Frame tables can be written and run.
use Rattle.std.proofs.Common.{◌≡◌, ℕ, ◌+◌, ◌<◌, ◌⊎◌, inl, inr, true, false, Option, Some, None, IsSome, List, [], ◌∷◌, ◌++◌, map, All, length, slice_get, refl, sym, ap, subst, ◌∙◌}
use Rattle.std.specs.Option.{option_and_then}
use Rattle.std.proofs.lemmas.Bool.{cases_Bool}
use Rattle.std.proofs.lemmas.List.{map-append}
use Rattle.std.proofs.lemmas.List.Elements.{All-nil, All-cons, All-head, All-tail, All-append}
use Rattle.cfi_rows.specs.declared.rows.CfaRow.{CfaRow}
use Rattle.cfi_rows.specs.declared.rows.CfiOp.{CfiOp}
use Rattle.cfi_rows.specs.Rows.{Rows, rows_of, start_rows, common_row, changed, ops_after}
use Rattle.cfi_entries.specs.Written.{written}
use Rattle.cfi_rows.specs.Differences.{differences, IsReached}
use Rattle.cfi_entries.specs.Written.{HaveForms}
use Rattle.cfi_directives.specs.declared.frames.Frame.{Frame}
use Rattle.cfi_directives.specs.declared.frames.PlacedOp.{PlacedOp}
use Rattle.cfi_directives.specs.Sound.{IsSound}
use Rattle.scfi_pass.specs.declared.rows.StackRow.{StackRow}
use Rattle.scfi_pass.specs.Rows.{whole_row}
use Rattle.scfi_pass.specs.Changing.{told}
use Rattle.scfi_pass.specs.Tables.{Analyzed, IsAnalyzed, IsSoundAt, IsNextRow, AreRowsFrom, ops_from, entry_row}
use Rattle.synthesis_laws.specs.WrittenTables.{TablesCanBeWritten}
use Rattle.synthesis_laws.proofs.KnownDistances.{known_small}
use Rattle.synthesis_laws.proofs.LowStack.{stack_low}
use Rattle.synthesis_laws.proofs.SameRows.{placed_at}
use Rattle.synthesis_laws.proofs.WrittenRows.{IsFit, entry_fit, row_fit}
use Rattle.synthesis_laws.proofs.WrittenRules.{have_forms}

-- what is known of instructions that lead from row to row
pub record RowFacts : Type 0 where
  pub led : (initial from to : CfaRow) (saved : List CfaRow) → length from.rules ≡ 64 → length to.rules ≡ 64 → IsReached initial from to
      → ops_after initial (differences from to) (rows_of from saved) ≡ Some (rows_of to saved)
  pub alike : (from to : CfaRow) → length to.rules ≡ 64 → slice_get from.rules 16 ≡ slice_get to.rules 16 → IsReached common_row from to
  pub written : (from to : CfaRow) → HaveForms from to → All (λ op. IsSome (written op)) (differences from to)
  pub begin : whole_row entry_row ≡ common_row

-- rows whose instructions can be written
abbrev AreFit : List StackRow → Type 0
AreFit [] = Unit {0}
AreFit (row ∷ rows) = IsFit row × AreFit rows

-- the instructions that lead from row to row, without their items
abbrev lead : StackRow → List StackRow → List CfiOp
lead before [] = []
lead before (row ∷ rows) = differences (whole_row before) (whole_row row) ++ lead row rows

-- the row at the end
abbrev last_row : StackRow → List StackRow → StackRow
last_row before [] = before
last_row before (row ∷ rows) = last_row row rows

-- instructions with an item, and without
told_ops : (j : ℕ) (ops : List CfiOp) → map (λ held. held.op) (told j ops) ≡ ops
told_ops j [] = refl
told_ops j (op ∷ ops) = ap (λ rest. op ∷ rest) (told_ops j ops)

-- those of a table
ops_lead : (j : ℕ) (before : StackRow) (rows : List StackRow) → map (λ held. held.op) (ops_from j before rows) ≡ lead before rows
ops_lead j before [] = refl
ops_lead j before (row ∷ rows) =
    let here = differences (whole_row before) (whole_row row) in
    map-append (λ held. held.op) (told j here) (ops_from (j + 1) row rows)
    ∙ ap (λ ops. ops ++ map (λ held. held.op) (ops_from (j + 1) row rows)) (told_ops j here)
    ∙ ap (λ ops. here ++ ops) (ops_lead (j + 1) row rows)

-- instructions behind others
run_append : (initial : CfaRow) (one other : List CfiOp) (rows : Rows)
    → ops_after initial (one ++ other) rows ≡ option_and_then (ops_after initial other) (ops_after initial one rows)
run_append initial [] other rows = refl
run_append initial (op ∷ one) other rows = by (changed initial op rows) (λ next. run_append initial one other next)
  where
    by : (next : Option Rows) → ((r : Rows) → ops_after initial (one ++ other) r ≡ option_and_then (ops_after initial other) (ops_after initial one r))
        → option_and_then (ops_after initial (one ++ other)) next ≡ option_and_then (ops_after initial other) (option_and_then (ops_after initial one) next)
    by None behind = refl
    by (Some r) behind = behind r

-- what holds of each instruction of a list, by the parts of others
unmapped : (P : CfiOp → Type 0) (placed : List PlacedOp) → All P (map (λ p. p.op) placed) → All (λ p. P p.op) placed
unmapped P [] all = All-nil (λ p. P p.op)
unmapped P (first ∷ rest) all =
    All-cons (λ p. P p.op) first rest (All-head P first.op (map (λ p. p.op) rest) all) (unmapped P rest (All-tail P first.op (map (λ p. p.op) rest) all))

module _ (facts : RowFacts) where
  -- the instructions from row to row can be written
  lead_written : (before : StackRow) (rows : List StackRow) → AreFit rows → All (λ op. IsSome (written op)) (lead before rows)
  lead_written before [] fit = All-nil (λ op. IsSome (written op))
  lead_written before (row ∷ rows) fit =
      All-append (λ op. IsSome (written op)) (differences (whole_row before) (whole_row row)) (lead row rows)
      (facts.written (whole_row before) (whole_row row) (have_forms before row fit.0)) (lead_written row rows fit.1)

  -- and run
  lead_run : (before : StackRow) (rows : List StackRow) → ops_after common_row (lead before rows) (start_rows (whole_row before)) ≡ Some (start_rows (whole_row (last_row before rows)))
  lead_run before [] = refl
  lead_run before (row ∷ rows) =
      let from = whole_row before in
      let to = whole_row row in
      run_append common_row (differences from to) (lead row rows) (start_rows from)
      ∙ ap (option_and_then (ops_after common_row (lead row rows))) (facts.led common_row from to [] refl refl (facts.alike from to refl refl))
      ∙ lead_run row rows

  module _ (a : Analyzed) (is : IsAnalyzed a) (sound : (j : ℕ) → j < length a.items → IsSoundAt a j) where
    -- the row of an item, behind one that can be written
    next_fit : (j : ℕ) (before row : StackRow) → IsFit before → IsNextRow a j before row → IsFit row
    next_fit j before row fit next = by (cases_Bool (a.reached j))
      where
        by : (a.reached j ≡ true) ⊎ (a.reached j ≡ false) → IsFit row
        by (inl reached) =
            let walk = (is.reached j).0 reached in
            row_fit (a.distances j) (a.facts j) row (known_small a.nodes a.items a.distances is.distances j) (stack_low a is sound walk.0 j walk.1) (placed_at a is j) (next.0 reached)
        by (inr other) = let Fit : StackRow → Type 0 = IsFit in subst Fit (sym (next.1 other)) fit

    -- the rows of all items
    rows_fit : (j : ℕ) (before : StackRow) (rows : List StackRow) → IsFit before → AreRowsFrom a j before rows → AreFit rows
    rows_fit j before [] fit are = tt
    rows_fit j before (row ∷ rows) fit are = let here = next_fit j before row fit are.0 in (here, rows_fit (j + 1) row rows here are.1)

  -- a procedure with these instructions
  sound_ops : (rows : List StackRow) (frame : Frame) → AreFit rows → map (λ placed. placed.op) frame.ops ≡ lead entry_row rows → IsSound frame
  sound_ops rows frame fit same =
      let Written : List CfiOp → Type 0 = λ ops. All (λ op. IsSome (written op)) ops in
      let Run : List CfiOp → Type 0 = λ ops. IsSome (ops_after common_row ops (start_rows common_row)) in
      let Begin : CfaRow → Type 0 = λ row. ops_after common_row (lead entry_row rows) (start_rows row) ≡ Some (start_rows (whole_row (last_row entry_row rows))) in
      let Some : Option Rows → Type 0 = IsSome in
      record {
        written = unmapped (λ op. IsSome (written op)) frame.ops (subst Written (sym same) (lead_written entry_row rows fit));
        run = subst Run (sym same) (subst Some (sym (subst Begin facts.begin (lead_run entry_row rows))) refl);
      }

  -- a procedure with the instructions of a frame table
  pub tables_can_be_written : TablesCanBeWritten
  tables_can_be_written items nodes old new ops frame table has =
      let a = table.0 in
      let is = table.1.analyzed in
      let rows = table.2.1 in
      sound_ops rows.0 frame (rows_fit a is table.2.0 0 entry_row rows.0 entry_fit rows.1)
      (has ∙ ap (map (λ held. held.op)) rows.2 ∙ ops_lead 0 entry_row rows.0)
