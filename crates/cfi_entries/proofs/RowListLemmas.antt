-- Instructions that lead from row to row give at each place the row that stands there.
use Rattle.std.proofs.Common.{◌≡◌, ℕ, ◌<◌, ◌≤◌, nat_le, List, [], ◌∷◌, ◌++◌, Option, None, Some, if◌then◌else◌, refl, sym, ◌∙◌, ap, arith, inl, inr, ◌⊎◌}
use Rattle.std.specs.Option.{option_map, option_and_then}
use Rattle.std.proofs.lemmas.Bool.{cases_lt}
use Rattle.cfi_rows.specs.declared.rows.CfaRow.{CfaRow}
use Rattle.cfi_rows.specs.declared.rows.CfiOp.{CfiOp}
use Rattle.cfi_rows.specs.Rows.{Rows, changed, rows_of, start_rows, ops_after}
use Rattle.cfi_entries.specs.Places.{Placed, up_to, rows_after, row_after}
use Rattle.cfi_entries.specs.RowLists.{RowPlace, AreRising, row_at_place, at_place, Leads}
use Rattle.cfi_entries.proofs.PlacedLemmas.{is_past, is_up_to}

here_then : (initial : CfaRow) (place : ℕ) (here : List CfiOp) (rest : List Placed) (rows : Rows)
    → rows_after initial (at_place place here ++ rest) rows ≡ option_and_then (rows_after initial rest) (ops_after initial here rows)
here_then initial place [] rest rows = refl
here_then initial place (op ∷ here) rest rows = then_by (changed initial op rows) (λ due. here_then initial place here rest due)
  where
    then_by : (due : Option Rows)
        → ((due : Rows) → rows_after initial (at_place place here ++ rest) due ≡ option_and_then (rows_after initial rest) (ops_after initial here due))
        → option_and_then (rows_after initial (at_place place here ++ rest)) due
        ≡ option_and_then (rows_after initial rest) (option_and_then (ops_after initial here) due)
    then_by None below = refl
    then_by (Some due) below = below due

all_up_to : (at place : ℕ) (here : List CfiOp) (rest : List Placed) → place ≤ at → up_to at (at_place place here ++ rest) ≡ at_place place here ++ up_to at rest
all_up_to at place [] rest near = refl
all_up_to at place (op ∷ here) rest near =
    ap (λ b. if b then (place, op) ∷ up_to at (at_place place here ++ rest) else []) (is_up_to at place near)
    ∙ ap (λ ops. (place, op) ∷ ops) (all_up_to at place here rest near)

none_here : (at place : ℕ) (here : List CfiOp) (rest : List Placed) → at < place → up_to at rest ≡ [] → up_to at (at_place place here ++ rest) ≡ []
none_here at place [] rest far none = none
none_here at place (op ∷ here) rest far none =
    ap (λ b. if b then (place, op) ∷ up_to at (at_place place here ++ rest) else []) (is_past at place far)

none_up_to : (initial : CfaRow) (at here : ℕ) (from : CfaRow) (rows : List RowPlace) (ops : List Placed) → at < here → AreRising here rows → Leads initial from rows ops → up_to at ops ≡ []
none_up_to initial at here from [] ops far rising leads = ap (up_to at) leads
none_up_to initial at here from (next ∷ rows) ops far (rises, rising) (ops_here, rest, made, gives, leads) =
    ap (up_to at) made ∙ none_here at next.0 ops_here rest (omega arith) (none_up_to initial at next.0 next.1 rows rest (omega arith) rising leads)

reached : (initial : CfaRow) (at here : ℕ) (from : CfaRow) (saved : List CfaRow) (rows : List RowPlace) (ops : List Placed) → AreRising here rows → Leads initial from rows ops
    → rows_after initial (up_to at ops) (rows_of from saved) ≡ Some (rows_of (row_at_place at from rows) saved)
reached initial at here from saved [] ops rising leads = ap (λ ops. rows_after initial (up_to at ops) (rows_of from saved)) leads
reached initial at here from saved (next ∷ rows) ops (rises, rising) (ops_here, rest, made, gives, leads) =
    ap (λ ops. rows_after initial (up_to at ops) (rows_of from saved)) made
    ∙ reached_by (reached initial at next.0 next.1 saved rows rest rising leads) (cases_lt at next.0)
  where
    reached_by : rows_after initial (up_to at rest) (rows_of next.1 saved) ≡ Some (rows_of (row_at_place at next.1 rows) saved)
        → (at < next.0) ⊎ (next.0 ≤ at)
        → rows_after initial (up_to at (at_place next.0 ops_here ++ rest)) (rows_of from saved)
        ≡ Some (rows_of (if nat_le next.0 at then row_at_place at next.1 rows else from) saved)
    reached_by below (inr near) =
        ap (λ ops. rows_after initial ops (rows_of from saved)) (all_up_to at next.0 ops_here rest near)
        ∙ here_then initial next.0 ops_here (up_to at rest) (rows_of from saved)
        ∙ ap (option_and_then (rows_after initial (up_to at rest))) (gives saved)
        ∙ below
        ∙ ap (λ b. Some (rows_of (if b then row_at_place at next.1 rows else from) saved)) (sym (is_up_to at next.0 near))
    reached_by below (inl far) =
        ap (λ ops. rows_after initial ops (rows_of from saved))
        (none_here at next.0 ops_here rest far (none_up_to initial at next.0 next.1 rows rest far rising leads))
        ∙ ap (λ b. Some (rows_of (if b then row_at_place at next.1 rows else from) saved)) (sym (is_past at next.0 far))

abbrev last_row : CfaRow → List RowPlace → CfaRow
last_row from [] = from
last_row from (next ∷ rows) = last_row next.1 rows

run_all : (initial from : CfaRow) (saved : List CfaRow) (rows : List RowPlace) (ops : List Placed) → Leads initial from rows ops
    → rows_after initial ops (rows_of from saved) ≡ Some (rows_of (last_row from rows) saved)
run_all initial from saved [] ops leads = ap (λ ops. rows_after initial ops (rows_of from saved)) leads
run_all initial from saved (next ∷ rows) ops (ops_here, rest, made, gives, leads) =
    ap (λ ops. rows_after initial ops (rows_of from saved)) made
    ∙ here_then initial next.0 ops_here rest (rows_of from saved)
    ∙ ap (option_and_then (rows_after initial rest)) (gives saved)
    ∙ run_all initial next.1 saved rows rest leads

pub rows_stand : (initial : CfaRow) (at : ℕ) (rows : List RowPlace) (ops : List Placed) → AreRising 0 rows → Leads initial initial rows ops
    → row_after initial at ops (start_rows initial) ≡ Some (row_at_place at initial rows)
rows_stand initial at rows ops rising leads =
    ap (option_and_then (λ _. option_map (λ rows. rows.row) (rows_after initial (up_to at ops) (start_rows initial)))) (run_all initial initial [] rows ops leads)
    ∙ ap (option_map (λ rows. rows.row)) (reached initial at 0 initial [] rows ops rising leads)
