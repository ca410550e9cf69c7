-- What a walk finds is the row after the instructions up to the place asked for.
use Rattle.std.proofs.Common.{◌≡◌, ℕ, length, ◌+◌, ◌<◌, ◌≤◌, true, false, List, [], ◌∷◌, Option, None, Some, nat_le, if◌then◌else◌, refl, sym, ◌∙◌, ap, arith, inl, inr, ◌⊎◌}
use Rattle.std.proofs.lemmas.Bool.{cases_lt}
use Rattle.std.specs.Option.{option_map, option_and_then}
use Rattle.cfi_rows.specs.declared.rows.CfaRow.{CfaRow}
use Rattle.cfi_rows.specs.declared.rows.Insn.{Insn}
use Rattle.cfi_rows.specs.declared.rows.Insn.TheVariants.{Nop, Advance, Op}
use Rattle.cfi_rows.specs.Rows.{Rows, changed, start_rows}
use Rattle.cfi_entries.specs.Places.{decoded, placed, up_to, rows_after, row_after, row_in_force}
use Rattle.cfi_entries.specs.Walks.{Walk, arrived, run, ran, start, found_by}

abbrev pub walk_at : ℕ → Rows → CfaRow → Walk
walk_at place rows found = record { place = place; rows = rows; found = found }

abbrev kept_by : CfaRow → Option Rows → Option CfaRow
kept_by found rows = option_map (λ _. found) rows

pub is_past : (at place : ℕ) → at < place → nat_le place at ≡ false
is_past at place far = grind arith

pub is_up_to : (at place : ℕ) → place ≤ at → nat_le place at ≡ true
is_up_to at place near = grind arith

-- past the place asked for nothing is found anew
past_op : (initial : CfaRow) (at : ℕ) (insns : List Insn) (place : ℕ) (found : CfaRow) → at < place
    → ((due : Rows) → found_by (run initial at insns (walk_at place due found)) ≡ kept_by found (rows_after initial (placed place insns) due))
    → (due : Option Rows)
    → found_by (option_and_then (run initial at insns) (option_map (arrived at place found) due))
    ≡ kept_by found (option_and_then (rows_after initial (placed place insns)) due)
past_op initial at insns place found far below None = refl
past_op initial at insns place found far below (Some due) =
    ap (λ b. found_by (run initial at insns (walk_at place due (if b then due.row else found)))) (is_past at place far)
    ∙ below due

past : (initial : CfaRow) (at : ℕ) (insns : List Insn) (place : ℕ) (rows : Rows) (found : CfaRow) → at < place
    → found_by (run initial at insns (walk_at place rows found)) ≡ kept_by found (rows_after initial (placed place insns) rows)
past initial at [] place rows found far = refl
past initial at (Nop ∷ insns) place rows found far =
    ap (λ b. found_by (run initial at insns (walk_at place rows (if b then rows.row else found)))) (is_past at place far)
    ∙ past initial at insns place rows found far
past initial at (Advance distance ∷ insns) place rows found far =
    ap (λ b. found_by (run initial at insns (walk_at (place + distance) rows (if b then rows.row else found)))) (is_past at (place + distance) (omega arith))
    ∙ past initial at insns (place + distance) rows found (omega arith)
past initial at (Op op ∷ insns) place rows found far =
    past_op initial at insns place found far (λ due. past initial at insns place due found far) (changed initial op rows)

-- of instructions that all stand past a place, none is up to it
none_up_to : (at : ℕ) (insns : List Insn) (place : ℕ) → at < place → up_to at (placed place insns) ≡ []
none_up_to at [] place far = refl
none_up_to at (Nop ∷ insns) place far = none_up_to at insns place far
none_up_to at (Advance distance ∷ insns) place far = none_up_to at insns (place + distance) (omega arith)
none_up_to at (Op op ∷ insns) place far =
    ap (λ b. if b then (place, op) ∷ up_to at (placed place insns) else []) (is_past at place far)

-- up to the place asked for the row is found anew
until_op : (initial : CfaRow) (at : ℕ) (insns : List Insn) (place : ℕ) (found : CfaRow) → place ≤ at
    → ((due : Rows) → found_by (run initial at insns (walk_at place due due.row)) ≡ row_after initial at (placed place insns) due)
    → (due : Option Rows)
    → found_by (option_and_then (run initial at insns) (option_map (arrived at place found) due))
    ≡ option_and_then (λ _. option_map (λ rows. rows.row) (option_and_then (rows_after initial (up_to at (placed place insns))) due))
    (option_and_then (rows_after initial (placed place insns)) due)
until_op initial at insns place found near below None = refl
until_op initial at insns place found near below (Some due) =
    ap (λ b. found_by (run initial at insns (walk_at place due (if b then due.row else found)))) (is_up_to at place near)
    ∙ below due

until_advance : (initial : CfaRow) (at : ℕ) (insns : List Insn) (place : ℕ) (rows : Rows)
    → (place ≤ at → found_by (run initial at insns (walk_at place rows rows.row)) ≡ row_after initial at (placed place insns) rows)
    → (at < place) ⊎ (place ≤ at)
    → found_by (run initial at insns (arrived at place rows.row rows)) ≡ row_after initial at (placed place insns) rows
until_advance initial at insns place rows below (inr near) =
    ap (λ b. found_by (run initial at insns (walk_at place rows (if b then rows.row else rows.row)))) (is_up_to at place near)
    ∙ below near
until_advance initial at insns place rows below (inl far) =
    ap (λ b. found_by (run initial at insns (walk_at place rows (if b then rows.row else rows.row)))) (is_past at place far)
    ∙ past initial at insns place rows rows.row far
    ∙ ap (λ ops. option_and_then (λ _. option_map (λ rows. rows.row) (rows_after initial ops rows)) (rows_after initial (placed place insns) rows))
    (sym (none_up_to at insns place far))

pub until : (initial : CfaRow) (at : ℕ) (insns : List Insn) (place : ℕ) (rows : Rows) → place ≤ at
    → found_by (run initial at insns (walk_at place rows rows.row)) ≡ row_after initial at (placed place insns) rows
until initial at [] place rows near = refl
until initial at (Nop ∷ insns) place rows near =
    ap (λ b. found_by (run initial at insns (walk_at place rows (if b then rows.row else rows.row)))) (is_up_to at place near)
    ∙ until initial at insns place rows near
until initial at (Advance distance ∷ insns) place rows near =
    until_advance initial at insns (place + distance) rows (until initial at insns (place + distance) rows) (cases_lt at (place + distance))
until initial at (Op op ∷ insns) place rows near =
    until_op initial at insns place rows.row near (λ due. until initial at insns place due near) (changed initial op rows)
    ∙ ap (λ b. option_and_then (λ _. option_map (λ rows. rows.row) (rows_after initial (if b then (place, op) ∷ up_to at (placed place insns) else []) rows))
    (rows_after initial ((place, op) ∷ placed place insns) rows)) (sym (is_up_to at place near))

-- the walk over all instructions finds the row in force
due_is_found : (initial : CfaRow) (at : ℕ) (due : Option (List Insn))
    → found_by (option_and_then (λ insns. run initial at insns (start initial)) due)
    ≡ option_and_then (λ insns. row_after initial at (placed 0 insns) (start_rows initial)) due
due_is_found initial at None = refl
due_is_found initial at (Some insns) = until initial at insns 0 (start_rows initial) (omega arith)

pub found_is_in_force : (initial : CfaRow) (at : ℕ) (bytes : List ℕ)
    → row_in_force initial at bytes ≡ found_by (ran initial at (length bytes) bytes (start initial))
unfolding row_in_force
found_is_in_force initial at bytes = sym (due_is_found initial at (decoded (length bytes) bytes))
