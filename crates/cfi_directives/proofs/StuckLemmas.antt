-- Which directives say instructions that can't be run.
use Rattle.std.proofs.Common.{◌≡◌, ◌-◌, nat_lt, Bool, true, false, List, [], ◌∷◌, ◌++◌, length, take, Option, None, Some, is_some, refl, sym, ◌∙◌, ap, arith}
use Rattle.std.specs.Prelude.{slice_get, if◌then◌else◌}
use Rattle.std.specs.Option.{option_and_then}
use Rattle.std.proofs.lemmas.Option.{slice_get-get_or}
use Rattle.cfi_rows.specs.Rows.{Rows, rows_of, common_row, changed}
use Rattle.cfi_rows.specs.declared.rows.CfaRow.{CfaRow}
use Rattle.cfi_rows.specs.declared.rows.CfiOp.{CfiOp}
use Rattle.cfi_rows.specs.declared.rows.CfiOp.TheVariants as op
use Rattle.cfi_directives.specs.declared.frames.PlacedOp.{PlacedOp}
use Rattle.cfi_directives.specs.Offsets.{Offsets, offsets_of, moved}
use Rattle.cfi_directives.specs.Rows.{rows_after}
use Rattle.cfi_directives.specs.Writable.{is_writable}
use Rattle.cfi_directives.proofs.PutLemmas.{some_map}
use Rattle.cfi_directives.proofs.RowLemmas.{changed_moves, rows_after-add}

-- the instruction remembers or restores a row
abbrev pub is_state : CfiOp → Bool
is_state op.Remember = true
is_state op.RestoreState = true
is_state other = false

moves_freely : (op : CfiOp) (offsets : Offsets) → is_state op ≡ false → is_some (moved op offsets) ≡ true
moves_freely (op.DefCfa number offset) offsets free = refl
moves_freely (op.DefCfaRegister number) offsets free = refl
moves_freely (op.DefCfaOffset offset) offsets free = refl
moves_freely (op.Set number rule) offsets free = refl
moves_freely (op.Restore number) offsets free = refl
moves_freely op.Remember offsets free = absurd (let none : ⊥ = cc in none)
moves_freely op.RestoreState offsets free = absurd (let none : ⊥ = cc in none)

-- any other instruction can be run
pub runs_freely : (op : CfiOp) (rows : Rows) → is_writable op ≡ true → is_state op ≡ false → is_some (changed common_row op rows) ≡ true
runs_freely op rows writable free =
    some_map offsets_of (changed common_row op rows) ∙ ap is_some (changed_moves op rows writable) ∙ moves_freely op (offsets_of rows) free

-- the rows behind instructions that can be run
pub rows_are : (due : Option Rows) → is_some due ≡ true → (rows : Rows) × (due ≡ Some rows)
rows_are None some = absurd (let none : ⊥ = cc in none)
rows_are (Some rows) some = (rows, refl)

-- one instruction more behind these rows
pub behind_rows : (ops : List PlacedOp) (placed : PlacedOp) (rows : Rows) → rows_after ops ≡ Some rows
    → rows_after (ops ++ placed ∷ []) ≡ changed common_row placed.op rows
behind_rows ops placed rows is = rows_after-add ops placed ∙ ap (option_and_then (changed common_row placed.op)) is

by_test : (b : Bool) (rows : Rows) → is_some (if b then Some rows else None) ≡ b
by_test true rows = refl
by_test false rows = refl

-- a row can be remembered where fewer than 16 are
pub remember_runs : (rows : Rows) → is_some (changed common_row op.Remember rows) ≡ nat_lt (length rows.saved) 16
remember_runs rows = by_test (nat_lt (length rows.saved) 16) (record rows { saved = rows.saved ++ rows.row ∷ [] })

pub some_last : (rows : List CfaRow) (row : CfaRow) → is_some (slice_get (row ∷ rows) (length (row ∷ rows) - 1)) ≡ true
some_last rows row = ap is_some (slice_get-get_or (row ∷ rows) (length (row ∷ rows) - 1) row (omega arith))

restores : (row : CfaRow) (saved : List CfaRow) → is_some (changed common_row op.RestoreState (rows_of row saved)) ≡ is_some (slice_get saved (length saved - 1))
restores row saved = sym (some_map (λ last. rows_of last (take (length saved - 1) saved)) (slice_get saved (length saved - 1)))

-- a row can be restored where one is remembered
pub none_to_restore : (row : CfaRow) (saved : List CfaRow) → is_some (changed common_row op.RestoreState (rows_of row saved)) ≡ false → length saved ≡ 0
none_to_restore row [] stuck = refl
none_to_restore row (last ∷ saved) stuck =
    absurd (let runs : is_some (changed common_row op.RestoreState (rows_of row (last ∷ saved))) ≡ true = restores row (last ∷ saved) ∙ some_last saved last in
    let none : ⊥ = cc in none)

pub nothing_restored : (row : CfaRow) (saved : List CfaRow) → length saved ≡ 0 → is_some (changed common_row op.RestoreState (rows_of row saved)) ≡ false
nothing_restored row [] empty = refl
nothing_restored row (last ∷ saved) empty = absurd (let none : ⊥ = omega arith in none)
