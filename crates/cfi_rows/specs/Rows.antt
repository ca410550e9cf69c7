-- What the instructions of an entry make of the row (DWARF 5, section 6.4.2).
use Rattle.std.specs.Prelude.{◌≡◌, ℕ, ◌-◌, ℤ, pos, neg_ℤ, List, [], ◌∷◌, ◌++◌, Option, None, Some, length, replicate, take, nat_lt, slice_get, slice_set, if◌then◌else◌}
use Rattle.std.specs.Option.{option_map, option_and_then}
use Rattle.cfi_rows.specs.declared.rows.CfaRow.{CfaRow}
use Rattle.cfi_rows.specs.declared.rows.CfiOp.{CfiOp}
use Rattle.cfi_rows.specs.declared.rows.CfiOp.TheVariants.{DefCfa, DefCfaRegister, DefCfaOffset, Set, Restore, Remember, RestoreState}
use Rattle.cfi_rows.specs.declared.rows.Rule.{Rule}
use Rattle.cfi_rows.specs.declared.rows.Rule.TheVariants.{Unspecified, Offset}

-- the row, and those remembered, the latest last
pub record Rows : Type 0 where
  pub row : CfaRow
  pub saved : List CfaRow

-- a row and remembered ones
abbrev pub rows_of : CfaRow → List CfaRow → Rows
rows_of row saved = record { row = row; saved = saved }

-- a row, and nothing remembered
abbrev pub start_rows : CfaRow → Rows
start_rows initial = rows_of initial []

-- the row before any instruction
abbrev pub blank : CfaRow
blank = record { register = 0; offset = pos 0; rules = replicate 64 Unspecified }

-- the row where a procedure begins: the CFA is rsp + 8, and the return address stands at -8 from it (psABI, section 3.7)
abbrev pub common_row : CfaRow
common_row = record { register = 7; offset = pos 8; rules = slice_set (replicate 64 Unspecified) 16 (Offset (neg_ℤ (pos 8))) }

-- the row with the CFA counted from a register at an offset
abbrev pub with_cfa : CfaRow → ℕ → ℤ → CfaRow
with_cfa row number offset = record row { register = number; offset = offset }

-- the row with a rule at a register
abbrev pub with_rule : CfaRow → ℕ → Rule → CfaRow
with_rule row number rule = record row { rules = slice_set row.rules number rule }

-- the rows with a rule, if there is one, at a register of 0 to 63
abbrev pub ruled : Rows → ℕ → Option Rule → Option Rows
ruled rows number None = None
ruled rows number (Some rule) = if nat_lt number 64 then Some (record rows { row = with_rule rows.row number rule }) else None

-- the rows after an instruction, `initial` being the row that the common entry gives; none where it can't be run. A register's number is looked at only
-- where the register gets a rule
abbrev pub changed : CfaRow → CfiOp → Rows → Option Rows
changed initial (DefCfa number offset) rows = Some (record rows { row = with_cfa rows.row number offset })
changed initial (DefCfaRegister number) rows = Some (record rows { row = with_cfa rows.row number rows.row.offset })
changed initial (DefCfaOffset offset) rows = Some (record rows { row = with_cfa rows.row rows.row.register offset })
changed initial (Set number rule) rows = ruled rows number (Some rule)
changed initial (Restore number) rows = ruled rows number (slice_get initial.rules number)
changed initial Remember rows = if nat_lt (length rows.saved) 16 then Some (record rows { saved = rows.saved ++ rows.row ∷ [] }) else None
changed initial RestoreState rows =
    option_map (λ row. rows_of row (take (length rows.saved - 1) rows.saved)) (slice_get rows.saved (length rows.saved - 1))

-- the rows after instructions, one behind the other, if all can be run
abbrev pub ops_after : CfaRow → List CfiOp → Rows → Option Rows
ops_after initial [] rows = Some rows
ops_after initial (op ∷ ops) rows = option_and_then (ops_after initial ops) (changed initial op rows)

-- what a call that changes rows answers, and the rows behind it, where these are due; a refusal changes nothing
abbrev pub Changes : Rows → Option Rows → Option (Unit {0}) → Rows → Type 0
Changes old None answer new = (answer ≡ None) × (new ≡ old)
Changes old (Some due) answer new = (answer ≡ Some tt) × (new ≡ due)
