-- The offsets of the CFA in the row in force and in the remembered ones: all of the rows that directives hang on.
use Rattle.std.specs.Prelude.{◌-◌, ℤ, List, [], ◌∷◌, ◌++◌, length, map, take, nat_lt, slice_get, Option, Some, None, if◌then◌else◌}
use Rattle.std.specs.Option.{option_map}
use Rattle.cfi_rows.specs.Rows.{Rows}
use Rattle.cfi_rows.specs.declared.rows.CfiOp.{CfiOp}
use Rattle.cfi_rows.specs.declared.rows.CfiOp.TheVariants.{DefCfa, DefCfaRegister, DefCfaOffset, Set, Restore, Remember, RestoreState}

-- the offset in the row in force, and those in the remembered ones, the latest last
pub record Offsets : Type 0 where
  pub current : ℤ
  pub remembered : List ℤ

-- those of rows
abbrev pub offsets_of : Rows → Offsets
offsets_of rows = record { current = rows.row.offset; remembered = map (λ row. row.offset) rows.saved }

-- the last remembered one is in force again
abbrev pub restored : List ℤ → Option Offsets
restored remembered =
    option_map (λ offset. record { current = offset; remembered = take (length remembered - 1) remembered }) (slice_get remembered (length remembered - 1))

-- those after an instruction; none where it can't be run
abbrev pub moved : CfiOp → Offsets → Option Offsets
moved (DefCfa number offset) offsets = Some (record offsets { current = offset })
moved (DefCfaRegister number) offsets = Some offsets
moved (DefCfaOffset offset) offsets = Some (record offsets { current = offset })
moved (Set number rule) offsets = Some offsets
moved (Restore number) offsets = Some offsets
moved Remember offsets = if nat_lt (length offsets.remembered) 16 then Some (record offsets { remembered = offsets.remembered ++ offsets.current ∷ [] }) else None
moved RestoreState offsets = restored offsets.remembered
