-- The rows of a written frame table, and which is in force at an item (DWARF 5, section 6.4.1).
use Rattle.std.specs.Prelude.{◌-◌, ℕ, pos, neg_ℤ, nat_le, List, [], ◌∷◌, replicate, get_or, if◌then◌else◌}
use Rattle.std.specs.List.Sorted.{IsNonDecreasingBy}
use Rattle.cfi_rows.specs.declared.rows.Rule.{Rule}
use Rattle.cfi_rows.specs.declared.rows.Rule.TheVariants.{Unspecified, Offset}
use Rattle.cfi_checks.specs.declared.rows.WrittenRow.{WrittenRow}
use Rattle.cfi_checks.specs.declared.rows.RowFrom.{RowFrom}

-- the rule of one of the six, by its number among the seven
abbrev pub rule_of : WrittenRow → (register : ℕ) → Rule
rule_of row r = get_or row.rules (r - 1) Unspecified

-- the row at entry: the frame address is rsp + 8, and the return address stands 8 below it (psABI for AMD64, section 3.7)
abbrev pub entry_row : WrittenRow
entry_row = record { register = 7; offset = pos 8; rules = replicate 6 Unspecified; return_address = Offset (neg_ℤ (pos 8)) }

-- rows in the order of their items
abbrev pub AreInOrder : List RowFrom → Type 0
AreInOrder rows = IsNonDecreasingBy (λ (next : RowFrom). next.item) rows

-- behind a row, the last one that begins at the item or before it
abbrev pub row_behind : WrittenRow → List RowFrom → (item : ℕ) → WrittenRow
row_behind before [] j = before
row_behind before (next ∷ rows) j = row_behind (if nat_le next.item j then next.row else before) rows j

-- the row in force at an item
abbrev pub row_at : List RowFrom → (item : ℕ) → WrittenRow
row_at rows j = row_behind entry_row rows j
