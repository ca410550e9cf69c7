-- The entries of an `.eh_frame` section, and the row in force at a place by their bytes (psABI, section 4.2.4; DWARF 5, section 6.4.1).
use Rattle.std.specs.Prelude.{ℕ, List, [], ◌∷◌, Option, None, Some, length, drop, nat_lt, nat_le, ◌==◌, if◌then◌else◌, ◌&&◌}
use Rattle.std.specs.Option.{option_and_then}
use Rattle.cfi_rows.specs.declared.commons.CommonForm.{CommonForm}
use Rattle.cfi_rows.specs.declared.rows.CfaRow.{CfaRow}
use Rattle.cfi_rows.specs.Commons.{common_of}
use Rattle.cfi_rows.specs.Instructions.{four_bytes_of}
use Rattle.cfi_rows.specs.Pointers.{size_if}
use Rattle.cfi_rows.specs.Rows.{blank}
use Rattle.cfi_entries.specs.Places.{row_in_force}

-- the row that a common entry's instructions give
abbrev pub initial_row : List ℕ → Option CfaRow
initial_row cie = option_and_then (λ common. row_in_force blank 0 common.1) (common_of cie)

-- the range, and the instructions behind the augmentation data, which is the pointer to the LSDA where the common entry says how it is written
abbrev pub covered : CommonForm → ℕ × List ℕ → Option (ℕ × List ℕ)
covered form (range, []) = None
covered form (range, size ∷ rest) =
    if (size == size_if form.lsda) && nat_le size (length rest) then Some (range, drop size rest) else None

-- what stands behind the distance back to the common entry, which is not 0: the start and the range
abbrev pub after_back : CommonForm → ℕ × List ℕ → Option (ℕ × List ℕ)
after_back form (back, rest) =
    if back == 0 then None else option_and_then (λ first. option_and_then (covered form) (four_bytes_of first.1)) (four_bytes_of rest)

-- what stands behind the length, which counts it; lengths from 0xfffffff0 on are reserved (DWARF 5, section 7.4)
abbrev pub after_length : CommonForm → ℕ × List ℕ → Option (ℕ × List ℕ)
after_length form (count, rest) =
    if (count == length rest) && nat_lt count 0xfffffff0 then option_and_then (after_back form) (four_bytes_of rest) else None

-- the range and the instructions of a frame description entry, by the form of its common entry
abbrev pub entry_of : CommonForm → List ℕ → Option (ℕ × List ℕ)
entry_of form fde = option_and_then (after_length form) (four_bytes_of fde)

-- the row in force at a place below the range
abbrev pub row_in_entry : CfaRow → ℕ → ℕ × List ℕ → Option CfaRow
row_in_entry initial at (range, code) = if nat_lt at range then row_in_force initial at code else None

-- the row in force at a place, counted from the entry's start, by the form and the instructions of its common entry
abbrev pub row_by : List ℕ → ℕ → CommonForm × List ℕ → Option CfaRow
row_by fde at (form, code) =
    option_and_then (λ initial. option_and_then (row_in_entry initial at) (entry_of form fde)) (row_in_force blank 0 code)

-- the same by the bytes of both entries
abbrev pub row_of : List ℕ → List ℕ → ℕ → Option CfaRow
row_of cie fde at = option_and_then (row_by fde at) (common_of cie)
