-- The instructions of an entry with their places, and the row in force at a place.
use Rattle.std.specs.Prelude.{◌≡◌, ℕ, zero, suc, ◌+◌, List, [], ◌∷◌, Option, None, Some, length, map, nat_le, if◌then◌else◌}
use Rattle.std.specs.Option.{option_map, option_and_then}
use Rattle.cfi_rows.specs.declared.rows.CfaRow.{CfaRow}
use Rattle.cfi_rows.specs.declared.rows.CfiOp.{CfiOp}
use Rattle.cfi_rows.specs.declared.rows.Insn.{Insn}
use Rattle.cfi_rows.specs.declared.rows.Insn.TheVariants.{Nop, Advance, Op}
use Rattle.cfi_rows.specs.Instructions.{next}
use Rattle.cfi_rows.specs.Rows.{Rows, ops_after, start_rows}

-- the bytes are these instructions, one behind the other
abbrev pub AreCodeOf : List Insn → List ℕ → Type 0
AreCodeOf [] bytes = bytes ≡ []
AreCodeOf (insn ∷ insns) bytes = (rest : List ℕ) × (next bytes ≡ Some (insn, rest)) × AreCodeOf insns rest

-- the instructions that the bytes are, if there are at most so many
abbrev pub decoded : ℕ → List ℕ → Option (List Insn)
decoded zero [] = Some []
decoded zero (byte ∷ bytes) = None
decoded (suc more) [] = Some []
decoded (suc more) (byte ∷ bytes) =
    option_and_then (λ read. option_map (λ insns. read.0 ∷ insns) (decoded more read.1)) (next (byte ∷ bytes))

-- an instruction that changes the row, with its place
abbrev pub Placed : Type 0
Placed = ℕ × CfiOp

-- the instructions that change the row, each with its place
abbrev pub placed : ℕ → List Insn → List Placed
placed here [] = []
placed here (Nop ∷ insns) = placed here insns
placed here (Advance distance ∷ insns) = placed (here + distance) insns
placed here (Op op ∷ insns) = (here, op) ∷ placed here insns

-- those before the first that stands past a place: places never fall
abbrev pub up_to : ℕ → List Placed → List Placed
up_to at [] = []
up_to at (first ∷ ops) = if nat_le first.0 at then first ∷ up_to at ops else []

-- the rows after all of them, wherever they stand, if they can be run
abbrev pub rows_after : CfaRow → List Placed → Rows → Option Rows
rows_after initial ops rows = ops_after initial (map (λ placed. placed.1) ops) rows

-- the row after those up to a place, if all can be run, also those past it
abbrev pub row_after : CfaRow → ℕ → List Placed → Rows → Option CfaRow
row_after initial at ops rows =
    option_and_then (λ _. option_map (λ rows. rows.row) (rows_after initial (up_to at ops) rows)) (rows_after initial ops rows)

-- the row in force at a place, by the bytes of all instructions; `initial` is the one before them
unfoldable pub row_in_force : CfaRow → ℕ → List ℕ → Option CfaRow
row_in_force initial at bytes =
    option_and_then (λ insns. row_after initial at (placed 0 insns) (start_rows initial)) (decoded (length bytes) bytes)
