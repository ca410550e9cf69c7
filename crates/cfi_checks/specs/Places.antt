-- What the code has of an item, and of the rows up to it.
use Rattle.std.specs.Prelude.{◌≡◌, ◌-◌, ◌<◌, ◌≤◌, ◌==◌, ℕ, pos, List, [], length, get_or, if◌then◌else◌}
use Rattle.cfi_rows.specs.declared.rows.Rule.TheVariants.{Unspecified}
use Rattle.stack_depths.specs.States.{distances_in, reached_in}
use Rattle.stack_facts.specs.States.{facts_in}
use Rattle.scfi_pass.specs.Faults.{Situation}
use Rattle.scfi_pass.specs.Tables.{Analyzed}
use Rattle.cfi_checks.specs.declared.rows.WrittenRow.{WrittenRow}
use Rattle.cfi_checks.specs.declared.rows.RowFrom.{RowFrom}
use Rattle.cfi_checks.specs.declared.faults.CheckFault.{CheckFault}
use Rattle.cfi_checks.specs.declared.checked.Checked.{Checked}
use Rattle.cfi_checks.specs.Rows.{entry_row}
use Rattle.cfi_checks.specs.Shown.{ShowsRegisters}
use Rattle.cfi_checks.specs.Faults.{IsTold, rank_of}

-- what the code has of a function
abbrev pub analyzed : Checked → Analyzed
analyzed c = record {
  items = c.items.now;
  nodes = c.graph.now;
  distances = distances_in c.depths.now;
  reached = reached_in c.depths.now;
  facts = facts_in c.facts.now;
}

-- no row
abbrev pub no_row : RowFrom
no_row = record { item = 0; row = record { register = 0; offset = pos 0; rules = []; return_address = Unspecified } }

-- the row at a place of the list
abbrev pub from_at : List RowFrom → ℕ → RowFrom
from_at rows k = get_or rows k no_row

-- so many rows begin at this item or before it, and the others behind it
pub record AreBegun (rows : List RowFrom) (item count : ℕ) : Type 0 where
  pub within : count ≤ length rows
  pub begun : (k : ℕ) → k < count → (from_at rows k).item ≤ item
  pub later : (k : ℕ) → count ≤ k → k < length rows → item < (from_at rows k).item

-- the last of so many rows, or that at entry
abbrev pub last_of : List RowFrom → (count : ℕ) → WrittenRow
last_of rows count = if count == 0 then entry_row else (from_at rows (count - 1)).row

-- a row has rules that are shown by what stands at an item, if there is one
abbrev pub IsHeld : Analyzed → (last : ℕ) → WrittenRow → Type 0
IsHeld a last row = last < length a.items → ShowsRegisters (a.facts last) row

-- no fault of this rank is told
abbrev pub IsClear : Situation → WrittenRow → ℕ → Type 0
IsClear s row rank = (fault : CheckFault) → rank_of fault ≡ rank → IsTold s row fault → ⊥

-- a fault of this rank is told
abbrev pub IsToldAt : Situation → WrittenRow → ℕ → CheckFault → Type 0
IsToldAt s row rank fault = IsTold s row fault × (rank_of fault ≡ rank)
