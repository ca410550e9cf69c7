-- Each row shows one immediate and one displacement at most, computed over the rows.
use Rattle.std.proofs.Common.{◌≡◌, ℕ, Bool, true, List, [], ◌∷◌, Some, slice_get, zero, suc, refl}
use Rattle.std.specs.Prelude.{◌&&◌}
use Rattle.std.proofs.lemmas.Bool.{and_parts}
use Rattle.x86_table.specs.declared.forms.Row.{Row}
use Rattle.x86_table.specs.Rows.{the_rows}
use Rattle.x86_decode.specs.RowSlots.{is_single}
use Rattle.x86_decode.specs.Slots.{IsInTable}

abbrev all_single : List Row → Bool
all_single [] = true
all_single (r ∷ rows) = is_single r && all_single rows

singles : all_single the_rows ≡ true
unfolding the_rows
singles = refl

at_index : (rows : List Row) (i : ℕ) (r : Row) → all_single rows ≡ true → slice_get rows i ≡ Some r → is_single r ≡ true
at_index [] i r h e = cc
at_index (s ∷ rows) zero r h e = let same : s ≡ r = cc in rw (← same) (and_parts (is_single s) (all_single rows) h).0
at_index (s ∷ rows) (suc i) r h e = at_index rows i r (and_parts (is_single s) (all_single rows) h).1 e

pub single_row : (r : Row) → IsInTable r → is_single r ≡ true
single_row r (i, e) = at_index the_rows i r singles e
