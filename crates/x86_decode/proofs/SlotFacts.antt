-- What is computed over the rows and their slots.
use Rattle.std.proofs.Common.{◌≡◌, true, refl}
use Rattle.x86_table.specs.Rows.{the_rows}
use Rattle.x86_decode.specs.Slots.{the_starts, the_numbers, all_listed}

pub listed : all_listed 0 the_rows ≡ true
unfolding the_rows the_starts the_numbers
listed = refl
