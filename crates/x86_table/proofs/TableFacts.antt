-- What holds of the whole table, computed over its rows once: these facts alone are proved again where a row changes.
use Rattle.std.proofs.Common.{◌≡◌, true, refl}
use Rattle.x86_table.specs.Rows.{the_rows}
use Rattle.x86_table.specs.Heads.{all_apart, all_stand}
use Rattle.x86_table.proofs.RowGroups.{all_grouped, groups_apart, whole_apart}

grouped : all_grouped the_rows ≡ true
unfolding the_rows
grouped = refl

in_groups : groups_apart 160 the_rows ≡ true
unfolding the_rows
in_groups = refl

pub apart : all_apart the_rows ≡ true
apart = whole_apart the_rows grouped in_groups

pub stand : all_stand the_rows ≡ true
unfolding the_rows
stand = refl
