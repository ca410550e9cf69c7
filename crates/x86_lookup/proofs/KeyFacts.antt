-- What the keys of all rows say, computed over them and the rows once: these facts alone are proved again where a row changes.
use Rattle.std.proofs.Common.{◌≡◌, length, map, refl}
use Rattle.x86_table.specs.declared.forms.Row.{Row}
use Rattle.x86_table.specs.Rows.{the_rows}
use Rattle.x86_lookup.specs.declared.row_keys.Key.{Key}
use Rattle.x86_lookup.specs.Keys.{the_keys, pattern_sorts}

-- the size and the sorts of a key alone
abbrev pub sorts_in : Key → Key
sorts_in k = record { size = k.size; words = 0; least_length = 0; first = k.first; second = k.second; third = k.third }

-- those of a row
abbrev pub sorts_by : Row → Key
sorts_by r = record { size = r.size; words = 0; least_length = 0; first = pattern_sorts r.first; second = pattern_sorts r.second; third = pattern_sorts r.third }

pub sorted : map sorts_in the_keys ≡ map sorts_by the_rows
unfolding the_keys the_rows
sorted = refl

pub as_many : length the_keys ≡ length the_rows
unfolding the_keys the_rows
as_many = refl
