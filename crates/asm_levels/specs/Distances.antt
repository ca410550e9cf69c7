-- The distances that rows hold: numbers, plus how far rows are moved.
use Rattle.std.specs.Prelude.{ℕ, ◌+◌, ◌-◌, ◌*◌, ◌%◌, ◌^◌, ◌<◌, List, All, sum_by, slice_index}
use Rattle.asm_levels.specs.declared.distances.RowTerm.{RowTerm}
use Rattle.asm_levels.specs.declared.distances.Distance.{Distance}
use Rattle.asm_levels.specs.declared.distances.Distance.TheVariants.{Between, Sum}

-- one number less another that is below 2^64, modulo 2^64
abbrev pub difference : ℕ → ℕ → ℕ
difference first second = (first + (2 ^ 64 - second)) % 2 ^ 64

-- the shift of the term's row, times its coefficient
abbrev pub times_shift : List ℕ → RowTerm → ℕ
times_shift shifts term = term.coefficient * slice_index shifts term.row

-- the distance where the rows are moved so far
unfoldable pub distance_value : List ℕ → Distance → ℕ
distance_value shifts (Between number ahead behind) = difference (number + slice_index shifts ahead) (slice_index shifts behind)
distance_value shifts (Sum number terms) = (number + sum_by (times_shift shifts) terms) % 2 ^ 64

-- the rows that the distance names are among so many
abbrev pub DistanceStands : ℕ → Distance → Type 0
DistanceStands count (Between number ahead behind) = (ahead < count) × (behind < count)
DistanceStands count (Sum number terms) = All (λ term. term.row < count) terms
