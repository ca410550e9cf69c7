-- A plan of rows, as contracts see it, and what it keeps.
use Rattle.std.specs.Prelude.{◌≡◌, ℕ, ◌^◌, ◌<◌, List, All, length}
use Rattle.asm_levels.specs.declared.rows.Row.{Row}
use Rattle.asm_levels.specs.Sizes.{most_in}
use Rattle.asm_levels.specs.Standing.{AllStand}

-- the rows of all sections, the level of each, and how far each is moved
pub record PlanOf : Type 0 where
  pub rows : List Row
  pub levels : List ℕ
  pub shifts : List ℕ

-- the rows can be laid out, and there is room for the level and the shift of each
pub record IsPlan (rows : List Row) (levels shifts : List ℕ) : Type 0 where
  pub stand : AllStand rows
  pub bytes : most_in rows < 2 ^ 62
  pub few : length rows < 2 ^ 28
  pub as_many_levels : length levels ≡ length rows
  pub as_many_shifts : length shifts ≡ length rows
  pub small : All (λ shift. shift < 2 ^ 62) shifts
