-- Bytes that go to an output, and wait before they are written.
use Rattle.std.specs.Prelude.{◌≡◌, ℕ, List, ◌++◌, Option, option_map}
use Rattle.asm_base.specs.Output.{Made, after_write}

-- of these bytes the output took the first ones in between, and the rest is left
pub record Sends (before now : Option Made) (all rest : List ℕ) : Type 0 where
  pub sent : List ℕ
  pub made : now ≡ option_map (after_write sent) before
  pub whole : sent ++ rest ≡ all

-- the output took a front of these bytes in between
pub record SendsFront (before now : Option Made) (all : List ℕ) : Type 0 where
  pub rest : List ℕ
  pub sends : Sends before now all rest
