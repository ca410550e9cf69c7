-- What the bytes of a section read as at a place.
use Rattle.std.specs.Prelude.{◌≡◌, ◌++◌, ℕ, List, drop, length}
use Rattle.x86_insn.specs.Views.{View}
use Rattle.x86_table.specs.Reads.{Reads}

-- an instruction, and how many bytes it has
pub record Reading : Type 0 where
  pub bytes : ℕ
  pub insn : View

-- the bytes of the section from this place on begin with so many that read as the instruction
pub record IsReading (code : List ℕ) (place : ℕ) (r : Reading) : Type 0 where
  pub front : List ℕ
  pub rest : List ℕ
  pub stands : drop place code ≡ front ++ rest
  pub reads : Reads front r.insn
  pub long : length front ≡ r.bytes

-- some of the bytes from this place on read as an instruction
abbrev pub HasReading : List ℕ → (place : ℕ) → Type 0
HasReading code place = (r : Reading) × IsReading code place r
