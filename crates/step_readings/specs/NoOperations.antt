-- Padding of code does nothing that is followed (Intel SDM, volume 2, `NOP`).
use Rattle.std.specs.Prelude.{◌≡◌, ◌+◌, ◌/◌, ◌%◌, ◌++◌, ℕ, suc, zero, true, List, [], ◌∷◌, drop, replicate, sum}
use Rattle.item_bytes.specs.NoOperations.{no_operations}
use Rattle.insn_effects.specs.Decoding.{action_of}
use Rattle.x86_steps.specs.Memory.{SameMemory}
use Rattle.x86_steps.specs.States.{State}
use Rattle.x86_steps.specs.Steps.{Does}
use Rattle.x86_steps.specs.Acts.{is_tracked}
use Rattle.x86_steps.specs.Readings.{Reading, IsReading, HasReading}

-- what is read has so many bytes, and goes on with the same tracked registers and memory
pub record DoesNothing (bytes : ℕ) (r : Reading) : Type 0 where
  pub long : r.bytes ≡ bytes
  pub goes : (next : ℕ) (s t : State) → Does (action_of r.insn) next s t → t.place ≡ next
  pub registers : (next : ℕ) (s t : State) → Does (action_of r.insn) next s t → (q : ℕ)
      → is_tracked q ≡ true → t.registers q ≡ s.registers q
  pub memory : (next : ℕ) (s t : State) → Does (action_of r.insn) next s t
      → SameMemory s.memory t.memory

-- from the place on stand no-operations of these lengths: something is read at the beginning of
-- each, and whatever it is does nothing
abbrev pub ReadsNothing : List ℕ → (lengths : List ℕ) → (place : ℕ) → Type 0
ReadsNothing code [] place = Unit {0}
ReadsNothing code (n ∷ rest) place =
    HasReading code place × ((r : Reading) → IsReading code place r → DoesNothing n r)
    × ReadsNothing code rest (place + n)

-- one of so many bytes, or none
abbrev pub last_length : ℕ → List ℕ
last_length zero = []
last_length (suc n) = suc n ∷ []

-- the lengths of the no-operations in so many bytes: as many of 9 bytes as fit, and then one for
-- the rest
abbrev pub padding_lengths : ℕ → List ℕ
padding_lengths size = replicate (size / 9) 9 ++ last_length (size % 9)

-- they are so many bytes
abbrev pub PaddingIsLong : Type 0
PaddingIsLong = (size : ℕ) → sum (padding_lengths size) ≡ size

-- wherever padding of so many bytes stands, no-operations stand
abbrev pub PaddingDoesNothing : Type 0
PaddingDoesNothing = (size place : ℕ) (code rest : List ℕ)
    → drop place code ≡ no_operations size ++ rest → ReadsNothing code (padding_lengths size) place

-- and wherever so many bytes 0x90 do, so many of one byte
abbrev pub FilledDoesNothing : Type 0
FilledDoesNothing = (size place : ℕ) (code rest : List ℕ)
    → drop place code ≡ replicate size 0x90 ++ rest → ReadsNothing code (replicate size 1) place
