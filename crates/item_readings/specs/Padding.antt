-- Padding of functions, and what is read in it.
use Rattle.std.specs.Prelude.{◌≡◌, ◌++◌, ℕ, List, drop, replicate, sum}
use Rattle.item_bytes.specs.NoOperations.{no_operations}
use Rattle.step_readings.specs.NoOperations.{padding_lengths}
use Rattle.scfi_laws.specs.Laid.{ReadsPadding}

-- wherever padding of so many bytes stands, what is read in it are no-operations of so many bytes
pub record NoOperationsDoNothing : Type 0 where
  pub padding : (size place : ℕ) (code rest : List ℕ) → drop place code ≡ no_operations size ++ rest
      → ReadsPadding code (padding_lengths size) place
  pub filled : (size place : ℕ) (code rest : List ℕ) → drop place code ≡ replicate size 0x90 ++ rest
      → ReadsPadding code (replicate size 1) place
  pub long : (size : ℕ) → sum (padding_lengths size) ≡ size
  pub filled_long : (size : ℕ) → sum (replicate size 1) ≡ size
