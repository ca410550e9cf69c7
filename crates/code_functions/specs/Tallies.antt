-- What is kept beside functions, so that each step takes a few operations: how many are open in each section and in all, and the last one of each symbol.
use Rattle.std.specs.Prelude.{◌≡◌, ◌≤◌, ℕ, zero, suc, List, length, Option, None, Some, slice_index, false}
use Rattle.std.specs.List.{count_by, AllWithin}
use Rattle.code_functions.specs.Recorded.{Recorded, is_open, is_open_in, last_of}

-- the counts of open functions by section, and that of all
pub record AreCounted {A : Type 0} (counts : List ℕ) (all : ℕ) (functions : List (Recorded A)) : Type 0 where
  pub sections : (section : ℕ) → slice_index counts section ≡ count_by (is_open_in section) functions
  pub total : all ≡ count_by is_open functions

-- the number that stands for a symbol: one more than that of its function, or 0 where it has none
abbrev pub number_by : ℕ → Option ℕ
number_by zero = None
number_by (suc number) = Some number

-- the last function of each symbol
pub record AreNumbered {A : Type 0} (numbers : List ℕ) (functions : List (Recorded A)) : Type 0 where
  pub each : (symbol : ℕ) → number_by (slice_index numbers symbol) ≡ last_of symbol functions

-- all functions before this one have ended
pub record HaveEnded {A : Type 0} (first : ℕ) (functions : List (Recorded A)) : Type 0 where
  pub within : first ≤ length functions
  pub each : AllWithin (λ f. is_open f ≡ false) functions 0 first

-- all of it
pub record AreTold {A : Type 0} (counts : List ℕ) (all : ℕ) (numbers : List ℕ) (first : ℕ) (functions : List (Recorded A)) : Type 0 where
  pub counted : AreCounted counts all functions
  pub numbered : AreNumbered numbers functions
  pub ended : HaveEnded first functions
