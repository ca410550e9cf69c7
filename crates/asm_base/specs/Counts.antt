-- Counts that only grow: of the calls that failed, and of the bytes that were read.
use Rattle.std.specs.Prelude.{◌≡◌, ℕ, ◌+◌, ◌-◌, ◌^◌, ◌<◌, ◌≤◌, min, max, Result, OnOk, OnErr}

-- the greatest number that a count can show
abbrev pub last_count : ℕ
last_count = 2 ^ 64 - 1

-- a count has risen, or stands at its greatest number
abbrev pub HasRisen : ℕ → ℕ → Type 0
HasRisen before now = min (before + 1) last_count ≤ now

-- the opposite of risen: no call failed in between
abbrev pub IsQuiet : ℕ → ℕ → Type 0
IsQuiet before now = now < min (before + 1) last_count

-- a count that grows by n, up to its greatest number
abbrev pub grown : ℕ → ℕ → ℕ
grown n before = max before (min (before + n) last_count)

-- the count of failures never falls, stays where the call succeeds, and has risen where it fails
pub record HasCause {T E : Type 0} (before now : ℕ) (result : Result T E) : Type 0 where
  pub later : before ≤ now
  pub same : OnOk result (now ≡ before)
  pub failed : OnErr result (HasRisen before now)
