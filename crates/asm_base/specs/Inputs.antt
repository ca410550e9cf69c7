-- What an input tells: the contents by name, and what starting and reading do to what is left of the started file.
use Rattle.std.specs.Prelude.{◌≡◌, ℕ, ◌≤◌, List, Option, None, Some, Result, OnOk, IsErr, MatchResult}
use Rattle.asm_base.specs.Counts.{HasRisen, grown}

-- what each name has: its bytes, or none where there is no such file
abbrev pub Contents : Type 0
Contents = List ℕ → Option (List ℕ)

-- a file that is there is left whole by a start that succeeds, and one that is not there can't be started
abbrev pub StartsFile : {E : Type 0} → Option (List ℕ) → Result Unit E → Option (List ℕ) → Type 0
StartsFile None result rest = IsErr result
StartsFile (Some bytes) result rest = OnOk result (rest ≡ Some bytes)

-- starting a name, where the contents are told
abbrev pub Starts : {E : Type 0} → Option Contents → List ℕ → Result Unit E → Option (List ℕ)
    → Type 0
Starts None name result rest = Unit {0}
Starts (Some contents) name result rest = StartsFile (contents name) result rest

-- the count of starts of what has no contents
abbrev pub CountsFile : Option (List ℕ) → ℕ → ℕ → Type 0
CountsFile None before now = (before ≤ now) × HasRisen before now
CountsFile (Some bytes) before now = now ≡ before

-- the same for a name, where the contents are told; the count never falls
abbrev pub CountsMissing : Option Contents → List ℕ → ℕ → ℕ → Type 0
CountsMissing None name before now = before ≤ now
CountsMissing (Some contents) name before now = CountsFile (contents name) before now

-- the count of bytes read, after a read that gave this
abbrev pub CountsTaken : {E : Type 0} → Result ℕ E → ℕ → ℕ → Type 0
CountsTaken result before now = MatchResult result (λ n. now ≡ grown n before) (λ _. now ≡ before)
