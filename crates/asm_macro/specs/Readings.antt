-- What expansion does to an input, and the names of files that it starts.
use Rattle.std.specs.Prelude.{◌≡◌, ℕ, ◌+◌, ◌*◌, ◌≤◌, ◌⊎◌, List, ◌++◌, length, Option, Result, Ok, Err}
use Rattle.std.specs.Io.KnownBytes.{IsAtEnd}
use Rattle.asm_base.specs.Counts.{HasRisen}
use Rattle.asm_base.specs.History.{FileEvent, happened, whole_files}
use Rattle.asm_base.specs.Inputs.{Contents}
use Rattle.asm_base.specs.WholeFile.{most_bytes}
use Rattle.asm_macro.specs.declared.faults.ExpandFault.{ExpandFault}
use Rattle.asm_macro.specs.Starts.{StartedFiles, lacking, unknown, AreBegun, AreFirst, ReadsFront}
use Rattle.asm_macro.specs.Expanding.{HasExpansionCause, KeepsMissing, TakesTooLarge}

-- what an input tells
pub record InputAs : Type 0 where
  pub contents : Option Contents
  pub rest : Option (List ℕ)
  pub faults : ℕ
  pub missing : ℕ
  pub taken : ℕ
  pub history : Option (List FileEvent)

-- what an input tells, by what tells it
abbrev pub input_by : {T : Type 0} → (T → Option Contents) → (T → Option (List ℕ)) → (T → ℕ) → (T → ℕ) → (T → ℕ) → (T → Option (List FileEvent)) → T → InputAs
input_by contents rest faults missing taken history ins =
    record { contents = contents ins; rest = rest ins; faults = faults ins; missing = missing ins; taken = taken ins; history = history ins }

-- some files more were started, and each was read to its end
pub record HasRead (old new : List (List ℕ)) (before now : InputAs) : Type 0 where
  pub more : List (List ℕ)
  pub names : new ≡ old ++ more
  pub contents : now.contents ≡ before.contents
  pub faults : now.faults ≡ before.faults
  pub missing : now.missing ≡ before.missing
  pub later : before.taken ≤ now.taken
  pub taken : now.taken ≤ before.taken + (most_bytes + 1) * length more
  pub history : now.history ≡ happened before.history (whole_files more)
  pub whole : IsAtEnd before.rest → IsAtEnd now.rest

-- one of the files is not there
abbrev pub LacksOne : StartedFiles → Type 0
LacksOne wanted = (files : List (List ℕ)) × (wanted ≡ lacking files)

-- the count of starts of what has no contents is the same, or has risen where one of the files has none, or may have where they are not known
abbrev pub CountsMissed : StartedFiles → ℕ → ℕ → Type 0
CountsMissed wanted before now =
    (now ≡ before) ⊎ (LacksOne wanted × (before ≤ now) × HasRisen before now) ⊎ ((wanted ≡ unknown) × (before ≤ now))

-- some files more were started, where this fault ended it, of those that were wanted; perhaps one more was being started
pub record HasStopped {F : Type 0} (fault : ExpandFault F) (wanted : StartedFiles) (old new : List (List ℕ)) (before now : InputAs) : Type 0 where
  pub more : List (List ℕ)
  pub names : new ≡ old ++ more
  pub contents : now.contents ≡ before.contents
  pub cause : HasExpansionCause {F = F} (Err fault) before.faults now.faults
  pub missing : CountsMissed wanted before.missing now.missing
  pub found : KeepsMissing {F = F} (Err fault) before.missing now.missing
  pub later : before.taken ≤ now.taken
  pub begun : List (List ℕ)
  pub started : AreBegun more begun
  pub first : AreFirst (old ++ begun) wanted
  pub reads : ReadsFront begun before.history now.history before.taken now.taken
  pub too_large : TakesTooLarge {F = F} (Err fault) before.taken now.taken

-- what expansion did to an input, up to this answer, of a list that starts these files
abbrev pub Uses : {T F : Type 0} → Result T (ExpandFault F) → StartedFiles → List (List ℕ) → List (List ℕ) → InputAs → InputAs → Type 0
Uses (Ok answer) wanted old new before now = HasRead old new before now
Uses (Err fault) wanted old new before now = HasStopped fault wanted old new before now
