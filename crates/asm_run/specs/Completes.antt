-- What a run answers where no call fails.
use Rattle.std.specs.Prelude.{◌≡◌, Option, None, Some, ◌⊎◌}
use Rattle.asm_base.specs.declared.statuses.Status.{Status}
use Rattle.asm_base.specs.declared.statuses.Status.TheVariants.{Done, SourceFault, Usage, NoMemory}
use Rattle.source_runs.specs.Outcome.{Outcome, usage, missing, refused, object}

-- the status where no call fails: that of the outcome, or want of memory
abbrev pub Completes : Option Outcome → Status → Type 0
Completes None status = (status ≡ Done) ⊎ (status ≡ SourceFault) ⊎ (status ≡ NoMemory)
Completes (Some usage) status = (status ≡ Usage) ⊎ (status ≡ NoMemory)
Completes (Some (missing included)) status = status ≡ NoMemory
Completes (Some (refused messages included)) status = (status ≡ SourceFault) ⊎ (status ≡ NoMemory)
Completes (Some (object name bytes messages summary included)) status = (status ≡ Done) ⊎ (status ≡ NoMemory)
