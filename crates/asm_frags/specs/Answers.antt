-- The answers of sections for what is put into them.
use Rattle.std.specs.Prelude.{◌≡◌, Result, Ok, Err}
use Rattle.asm_base.specs.declared.refusals.Refusal.{Refusal}
use Rattle.asm_base.specs.Refusals.{FailsLast}
use Rattle.asm_base.specs.declared.causes.FragCause.{FragCause}

-- the call made the due value, or is refused and changed nothing; want of memory comes only where no fault is due
abbrev pub Changes : {Value : Type 0} → Value → Value → Result (Unit {0}) (Refusal FragCause) → Result Value FragCause → Type 0
Changes old new (Ok done) due = due ≡ Ok new
Changes old new (Err refusal) due = FailsLast refusal due × (new ≡ old)
