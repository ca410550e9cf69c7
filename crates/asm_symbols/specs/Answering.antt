-- What a call of the symbol map answers, by what its definition answers, where want of memory may not come anywhere.
use Rattle.std.specs.Prelude.{◌≡◌, ℕ, Result, Ok, Err}
use Rattle.asm_base.specs.declared.refusals.Refusal.{Refusal}
use Rattle.asm_base.specs.declared.refusals.Refusal.TheVariants.{Fault, NoMemory}
use Rattle.asm_base.specs.Refusals.{FailsLast}
use Rattle.asm_base.specs.declared.causes.SymCause.{SymCause}

-- the call made the due map, or answers the due fault; want of memory comes only where no fault is due
abbrev pub GivesFaultFirst : {A T : Type 0} → A → Result T (Refusal SymCause) → Result A SymCause → Type 0
GivesFaultFirst made (Ok value) due = due ≡ Ok made
GivesFaultFirst made (Err refusal) due = FailsLast refusal due

-- the call made the due map and answers the due symbol, or the due fault; want of memory comes only where none is due
abbrev pub GivesSymbolFaultFirst : {A : Type 0} → A → Result ℕ (Refusal SymCause) → Result (A × ℕ) SymCause → Type 0
GivesSymbolFaultFirst made (Ok id) due = due ≡ Ok (made, id)
GivesSymbolFaultFirst made (Err refusal) due = FailsLast refusal due

-- the call made the due map, or answers the due fault; want of memory never comes
abbrev pub GivesAlways : {A T : Type 0} → A → Result T (Refusal SymCause) → Result A SymCause → Type 0
GivesAlways made (Ok value) due = due ≡ Ok made
GivesAlways made (Err (Fault fault)) due = due ≡ Err fault
GivesAlways made (Err NoMemory) due = ⊥
