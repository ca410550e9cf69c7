-- What a call of a step answers, by what the step's definition answers.
use Rattle.std.specs.Prelude.{◌≡◌, List, Result, Ok, Err}
use Rattle.asm_base.specs.declared.notes.Noted.{Noted}
use Rattle.asm_base.specs.declared.refusals.Refusal.{Refusal}
use Rattle.asm_base.specs.declared.refusals.Refusal.TheVariants.{Fault, NoMemory}
use Rattle.asm_operands.specs.declared.place_faults.PlaceCause.{PlaceCause}

-- a step that refuses the source makes no note
abbrev pub KeepsNotes : {T : Type 0} → Result T (Refusal PlaceCause) → List Noted → List Noted → Type 0
KeepsNotes (Ok value) old new = Unit {0}
KeepsNotes (Err (Fault fault)) old new = new ≡ old
KeepsNotes (Err NoMemory) old new = Unit {0}
