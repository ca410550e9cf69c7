-- What a call that may want memory answers, by what its definition answers. A definition has a value or a fault, and never wants
-- memory.
use Rattle.std.specs.Prelude.{◌≡◌, Result, Ok, Err, IsOk}
use Rattle.asm_base.specs.declared.refusals.Refusal.{Refusal}
use Rattle.asm_base.specs.declared.refusals.Refusal.TheVariants.{Fault, NoMemory}

-- one step after the other: the first fault ends them
infixl 10 ◌>>=◌
abbrev pub ◌>>=◌ : {A B F : Type 0} → Result A F → (A → Result B F) → Result B F
(Ok value) >>= step = step value
(Err fault) >>= step = Err fault

-- a fault is the due one; want of memory may come at any point
abbrev pub Fails : {A F : Type 0} → Refusal F → Result A F → Type 0
Fails (Fault fault) due = due ≡ Err fault
Fails NoMemory due = Unit {0}

-- a fault is the due one; want of memory comes only where no fault is due
abbrev pub FailsLast : {A F : Type 0} → Refusal F → Result A F → Type 0
FailsLast (Fault fault) due = due ≡ Err fault
FailsLast NoMemory due = IsOk due

-- the call answers the due value, seen so, or the due fault
abbrev pub GivesBy : {A T F : Type 0} → (T → A) → Result T (Refusal F) → Result A F → Type 0
GivesBy view (Ok value) due = due ≡ Ok (view value)
GivesBy view (Err refusal) due = Fails refusal due

-- the call answers the due value or the due fault
abbrev pub Returns : {T F : Type 0} → Result T (Refusal F) → Result T F → Type 0
Returns (Ok value) due = due ≡ Ok value
Returns (Err refusal) due = Fails refusal due

-- the call made the due value, or answers the due fault
abbrev pub Gives : {A T F : Type 0} → A → Result T (Refusal F) → Result A F → Type 0
Gives made (Ok value) due = due ≡ Ok made
Gives made (Err refusal) due = Fails refusal due

-- the refusal with its fault as one of the layer above
abbrev pub Raises : {F G : Type 0} → (F → G → Type 0) → Refusal F → Refusal G → Type 0
Raises from_gives (Fault fault) (Fault raised) = from_gives fault raised
Raises from_gives (Fault fault) NoMemory = ⊥
Raises from_gives NoMemory (Fault raised) = ⊥
Raises from_gives NoMemory NoMemory = Unit {0}
