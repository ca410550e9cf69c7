-- What reading a file whole gives, by what the input tells of it.
use Rattle.std.specs.Prelude.{◌≡◌, ℕ, ◌+◌, ◌^◌, ◌<◌, ◌≤◌, min, List, [], Option, None, Some, Result, Ok, Err, length}
use Rattle.std.specs.Io.KnownBytes.{Consumes}
use Rattle.asm_base.specs.Counts.{HasRisen, last_count}
use Rattle.asm_base.specs.Inputs.{Contents}
use Rattle.asm_base.specs.declared.reading.TextFault.{TextFault}
use Rattle.asm_base.specs.declared.reading.TextFault.TheVariants.{TooLarge, Read, NoMemory}

-- the most bytes that a source file may have
abbrev pub most_bytes : ℕ
most_bytes = 2 ^ 26

-- what was the whole before, with these bytes read and that rest, is the whole after
abbrev pub ReadsOn : Option (List ℕ) → List ℕ → Option (List ℕ) → List ℕ → Type 0
ReadsOn old read new more =
    (whole : Option (List ℕ)) → Consumes whole old read → Consumes whole new more

-- a fault of the input or of memory, which may come after any byte
abbrev pub StopsReading : TextFault → Type 0
StopsReading TooLarge = ⊥
StopsReading Read = Unit {0}
StopsReading NoMemory = Unit {0}

-- what is left of the started file is read to its end, or is too large
abbrev pub ReadsRest : Option (List ℕ) → Result (List ℕ) TextFault → Option (List ℕ) → Type 0
ReadsRest None result rest = Unit {0}
ReadsRest (Some bytes) (Ok text) rest =
    (text ≡ bytes) × (length bytes ≤ most_bytes) × (rest ≡ Some [])
ReadsRest (Some bytes) (Err TooLarge) rest = most_bytes < length bytes
ReadsRest (Some bytes) (Err Read) rest = Unit {0}
ReadsRest (Some bytes) (Err NoMemory) rest = Unit {0}

-- a file that is there gives its bytes, and one that is not there gives none
abbrev pub ReadsFile : Option (List ℕ) → Result (List ℕ) TextFault → Option (List ℕ) → Type 0
ReadsFile (Some bytes) result rest = ReadsRest (Some bytes) result rest
ReadsFile None (Ok text) rest = ⊥
ReadsFile None (Err TooLarge) rest = ⊥
ReadsFile None (Err Read) rest = Unit {0}
ReadsFile None (Err NoMemory) rest = Unit {0}

-- reading a name, where the contents are told
abbrev pub ReadsName : Option Contents → List ℕ → Result (List ℕ) TextFault → Option (List ℕ)
    → Type 0
ReadsName None name result rest = Unit {0}
ReadsName (Some contents) name result rest = ReadsFile (contents name) result rest

-- the count of failures has risen where reading failed, and is the same else
abbrev pub HasReadCause : {T : Type 0} → Result T TextFault → ℕ → ℕ → Type 0
HasReadCause (Ok text) before now = now ≡ before
HasReadCause (Err TooLarge) before now = now ≡ before
HasReadCause (Err Read) before now = (before ≤ now) × HasRisen before now
HasReadCause (Err NoMemory) before now = now ≡ before

-- at most one byte more than the most is read, and so many where the file is too large
abbrev pub TakesBytes : Result (List ℕ) TextFault → ℕ → ℕ → Type 0
TakesBytes (Err TooLarge) before now =
    (min (before + (most_bytes + 1)) last_count ≤ now) × (before ≤ now)
    × (now ≤ before + (most_bytes + 1))
TakesBytes result before now = (before ≤ now) × (now ≤ before + (most_bytes + 1))
