-- What happened to the files of an input: which were started, in order, and which of them were read to their end.
use Rattle.std.specs.Prelude.{◌≡◌, ℕ, ◌<◌, ◌==◌, ◌&&◌, nat_lt, List, [], ◌∷◌, ◌++◌, flat_map, if◌then◌else◌, take, Option, Result, Ok, Err}
use Rattle.std.specs.Option.{option_map}
use Rattle.asm_base.specs.declared.reading.TextFault.{TextFault}
use Rattle.asm_base.specs.declared.reading.TextFault.TheVariants.{TooLarge, Read, NoMemory}

-- the file of a name was started, or the one that was started last was read to its end
pub data FileEvent : Type 0 where
  starts : List ℕ → FileEvent
  ends : FileEvent

-- what happened, where it is told, and then these events
abbrev pub happened : Option (List FileEvent) → List FileEvent → Option (List FileEvent)
happened before events = option_map (λ known. known ++ events) before

-- a start that succeeds is an event
abbrev pub HappensAtStart : {E : Type 0} → List ℕ → Result (Unit {0}) E → Option (List FileEvent) → Option (List FileEvent) → Type 0
HappensAtStart name (Ok u) before now = now ≡ happened before (starts name ∷ [])
HappensAtStart name (Err e) before now = now ≡ before

-- a read finds the end where it gives no byte, and at least one is asked for
abbrev pub end_events : ℕ → ℕ → List FileEvent
end_events asked count = if count == 0 && nat_lt 0 asked then ends ∷ [] else []

-- a read that finds the end is an event
abbrev pub HappensAtRead : {E : Type 0} → ℕ → Result ℕ E → Option (List FileEvent) → Option (List FileEvent) → Type 0
HappensAtRead asked (Ok count) before now = now ≡ happened before (end_events asked count)
HappensAtRead asked (Err e) before now = now ≡ before

-- the end of the started file is found where it is read whole, and not where it is too large
abbrev pub HappensToRest : Result (List ℕ) TextFault → Option (List FileEvent) → Option (List FileEvent) → Type 0
HappensToRest (Ok text) before now = now ≡ happened before (ends ∷ [])
HappensToRest (Err TooLarge) before now = now ≡ before
HappensToRest (Err Read) before now = now ≡ before
HappensToRest (Err NoMemory) before now = Unit {0}

-- the events of reading a file whole by its name
abbrev pub whole_file : List ℕ → List FileEvent
whole_file name = starts name ∷ ends ∷ []

-- the events of reading files whole, one after the other
abbrev pub whole_files : List (List ℕ) → List FileEvent
whole_files names = flat_map whole_file names

-- a file that is read by its name is started and read to its end; one that is too large is only started
abbrev pub HappensToFile : List ℕ → Result (List ℕ) TextFault → Option (List FileEvent) → Option (List FileEvent) → Type 0
HappensToFile name (Ok text) before now = now ≡ happened before (whole_file name)
HappensToFile name (Err TooLarge) before now = now ≡ happened before (starts name ∷ [])
HappensToFile name (Err Read) before now = Unit {0}
HappensToFile name (Err NoMemory) before now = Unit {0}

-- the first so many of these events happened, in their order, and nothing else
abbrev pub HappensInFront : List FileEvent → Option (List FileEvent) → Option (List FileEvent) → Type 0
HappensInFront events before now = (n : ℕ) × (now ≡ happened before (take n events))
