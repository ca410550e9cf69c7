-- What a name has in an input in memory whose calls may fail.
use Rattle.std.specs.Prelude.{ℕ, Bool, nat_eq, List, [], ◌∷◌, Option, None, Some, string_bytes, if◌then◌else◌}
use Rattle.std.specs.List.{list_any}
use Rattle.std.specs.Str.{bytes_eq}
use Rattle.asm_base.specs.History.{FileEvent, starts, ends}
use Rattle.memory_outside.specs.declared.memory.MemoryFile.{MemoryFile}
use Rattle.memory_outside.specs.declared.faulty.Event.{Event}
use Rattle.memory_outside.specs.declared.faulty.Event.TheVariants.{Starts, Ends}
use Rattle.memory_outside.specs.declared.faulty.Unlisted.{Unlisted}
use Rattle.memory_outside.specs.declared.faulty.Unlisted.TheVariants.{Missing, Empty}

-- the call of this number is one of those that fail
abbrev pub is_listed : ℕ → List ℕ → Bool
is_listed number failing = list_any (λ call. nat_eq call number) failing

-- what a name has that no file has
abbrev pub unlisted_contents : Unlisted → Option (List ℕ)
unlisted_contents Missing = None
unlisted_contents Empty = Some []

-- the bytes of the first file of this name
abbrev pub contents_named : List MemoryFile → Unlisted → List ℕ → Option (List ℕ)
contents_named [] unlisted name = unlisted_contents unlisted
contents_named (f ∷ files) unlisted name =
    if bytes_eq f.name.now name then Some f.bytes.now else contents_named files unlisted name

-- an event that is kept, as the outside's words have it
abbrev pub event_of : Event → FileEvent
event_of (Starts name) = starts (string_bytes name)
event_of Ends = ends
