-- What reading the rest of a file gives, by what was read so far and what is left.
use Rattle.std.proofs.Common.{◌≡◌, ℕ, ◌+◌, ◌<◌, ◌≤◌, Bool, true, false, List, [], ◌∷◌, ◌++◌, Option, None, Some, Ok, Err, length, take, suc, cond, sym, ◌∙◌, ap, refl, arith, append-nil, append_assoc, length-append}
use Rattle.std.specs.Io.KnownBytes.{Consumes, IsAtEnd}
use Rattle.std.proofs.KnownBytes.{Consumes-trans}
use Rattle.asm_base.specs.History.{FileEvent, ends, happened, end_events, HappensInFront}
use Rattle.asm_base.specs.WholeFile.{ReadsOn, StopsReading, TakesBytes, ReadsRest, most_bytes}
use Rattle.asm_base.specs.declared.reading.TextFault.{TextFault}
use Rattle.asm_base.specs.declared.reading.TextFault.TheVariants.{TooLarge, Read, NoMemory}

pub read_whole : (old new : Option (List ℕ)) (bytes : List ℕ) → Consumes old new bytes → IsAtEnd new → length bytes ≤ most_bytes → ReadsRest old (Ok bytes) new
read_whole None new bytes told at_end few = tt
read_whole (Some whole) None bytes told at_end few = absurd told
read_whole (Some whole) (Some left) bytes told at_end few =
    let same : bytes ≡ whole = sym (told ∙ ap (λ l. bytes ++ l) at_end ∙ append-nil bytes) in
    (same, rw (← same) few, ap Some at_end)

pub read_too_much : (old new : Option (List ℕ)) (bytes : List ℕ) → Consumes old new bytes → most_bytes < length bytes → ReadsRest old (Err TooLarge) new
read_too_much None new bytes told much = tt
read_too_much (Some whole) None bytes told much = absurd told
read_too_much (Some whole) (Some left) bytes told much = omega (arith, ap length told, length-append bytes left)

pub read_stopped : (old new : Option (List ℕ)) (fault : TextFault) → StopsReading fault → ReadsRest old (Err fault) new
read_stopped None new fault stops = tt
read_stopped (Some whole) new TooLarge stops = absurd stops
read_stopped (Some whole) new Read stops = tt
read_stopped (Some whole) new NoMemory stops = tt

pub taken_stopped : (before now : ℕ) (fault : TextFault) → StopsReading fault → before ≤ now → now ≤ before + (most_bytes + 1) → TakesBytes (Err fault) before now
taken_stopped before now TooLarge stops low high = absurd stops
taken_stopped before now Read stops low high = (low, high)
taken_stopped before now NoMemory stops low high = (low, high)

-- a piece that is read goes onto the end
pub reads_on : (old new : Option (List ℕ)) (read piece more : List ℕ) → Consumes old new piece → more ≡ read ++ piece → ReadsOn old read new more
reads_on old new read piece more taken same whole before = rw same (Consumes-trans whole old new read piece before taken)

-- nothing is the shortest front
pub nothing_happened : (events : List FileEvent) (before now : Option (List FileEvent)) → now ≡ before → HappensInFront events before now
nothing_happened events None now same = (0, same)
nothing_happened events (Some known) now same = (0, same ∙ sym (ap Some (append-nil known)))

-- an end that was found is the whole front
pub end_happened : (before now : Option (List FileEvent)) → now ≡ happened before (ends ∷ []) → HappensInFront (ends ∷ []) before now
end_happened before now same = (1, same)

-- a read finds the end or not
either_front : (found : Bool) (before now : Option (List FileEvent)) → now ≡ happened before (cond found (ends ∷ []) []) → HappensInFront (ends ∷ []) before now
either_front true before now same = (1, same)
either_front false before now same = (0, same)

pub end_in_front : (asked count : ℕ) (before now : Option (List FileEvent)) → now ≡ happened before (end_events asked count) → HappensInFront (ends ∷ []) before now
end_in_front asked count before now same = either_front _ before now same

-- an event and a front of others behind it
pub first_and_front : (first : FileEvent) (events : List FileEvent) (before between now : Option (List FileEvent)) → between ≡ happened before (first ∷ [])
    → HappensInFront events between now → HappensInFront (first ∷ events) before now
first_and_front first events None between now began front =
    (suc front.0, front.1 ∙ ap (λ known. happened known (take front.0 events)) began)
first_and_front first events (Some known) between now began front =
    (suc front.0, front.1 ∙ ap (λ told. happened told (take front.0 events)) began ∙ ap Some (append_assoc known (first ∷ []) (take front.0 events)))
