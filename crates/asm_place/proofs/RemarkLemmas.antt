-- The last token of a statement, and the refusal of a statement where its fault gets its place.
use Rattle.std.proofs.Common.{◌≡◌, ◌-◌, List, map, length, None, Some, slice_get, Result, Err, sym, ap, ◌∙◌}
use Rattle.std.specs.Option.{option_map}
use Rattle.std.proofs.lemmas.List.{length-map}
use Rattle.std.proofs.lemmas.Option.{slice_get-map}
use Rattle.asm_base.specs.Refusals.{Fails}
use Rattle.asm_base.specs.Tokens.{spelled}
use Rattle.asm_base.specs.declared.notes.Noted.{Noted}
use Rattle.asm_base.specs.declared.refusals.Refusal.{Refusal}
use Rattle.asm_base.specs.declared.refusals.Refusal.TheVariants as refusal
use Rattle.asm_base.specs.declared.tokens.Token.{Token}
use Rattle.asm_lines.specs.NextStatements.{TokenStatement}
use Rattle.asm_operands.specs.declared.place_faults.PlaceCause.{PlaceCause}
use Rattle.asm_place.specs.Remarks.{string_in, string_if, last_string}
use Rattle.asm_place.specs.Sources.{IsRefusalAt, located}
use Rattle.asm_place.specs.declared.place_faults.FaultAt.{FaultAt}
use Rattle.asm_values.specs.Answers.{KeepsNotes}
use Rattle.asm_values.specs.State.{Placed}

last_seen : (tokens : List Token) → last_string (map spelled tokens) ≡ string_in (option_map spelled (slice_get tokens (length tokens - 1)))
last_seen tokens =
    ap (λ size. string_in (slice_get (map spelled tokens) (size - 1))) (length-map tokens spelled) ∙ ap string_in (slice_get-map spelled tokens (length tokens - 1))

-- the last token, or none
pub last_there : (tokens : List Token) (token : Token) → slice_get tokens (length tokens - 1) ≡ Some token → last_string (map spelled tokens) ≡ string_if (spelled token)
last_there tokens token there = last_seen tokens ∙ ap (λ found. string_in (option_map spelled found)) there

pub last_missing : (tokens : List Token) → slice_get tokens (length tokens - 1) ≡ None → last_string (map spelled tokens) ≡ None
last_missing tokens none = last_seen tokens ∙ ap (λ found. string_in (option_map spelled found)) none

-- where the notes stay, no refusal makes one
pub notes_stay : (cause : Refusal PlaceCause) (old new : List Noted) → new ≡ old → KeepsNotes {T = Unit {0}} (Err cause) old new
notes_stay (refusal.Fault cause) old new same = same
notes_stay refusal.NoMemory old new same = tt

-- what refuses a statement answers its fault in its place
pub refused_in_place : (s : TokenStatement) (old new : List Noted) (cause : Refusal PlaceCause) (result : Refusal FaultAt) (due : Result Placed PlaceCause)
    → KeepsNotes {T = Unit {0}} (Err cause) old new → IsRefusalAt s new cause result → Fails cause due → Fails result (located s old due)
refused_in_place s old new cause refusal.NoMemory due kept is fails = tt
refused_in_place s old new refusal.NoMemory (refusal.Fault fault) due kept is fails = absurd is
refused_in_place s old new (refusal.Fault cause) (refusal.Fault fault) due kept is fails = rw (fails, sym kept) (ap Err (sym is))
