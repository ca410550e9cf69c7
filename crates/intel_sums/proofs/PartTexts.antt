-- Parts of addresses are read as they are written.
use Rattle.std.proofs.Common.{◌≡◌, ℕ, ◌==◌, Bool, true, false, cond, List, [], ◌∷◌, ◌++◌, Option, Some, None, length, slice_get, refl, sym}
use Rattle.std.proofs.lemmas.Bool.{eqb-true}
use Rattle.asm_base.specs.Tokens.{SpelledToken}
use Rattle.att_operands.specs.declared.registers.NamedRegister.{NamedRegister}
use Rattle.att_operands.specs.Registers.{register_of}
use Rattle.att_operands.specs.Marks.{mark_by, mark_at}
use Rattle.att_operands.specs.Addresses.{register_by, scale_by}
use Rattle.att_operands.specs.Spells.{IsMark}
use Rattle.intel_sums.specs.declared.parts.Part.{Part}
use Rattle.intel_sums.specs.declared.parts.Part.TheVariants.{Plain, Scaled}
use Rattle.intel_sums.specs.declared.parts.FoundPart.{FoundPart}
use Rattle.intel_sums.specs.Parts.{part_ends, found_part, scaled_part, times_part, part_by, part_in}
use Rattle.intel_sums.specs.Spells.{WritesPart, alone, times, of_scale}
use Rattle.intel_sums.proofs.TextLemmas.{some_is}

star_goes_on : (star : SpelledToken) → IsMark 42 star → part_ends (Some star) ≡ false
unfolding part_ends
star_goes_on star is = rw is refl

-- a part that is written is read
pub part_reads : (part : Part) (written behind : List SpelledToken) → WritesPart part written → part_ends (slice_get behind 0) ≡ true
    → part_in (written ++ behind) ≡ Some (found_part part (length written))
unfolding part_in
part_reads _ _ behind (alone named word names) ended = rw (names, ended) refl
part_reads _ _ behind (times named scale word star digits names marks scales) ended =
    let on = star_goes_on star marks in rw (names, on, marks, scales, ended) refl
part_reads _ _ behind (of_scale named scale digits star word none scales marks names) ended = rw (none, marks, names, scales, ended) refl

-- a part that was read, with its text
pub record PartRead (text : List SpelledToken) (found : FoundPart) : Type 0 where
  pub written : List SpelledToken
  pub behind : List SpelledToken
  pub stands : text ≡ written ++ behind
  pub writes : WritesPart found.part written
  pub ended : part_ends (slice_get behind 0) ≡ true
  pub size : found.length ≡ length written

alone_read : (word : SpelledToken) (behind : List SpelledToken) (found : FoundPart) (named : NamedRegister) → register_of word.bytes ≡ Some named
    → part_ends (slice_get behind 0) ≡ true → found_part (Plain named) 1 ≡ found → PartRead (word ∷ behind) found
alone_read word behind found named names ended is =
    record { written = word ∷ []; behind = behind; stands = refl; writes = rw (sym is) (alone named word names); ended = ended; size = rw (sym is) refl }

-- three tokens of which the last is a scale
times_ended : (word star digits : SpelledToken) (behind : List SpelledToken) (found : FoundPart) (named : NamedRegister) (scale : ℕ) (b : Bool) → register_of word.bytes ≡ Some named
    → IsMark 42 star → scale_by (Some digits) ≡ Some scale → part_ends (slice_get behind 0) ≡ b → cond b (Some (found_part (Scaled named scale) 3)) None ≡ Some found
    → PartRead (word ∷ star ∷ digits ∷ behind) found
times_ended word star digits behind found named scale true names marks scales ended is =
    let same : found_part (Scaled named scale) 3 ≡ found = some_is is in
    record { written = word ∷ star ∷ digits ∷ []; behind = behind; stands = refl; writes = rw (sym same) (times named scale word star digits names marks scales); ended = ended; size = rw (sym same) refl }
times_ended word star digits behind found named scale false names marks scales ended is = cc

times_by : (word star digits : SpelledToken) (behind : List SpelledToken) (found : FoundPart) (named : NamedRegister) (scale : Option ℕ) → register_of word.bytes ≡ Some named
    → IsMark 42 star → scale_by (Some digits) ≡ scale → scaled_part named (slice_get behind 0) scale ≡ Some found → PartRead (word ∷ star ∷ digits ∷ behind) found
times_by word star digits behind found named None names marks scales is = cc
times_by word star digits behind found named (Some scale) names marks scales is =
    times_ended word star digits behind found named scale (part_ends (slice_get behind 0)) names marks scales refl is

-- three tokens of which the first is a scale
of_scale_ended : (digits star word : SpelledToken) (behind : List SpelledToken) (found : FoundPart) (named : NamedRegister) (scale : ℕ) (b : Bool) → register_of digits.bytes ≡ None
    → register_of word.bytes ≡ Some named → IsMark 42 star → scale_by (Some digits) ≡ Some scale → part_ends (slice_get behind 0) ≡ b
    → cond b (Some (found_part (Scaled named scale) 3)) None ≡ Some found → PartRead (digits ∷ star ∷ word ∷ behind) found
of_scale_ended digits star word behind found named scale true none names marks scales ended is =
    let same : found_part (Scaled named scale) 3 ≡ found = some_is is in
    record { written = digits ∷ star ∷ word ∷ []; behind = behind; stands = refl; writes = rw (sym same) (of_scale named scale digits star word none scales marks names); ended = ended; size = rw (sym same) refl }
of_scale_ended digits star word behind found named scale false none names marks scales ended is = cc

of_scale_by : (digits star word : SpelledToken) (behind : List SpelledToken) (found : FoundPart) (named : NamedRegister) (scale : Option ℕ) → register_of digits.bytes ≡ None
    → register_of word.bytes ≡ Some named → IsMark 42 star → scale_by (Some digits) ≡ scale → scaled_part named (slice_get behind 0) scale ≡ Some found
    → PartRead (digits ∷ star ∷ word ∷ behind) found
of_scale_by digits star word behind found named None none names marks scales is = cc
of_scale_by digits star word behind found named (Some scale) none names marks scales is =
    of_scale_ended digits star word behind found named scale (part_ends (slice_get behind 0)) none names marks scales refl is

-- what stands behind a register that goes on
scaled_read : (word : SpelledToken) (rest : List SpelledToken) (found : FoundPart) (named : NamedRegister) (b : Bool) → register_of word.bytes ≡ Some named
    → (mark_at (word ∷ rest) 1 == 42) ≡ b
    → cond b (scaled_part named (slice_get (word ∷ rest) 3) (scale_by (slice_get (word ∷ rest) 2))) None ≡ Some found → PartRead (word ∷ rest) found
unfolding mark_by scale_by
scaled_read word rest found named false names test is = cc
scaled_read word [] found named true names test is = cc
scaled_read word (star ∷ []) found named true names test is = cc
scaled_read word (star ∷ digits ∷ behind) found named true names test is =
    times_by word star digits behind found named (scale_by (Some digits)) names (eqb-true (mark_by (Some star)) 42 test) refl is

named_by : (word : SpelledToken) (rest : List SpelledToken) (found : FoundPart) (named : NamedRegister) (b : Bool) → register_of word.bytes ≡ Some named
    → part_ends (slice_get rest 0) ≡ b
    → cond b (Some (found_part (Plain named) 1)) (cond (mark_at (word ∷ rest) 1 == 42) (scaled_part named (slice_get (word ∷ rest) 3) (scale_by (slice_get (word ∷ rest) 2))) None) ≡ Some found
    → PartRead (word ∷ rest) found
named_by word rest found named true names ended is = alone_read word rest found named names ended (some_is is)
named_by word rest found named false names ended is = scaled_read word rest found named (mark_at (word ∷ rest) 1 == 42) names refl is

word_third : (digits star word : SpelledToken) (behind : List SpelledToken) (found : FoundPart) (named : Option NamedRegister) → register_of digits.bytes ≡ None → IsMark 42 star
    → register_of word.bytes ≡ named → times_part (digits ∷ star ∷ word ∷ behind) named ≡ Some found → PartRead (digits ∷ star ∷ word ∷ behind) found
word_third digits star word behind found None none marks names is = cc
word_third digits star word behind found (Some named) none marks names is =
    of_scale_by digits star word behind found named (scale_by (Some digits)) none names marks refl is

unnamed_by : (digits : SpelledToken) (rest : List SpelledToken) (found : FoundPart) (b : Bool) → register_of digits.bytes ≡ None → (mark_at (digits ∷ rest) 1 == 42) ≡ b
    → cond b (times_part (digits ∷ rest) (register_by (slice_get (digits ∷ rest) 2))) None ≡ Some found → PartRead (digits ∷ rest) found
unfolding mark_by
unnamed_by digits rest found false none test is = cc
unnamed_by digits [] found true none test is = cc
unnamed_by digits (star ∷ []) found true none test is = cc
unnamed_by digits (star ∷ word ∷ behind) found true none test is =
    word_third digits star word behind found (register_of word.bytes) none (eqb-true (mark_by (Some star)) 42 test) refl is

first_by : (word : SpelledToken) (rest : List SpelledToken) (found : FoundPart) (named : Option NamedRegister) → register_of word.bytes ≡ named → part_by (word ∷ rest) named ≡ Some found
    → PartRead (word ∷ rest) found
first_by word rest found None names is = unnamed_by word rest found (mark_at (word ∷ rest) 1 == 42) names refl is
first_by word rest found (Some named) names is = named_by word rest found named (part_ends (slice_get rest 0)) names refl is

-- a part that is read is written
pub part_written : (text : List SpelledToken) (found : FoundPart) → part_in text ≡ Some found → PartRead text found
unfolding part_in mark_by
part_written [] found is = cc
part_written (word ∷ rest) found is = first_by word rest found (register_of word.bytes) refl is
