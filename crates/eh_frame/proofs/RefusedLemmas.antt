-- A table is refused exactly where its section takes zeros alone.
use Rattle.std.proofs.Common.{◌≡◌, ℕ, ◌<◌, Bool, true, false, List, [], ◌∷◌, length, Option, None, Some, Result, Ok, Err, if◌then◌else◌, get_or, ◌↔◌, refl, ap, ◌∙◌, eq-eqb}
use Rattle.std.specs.Prelude.{codes}
use Rattle.std.specs.List.{slice_get}
use Rattle.std.proofs.lemmas.Bool.{eqb-true}
use Rattle.std.proofs.lemmas.List.Quantifiers.{position-Some}
use Rattle.std.proofs.lemmas.Option.{slice_get-get_or}
use Rattle.asm_base.specs.declared.causes.FragCause.{FragCause}
use Rattle.asm_base.specs.declared.causes.FragCause.TheVariants.{BadSection}
use Rattle.asm_frags.specs.SectionOf.{section_number, is_section_named}
use Rattle.asm_frags.specs.Writing.{LooseSection, takes_zeros_alone}
use Rattle.cfi_directives.specs.declared.frames.Frame.{Frame}
use Rattle.table_pieces.specs.Pieces.{Tables}
use Rattle.eh_frame.specs.Placing.{new_table, table_put, placed_there, placed_in, placed}
use Rattle.eh_frame.specs.Refused.{HasZerosAlone}

module _ (frame : Frame) (frames : List Frame) (tables : Tables) where
  -- the table, unless its section takes zeros alone
  abbrev placed_if : Bool → ℕ → Result Tables FragCause
  placed_if zeros number = if zeros then Err BadSection else Ok (table_put number frame (frame ∷ frames) tables)

  by_type : (number : ℕ) (held : LooseSection) (zeros : Bool) → section_number (codes ".eh_frame") tables.sections ≡ Some number
      → slice_get tables.sections number ≡ Some held → takes_zeros_alone held ≡ zeros
      → placed_if zeros number ≡ Err BadSection → HasZerosAlone tables.sections
  by_type number held true named there zeros is = record { number = number; held = held; named = named; there = there; kind = eqb-true held.kind 8 zeros }
  by_type number held false named there zeros is = absurd (let none : ⊥ = cc in none)

  by_section : (number : ℕ) (held : Option LooseSection) → section_number (codes ".eh_frame") tables.sections ≡ Some number
      → slice_get tables.sections number ≡ held → placed_there number held frame (frame ∷ frames) tables ≡ Err BadSection → HasZerosAlone tables.sections
  by_section number None named there is =
      let within : number < length tables.sections = (position-Some (is_section_named (codes ".eh_frame")) tables.sections number new_table named).0 in
      let found : slice_get tables.sections number ≡ Some (get_or tables.sections number new_table) = slice_get-get_or tables.sections number new_table within in
      absurd (let none : ⊥ = cc in none)
  by_section number (Some held) named there is = by_type number held (takes_zeros_alone held) named there refl is

  by_number : (found : Option ℕ) → section_number (codes ".eh_frame") tables.sections ≡ found
      → placed_in found frame (frame ∷ frames) tables ≡ Err BadSection → HasZerosAlone tables.sections
  by_number None named is = absurd (let none : ⊥ = cc in none)
  by_number (Some number) named is = by_section number (slice_get tables.sections number) named refl is

  refused_there : placed (frame ∷ frames) tables ≡ Err BadSection → HasZerosAlone tables.sections
  unfolding placed
  refused_there is = by_number (section_number (codes ".eh_frame") tables.sections) refl is

  there_refused : HasZerosAlone tables.sections → placed (frame ∷ frames) tables ≡ Err BadSection
  unfolding placed
  there_refused zeros =
      ap (λ found. placed_in found frame (frame ∷ frames) tables) zeros.named
      ∙ ap (λ held. placed_there zeros.number held frame (frame ∷ frames) tables) zeros.there
      ∙ ap (λ b. placed_if b zeros.number) (eq-eqb zeros.held.kind 8 zeros.kind)

pub nothing_placed : (tables : Tables) → placed [] tables ≡ Ok tables
unfolding placed
nothing_placed tables = refl

abbrev pub Refuses : List Frame → Tables → Type 0
Refuses frames tables = (frames ≡ [] → ⊥) × HasZerosAlone tables.sections

pub refused_exactly : (frames : List Frame) (tables : Tables) → (placed frames tables ≡ Err BadSection) ↔ Refuses frames tables
refused_exactly [] tables = (
  λ is. absurd (let none : ⊥ = cc (is, nothing_placed tables) in none),
  λ refuses. absurd (refuses.0 refl),
)
refused_exactly (frame ∷ frames) tables = (
  λ is. (λ none. absurd (let none : ⊥ = cc in none), refused_there frame frames tables is),
  λ refuses. there_refused frame frames tables refuses.1,
)
