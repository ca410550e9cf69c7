-- A table is refused exactly where its section is not free.
use Rattle.std.proofs.Common.{◌≡◌, ℕ, ◌<◌, inl, inr, Bool, true, false, not, ◌&&◌, List, [], ◌∷◌, length, Option, None, Some, Result, Ok, Err, if◌then◌else◌, get_or, ◌==◌, ◌↔◌, refl, ap, ◌∙◌, arith, eq-eqb}
use Rattle.std.specs.Prelude.{codes, IsSome}
use Rattle.std.specs.List.{slice_get}
use Rattle.std.proofs.lemmas.Bool.{eqb-true}
use Rattle.std.proofs.lemmas.List.Quantifiers.{position-Some}
use Rattle.std.proofs.lemmas.Option.{slice_get-get_or}
use Rattle.asm_base.specs.declared.causes.FragCause.{FragCause}
use Rattle.asm_base.specs.declared.causes.FragCause.TheVariants.{BadSection}
use Rattle.asm_base.specs.declared.positions.Pos.{Pos}
use Rattle.asm_frags.specs.SectionOf.{section_number, is_section_named}
use Rattle.asm_frags.specs.Writing.{LooseSection, takes_zeros_alone}
use Rattle.line_directives.specs.Taking.{LineTable}
use Rattle.table_pieces.specs.Pieces.{Tables}
use Rattle.line_table.specs.Placing.{new_table, table_put, is_free, placed_there, placed_in, placed_at, placed}
use Rattle.line_table.specs.Refused.{IsTaken, HasTakenTable}

-- TAKEN SECTIONS

empty_is : {A : Type 0} → (xs : List A) → (length xs == 0) ≡ false → xs ≡ [] → ⊥
empty_is xs is none = let long : (length xs == 0) ≡ true = ap (λ xs. length xs == 0) none in let none : ⊥ = cc in none

full_is : {A : Type 0} → (xs : List A) → (xs ≡ [] → ⊥) → (length xs == 0) ≡ false
full_is [] full = absurd (full refl)
full_is (x ∷ xs) full = grind arith

taken_by : (held : LooseSection) (zeros none empty : Bool) → takes_zeros_alone held ≡ zeros → (length held.items == 0) ≡ none → (length held.bytes == 0) ≡ empty
    → ((not zeros && none) && empty) ≡ false → IsTaken held
taken_by held true none empty zeros items bytes is = inl (eqb-true held.kind 8 zeros)
taken_by held false false empty zeros items bytes is = inr (inl (empty_is held.items items))
taken_by held false true false zeros items bytes is = inr (inr (empty_is held.bytes bytes))
taken_by held false true true zeros items bytes is = absurd (let none : ⊥ = cc in none)

taken_is : (held : LooseSection) → is_free held ≡ false → IsTaken held
taken_is held is = taken_by held (takes_zeros_alone held) (length held.items == 0) (length held.bytes == 0) refl refl refl is

and_false : (a : Bool) → (a && false) ≡ false
and_false true = refl
and_false false = refl

-- it is free where none of the three holds
free_of : (held : LooseSection) (zeros none empty : Bool) → takes_zeros_alone held ≡ zeros → (length held.items == 0) ≡ none → (length held.bytes == 0) ≡ empty
    → is_free held ≡ ((not zeros && none) && empty)
free_of held zeros none empty zero items bytes =
    ap (λ b. (not b && (length held.items == 0)) && (length held.bytes == 0)) zero
    ∙ ap (λ b. (not zeros && b) && (length held.bytes == 0)) items
    ∙ ap (λ b. (not zeros && none) && b) bytes

is_taken : (held : LooseSection) → IsTaken held → is_free held ≡ false
is_taken held (inl zeros) = free_of held true (length held.items == 0) (length held.bytes == 0) (eq-eqb held.kind 8 zeros) refl refl
is_taken held (inr (inl items)) =
    free_of held (takes_zeros_alone held) false (length held.bytes == 0) refl (full_is held.items items) refl
    ∙ ap (λ b. b && (length held.bytes == 0)) (and_false (not (takes_zeros_alone held)))
is_taken held (inr (inr bytes)) =
    free_of held (takes_zeros_alone held) (length held.items == 0) false refl refl (full_is held.bytes bytes)
    ∙ and_false (not (takes_zeros_alone held) && (length held.items == 0))

-- TABLES

module _ (pos : Pos) (lines : LineTable) (tables : Tables) where
  -- the table, if its section is free
  abbrev placed_if : Bool → ℕ → Result Tables FragCause
  placed_if free number = if free then Ok (table_put number pos lines tables) else Err BadSection

  by_free : (number : ℕ) (held : LooseSection) (free : Bool) → section_number (codes ".debug_line") tables.sections ≡ Some number
      → slice_get tables.sections number ≡ Some held → is_free held ≡ free
      → placed_if free number ≡ Err BadSection → HasTakenTable tables.sections
  by_free number held true named there free is = absurd (let none : ⊥ = cc in none)
  by_free number held false named there free is = record { number = number; held = held; named = named; there = there; taken = taken_is held free }

  by_section : (number : ℕ) (held : Option LooseSection) → section_number (codes ".debug_line") tables.sections ≡ Some number
      → slice_get tables.sections number ≡ held → placed_there number held pos lines tables ≡ Err BadSection → HasTakenTable tables.sections
  by_section number None named there is =
      let within : number < length tables.sections = (position-Some (is_section_named (codes ".debug_line")) tables.sections number new_table named).0 in
      let found : slice_get tables.sections number ≡ Some (get_or tables.sections number new_table) = slice_get-get_or tables.sections number new_table within in
      absurd (let none : ⊥ = cc in none)
  by_section number (Some held) named there is = by_free number held (is_free held) named there refl is

  by_number : (found : Option ℕ) → section_number (codes ".debug_line") tables.sections ≡ found
      → placed_in found pos lines tables ≡ Err BadSection → HasTakenTable tables.sections
  by_number None named is = absurd (let none : ⊥ = cc in none)
  by_number (Some number) named is = by_section number (slice_get tables.sections number) named refl is

  refused_there : placed_in (section_number (codes ".debug_line") tables.sections) pos lines tables ≡ Err BadSection → HasTakenTable tables.sections
  refused_there is = by_number (section_number (codes ".debug_line") tables.sections) refl is

  there_refused : HasTakenTable tables.sections → placed_in (section_number (codes ".debug_line") tables.sections) pos lines tables ≡ Err BadSection
  there_refused taken =
      ap (λ found. placed_in found pos lines tables) taken.named
      ∙ ap (λ held. placed_there taken.number held pos lines tables) taken.there
      ∙ ap (λ b. placed_if b taken.number) (is_taken taken.held taken.taken)

pub nothing_placed : (lines : LineTable) (tables : Tables) → lines.first ≡ None → placed lines tables ≡ Ok tables
unfolding placed
nothing_placed lines tables first = ap (λ found. placed_at found lines tables) first

abbrev pub Refuses : LineTable → Tables → Type 0
Refuses lines tables = IsSome lines.first × HasTakenTable tables.sections

exactly_by : (first : Option Pos) (lines : LineTable) (tables : Tables)
    → (placed_at first lines tables ≡ Err BadSection) ↔ (IsSome first × HasTakenTable tables.sections)
exactly_by None lines tables = (
  λ is. absurd (let none : ⊥ = cc in none),
  λ refuses. let some = refuses.0 in absurd (let none : ⊥ = cc in none),
)
exactly_by (Some pos) lines tables = (
  λ is. (refl, refused_there pos lines tables is),
  λ refuses. there_refused pos lines tables refuses.1,
)

pub refused_exactly : (lines : LineTable) (tables : Tables) → (placed lines tables ≡ Err BadSection) ↔ Refuses lines tables
unfolding placed
refused_exactly lines tables = exactly_by lines.first lines tables
