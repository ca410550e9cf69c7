-- A whole table is put, and found in the end.
use Rattle.std.proofs.Common.{◌≡◌, ℕ, ◌⊎◌, inl, inr, Bool, true, false, List, [], ◌∷◌, ◌++◌, length, Option, None, Some, Ok, Err, if◌then◌else◌, refl, sym, ap, subst, ◌∙◌, arith}
use Rattle.std.specs.Prelude.{All, IsSomeAnd, codes}
use Rattle.std.specs.List.{slice_get}
use Rattle.std.proofs.lemmas.List.Elements.{All-nil, All-cons, All-append}
use Rattle.std.proofs.lemmas.Option.{slice_get_within}
use Rattle.asm_base.specs.declared.causes.FragCause.TheVariants.{BadSection}
use Rattle.asm_base.specs.declared.positions.Pos.{Pos}
use Rattle.asm_frags.specs.SectionOf.{section_number}
use Rattle.asm_frags.specs.Writing.{LooseSection}
use Rattle.section_laws.specs.Within.{IsWithin}
use Rattle.line_directives.specs.Taking.{LineTable}
use Rattle.table_pieces.specs.Ends.{behind_pieces}
use Rattle.table_pieces.specs.Found.{IsReadyAt, IsReady, PiecesStand}
use Rattle.table_pieces.specs.Labels.{GetsLabels}
use Rattle.table_pieces.specs.Pieces.{Piece, Tables, tables_of}
use Rattle.table_pieces.specs.Standing.{OneExtends, AllExtend}
use Rattle.line_table.specs.Placing.{nothing_put, unit_pieces, table_put, new_table, is_free, placed_there, placed_in, placed_at, placed}
use Rattle.line_table.specs.Additions.{StaysBeside}
use Rattle.line_table.specs.FoundTables.{TableStands, IsPlaced}
use Rattle.line_table.proofs.PieceFacts.{Extending, Naming, Finding}
use Rattle.line_table.proofs.SectionLemmas.{get_last, get_first, of_all, IsFree, free_is, free_ready, takes_at, new_low, both_made, within_of, all_within}

-- the section of a table is there, or is a new one, which is the last
abbrev pub Begins : ℕ → Tables → Tables → Type 0
Begins section tables first = ((section_number (codes ".debug_line") tables.sections ≡ Some section) × (first ≡ tables))
    ⊎ ((section_number (codes ".debug_line") tables.sections ≡ None) × (section ≡ length tables.sections)
    × (first ≡ tables_of tables.symbols (tables.sections ++ new_table ∷ [])))

-- what placing comes to
pub record PutAt (pos : Pos) (lines : LineTable) (tables after : Tables) : Type 0 where
  pub section : ℕ
  pub first : Tables
  pub begins : Begins section tables first
  pub held : LooseSection
  pub there : slice_get first.sections section ≡ Some held
  pub free : IsFree held
  pub put : after ≡ table_put section pos lines first

module _ (pos : Pos) (lines : LineTable) (tables after : Tables) where
  free_by : (section : ℕ) (held : LooseSection) (free : Bool) → section_number (codes ".debug_line") tables.sections ≡ Some section
      → slice_get tables.sections section ≡ Some held → is_free held ≡ free
      → (if free then Ok (table_put section pos lines tables) else Err BadSection) ≡ Ok after → PutAt pos lines tables after
  free_by section held true named there free is =
      record { section = section; first = tables; begins = inl (named, refl); held = held; there = there; free = free_is held free; put = cc }
  free_by section held false named there free is = absurd (let none : ⊥ = cc in none)

  in_section : (section : ℕ) (found : Option LooseSection) → section_number (codes ".debug_line") tables.sections ≡ Some section
      → slice_get tables.sections section ≡ found → placed_there section found pos lines tables ≡ Ok after → PutAt pos lines tables after
  in_section section None named there is = absurd (let none : ⊥ = cc in none)
  in_section section (Some held) named there is = free_by section held (is_free held) named there refl is

  by_number : (found : Option ℕ) → section_number (codes ".debug_line") tables.sections ≡ found
      → placed_in found pos lines tables ≡ Ok after → PutAt pos lines tables after
  by_number (Some section) named is = in_section section (slice_get tables.sections section) named refl is
  by_number None named is = record {
    section = length tables.sections;
    first = tables_of tables.symbols (tables.sections ++ new_table ∷ []);
    begins = inr (named, refl, refl);
    held = new_table;
    there = get_last tables.sections new_table;
    free = free_is new_table refl;
    put = cc;
  }

  pub put_at : lines.first ≡ Some pos → placed lines tables ≡ Ok after → PutAt pos lines tables after
  unfolding placed
  put_at first is =
      by_number (section_number (codes ".debug_line") tables.sections) refl (sym (ap (λ found. placed_at found lines tables) first) ∙ is)

  pub nothing_at : lines.first ≡ None → placed lines tables ≡ Ok after → tables ≡ after
  unfolding placed
  nothing_at first is =
      let same : Ok tables ≡ Ok after = sym (ap (λ found. placed_at found lines tables) first) ∙ is in
      cc

-- the sections of the first tables are within where those of the tables are
first_within : (section : ℕ) (tables first : Tables) → Begins section tables first → All IsWithin tables.sections → All IsWithin first.sections
first_within section tables first begins low = elim begins [
  | inl there ↦ subst (λ (t : Tables). All IsWithin t.sections) (sym there.1) low
  | inr new ↦ subst (λ (t : Tables). All IsWithin t.sections) (sym new.2)
      (All-append IsWithin tables.sections (new_table ∷ []) low (All-cons IsWithin new_table [] new_low (All-nil IsWithin)))
]

-- a section of the tables is in the first ones as it was
pub first_there : (section : ℕ) (tables first : Tables) → Begins section tables first → (number : ℕ) (held : LooseSection) → slice_get tables.sections number ≡ Some held
    → slice_get first.sections number ≡ Some held
first_there section tables first begins number held is = elim begins [
  | inl there ↦ subst (λ (t : Tables). slice_get t.sections number ≡ Some held) (sym there.1) is
  | inr new ↦ subst (λ (t : Tables). slice_get t.sections number ≡ Some held) (sym new.2) (get_first tables.sections (new_table ∷ []) number held is)
]

-- and no other than that of the table
not_the_table : (section : ℕ) (tables first : Tables) → Begins section tables first → (number : ℕ) (held : LooseSection) → slice_get tables.sections number ≡ Some held
    → (section_number (codes ".debug_line") tables.sections ≡ Some number → ⊥) → number ≡ section → ⊥
not_the_table section tables first begins number held is other same = elim begins [
  | inl there ↦ other (there.0 ∙ ap (λ (n : ℕ). Some n) (sym same))
  | inr new ↦ (let within = slice_get_within tables.sections number held is in let long = new.1 in omega (arith, within, long, same))
]

pub first_symbols : (section : ℕ) (tables first : Tables) → Begins section tables first → first.symbols ≡ tables.symbols
first_symbols section tables first begins = elim begins [
  | inl there ↦ ap (λ (t : Tables). t.symbols) there.1
  | inr new ↦ ap (λ (t : Tables). t.symbols) new.2
]

module _ (extending : Extending) where
  -- the sections behind the table
  pub put_extends : (pos : Pos) (lines : LineTable) (tables after : Tables) (put : PutAt pos lines tables after) → OneExtends put.section put.first.sections after.sections
  put_extends pos lines tables after put =
      subst (λ (t : Tables). OneExtends put.section put.first.sections t.sections) (sym put.put)
      (extending.pieces put.section pos (unit_pieces put.section put.first.sections lines) put.first)

  pub put_grows : (pos : Pos) (lines : LineTable) (tables after : Tables) → PutAt pos lines tables after → AllExtend tables.sections after.sections
  put_grows pos lines tables after put number held is =
      extending.extensions.all put.section put.first.sections after.sections (put_extends pos lines tables after put) number held
      (first_there put.section tables put.first put.begins number held is)

  pub put_stays : Naming → (pos : Pos) (lines : LineTable) (tables after : Tables) → PutAt pos lines tables after → StaysBeside tables after
  put_stays naming pos lines tables after put = record {
    others = λ number held is other.
        (put_extends pos lines tables after put).others number (not_the_table put.section tables put.first put.begins number held is other)
        ∙ first_there put.section tables put.first put.begins number held is;
    grows = put_grows pos lines tables after put;
    gets = subst (λ map. GetsLabels map after.symbols) (first_symbols put.section tables put.first put.begins)
        (subst (λ (t : Tables). GetsLabels put.first.symbols t.symbols) (sym put.put)
        (naming.pieces put.section pos (unit_pieces put.section put.first.sections lines) put.first));
  }

module _ (extending : Extending) (finding : Finding) (pos : Pos) (lines : LineTable) (tables after : Tables) (low : All IsWithin tables.sections) where
  pub found_at : PutAt pos lines tables after → IsPlaced pos lines tables after
  found_at put =
      let section : ℕ = put.section in
      let first : Tables = put.first in
      let pieces : List Piece = unit_pieces section first.sections lines in
      let all : Tables = table_put section pos lines first in
      let low_first : All IsWithin first.sections = first_within section tables first put.begins low in
      let ready : IsReady section first.sections nothing_put =
      free_ready section first.sections put.held put.there put.free (of_all first.sections section put.held put.there low_first) in
      let readied : IsReady section all.sections (behind_pieces pieces nothing_put) = finding.ready section pos pieces first nothing_put ready in
      let stands : IsSomeAnd (slice_get all.sections section) (λ held. TableStands held section pos lines first) =
      both_made (λ held. PiecesStand held section pos nothing_put first pieces) (IsReadyAt (behind_pieces pieces nothing_put))
      (λ held. TableStands held section pos lines first) (slice_get all.sections section) (λ held stand at. record { pieces = stand; ends = at.reaches })
      (finding.pieces section pos pieces first nothing_put all.sections ready (extending.extensions.same section all.sections)) readied in
      let within : All IsWithin all.sections =
      all_within section first.sections all.sections low_first (extending.pieces section pos pieces first)
      (within_of section all.sections (behind_pieces pieces nothing_put) readied) in
      record {
        section = section;
        first = first;
        begins = put.begins;
        takes = takes_at section first.sections put.held put.there put.free.filled;
        ready = ready;
        put = put.put;
        stands = subst (λ (t : Tables). IsSomeAnd (slice_get t.sections section) (λ held. TableStands held section pos lines first)) (sym put.put) stands;
        within = subst (λ (t : Tables). All IsWithin t.sections) (sym put.put) within;
        grows = put_grows extending pos lines tables after put;
      }

  pub is_placed : lines.first ≡ Some pos → placed lines tables ≡ Ok after → IsPlaced pos lines tables after
  is_placed first is = found_at (put_at pos lines tables after first is)
