-- What a line table leaves of a frame table, and how few labels it brings.
use Rattle.std.proofs.Common.{◌≡◌, ℕ, ◌+◌, ◌^◌, ◌≤◌, true, List, All, Option, None, Some, Result, Ok, length, refl, sym, ap, ◌∙◌, arith}
use Rattle.std.specs.Prelude.{codes, is_none, slice_get}
use Rattle.std.specs.Option.{option_map_or}
use Rattle.std.specs.Str.{bytes_eq}
use Rattle.std.proofs.lemmas.Bool.{and_parts}
use Rattle.std.proofs.lemmas.List.Quantifiers.{position-Some}
use Rattle.std.proofs.lemmas.Option.{get_or_from_slice_get}
use Rattle.std.proofs.lemmas.Slice.Eq.{bytes_eq-Decides}
use Rattle.asm_base.specs.declared.causes.FragCause.{FragCause}
use Rattle.asm_base.specs.declared.positions.Pos.{Pos}
use Rattle.asm_frags.specs.SectionOf.{is_section_named, section_number}
use Rattle.asm_frags.specs.Writing.{LooseSection}
use Rattle.asm_relax.specs.KeptSections.{kept_section, LayoutsKeepSections}
use Rattle.asm_relax.specs.Settling.{LaidSections, layout_of}
use Rattle.asm_symbols.specs.SymbolMap.{SymbolMap}
use Rattle.line_directives.specs.Taking.{LineTable}
use Rattle.line_table.specs.Counts.{bytes_at, LabelsAreFew}
use Rattle.line_table.specs.FoundTables.{IsPlaced}
use Rattle.line_table.specs.Placing.{placed_at, placed}
use Rattle.piece_laws.specs.LaidTables.{IsSmall}
use Rattle.section_laws.specs.Within.{AreWithin}
use Rattle.table_pieces.specs.Pieces.{Tables}
use Rattle.readback_laws.proofs.Lists.{all_there}
use Rattle.readback_laws.proofs.SettledObjects.{AreSettled}
use Rattle.readback_laws.proofs.StandingRows.{RowsStand}

-- what is known of line tables: where they stand, and how few labels they bring
pub record LineFacts : Type 0 where
  pub put : (pos : Pos) (lines : LineTable) (tables after : Tables) → lines.first ≡ Some pos → AreWithin tables.sections → placed lines tables ≡ Ok after
      → IsPlaced pos lines tables after
  pub few : LabelsAreFew

-- a frame table is not in the section of the line table
pub frame_table_stays : (sections : List LooseSection) (number : ℕ) (held : LooseSection) → slice_get sections number ≡ Some held
    → is_section_named (codes ".eh_frame") held ≡ true → section_number (codes ".debug_line") sections ≡ Some number → ⊥
frame_table_stays sections number held there named is =
    let found = position-Some (is_section_named (codes ".debug_line")) sections number held is in
    let lined : is_section_named (codes ".debug_line") held ≡ true =
    sym (ap (is_section_named (codes ".debug_line")) (get_or_from_slice_get sections number held held there)) ∙ found.1 in
    let frames : codes ".eh_frame" ≡ held.name = (bytes_eq-Decides (codes ".eh_frame") held.name).0 (and_parts (is_none held.group) (bytes_eq (codes ".eh_frame") held.name) named).1 in
    let lines : codes ".debug_line" ≡ held.name = (bytes_eq-Decides (codes ".debug_line") held.name).0 (and_parts (is_none held.group) (bytes_eq (codes ".debug_line") held.name) lined).1 in
    let long : 9 ≡ 11 = ap length (frames ∙ sym lines) in
    absurd (omega (arith, long))

-- no section of a small layout has many bytes
few_bytes : LayoutsKeepSections → (symbols : SymbolMap) (sections : List LooseSection) (laid : LaidSections) → layout_of symbols sections ≡ Ok laid → All IsSmall laid
    → (number : ℕ) → bytes_at sections number ≤ 2 ^ 30
few_bytes layouts symbols sections laid settles small number = by (slice_get sections number) refl
  where
    by : (found : Option LooseSection) → slice_get sections number ≡ found → option_map_or (λ (held : LooseSection). length held.bytes) found 0 ≤ 2 ^ 30
    by None there = omega arith
    by (Some held) there =
        let own = layouts.section symbols sections laid number held settles there in
        let size = (all_there IsSmall laid number (kept_section symbols own.0 held) own.1 small).size in
        omega (arith, size)

same_tables : (tables after : Tables) → (let made : Result Tables FragCause = Ok tables in made ≡ Ok after) → after ≡ tables
same_tables tables after is = cc

-- without a `.file` with a number nothing is put
nothing_put : (lines : LineTable) (tables after : Tables) → lines.first ≡ None → placed lines tables ≡ Ok after → after ≡ tables
unfolding placed
nothing_put lines tables after none is = same_tables tables after (sym (ap (λ (first : Option Pos). placed_at first lines tables) none) ∙ is)

-- a line table brings few labels
pub few_more : AreSettled → LineFacts → (sections : List LooseSection) (lines : LineTable) → RowsStand sections lines → (tables after : Tables) (laid : LaidSections)
    → AreWithin tables.sections → placed lines tables ≡ Ok after → layout_of after.symbols after.sections ≡ Ok laid → All IsSmall laid
    → length after.symbols.symbols ≤ length tables.symbols.symbols + 2 ^ 30
few_more settled facts sections lines rows tables after laid within is settles small = by lines.first refl
  where
    by : (first : Option Pos) → lines.first ≡ first → length after.symbols.symbols ≤ length tables.symbols.symbols + 2 ^ 30
    by None none =
        let same : length after.symbols.symbols ≡ length tables.symbols.symbols = ap (λ (t : Tables). length t.symbols.symbols) (nothing_put lines tables after none is) in
        omega (arith, same)
    by (Some pos) some =
        let put = facts.put pos lines tables after some within is in
        let more = facts.few.symbols rows.directives lines tables after pos rows.taken put in
        let bytes = few_bytes settled.layouts after.symbols after.sections laid settles small put.section in
        omega (arith, more, bytes)
