-- What the symbols of marks are, and what they are known as in a layout.
use Rattle.std.proofs.Common.{◌≡◌, ℕ, ◌<◌, ◌≤◌, ◌==◌, false, cond, length, Option, None, Some, refl, ap, ◌∙◌, arith}
use Rattle.std.specs.Prelude.{IsSomeAnd}
use Rattle.std.specs.List.{slice_get}
use Rattle.std.specs.Option.{option_map_or, option_and_then}
use Rattle.std.proofs.lemmas.Bool.Decides.{nat_tests}
use Rattle.std.proofs.lemmas.Option.{slice_get_past, slice_get_within}
use Rattle.asm_expr.specs.Knowledge.{absent, label}
use Rattle.asm_symbols.specs.declared.entries.Symbol.{Symbol}
use Rattle.asm_symbols.specs.Assigning.{form_of, form_at}
use Rattle.asm_symbols.specs.Attributes.{is_weak}
use Rattle.asm_symbols.specs.SymbolMap.{SymbolMap}
use Rattle.asm_frags.specs.declared.fields.Field.{Field}
use Rattle.asm_frags.specs.Fields.{own_place}
use Rattle.item_rows.specs.Links.{is_linked}
use Rattle.asm_relax.specs.FieldValues.{place_label, place_told, told_in_field}
use Rattle.asm_relax.specs.Final.{address_of, final_meaning, final_told}
use Rattle.asm_relax.specs.Settling.{LaidSections}
use Rattle.asm_base.specs.declared.places.SectionPlace.{SectionPlace}
use Rattle.table_pieces.specs.declared.marks.Mark.{Mark}
use Rattle.table_pieces.specs.declared.marks.Mark.TheVariants.{Here, At}
use Rattle.table_pieces.specs.Labels.{IsLabelAt, NamesPlace}
use Rattle.piece_laws.specs.HeldDistances.{IsMarkOf, mark_section, laid_mark}

-- a label is no assigned symbol
label_formless : (at : SectionPlace) (found : Option Symbol) → IsSomeAnd found (IsLabelAt at)
    → option_and_then (λ symbol. form_of symbol.meaning) found ≡ None
label_formless at None is = absurd is
label_formless at (Some symbol) is = ap form_of is.means

-- a label is not weak
label_strong : (at : SectionPlace) (found : Option Symbol) → IsSomeAnd found (IsLabelAt at)
    → option_map_or (λ symbol. is_weak symbol.binding) found false ≡ false
label_strong at None is = absurd is
label_strong at (Some symbol) is = ap is_weak is.unbound

-- a label is known as one at its place
label_known : (laid : LaidSections) (at : SectionPlace) (found : Option Symbol) → IsSomeAnd found (IsLabelAt at)
    → option_map_or (λ symbol. final_meaning laid symbol.meaning) found absent
    ≡ label at.section (address_of laid at.section at.place.item at.place.offset)
label_known laid at None is = absurd is
label_known laid at (Some symbol) is =
    ap (final_meaning laid) is.means
    ∙ ap (λ section. label section (address_of laid section is.spot.place.place.item is.spot.place.place.offset)) is.place.section
    ∙ ap (λ item. label at.section (address_of laid at.section item is.spot.place.place.offset)) is.place.item
    ∙ ap (λ offset. label at.section (address_of laid at.section at.place.item offset)) is.place.offset

-- what is found is at an index within
found_within : (map : SymbolMap) (at : SectionPlace) (number : ℕ) (found : Option Symbol) → slice_get map.symbols number ≡ found
    → IsSomeAnd found (IsLabelAt at) → number < length map.symbols
found_within map at number None finds is = absurd is
found_within map at number (Some symbol) finds is = slice_get_within map.symbols number symbol finds

module _ (map : SymbolMap) (few : length map.symbols ≤ own_place) where
  none_own : slice_get map.symbols own_place ≡ None
  none_own = slice_get_past map.symbols own_place few

  -- the number of a label is not that of the field's own place
  pub label_else : (at : SectionPlace) (number : ℕ) → NamesPlace map number at → (number == own_place) ≡ false
  label_else at number named =
      let within = found_within map at number (slice_get map.symbols number) refl named in
      let differs : (number == own_place) ≡ false = grind (arith, nat_tests, within, few) in
      differs

  -- the symbol of a mark is no assigned one
  pub mark_formless : (mark : Mark) (number : ℕ) → IsMarkOf map mark number → form_at map.symbols number ≡ None
  mark_formless Here number is =
      ap (option_and_then (λ (symbol : Symbol). form_of symbol.meaning)) (ap (slice_get map.symbols) is ∙ none_own)
  mark_formless (At at) number is = label_formless at (slice_get map.symbols number) is

  -- the symbol of a mark is not weak
  pub mark_strong : (mark : Mark) (number : ℕ) → IsMarkOf map mark number
      → option_map_or (λ symbol. is_weak symbol.binding) (slice_get map.symbols number) false ≡ false
  mark_strong Here number is =
      ap (λ (found : Option Symbol). option_map_or (λ symbol. is_weak symbol.binding) found false) (ap (slice_get map.symbols) is ∙ none_own)
  mark_strong (At at) number is = label_strong at (slice_get map.symbols number) is

  module _ (laid : LaidSections) (field : Field) where
    told_own : is_linked map field ≡ false → told_in_field map laid field own_place ≡ place_label laid field
    unfolding told_in_field
    told_own free = ap (λ b. cond b absent (place_label laid field)) free

    told_else : (number : ℕ) → (number == own_place) ≡ false → told_in_field map laid field number ≡ final_told map laid number
    unfolding told_in_field
    told_else number differs = ap (λ b. cond b (place_told map laid field) (final_told map laid number)) differs

    final_label : (at : SectionPlace) (number : ℕ) → NamesPlace map number at
        → final_told map laid number ≡ label at.section (address_of laid at.section at.place.item at.place.offset)
    unfolding final_told
    final_label at number named = label_known laid at (slice_get map.symbols number) named

    -- the symbol of a mark is known as a label where the mark is
    pub mark_known : is_linked map field ≡ false → (mark : Mark) (number : ℕ) → IsMarkOf map mark number
        → told_in_field map laid field number ≡ label (mark_section field.section mark) (laid_mark laid field mark)
    mark_known free Here number is = ap (told_in_field map laid field) is ∙ told_own free
    mark_known free (At at) number is = told_else number (label_else at number is) ∙ final_label at number is
