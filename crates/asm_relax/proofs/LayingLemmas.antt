-- Items and sections that are laid out one after the other, in place.
use Rattle.std.proofs.Common.{◌≡◌, ℕ, zero, suc, ◌+◌, ◌-◌, ◌<◌, ◌≤◌, List, [], ◌∷◌, Some, length, drop, refl, sym, ap, ◌∙◌, arith, length-append, drop-drop}
use Rattle.std.specs.Prelude.{slice_get, slice_index}
use Rattle.std.proofs.Math.Seq.{get_or-drop}
use Rattle.asm_frags.specs.declared.items.Frag.{Frag}
use Rattle.asm_frags.specs.SectionOf.{SectionOf}
use Rattle.asm_frags.specs.Addresses.{item_laid_at, section_laid_at, changed_at, sections_laid_at, HasItem}
use Rattle.asm_symbols.specs.SymbolMap.{SymbolMap}
use Rattle.asm_frags.specs.declared.fields.Field.{Field}
use Rattle.asm_levels.specs.declared.rows.Row.{Row}
use Rattle.item_rows.specs.ItemRows.{RowsIn, row_count, starts_from, all_rows, rows_in, row_of, item_rows, end_of, section_rows, rows_from, rows_of}
use Rattle.asm_relax.specs.Layout.{laid_from, laid_out_section, laid_out}
use Rattle.asm_relax.specs.Placing.{address_there}
use Rattle.asm_relax.proofs.Changes.{changed_more, changed_twice, changed_alike, changed_get, changed_none}

-- behind the first shift stand the others
pub next_shift : (shifts : List ℕ) (index : ℕ) → slice_index (drop 1 shifts) index ≡ slice_index shifts (suc index)
next_shift [] index = refl
next_shift (shift ∷ shifts) index = refl

-- the item laid out by the shifts from this index on
abbrev pub laid_there : {P : Type 0} → List ℕ → ℕ → Frag P ℕ → Frag P ℕ
laid_there shifts n item = item_laid_at (item.offset + slice_index shifts n) (slice_index shifts (suc n) - slice_index shifts n) item

-- the items with the first n of them laid out
abbrev pub part : {P : Type 0} → ℕ → List ℕ → List (Frag P ℕ) → List (Frag P ℕ)
part zero shifts xs = xs
part (suc n) shifts [] = []
part (suc n) shifts (x ∷ xs) = laid_there shifts 0 x ∷ part n (drop 1 shifts) xs

part_next : {P : Type 0} (n : ℕ) (shifts : List ℕ) (xs : List (Frag P ℕ)) (item : Frag P ℕ) → slice_get xs n ≡ Some item
    → changed_at (item_laid_at (item.offset + slice_index shifts n) (slice_index shifts (suc n) - slice_index shifts n)) (part n shifts xs) n ≡ part (suc n) shifts xs
part_next n shifts [] item is = absurd cc
part_next zero shifts (x ∷ xs) item is = let same : item ≡ x = cc in rw same
part_next {P} (suc n) shifts (x ∷ xs) item is =
    rw (← next_shift shifts n, ← next_shift shifts (suc n))
    (changed_more (item_laid_at (item.offset + slice_index (drop 1 shifts) n) (slice_index (drop 1 shifts) (suc n) - slice_index (drop 1 shifts) n))
    (laid_there shifts 0 x) (part n (drop 1 shifts) xs) n
    ∙ ap (λ (all : List (Frag P ℕ)). laid_there shifts 0 x ∷ all) (part_next n (drop 1 shifts) xs item is))

part_get : {P : Type 0} (n : ℕ) (shifts : List ℕ) (xs : List (Frag P ℕ)) → slice_get (part n shifts xs) n ≡ slice_get xs n
part_get zero shifts xs = refl
part_get (suc n) shifts [] = refl
part_get (suc n) shifts (x ∷ xs) = part_get n (drop 1 shifts) xs

part_length : {P : Type 0} (n : ℕ) (shifts : List ℕ) (xs : List (Frag P ℕ)) → length (part n shifts xs) ≡ length xs
part_length zero shifts xs = refl
part_length (suc n) shifts [] = refl
part_length (suc n) shifts (x ∷ xs) = ap suc (part_length n (drop 1 shifts) xs)

part_all : {P : Type 0} (n : ℕ) (shifts : List ℕ) (xs : List (Frag P ℕ)) → length xs ≤ n → part n shifts xs ≡ laid_from shifts xs
part_all zero shifts [] all = refl
part_all zero shifts (x ∷ xs) all = absurd (omega arith)
part_all (suc n) shifts [] all = refl
part_all {P} (suc n) shifts (x ∷ xs) all = ap (λ (ys : List (Frag P ℕ)). laid_there shifts 0 x ∷ ys) (part_all n (drop 1 shifts) xs (omega arith))

pub there_is : {X : Type 0} (xs : List X) (n : ℕ) → n < length xs → (x : X) × (slice_get xs n ≡ Some x)
there_is [] n inside = absurd (omega arith)
there_is (x ∷ xs) zero inside = (x, refl)
there_is (x ∷ xs) (suc n) inside = there_is xs n (omega arith)

-- the section with its first n items laid out
abbrev pub section_part : {P : Type 0} → List ℕ → ℕ → SectionOf (Frag P ℕ) → SectionOf (Frag P ℕ)
section_part shifts n section = record section { items = part n shifts section.items }

module _ {P : Type 0} (sections : List (SectionOf (Frag P ℕ))) (number : ℕ) (shifts : List ℕ) (section : SectionOf (Frag P ℕ)) (is : slice_get sections number ≡ Some section) where
  -- no item is laid out
  pub lay_start : sections ≡ changed_at (section_part shifts 0) sections number
  lay_start = changed_none (section_part shifts 0) sections number (λ section. refl)

  -- the section with some of its items laid out stands where it stood
  part_there : (now : List (SectionOf (Frag P ℕ))) (n : ℕ) → now ≡ changed_at (section_part shifts n) sections number → slice_get now number ≡ Some (section_part shifts n section)
  part_there now n before = rw before (changed_get (section_part shifts n) sections number section is)

  -- there is an item to be laid out
  pub has_item : (now : List (SectionOf (Frag P ℕ))) (n : ℕ) → n < length section.items → now ≡ changed_at (section_part shifts n) sections number → HasItem now number n
  has_item now n inside before =
      let there = part_there now n before in
      let long = part_length n shifts section.items in
      rw (there, long) inside

  -- the next item is laid out
  pub lay_step : (now new : List (SectionOf (Frag P ℕ))) (n shift next : ℕ) → n < length section.items → now ≡ changed_at (section_part shifts n) sections number
      → shift ≡ slice_index shifts n → next ≡ slice_index shifts (suc n)
      → new ≡ sections_laid_at now number n (address_there now number n shift) (next - shift) → new ≡ changed_at (section_part shifts (n + 1)) sections number
  unfolding address_there
  lay_step now new n shift next inside before starts ends laid =
      let there = part_there now n before in
      let found = there_is section.items n inside in
      let same : slice_get (part n shifts section.items) n ≡ Some found.0 = part_get n shifts section.items ∙ found.1 in
      let address : address_there now number n shift ≡ found.0.offset + slice_index shifts n = rw (there, same, starts) in
      let size : next - shift ≡ slice_index shifts (suc n) - slice_index shifts n = rw (starts, ends) in
      let one : suc n ≡ n + 1 = omega arith in
      let at = found.0.offset + slice_index shifts n in
      let bytes = slice_index shifts (suc n) - slice_index shifts n in
      let items = part_next n shifts section.items found.0 found.1 in
      laid ∙ ap (λ (a : ℕ). sections_laid_at now number n a (next - shift)) address ∙ ap (λ (a : ℕ). sections_laid_at now number n at a) size
      ∙ ap (λ (all : List (SectionOf (Frag P ℕ))). sections_laid_at all number n at bytes) before
      ∙ changed_twice (section_part shifts n) (λ s. section_laid_at s n at bytes) sections number
      ∙ changed_alike (λ s. section_laid_at (section_part shifts n s) n at bytes) (section_part shifts (n + 1)) sections number section is
      (rw (← one) (ap (λ (all : List (Frag P ℕ)). record section { items = all }) items))

  -- all items are laid out
  pub lay_done : (now : List (SectionOf (Frag P ℕ))) (n : ℕ) → length section.items ≤ n → now ≡ changed_at (section_part shifts n) sections number
      → now ≡ changed_at (laid_out_section shifts) sections number
  lay_done now n all before =
      before ∙ changed_alike (section_part shifts n) (laid_out_section shifts) sections number section is
      (ap (λ (items : List (Frag P ℕ)). record section { items = items }) (part_all n shifts section.items all))

-- the shift at an index behind the first ones
pub shift_behind : (shifts : List ℕ) (first n : ℕ) → slice_index shifts (first + n) ≡ slice_index (drop first shifts) n
shift_behind shifts first n = sym (get_or-drop first shifts n 0)

-- the first row of the section of this number
abbrev pub first_row : {Item : Type 0} → ℕ → List (SectionOf Item) → ℕ
first_row zero sections = 0
first_row (suc n) [] = 0
first_row (suc n) (section ∷ sections) = row_count section + first_row n sections

-- the sections with the first n of them laid out
abbrev pub laid_front : {P : Type 0} → ℕ → List ℕ → List (SectionOf (Frag P ℕ)) → List (SectionOf (Frag P ℕ))
laid_front zero shifts sections = sections
laid_front (suc n) shifts [] = []
laid_front (suc n) shifts (section ∷ sections) = laid_out_section shifts section ∷ laid_front n (drop (row_count section) shifts) sections

module _ {P : Type 0} where
  -- the next section is laid out
  pub front_next : (n : ℕ) (shifts : List ℕ) (sections : List (SectionOf (Frag P ℕ))) → n < length sections
      → changed_at (laid_out_section (drop (first_row n sections) shifts)) (laid_front n shifts sections) n ≡ laid_front (suc n) shifts sections
  front_next n shifts [] inside = absurd (omega arith)
  front_next zero shifts (section ∷ sections) inside = refl
  front_next (suc n) shifts (section ∷ sections) inside =
      let behind : drop (row_count section + first_row n sections) shifts ≡ drop (first_row n sections) (drop (row_count section) shifts) =
      sym (drop-drop (first_row n sections) (row_count section) shifts) in
      rw behind (changed_more (laid_out_section (drop (first_row n sections) (drop (row_count section) shifts))) (laid_out_section shifts section)
      (laid_front n (drop (row_count section) shifts) sections) n
      ∙ ap (λ (all : List (SectionOf (Frag P ℕ))). laid_out_section shifts section ∷ all) (front_next n (drop (row_count section) shifts) sections (omega arith)))

  pub front_get : (n : ℕ) (shifts : List ℕ) (sections : List (SectionOf (Frag P ℕ))) → slice_get (laid_front n shifts sections) n ≡ slice_get sections n
  front_get zero shifts sections = refl
  front_get (suc n) shifts [] = refl
  front_get (suc n) shifts (section ∷ sections) = front_get n (drop (row_count section) shifts) sections

  pub front_length : (n : ℕ) (shifts : List ℕ) (sections : List (SectionOf (Frag P ℕ))) → length (laid_front n shifts sections) ≡ length sections
  front_length zero shifts sections = refl
  front_length (suc n) shifts [] = refl
  front_length (suc n) shifts (section ∷ sections) = ap suc (front_length n (drop (row_count section) shifts) sections)

  -- all sections are laid out
  pub front_all : (n : ℕ) (shifts : List ℕ) (sections : List (SectionOf (Frag P ℕ))) → length sections ≤ n → laid_front n shifts sections ≡ laid_out shifts sections
  front_all zero shifts [] all = refl
  front_all zero shifts (section ∷ sections) all = absurd (omega arith)
  front_all (suc n) shifts [] all = refl
  front_all (suc n) shifts (section ∷ sections) all =
      ap (λ (more : List (SectionOf (Frag P ℕ))). laid_out_section shifts section ∷ more) (front_all n (drop (row_count section) shifts) sections (omega arith))

  -- behind the rows of a section stand those of the next one
  pub row_next : (n : ℕ) (sections : List (SectionOf (Frag P ℕ))) (section : SectionOf (Frag P ℕ)) → slice_get sections n ≡ Some section
      → first_row n sections + row_count section ≡ first_row (suc n) sections
  row_next n [] section is = absurd cc
  row_next zero (one ∷ sections) section is = let same : one ≡ section = cc in rw same (omega arith)
  row_next (suc n) (one ∷ sections) section is = let later = row_next n sections section is in omega arith

  items_long : (rows : RowsIn) (fields : List Field) (number index : ℕ) (items : List (Frag P ℕ)) → length (item_rows rows fields number index items) ≡ length items
  items_long rows fields number index [] = refl
  items_long rows fields number index (item ∷ items) = ap suc (items_long rows fields (number + 1) (index + 1) items)

  pub section_long : (rows : RowsIn) (first : ℕ) (section : SectionOf (Frag P ℕ)) → length (section_rows rows first section) ≡ row_count section
  section_long rows first section =
      let items = items_long rows section.fields first 0 section.items in
      omega (arith, length-append (item_rows rows section.fields first 0 section.items) (end_of section ∷ []))

  -- there are as many rows as there are of each section
  pub all_long : (rows : RowsIn) (first : ℕ) (sections : List (SectionOf (Frag P ℕ))) → length (rows_from rows first sections) ≡ all_rows sections
  all_long rows first [] = refl
  all_long rows first (section ∷ sections) =
      let own = section_long rows first section in
      let later = all_long rows (first + row_count section) sections in
      omega (arith, length-append (section_rows rows first section) (rows_from rows (first + row_count section) sections))

  -- each section has its rows among them all
  pub row_inside : (n : ℕ) (sections : List (SectionOf (Frag P ℕ))) (section : SectionOf (Frag P ℕ)) → slice_get sections n ≡ Some section
      → first_row n sections + row_count section ≤ all_rows sections
  row_inside n [] section is = absurd cc
  row_inside zero (one ∷ sections) section is = let same : one ≡ section = cc in rw same (omega arith)
  row_inside (suc n) (one ∷ sections) section is = let later = row_inside n sections section is in omega arith

  -- there are as many rows as the sections have
  pub rows_are_all : (map : SymbolMap) (sections : List (SectionOf (Frag P ℕ))) → length (rows_of map sections) ≡ all_rows sections
  unfolding rows_of
  rows_are_all map sections = all_long (rows_in map sections) 0 sections

  pub items_kept : (shifts : List ℕ) (items : List (Frag P ℕ)) → length (laid_from shifts items) ≡ length items
  items_kept shifts [] = refl
  items_kept shifts (item ∷ items) = ap suc (items_kept (drop 1 shifts) items)

  same_rows : (rows : RowsIn) (fields : List Field) (number index : ℕ) (shifts : List ℕ) (items : List (Frag P ℕ))
      → item_rows rows fields number index (laid_from shifts items) ≡ item_rows rows fields number index items
  same_rows rows fields number index shifts [] = refl
  same_rows rows fields number index shifts (item ∷ items) =
      ap (λ (more : List Row). row_of rows fields number index item ∷ more) (same_rows rows fields (number + 1) (index + 1) (drop 1 shifts) items)

  same_starts : (first : ℕ) (shifts : List ℕ) (sections : List (SectionOf (Frag P ℕ))) → starts_from first (laid_out shifts sections) ≡ starts_from first sections
  same_starts first shifts [] = refl
  same_starts first shifts (section ∷ sections) =
      let long = items_kept shifts section.items in
      let later = same_starts (first + row_count section) (drop (row_count section) shifts) sections in
      rw (long, later)

  same_count : (shifts : List ℕ) (sections : List (SectionOf (Frag P ℕ))) → all_rows (laid_out shifts sections) ≡ all_rows sections
  same_count shifts [] = refl
  same_count shifts (section ∷ sections) =
      let long = items_kept shifts section.items in
      let later = same_count (drop (row_count section) shifts) sections in
      rw (long, later)

  same_from : (rows : RowsIn) (first : ℕ) (shifts : List ℕ) (sections : List (SectionOf (Frag P ℕ))) → rows_from rows first (laid_out shifts sections) ≡ rows_from rows first sections
  same_from rows first shifts [] = refl
  same_from rows first shifts (section ∷ sections) =
      let own = same_rows rows section.fields first 0 shifts section.items in
      let long = items_kept shifts section.items in
      let later = same_from rows (first + row_count section) (drop (row_count section) shifts) sections in
      rw (own, long, later)

  -- rows look at no address and no size
  pub rows_kept : (map : SymbolMap) (shifts : List ℕ) (sections : List (SectionOf (Frag P ℕ))) → rows_of map (laid_out shifts sections) ≡ rows_of map sections
  unfolding rows_of
  rows_kept map shifts sections = rw (same_starts 0 shifts sections, same_count shifts sections) (same_from (rows_in map sections) 0 shifts sections)
