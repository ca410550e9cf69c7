-- No place of a section that is laid out and not too large stands above its end.
use Rattle.std.proofs.Common.{◌≡◌, ℕ, zero, suc, ◌+◌, ◌-◌, ◌^◌, ◌<◌, ◌≤◌, inl, inr, Bool, true, false, cond, List, [], ◌∷◌, Option, Some, None, length, drop, refl, sym, ap, ◌∙◌, subst, arith}
use Rattle.std.specs.Prelude.{◌==◌, All, slice_get, slice_index}
use Rattle.std.specs.Option.{option_map_or}
use Rattle.std.proofs.Math.Dec.{eqb-suc-zero}
use Rattle.std.proofs.lemmas.Bool.{cases_lt, ltb-false}
use Rattle.std.proofs.lemmas.List.Elements.{All-head, All-tail, All-cons}
use Rattle.std.proofs.lemmas.Option.{slice_get_past}
use Rattle.asm_expr.specs.Forms.{wrapped}
use Rattle.asm_symbols.specs.SymbolMap.{SymbolMap}
use Rattle.asm_frags.specs.declared.items.Frag.{Frag}
use Rattle.asm_frags.specs.SectionOf.{SectionOf}
use Rattle.asm_frags.specs.Addresses.{item_laid_at}
use Rattle.asm_levels.specs.declared.rows.Row.{Row}
use Rattle.asm_levels.specs.Needs.{need, tops}
use Rattle.asm_levels.specs.Shifts.{shifts_of}
use Rattle.level_ranks.specs.Ranks.{IsLayout}
use Rattle.item_rows.specs.ItemRows.{row_count, rows_of}
use Rattle.asm_relax.specs.declared.faults.LayoutFault.{LayoutFault}
use Rattle.asm_relax.specs.declared.faults.LayoutFault.TheVariants.{SectionTooLarge}
use Rattle.asm_relax.specs.Faults.{or_later, first_of}
use Rattle.asm_relax.specs.Final.{shift_in, section_size}
use Rattle.asm_relax.specs.Layout.{laid_from, laid_out_section, laid_out, AreWithin}
use Rattle.asm_relax.specs.LowPlaces.{MovesOn, KeepsLow}
use Rattle.asm_relax.specs.RangeChecks.{is_large, large_place, end_shift, whole_size, large_section}
use Rattle.asm_relax.specs.Settling.{LaidSections}
use Rattle.asm_relax.proofs.PlaceLemmas.{rise_at, moved_as_row}
use Rattle.asm_relax.specs.RisingRows.{Rise, AllRise}
use Rattle.asm_relax.proofs.ShiftTail.{ranked_within, rows_rise}

-- what holds of all elements holds of the one at an index
pub all_get : {X : Type 0} (P : X → Type 0) (xs : List X) (n : ℕ) (x : X) → slice_get xs n ≡ Some x → All P xs → P x
all_get P [] n x is all = absurd cc
all_get P (y ∷ ys) zero x is all = let same : y ≡ x = cc in subst P same (All-head P y ys all)
all_get P (y ∷ ys) (suc n) x is all = all_get P ys n x is (All-tail P y ys all)

-- behind the first shift stand the others
next_shift : (shifts : List ℕ) (index : ℕ) → slice_index (drop 1 shifts) index ≡ slice_index shifts (suc index)
next_shift [] index = refl
next_shift (shift ∷ shifts) index = refl

module _ {P : Type 0} where
  -- the items stand behind as many plain bytes as before they were laid out
  low_before : (shifts : List ℕ) (items : List (Frag P ℕ)) → All (λ item. item.offset < 2 ^ 64) (laid_from shifts items) → All (λ item. item.offset < 2 ^ 64) items
  low_before shifts [] low = λ index default inside. absurd (omega arith)
  low_before shifts (x ∷ xs) low =
      let first = item_laid_at (x.offset + slice_index shifts 0) (slice_index shifts 1 - slice_index shifts 0) x in
      let later = laid_from (drop 1 shifts) xs in
      All-cons (λ (item : Frag P ℕ). item.offset < 2 ^ 64) x xs (All-head (λ (item : Frag P ℕ). item.offset < 2 ^ 64) first later low)
      (low_before (drop 1 shifts) xs (All-tail (λ (item : Frag P ℕ). item.offset < 2 ^ 64) first later low))

  as_many : (shifts : List ℕ) (items : List (Frag P ℕ)) → length (laid_from shifts items) ≡ length items
  as_many shifts [] = refl
  as_many shifts (x ∷ xs) = ap suc (as_many (drop 1 shifts) xs)

  -- rows behind are moved as far or farther
  rise_to : (shifts : List ℕ) (items : List (Frag P ℕ)) (n more : ℕ) → Rise shifts items → n + more ≤ length items → slice_index shifts n ≤ slice_index shifts (n + more)
  rise_to shifts items n zero rise within = let same : n + 0 ≡ n = omega arith in rw same (omega arith)
  rise_to shifts items n (suc more) rise within =
      let before = rise_to shifts items n more rise (omega arith) in
      let step = rise_at shifts items (n + more) rise (omega arith) in
      let same : n + suc more ≡ suc (n + more) = omega arith in
      rw same (omega arith)

  -- nothing stands behind more items than there are
  past_all : (items : List (Frag P ℕ)) (n : ℕ) → length items < n → shift_in items n ≡ 0
  unfolding shift_in
  past_all items zero far = absurd (omega arith)
  past_all items (suc n) far =
      let some : (suc n == 0) ≡ false = eqb-suc-zero n in
      let one : suc n - 1 ≡ n = omega arith in
      let none : slice_get items n ≡ None = slice_get_past items n (omega arith) in
      rw (some, one, none) refl

  -- what an item moves the end by
  abbrev moved_by : Option (Frag P ℕ) → ℕ
  moved_by found = option_map_or (λ item. item.address + item.size - item.offset) found 0

  -- behind another item the last one is the same
  last_behind : (first next : Frag P ℕ) (items : List (Frag P ℕ)) → end_shift (first ∷ next ∷ items) ≡ end_shift (next ∷ items)
  last_behind first next items =
      let one : length (first ∷ next ∷ items) - 1 ≡ suc (length items) = omega arith in
      let other : length (next ∷ items) - 1 ≡ length items = omega arith in
      ap (λ n. moved_by (slice_get (first ∷ next ∷ items) n)) one ∙ sym (ap (λ n. moved_by (slice_get (next ∷ items) n)) other)

  -- the row behind the last item is moved as far
  last_moves : (first : Frag P ℕ) (items : List (Frag P ℕ)) (shifts : List ℕ) → Rise shifts (first ∷ items) → end_shift (laid_from shifts (first ∷ items)) ≡ slice_index shifts (suc (length items))
  last_moves first [] shifts rise =
      let up = rise.0 in
      let end : first.offset + slice_index shifts 0 + (slice_index shifts 1 - slice_index shifts 0) - first.offset ≡ slice_index shifts 1 = omega (arith, up) in
      end
  last_moves first (next ∷ items) shifts rise =
      let one = item_laid_at (first.offset + slice_index shifts 0) (slice_index shifts 1 - slice_index shifts 0) first in
      let later = drop 1 shifts in
      let two = item_laid_at (next.offset + slice_index later 0) (slice_index later 1 - slice_index later 0) next in
      last_behind one two (laid_from (drop 1 later) items) ∙ (last_moves next items later rise.1 ∙ next_shift shifts (suc (length items)))

  -- and so is the one behind all items
  end_moves : (shifts : List ℕ) (items : List (Frag P ℕ)) → slice_index shifts 0 ≡ 0 → Rise shifts items → end_shift (laid_from shifts items) ≡ slice_index shifts (length items)
  end_moves shifts [] start rise = sym start
  end_moves shifts (item ∷ items) start rise = last_moves item items shifts rise

  moves_one : (shifts : List ℕ) (section : SectionOf (Frag P ℕ)) → slice_index shifts 0 ≡ 0 → Rise shifts section.items → MovesOn (laid_out_section shifts section)
  moves_one shifts section start rise low before =
      let items = section.items in
      let offsets = low_before shifts items low in
      let many = as_many shifts items in
      let end : end_shift (laid_from shifts items) ≡ slice_index shifts (length items) = end_moves shifts items start rise in
      elim (cases_lt (length items) before) [
        | inl past ↦ (let none = past_all (laid_from shifts items) before (omega arith) in omega (arith, none))
        | inr within ↦ (
            let here : shift_in (laid_from shifts items) before ≡ wrapped (slice_index shifts before) = moved_as_row shifts items before within start rise offsets in
            let sum : before + (length items - before) ≡ length items = omega arith in
            let more : slice_index shifts before ≤ slice_index shifts (length items) = rw sum at (rise_to shifts items before (length items - before) rise (omega arith)) in
            omega (arith, here, more, end))
      ]

  moves_all : (shifts : List ℕ) (sections : List (SectionOf (Frag P ℕ))) → AllRise shifts sections → All MovesOn (laid_out shifts sections)
  moves_all shifts [] rise = λ index default inside. absurd (omega arith)
  moves_all shifts (section ∷ sections) (start, rise, rest) =
      All-cons MovesOn (laid_out_section shifts section) (laid_out (drop (row_count section) shifts) sections) (moves_one shifts section start rise)
      (moves_all (drop (row_count section) shifts) sections rest)

  -- a section without this fault is not too large
  pub not_large : (section : SectionOf (Frag P ℕ)) → large_section section ≡ None → whole_size section ≤ 2 ^ 30
  not_large section none = by (is_large (whole_size section)) refl
    where
      by : (b : Bool) → is_large (whole_size section) ≡ b → whole_size section ≤ 2 ^ 30
      by false is = ltb-false (2 ^ 30) (whole_size section) is
      by true is =
          let fault = SectionTooLarge (large_place section.items) (section_size section) in
          let gone : Some fault ≡ None = sym (ap (λ b. cond b (Some fault) None) is) ∙ none in
          absurd cc

  keeps_one : (section : SectionOf (Frag P ℕ)) → MovesOn section → large_section section ≡ None → KeepsLow section
  keeps_one section moves none low before =
      let small : whole_size section ≤ 2 ^ 30 = not_large section none in
      let most = moves low before in
      omega (arith, small, most)

  -- where no section is too large, each keeps low
  pub keeps_all : (sections : List (SectionOf (Frag P ℕ))) → All MovesOn sections → first_of large_section sections ≡ None → All KeepsLow sections
  unfolding first_of
  keeps_all [] moves none = λ index default inside. absurd (omega arith)
  keeps_all (section ∷ sections) moves none =
      let (first, rest) = both (large_section section) (first_of large_section sections) none in
      All-cons KeepsLow section sections (keeps_one section (All-head MovesOn section sections moves) first) (keeps_all sections (All-tail MovesOn section sections moves) rest)
    where
      both : (one other : Option LayoutFault) → or_later one other ≡ None → (one ≡ None) × (other ≡ None)
      both None other is = (refl, is)
      both (Some fault) other is = absurd cc

-- the sections of a layout move on
pub settled_moves : (symbols : SymbolMap) (sections laid : LaidSections) (rows : List Row) (levels shifts : List ℕ) (rounds : ℕ) → rows ≡ rows_of symbols sections
    → IsLayout (need rows) (tops rows) levels rounds → shifts ≡ shifts_of rows levels → laid ≡ laid_out shifts sections → All MovesOn laid
settled_moves symbols sections laid rows levels shifts rounds same layout moved placed =
    let within : AreWithin levels (rows_of symbols sections) = subst (λ (all : List Row). AreWithin levels all) same (ranked_within rows levels rounds layout) in
    let is : shifts ≡ shifts_of (rows_of symbols sections) levels = moved ∙ ap (λ (all : List Row). shifts_of all levels) same in
    let rise : AllRise shifts sections = subst (λ (all : List ℕ). AllRise all sections) (sym is) (rows_rise symbols levels sections within) in
    subst (λ (all : LaidSections). All MovesOn all) (sym placed) (moves_all shifts sections rise)
