-- A word is found where its slot leads: each row stands in the slot of its name.
use Rattle.std.proofs.Common.{◌≡◌, ℕ, zero, suc, ◌+◌, ◌-◌, ◌<◌, ◌≤◌, ◌&&◌, Bool, true, false, cond, ltb, List, [], ◌∷◌, length, get_or, find, Option, None, Some, slice_get, refl, sym, ap, ◌∙◌, arith}
use Rattle.std.proofs.lemmas.Bool.{eqb-true, false≢true}
use Rattle.std.proofs.lemmas.Option.{none-some, same_Some}
use Rattle.std.proofs.lemmas.Slice.Eq.{bytes_eq-Decides}
use Rattle.macro_words.specs.declared.words.WordRow.{WordRow}
use Rattle.macro_words.specs.Words.{the_words, the_word_slots, word_name, is_word, slot_of, slot, row_in, all_in_slots}

-- the slot of a name of one byte or none,
pub short_slot : (name : List ℕ) → length name < 2 → slot name ≡ 0
unfolding slot
short_slot [] short = refl
short_slot (a ∷ []) short = refl
short_slot (a ∷ b ∷ name) short = absurd (omega arith)

-- and of a longer one
pub long_slot : (name : List ℕ) → 2 ≤ length name
    → slot name ≡ slot_of (length name) (get_or name (length name - 2) 0) (get_or name (length name - 1) 0)
unfolding slot
long_slot name long =
    let long_too : ltb (length name) 2 ≡ false = grind (arith, long) in
    ap (λ (short : Bool). cond short 0 (slot_of (length name) (get_or name (length name - 2) 0) (get_or name (length name - 1) 0))) long_too

both : (a b : Bool) → (a && b) ≡ true → (a ≡ true) × (b ≡ true)
both true b is = (refl, is)
both false b is = absurd (false≢true is)

false_by : (b : Bool) → (b ≡ true → ⊥) → b ≡ false
false_by true never = absurd (never refl)
false_by false never = refl

not_first : (passes : Bool) (row : WordRow) (rest : Option WordRow) → passes ≡ false → cond passes (Some row) rest ≡ rest
not_first true row rest is = absurd (false≢true (sym is))
not_first false row rest is = refl

alone_first : (passes : Bool) (row : WordRow) (rest : Option WordRow) → rest ≡ None → cond passes (Some row) rest ≡ cond passes (Some row) None
alone_first true row rest is = refl
alone_first false row rest is = is

module _ (test : WordRow → Bool) where
  -- what is there, if it passes
  abbrev passing : Option WordRow → Option WordRow
  passing None = None
  passing (Some row) = cond (test row) (Some row) None

  none_passes : (rows : List WordRow) → ((i : ℕ) (row : WordRow) → slice_get rows i ≡ Some row → test row ≡ true → ⊥) → find test rows ≡ None
  none_passes [] never = refl
  none_passes (x ∷ rows) never =
      not_first (test x) x (find test rows) (false_by (test x) (never zero x refl)) ∙ none_passes rows (λ i row there. never (suc i) row there)

  -- where a row passes at one place at most, what passes is what stands there
  only_there : (rows : List WordRow) (k : ℕ) → ((i : ℕ) (row : WordRow) → slice_get rows i ≡ Some row → test row ≡ true → i ≡ k)
      → find test rows ≡ passing (slice_get rows k)
  only_there [] k only = refl
  only_there (x ∷ rows) zero only =
      alone_first (test x) x (find test rows) (none_passes rows (λ i row there is. let later : suc i ≡ zero = only (suc i) row there is in absurd (omega arith)))
  only_there (x ∷ rows) (suc k) only =
      not_first (test x) x (find test rows) (false_by (test x) (λ is. let later : zero ≡ suc k = only zero x refl is in absurd (omega arith)))
      ∙ only_there rows k (λ i row there is. let later : suc i ≡ suc k = only (suc i) row there is in omega arith)

-- the row at a place, from this number on
stands : (slots : List ℕ) (rows : List WordRow) (number i : ℕ) (row : WordRow) → all_in_slots slots number rows ≡ true → slice_get rows i ≡ Some row
    → row_in slots (word_name row) ≡ number + i
stands slots [] number i row all there = absurd (none-some row there)
stands slots (x ∷ rows) number zero row all there =
    let same : x ≡ row = same_Some x row there in
    let here : row_in slots (word_name x) ≡ number = eqb-true _ _ (both _ _ all).0 in
    ap (λ one. row_in slots (word_name one)) (sym same) ∙ (here ∙ omega arith)
stands slots (x ∷ rows) number (suc i) row all there =
    stands slots rows (number + 1) i row (both _ _ all).1 there ∙ omega arith

words_in_slots : all_in_slots the_word_slots 0 the_words ≡ true
unfolding the_word_slots the_words slot
words_in_slots = refl

-- a search by a name finds what the slot of the name leads to
found_by_slot : (name : List ℕ) → find (is_word name) the_words ≡ passing (is_word name) (slice_get the_words (row_in the_word_slots name))
found_by_slot name =
    only_there (is_word name) the_words (row_in the_word_slots name) (λ i row there is.
    let here : row_in the_word_slots (word_name row) ≡ 0 + i = stands the_word_slots the_words 0 i row words_in_slots there in
    let moved : row_in the_word_slots (word_name row) ≡ row_in the_word_slots name =
    ap (λ one. row_in the_word_slots one) ((bytes_eq-Decides (word_name row) name).0 is) in
    omega arith)

module _ (name : List ℕ) (n : ℕ) (leads : n ≡ row_in the_word_slots name) where
  found : find (is_word name) the_words ≡ passing (is_word name) (slice_get the_words n)
  found = found_by_slot name ∙ ap (λ k. passing (is_word name) (slice_get the_words k)) (sym leads)

  -- it is the row that stands there, where that has the name, and else none
  pub there_if : (row : WordRow) → slice_get the_words n ≡ Some row → is_word name row ≡ true → find (is_word name) the_words ≡ Some row
  there_if row there passes = found ∙ ap (passing (is_word name)) there ∙ ap (λ b. cond b (Some row) None) passes

  pub not_there : (row : WordRow) → slice_get the_words n ≡ Some row → is_word name row ≡ false → find (is_word name) the_words ≡ None
  not_there row there fails = found ∙ ap (passing (is_word name)) there ∙ ap (λ b. cond b (Some row) None) fails

  pub nothing_there : slice_get the_words n ≡ None → find (is_word name) the_words ≡ None
  nothing_there none = found ∙ ap (passing (is_word name)) none
