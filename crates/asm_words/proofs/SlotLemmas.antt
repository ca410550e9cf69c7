-- A row is found where its slot leads: each row stands in the slot of its name.
use Rattle.std.proofs.Common.{◌≡◌, ℕ, zero, suc, ◌+◌, ◌-◌, ◌<◌, ◌≤◌, ◌&&◌, Bool, true, false, cond, ltb, min, List, [], ◌∷◌, length, map, get_or, find, Option, None, Some, slice_get, refl, sym, ap, ◌∙◌, arith}
use Rattle.std.specs.Char.{to_ascii_lowercase}
use Rattle.std.proofs.lemmas.Bool.{eqb-true, false≢true}
use Rattle.std.proofs.lemmas.List.{length-map, get_or-map}
use Rattle.std.proofs.lemmas.Option.{none-some, same_Some}
use Rattle.std.proofs.lemmas.Slice.Eq.{bytes_eq-Decides}
use Rattle.asm_words.specs.Directives.{the_directives, the_directive_slots, directive_name, is_directive}
use Rattle.asm_words.specs.Slots.{slot_of, small_slot, slot, row_in, all_in_slots}

-- the slot of a name of one byte or none,
pub short_slot : (name : List ℕ) → length name < 2 → slot name ≡ 0
unfolding small_slot
short_slot [] short = refl
short_slot (a ∷ []) short = refl
short_slot (a ∷ b ∷ name) short = absurd (omega arith)

-- and of a longer one
pub long_slot : (name : List ℕ) → 2 ≤ length name
    → slot name ≡ slot_of (length name) (to_ascii_lowercase (get_or name 1 0)) (to_ascii_lowercase (get_or name (min (length name - 1) 5) 0))
    (to_ascii_lowercase (get_or name (length name - 1) 0))
unfolding small_slot
long_slot [] long = absurd (omega arith)
long_slot (a ∷ []) long = absurd (omega arith)
long_slot (a ∷ b ∷ name) long =
    let size : length (map to_ascii_lowercase (a ∷ b ∷ name)) ≡ length (a ∷ b ∷ name) = length-map (a ∷ b ∷ name) to_ascii_lowercase in
    let at : (i : ℕ) → i < length (a ∷ b ∷ name) → get_or (map to_ascii_lowercase (a ∷ b ∷ name)) i 0 ≡ to_ascii_lowercase (get_or (a ∷ b ∷ name) i 0) =
    λ i inside. get_or-map to_ascii_lowercase (a ∷ b ∷ name) i 0 0 inside in
    let long_too : ltb (length (map to_ascii_lowercase (a ∷ b ∷ name))) 2 ≡ false = grind (arith, size, long) in
    ap (λ (short : Bool). cond short 0 (slot_of (length (map to_ascii_lowercase (a ∷ b ∷ name))) (to_ascii_lowercase b)
    (get_or (map to_ascii_lowercase (a ∷ b ∷ name)) (min (length (map to_ascii_lowercase (a ∷ b ∷ name)) - 1) 5) 0)
    (get_or (map to_ascii_lowercase (a ∷ b ∷ name)) (length (map to_ascii_lowercase (a ∷ b ∷ name)) - 1) 0))) long_too
    ∙ (ap (λ n. slot_of n (to_ascii_lowercase b) (get_or (map to_ascii_lowercase (a ∷ b ∷ name)) (min (n - 1) 5) 0)
    (get_or (map to_ascii_lowercase (a ∷ b ∷ name)) (n - 1) 0)) size
    ∙ (ap (λ byte. slot_of (length (a ∷ b ∷ name)) (to_ascii_lowercase b) byte (get_or (map to_ascii_lowercase (a ∷ b ∷ name)) (length (a ∷ b ∷ name) - 1) 0))
    (at (min (length (a ∷ b ∷ name) - 1) 5) (omega arith))
    ∙ ap (λ byte. slot_of (length (a ∷ b ∷ name)) (to_ascii_lowercase b) (to_ascii_lowercase (get_or (a ∷ b ∷ name) (min (length (a ∷ b ∷ name) - 1) 5) 0)) byte)
    (at (length (a ∷ b ∷ name) - 1) (omega arith))))

both : (a b : Bool) → (a && b) ≡ true → (a ≡ true) × (b ≡ true)
both true b is = (refl, is)
both false b is = absurd (false≢true is)

false_by : (b : Bool) → (b ≡ true → ⊥) → b ≡ false
false_by true never = absurd (never refl)
false_by false never = refl

module _ {X : Type 0} where
  not_first : (passes : Bool) (x : X) (rest : Option X) → passes ≡ false → cond passes (Some x) rest ≡ rest
  not_first true x rest is = absurd (false≢true (sym is))
  not_first false x rest is = refl

  alone_first : (passes : Bool) (x : X) (rest : Option X) → rest ≡ None → cond passes (Some x) rest ≡ cond passes (Some x) None
  alone_first true x rest is = refl
  alone_first false x rest is = is

  module _ (test : X → Bool) where
    -- what is there, if it passes
    abbrev pub passing : Option X → Option X
    passing None = None
    passing (Some x) = cond (test x) (Some x) None

    none_passes : (rows : List X) → ((i : ℕ) (row : X) → slice_get rows i ≡ Some row → test row ≡ true → ⊥) → find test rows ≡ None
    none_passes [] never = refl
    none_passes (x ∷ rows) never =
        not_first (test x) x (find test rows) (false_by (test x) (never zero x refl)) ∙ none_passes rows (λ i row there. never (suc i) row there)

    -- where a row passes at one place at most, what passes is what stands there
    only_there : (rows : List X) (k : ℕ) → ((i : ℕ) (row : X) → slice_get rows i ≡ Some row → test row ≡ true → i ≡ k)
        → find test rows ≡ passing (slice_get rows k)
    only_there [] k only = refl
    only_there (x ∷ rows) zero only =
        alone_first (test x) x (find test rows) (none_passes rows (λ i row there is. let later : suc i ≡ zero = only (suc i) row there is in absurd (omega arith)))
    only_there (x ∷ rows) (suc k) only =
        not_first (test x) x (find test rows) (false_by (test x) (λ is. let later : zero ≡ suc k = only zero x refl is in absurd (omega arith)))
        ∙ only_there rows k (λ i row there is. let later : suc i ≡ suc k = only (suc i) row there is in omega arith)

  module _ (name : X → List ℕ) (slots : List ℕ) where
    -- the row at a place, from this number on
    stands : (rows : List X) (number i : ℕ) (row : X) → all_in_slots name slots number rows ≡ true → slice_get rows i ≡ Some row → row_in slots (name row) ≡ number + i
    stands [] number i row all there = absurd (none-some row there)
    stands (x ∷ rows) number zero row all there =
        let same : x ≡ row = same_Some x row there in
        let here : row_in slots (name x) ≡ number = eqb-true _ _ (both _ _ all).0 in
        ap (λ one. row_in slots (name one)) (sym same) ∙ (here ∙ omega arith)
    stands (x ∷ rows) number (suc i) row all there =
        stands rows (number + 1) i row (both _ _ all).1 there ∙ omega arith

    -- a search by a name finds what the slot of the name leads to
    found_by_slot : (test : X → Bool) (rows : List X) (wanted : List ℕ) → all_in_slots name slots 0 rows ≡ true
        → ((row : X) → test row ≡ true → slot (name row) ≡ slot wanted) → find test rows ≡ passing test (slice_get rows (row_in slots wanted))
    found_by_slot test rows wanted all same =
        only_there test rows (row_in slots wanted) (λ i row there is.
        let here : row_in slots (name row) ≡ 0 + i = stands rows 0 i row all there in
        let moved : row_in slots (name row) ≡ row_in slots wanted = ap (λ n. get_or slots n 0) (same row is) in
        omega arith)

directives_in_slots : all_in_slots directive_name the_directive_slots 0 the_directives ≡ true
unfolding the_directive_slots the_directives small_slot
directives_in_slots = refl

module _ {X : Type 0} (test : X → Bool) (rows : List X) (n : ℕ) (is : find test rows ≡ passing test (slice_get rows n)) where
  -- it is the row that stands there, where that passes, and else none
  pub there_if : (row : X) → slice_get rows n ≡ Some row → test row ≡ true → Some row ≡ find test rows
  there_if row there passes = sym (is ∙ ap (passing test) there ∙ ap (λ b. cond b (Some row) None) passes)

  pub not_there : (row : X) → slice_get rows n ≡ Some row → test row ≡ false → None ≡ find test rows
  not_there row there fails = sym (is ∙ ap (passing test) there ∙ ap (λ b. cond b (Some row) None) fails)

  pub nothing_there : slice_get rows n ≡ None → None ≡ find test rows
  nothing_there none = sym (is ∙ ap (passing test) none)

-- the directive of a name is that of its slot, if it has the name
pub directive_by_slot : (name : List ℕ) (n : ℕ) → n ≡ row_in the_directive_slots name
    → find (is_directive name) the_directives ≡ passing (is_directive name) (slice_get the_directives n)
directive_by_slot name n leads =
    found_by_slot directive_name the_directive_slots (is_directive name) the_directives name directives_in_slots
    (λ row is. ap slot ((bytes_eq-Decides (directive_name row) name).0 is))
    ∙ ap (λ k. passing (is_directive name) (slice_get the_directives k)) (sym leads)
