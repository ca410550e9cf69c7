-- Counts of open functions, and the last function of each symbol, where functions end.
use Rattle.std.proofs.Common.{◌≡◌, ◌≢◌, ◌≤◌, ◌<◌, ◌+◌, ◌-◌, ℕ, zero, suc, Bool, true, false, cond, List, [], ◌∷◌, length, get_or, set, map, Option, None, Some, refl, sym, ap, subst, ◌∙◌, arith}
use Rattle.std.specs.Prelude.{◌==◌, ◌&&◌, if◌then◌else◌, not, slice_get, option_map, slice_index}
use Rattle.std.specs.Option.{is_none, option_map_or}
use Rattle.std.specs.List.{count_by, AllWithin}
use Rattle.std.proofs.lemmas.Bool.Decides.{nat_tests}
use Rattle.std.proofs.lemmas.List.{get_or-set_same, get_or-set_other, get_or-map, set-get_or, length-map, length-set, map-set}
use Rattle.std.proofs.lemmas.Option.{slice_get_within, get_or_from_slice_get}
use Rattle.std.proofs.lemmas.List.Sums.{sum_by-set}
use Rattle.asm_base.specs.declared.places.Place.{Place}
use Rattle.code_functions.specs.Recorded.{Recorded, extent_of, is_open, is_open_in, closed_by, closed_at, all_closed, last_in}
use Rattle.code_functions.specs.declared.extents.Extent.{Extent}
use Rattle.code_functions.specs.Tallies.{AreCounted, HaveEnded, AreTold}
use Rattle.code_functions.proofs.TallyLemmas.{set_there, some_within}

-- A FUNCTION THAT ENDS

module _ {A : Type 0} (ends : ℕ → Place) where
  -- it is not open
  closed_ends : (f : Recorded A) → is_open (closed_by ends f) ≡ false
  closed_ends f = by (is_open f) refl where
    by : (b : Bool) → is_open f ≡ b → is_open (if b then record f { stop = Some (ends f.section) } else f) ≡ false
    by true is = refl
    by false is = is

  closed_symbol : (f : Recorded A) → (closed_by ends f).symbol ≡ f.symbol
  closed_symbol f = by (is_open f) where
    by : (b : Bool) → (if b then record f { stop = Some (ends f.section) } else f).symbol ≡ f.symbol
    by true = refl
    by false = refl

  -- one that is not open stays
  closed_stays : (f : Recorded A) → is_open f ≡ false → closed_by ends f ≡ f
  closed_stays f none = ap (λ b. if b then record f { stop = Some (ends f.section) } else f) none

  -- a function of this number
  pub at_number : (number : ℕ) (functions : List (Recorded A)) (f : Recorded A) → slice_get functions number ≡ Some f
      → closed_at ends number functions ≡ set functions number (closed_by ends f)
  at_number number functions f there = ap (λ o. option_map_or (λ g. set functions number (closed_by ends g)) o functions) there

  -- where it is not open, all stay
  pub ended_stays : (number : ℕ) (functions : List (Recorded A)) (f : Recorded A) → slice_get functions number ≡ Some f → is_open f ≡ false
      → closed_at ends number functions ≡ functions
  ended_stays number functions f there none =
      at_number number functions f there ∙ ap (set functions number) (closed_stays f none ∙ sym (get_or_from_slice_get functions number f f there)) ∙ set-get_or functions number f

  -- the counts without it
  module _ (counts : List ℕ) (all number : ℕ) (functions : List (Recorded A)) (f : Recorded A) (counted : AreCounted counts all functions)
      (there : slice_get functions number ≡ Some f) (open_now : is_open f ≡ true) where
    inside : number < length functions
    inside = slice_get_within functions number f there

    same : get_or functions number f ≡ f
    same = get_or_from_slice_get functions number f f there

    -- how many of a kind there are, where the function was one of them or not, and is none now
    less : (p : Recorded A → Bool) → p (closed_by ends f) ≡ false → count_by p (set functions number (closed_by ends f)) + cond (p f) 1 0 ≡ count_by p functions
    less p none =
        let moved = sum_by-set (λ (g : Recorded A). cond (p g) 1 0) functions number (closed_by ends f) f inside in
        let was : ◌≡◌ {A = ℕ} (cond (p (get_or functions number f)) 1 0) (cond (p f) 1 0) = ap (λ g. cond (p g) 1 0) same in
        let now : ◌≡◌ {A = ℕ} (cond (p (closed_by ends f)) 1 0) (0) = ap (λ b. cond b 1 0) none in
        omega (arith, moved, was, now)

    -- of a section
    closed_in : (s : ℕ) → is_open_in s (closed_by ends f) ≡ false
    closed_in s = ap (λ b. b && ((closed_by ends f).section == s)) (closed_ends f)

    sections_less : (s : ℕ) (b : Bool) → (f.section == s) ≡ b
        → (if b then slice_index counts f.section - 1 else slice_index counts s) ≡ count_by (is_open_in s) (set functions number (closed_by ends f))
    sections_less s true is =
        let here : f.section ≡ s = grind (arith, nat_tests) in
        let one : ◌≡◌ {A = ℕ} (cond (is_open_in s f) 1 0) (1) = ap (λ b. cond (b && (f.section == s)) 1 0) open_now ∙ ap (λ b. cond b 1 0) is in
        let moved : slice_index counts f.section ≡ slice_index counts s = ap (slice_index counts) here in
        omega (arith, less (is_open_in s) (closed_in s), one, moved, counted.sections s)
    sections_less s false is =
        let none : ◌≡◌ {A = ℕ} (cond (is_open_in s f) 1 0) (0) = ap (λ b. cond (b && (f.section == s)) 1 0) open_now ∙ ap (λ b. cond b 1 0) is in
        omega (arith, less (is_open_in s) (closed_in s), none, counted.sections s)

    -- it was counted
    pub was_counted : (1 ≤ slice_index counts f.section) × (1 ≤ all)
    was_counted =
        let one : ◌≡◌ {A = ℕ} (cond (is_open_in f.section f) 1 0) (1) = ap (λ b. cond (b && (f.section == f.section)) 1 0) open_now ∙ ap (λ b. cond b 1 0) (let self : (f.section == f.section) ≡ true = grind (arith, nat_tests) in self) in
        let whole : ◌≡◌ {A = ℕ} (cond (is_open f) 1 0) (1) = ap (λ b. cond b 1 0) open_now in
        (omega (arith, less (is_open_in f.section) (closed_in f.section), one, counted.sections f.section), omega (arith, less is_open (closed_ends f), whole, counted.total))

    closed_counted : f.section < length counts
        → AreCounted (set counts f.section (slice_index counts f.section - 1)) (all - 1) (set functions number (closed_by ends f))
    closed_counted within = record {
      sections = λ s. set_there counts s f.section (slice_index counts f.section - 1) within ∙ sections_less s (f.section == s) refl;
      total =
          let one : ◌≡◌ {A = ℕ} (cond (is_open f) 1 0) (1) = ap (λ b. cond b 1 0) open_now in
          omega (arith, less is_open (closed_ends f), one, counted.total);
    }

  symbols_set : (number : ℕ) (functions : List (Recorded A)) (f : Recorded A) → slice_get functions number ≡ Some f
      → map (λ g. g.symbol) (set functions number (closed_by ends f)) ≡ map (λ g. g.symbol) functions
  symbols_set number functions f there =
      map-set (λ (g : Recorded A). g.symbol) functions number (closed_by ends f)
      ∙ ap (set (map (λ g. g.symbol) functions) number)
      (closed_symbol f ∙ ap (λ (g : Recorded A). g.symbol) (sym (get_or_from_slice_get functions number f f there))
      ∙ sym (get_or-map (λ (g : Recorded A). g.symbol) functions number f f.symbol (slice_get_within functions number f there)))
      ∙ set-get_or (map (λ g. g.symbol) functions) number f.symbol

  -- those that had ended have ended
  set_ended : (first number : ℕ) (functions : List (Recorded A)) (f : Recorded A) → HaveEnded first functions → HaveEnded first (set functions number (closed_by ends f))
  set_ended first number functions f ended = record {
    within = omega (arith, ended.within, length-set functions number (closed_by ends f));
    each = λ k d low high. by k d low high (k == number) refl;
  } where
    by : (k : ℕ) (d : Recorded A) → 0 ≤ k → k < first → (b : Bool) → (k == number) ≡ b → is_open (get_or (set functions number (closed_by ends f)) k d) ≡ false
    by k d low high true is =
        let same : k ≡ number = grind (arith, nat_tests) in
        ap is_open (ap (λ i. get_or (set functions i (closed_by ends f)) k d) (sym same) ∙ get_or-set_same functions k (closed_by ends f) d (omega (arith, high, ended.within)))
        ∙ closed_ends f
    by k d low high false is =
        let other : k ≢ number = λ same. grind (arith, nat_tests) in
        ap is_open (get_or-set_other functions number k (closed_by ends f) d other) ∙ ended.each k d low high

  pub closed_told : (counts : List ℕ) (all : ℕ) (numbers : List ℕ) (first number : ℕ) (functions : List (Recorded A)) (f : Recorded A)
      → AreTold counts all numbers first functions → slice_get functions number ≡ Some f → is_open f ≡ true
      → AreTold (set counts f.section (slice_index counts f.section - 1)) (all - 1) numbers first (set functions number (closed_by ends f))
  closed_told counts all numbers first number functions f told there open_now = record {
    counted = closed_counted counts all number functions f told.counted there open_now
        (some_within counts f.section (was_counted counts all number functions f told.counted there open_now).0);
    numbered = record { each = λ s. told.numbered.each s ∙ sym (ap (last_in s) (symbols_set number functions f there)) };
    ended = set_ended first number functions f told.ended;
  }

  -- ALL FUNCTIONS END

  -- the functions up to one have ended
  abbrev pub closed_up_to : ℕ → List (Recorded A) → List (Recorded A)
  closed_up_to zero functions = functions
  closed_up_to (suc number) [] = []
  closed_up_to (suc number) (f ∷ functions) = closed_by ends f ∷ closed_up_to number functions

  pub length_up_to : (number : ℕ) (functions : List (Recorded A)) → length (closed_up_to number functions) ≡ length functions
  length_up_to zero functions = refl
  length_up_to (suc number) [] = refl
  length_up_to (suc number) (f ∷ functions) = ap suc (length_up_to number functions)

  -- behind a first one
  behind_first : (c : Recorded A) (number : ℕ) (functions : List (Recorded A)) → closed_at ends (suc number) (c ∷ functions) ≡ c ∷ closed_at ends number functions
  behind_first c number functions = by (slice_get functions number) where
    by : (o : Option (Recorded A)) → option_map_or (λ f. set (c ∷ functions) (suc number) (closed_by ends f)) o (c ∷ functions)
        ≡ c ∷ option_map_or (λ f. set functions number (closed_by ends f)) o functions
    by None = refl
    by (Some f) = refl

  -- one more
  next_up_to : (number : ℕ) (functions : List (Recorded A)) → number < length functions
      → closed_at ends number (closed_up_to number functions) ≡ closed_up_to (suc number) functions
  next_up_to number [] within = absurd (omega (arith, within))
  next_up_to zero (f ∷ functions) within = refl
  next_up_to (suc number) (f ∷ functions) within =
      behind_first (closed_by ends f) number (closed_up_to number functions)
      ∙ ap (λ rest. closed_by ends f ∷ rest) (next_up_to number functions (omega (arith, within)))

  pub more_up_to : (number next : ℕ) (functions : List (Recorded A)) → number < length functions → next ≡ number + 1
      → closed_at ends number (closed_up_to number functions) ≡ closed_up_to next functions
  more_up_to number next functions within is =
      next_up_to number functions within ∙ ap (λ n. closed_up_to n functions) (let same : suc number ≡ next = omega (arith, is) in same)

  -- those that had ended stay
  start_from : (first : ℕ) (functions : List (Recorded A)) → first ≤ length functions → AllWithin (λ f. is_open f ≡ false) functions 0 first
      → closed_up_to first functions ≡ functions
  start_from zero functions within ended = refl
  start_from (suc first) [] within ended = absurd (omega (arith, within))
  start_from (suc first) (f ∷ functions) within ended =
      ap (λ g. g ∷ closed_up_to first functions) (closed_stays f (ended 0 f (omega arith) (omega arith)))
      ∙ ap (λ rest. f ∷ rest) (start_from first functions (omega (arith, within)) (λ k d low high. ended (suc k) d (omega arith) (omega (arith, high))))

  pub start_up_to : (first : ℕ) (functions : List (Recorded A)) → HaveEnded first functions → closed_up_to first functions ≡ functions
  start_up_to first functions ended = start_from first functions ended.within ended.each

  -- in the end all have
  pub whole_up_to : (functions : List (Recorded A)) → closed_up_to (length functions) functions ≡ all_closed ends functions
  whole_up_to [] = refl
  whole_up_to (f ∷ functions) = ap (λ rest. closed_by ends f ∷ rest) (whole_up_to functions)

  pub all_ended : (functions : List (Recorded A)) → HaveEnded (length (all_closed ends functions)) (all_closed ends functions)
  all_ended functions = record {
    within = omega arith;
    each = λ k d low high. ap is_open (get_or-map (closed_by ends) functions k d d (omega (arith, high, length-map functions (closed_by ends)))) ∙ closed_ends (get_or functions k d);
  }

  -- and nothing else is told otherwise
  pub told_whole : (counts : List ℕ) (all : ℕ) (numbers : List ℕ) (first count : ℕ) (before functions : List (Recorded A)) → AreTold counts all numbers first functions
      → functions ≡ all_closed ends before → count ≡ length functions → AreTold counts all numbers count functions
  told_whole counts all numbers first count before functions told is long = record {
    counted = told.counted;
    numbered = told.numbered;
    ended = subst (λ n. HaveEnded n functions) (sym long) (subst (λ fs. HaveEnded (length fs) fs) (sym is) (all_ended before));
  }

  -- where all have ended
  pub whole_at : (number : ℕ) (functions : List (Recorded A)) → number ≡ length functions → closed_up_to number functions ≡ all_closed ends functions
  whole_at number functions is = ap (λ n. closed_up_to n functions) is ∙ whole_up_to functions

  -- AS THE CALLS HAVE IT

  -- a function by what is known of it without its items
  module _ (counts : List ℕ) (all : ℕ) (numbers : List ℕ) (first number : ℕ) (functions : List (Recorded A)) (extent : Extent)
      (told : AreTold counts all numbers first functions) (found_at : option_map extent_of (slice_get functions number) ≡ Some extent) (open_now : is_none extent.stop ≡ true) where
    -- it is there
    record There : Type 0 where
      f : Recorded A
      there : slice_get functions number ≡ Some f
      same : extent_of f ≡ extent

    there_is : There
    there_is = by (slice_get functions number) refl found_at where
      by : (o : Option (Recorded A)) → slice_get functions number ≡ o → option_map extent_of o ≡ Some extent → There
      by None is none = absurd (cc)
      by (Some f) is some = record { f = f; there = is; same = let same : extent_of f ≡ extent = cc in same }

    is_open_there : is_open there_is.f ≡ true
    is_open_there = ap (λ (e : Extent). is_none e.stop) there_is.same ∙ open_now

    same_section : there_is.f.section ≡ extent.section
    same_section = ap (λ (e : Extent). e.section) there_is.same

    pub extent_counted : (1 ≤ slice_index counts extent.section) × (1 ≤ all)
    extent_counted =
        subst (λ (s : ℕ). (1 ≤ slice_index counts s) × (1 ≤ all)) same_section
        (was_counted counts all number functions there_is.f told.counted there_is.there is_open_there)

    pub extent_told : AreTold (set counts extent.section (slice_index counts extent.section - 1)) (all - 1) numbers first (closed_at ends number functions)
    extent_told =
        subst (λ (fs : List (Recorded A)). AreTold (set counts extent.section (slice_index counts extent.section - 1)) (all - 1) numbers first fs)
        (sym (at_number number functions there_is.f there_is.there))
        (subst (λ (s : ℕ). AreTold (set counts s (slice_index counts s - 1)) (all - 1) numbers first (set functions number (closed_by ends there_is.f))) same_section
        (closed_told counts all numbers first number functions there_is.f told there_is.there is_open_there))
