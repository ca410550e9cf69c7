-- Counts of open functions, and the last function of each symbol, where functions begin and take items.
use Rattle.std.proofs.Common.{◌≡◌, ◌≢◌, ◌≤◌, ◌<◌, ◌+◌, ◌-◌, ℕ, zero, suc, Bool, true, false, cond, List, [], ◌∷◌, ◌++◌, length, get_or, set, map, Option, None, Some, Result, Ok, Err, refl, sym, ap, subst, ◌∙◌, arith}
use Rattle.std.specs.Prelude.{◌==◌, ◌&&◌, ◌||◌, if◌then◌else◌, not, OnOk, OnErr, slice_index}
use Rattle.std.specs.Option.{option_map_or}
use Rattle.std.specs.List.{count_by, list_any}
use Rattle.std.proofs.lemmas.Bool.{true≢false}
use Rattle.std.proofs.lemmas.Bool.Decides.{nat_tests}
use Rattle.std.proofs.lemmas.List.{get_or-set_same, get_or-set_other, get_or_past, get_or_append_left, get_or-map, length-append, length-map, map-append}
use Rattle.std.proofs.lemmas.List.Sums.{sum_by-cons, sum_by_push, count_by-le-length}
use Rattle.asm_base.specs.declared.places.Place.{Place}
use Rattle.asm_base.specs.declared.positions.Pos.{Pos}
use Rattle.code_functions.specs.Recorded.{Recorded, is_open, is_open_in, is_open_beside, is_split, with_item, added, closed_at, closed_of, begun, later_of, last_in, last_of}
use Rattle.code_functions.specs.Tallies.{AreCounted, number_by, AreNumbered, HaveEnded, AreTold}

-- COUNTS

module _ {X Y : Type 0} (p : Y → Bool) (q : X → Bool) (f : X → Y) (same : (x : X) → p (f x) ≡ q x) where
  -- what a change of each element leaves of a count
  pub count_map : (xs : List X) → count_by p (map f xs) ≡ count_by q xs
  count_map [] = refl
  count_map (x ∷ xs) =
      sum_by-cons (λ y. cond (p y) 1 0) (f x) (map f xs)
      ∙ ap (λ b. cond b 1 0 + count_by p (map f xs)) (same x)
      ∙ ap (λ n. cond (q x) 1 0 + n) (count_map xs)
      ∙ sym (sum_by-cons (λ x. cond (q x) 1 0) x xs)

module _ {A : Type 0} where
  -- a count of those that are open in a section and of those that are open beside it is one of all that are open
  open_or_beside : (f : Recorded A) (section : ℕ) → cond (is_open f) 1 0 ≡ cond (is_open_in section f) 1 0 + cond (is_open_beside section f) 1 0
  open_or_beside f section = by (is_open f) (f.section == section) where
    by : (o s : Bool) → cond o 1 0 ≡ cond (o && s) 1 0 + cond (o && not s) 1 0
    by true true = refl
    by true false = refl
    by false s = refl

  parted : (section : ℕ) (functions : List (Recorded A))
      → count_by is_open functions ≡ count_by (is_open_in section) functions + count_by (is_open_beside section) functions
  parted section [] = refl
  parted section (f ∷ functions) =
      let all = sum_by-cons (λ (g : Recorded A). cond (is_open g) 1 0) f functions in
      let here = sum_by-cons (λ (g : Recorded A). cond (is_open_in section g) 1 0) f functions in
      let other = sum_by-cons (λ (g : Recorded A). cond (is_open_beside section g) 1 0) f functions in
      let one = open_or_beside f section in
      let rest = parted section functions in
      omega arith

  -- a count is none exactly where nothing is found
  found : (p : Recorded A → Bool) (functions : List (Recorded A)) → list_any p functions ≡ not (count_by p functions == 0)
  found p [] = refl
  found p (f ∷ functions) =
      by (p f) (list_any p functions) (count_by p functions) (found p functions)
      ∙ ap (λ n. not (n == 0)) (sym (sum_by-cons (λ (g : Recorded A). cond (p g) 1 0) f functions)) where
        by : (b later : Bool) (count : ℕ) → later ≡ not (count == 0) → (b || later) ≡ not (cond b 1 0 + count == 0)
        by true later count is = grind (arith, nat_tests)
        by false later count is = is ∙ ap (λ n. not (n == 0)) (let same : count ≡ 0 + count = omega arith in same)

  -- so that the counts tell whether a function is split
  pub split_told : (counts : List ℕ) (all section : ℕ) (functions : List (Recorded A)) → AreCounted counts all functions
      → is_split section functions ≡ not (slice_index counts section == all)
  split_told counts all section functions counted =
      found (is_open_beside section) functions
      ∙ ap not (rest_none (slice_index counts section) (count_by (is_open_beside section) functions) all
      (omega (arith, parted section functions, counted.sections section, counted.total))) where
        rest_none : (here rest whole : ℕ) → whole ≡ here + rest → (rest == 0) ≡ (here == whole)
        rest_none here rest whole is = grind (arith, nat_tests)

-- THE LAST FUNCTION OF A SYMBOL

-- one number more in a list
last_pushed : (number : ℕ) (list : List ℕ) (one : ℕ) → last_in number (list ++ one ∷ []) ≡ (if one == number then Some (length list) else last_in number list)
last_pushed number [] one = by (one == number) where
  by : (b : Bool) → later_of b None ≡ (if b then Some 0 else None)
  by true = refl
  by false = refl
last_pushed number (first ∷ list) one =
    ap (later_of (first == number)) (last_pushed number list one) ∙ by (one == number) where
      by : (b : Bool) → later_of (first == number) (if b then Some (length list) else last_in number list) ≡ (if b then Some (length (first ∷ list)) else later_of (first == number) (last_in number list))
      by true = ap Some (omega arith)
      by false = refl

-- it is one of the list
last_within : (number : ℕ) (list : List ℕ) (at : ℕ) → last_in number list ≡ Some at → at < length list
last_within number [] at is = absurd (cc)
last_within number (first ∷ list) at is = by (first == number) (last_in number list) refl is (last_within number list) where
  by : (b : Bool) (o : Option ℕ) → last_in number list ≡ o → later_of b o ≡ Some at → ((behind : ℕ) → last_in number list ≡ Some behind → behind < length list)
      → at < length (first ∷ list)
  by b (Some behind) found told again = let lower = again behind found in let same : behind + 1 ≡ at = cc in omega (arith, lower, same)
  by true None found told again = let same : 0 ≡ at = cc in omega (arith, same)
  by false None found told again = absurd (cc)

-- at a number of a list that is set, and at the others
pub set_there : (list : List ℕ) (at here number : ℕ) → here < length list → slice_index (set list here number) at ≡ (if here == at then number else slice_index list at)
set_there list at here number within = by (here == at) refl where
  by : (b : Bool) → (here == at) ≡ b → slice_index (set list here number) at ≡ (if b then number else slice_index list at)
  by true is =
      let same : here ≡ at = grind (arith, nat_tests) in
      ap (λ i. get_or (set list here number) i 0) (sym same) ∙ get_or-set_same list here number 0 within
  by false is =
      let other : at ≢ here = λ same. grind (arith, nat_tests) in
      get_or-set_other list here at number 0 other

-- a number that is not 0 has its place
pub some_within : (list : List ℕ) (at : ℕ) → 1 ≤ slice_index list at → at < length list
some_within list at some = grind (arith, nat_tests, get_or_past)

-- A FUNCTION THAT BEGINS

module _ {A : Type 0} (symbol : ℕ) (pos : Pos) (section : ℕ) (start : Place) (functions : List (Recorded A)) where
  -- the function
  abbrev fresh : Recorded A
  fresh = record { symbol = symbol; pos = pos; section = section; start = start; stop = None; items = [] }

  begun_counted : (counts : List ℕ) (all : ℕ) → AreCounted counts all functions → section < length counts
      → AreCounted (set counts section (slice_index counts section + 1)) (all + 1) (begun symbol pos section start functions)
  begun_counted counts all counted within = record { sections = sections; total = total } where
    sections : (s : ℕ) → slice_index (set counts section (slice_index counts section + 1)) s ≡ count_by (is_open_in s) (begun symbol pos section start functions)
    sections s = set_there counts s section (slice_index counts section + 1) within ∙ by (section == s) refl where
      by : (b : Bool) → (section == s) ≡ b
          → (if b then slice_index counts section + 1 else slice_index counts s) ≡ count_by (is_open_in s) (functions ++ fresh ∷ [])
      by true is =
          let same : section ≡ s = grind (arith, nat_tests) in
          let more = sum_by_push (λ (g : Recorded A). cond (is_open_in s g) 1 0) functions fresh in
          let one : ◌≡◌ {A = ℕ} (cond (section == s) 1 0) (1) = ap (λ b. cond b 1 0) is in
          let before = counted.sections s in
          let moved : slice_index counts section ≡ slice_index counts s = ap (slice_index counts) same in
          omega (arith, more, one, before, moved)
      by false is =
          let more = sum_by_push (λ (g : Recorded A). cond (is_open_in s g) 1 0) functions fresh in
          let none : ◌≡◌ {A = ℕ} (cond (section == s) 1 0) (0) = ap (λ b. cond b 1 0) is in
          let before = counted.sections s in
          omega (arith, more, none, before)

    total : all + 1 ≡ count_by is_open (functions ++ fresh ∷ [])
    total = omega (arith, counted.total, sum_by_push (λ (g : Recorded A). cond (is_open g) 1 0) functions fresh)

  begun_numbered : (numbers : List ℕ) (count : ℕ) → AreNumbered numbers functions → symbol < length numbers → count ≡ suc (length functions)
      → AreNumbered (set numbers symbol count) (begun symbol pos section start functions)
  begun_numbered numbers count numbered within is = record { each = λ s. ap (λ n. number_by (slice_index (set numbers symbol n) s)) is ∙ each s } where
    each : (s : ℕ) → number_by (slice_index (set numbers symbol (suc (length functions))) s) ≡ last_of s (begun symbol pos section start functions)
    each s =
        ap number_by (set_there numbers s symbol (suc (length functions)) within)
        ∙ by (symbol == s)
        ∙ sym (last_pushed s (map (λ f. f.symbol) functions) symbol)
        ∙ ap (last_in s) (sym (map-append (λ (f : Recorded A). f.symbol) functions (fresh ∷ []))) where
          by : (b : Bool) → number_by (if b then suc (length functions) else slice_index numbers s)
              ≡ (if b then Some (length (map (λ f. f.symbol) functions)) else last_in s (map (λ f. f.symbol) functions))
          by true = ap Some (sym (length-map functions (λ (f : Recorded A). f.symbol)))
          by false = numbered.each s

  begun_ended : (first : ℕ) → HaveEnded first functions → HaveEnded first (begun symbol pos section start functions)
  begun_ended first ended = record {
    within = omega (arith, ended.within, length-append functions (fresh ∷ []));
    each = λ k d low high. ap is_open (get_or_append_left functions (fresh ∷ []) d k (omega (arith, high, ended.within))) ∙ ended.each k d low high;
  }

  pub begun_told : (counts : List ℕ) (all : ℕ) (numbers : List ℕ) (first count : ℕ) → AreTold counts all numbers first functions
      → section < length counts → symbol < length numbers → count ≡ length (begun symbol pos section start functions)
      → AreTold (set counts section (slice_index counts section + 1)) (all + 1) (set numbers symbol count) first
      (begun symbol pos section start functions)
  begun_told counts all numbers first count told there here is = record {
    counted = begun_counted counts all told.counted there;
    numbered = begun_numbered numbers count told.numbered here (omega (arith, is, length-append functions (fresh ∷ [])));
    ended = begun_ended first told.ended;
  }

  -- all counts are below the number of functions then
  pub counts_below : (counts : List ℕ) (all count : ℕ) → AreCounted counts all functions → count ≡ length (begun symbol pos section start functions)
      → (slice_index counts section + 1 ≤ count) × (all + 1 ≤ count)
  counts_below counts all count counted is =
      let long = length-append functions (fresh ∷ []) in
      (omega (arith, is, long, counted.sections section, count_by-le-length (is_open_in section) functions), omega (arith, is, long, counted.total, count_by-le-length is_open functions))

module _ {A : Type 0} (functions : List (Recorded A)) where
  -- more room leaves what is kept
  pub room_told : (counts counts_now : List ℕ) (all : ℕ) (numbers numbers_now : List ℕ) (first : ℕ)
      → ((i : ℕ) → slice_index counts_now i ≡ slice_index counts i) → ((i : ℕ) → slice_index numbers_now i ≡ slice_index numbers i)
      → AreTold counts all numbers first functions → AreTold counts_now all numbers_now first functions
  room_told counts counts_now all numbers numbers_now first same_counts same_numbers told = record {
    counted = record { sections = λ s. same_counts s ∙ told.counted.sections s; total = told.counted.total };
    numbered = record { each = λ s. ap number_by (same_numbers s) ∙ told.numbered.each s };
    ended = told.ended;
  }

  -- the number of a symbol's function is one
  pub number_within : (numbers : List ℕ) (symbol at : ℕ) → AreNumbered numbers functions → at ≡ slice_index numbers symbol → at ≢ 0 → (1 ≤ at) × (at - 1 < length functions)
  number_within numbers symbol zero numbered is some = absurd (some refl)
  number_within numbers symbol (suc at) numbered is some =
      let last : last_of symbol functions ≡ Some at = sym (numbered.each symbol) ∙ ap number_by (sym is) in
      (omega arith, omega (arith, last_within symbol (map (λ f. f.symbol) functions) at last, length-map functions (λ (f : Recorded A). f.symbol)))

  -- and so what ends is its function
  pub symbol_closed : (ends : ℕ → Place) (numbers : List ℕ) (symbol at : ℕ) → AreNumbered numbers functions → at ≡ slice_index numbers symbol → at ≢ 0
      → closed_at ends (at - 1) functions ≡ closed_of symbol ends functions
  symbol_closed ends numbers symbol zero numbered is some = absurd (some refl)
  symbol_closed ends numbers symbol (suc at) numbered is some =
      ap (λ n. closed_at ends n functions) (let same : suc at - 1 ≡ at = omega arith in same)
      ∙ sym (ap (λ o. option_map_or (λ n. closed_at ends n functions) o functions) (sym (numbered.each symbol) ∙ ap number_by (sym is)))

  pub none_closed : (ends : ℕ → Place) (numbers : List ℕ) (symbol : ℕ) → AreNumbered numbers functions → slice_index numbers symbol ≡ 0
      → closed_of symbol ends functions ≡ functions
  none_closed ends numbers symbol numbered is =
      ap (λ o. option_map_or (λ n. closed_at ends n functions) o functions) (sym (numbered.each symbol) ∙ ap number_by is)

-- FUNCTIONS THAT TAKE AN ITEM

module _ {A : Type 0} (section : ℕ) (item : A) where
  -- whether a function is open, its section and its symbol stay
  open_kept : (f : Recorded A) → is_open (with_item section item f) ≡ is_open f
  open_kept f = by (is_open_in section f) where
    by : (b : Bool) → is_open (if b then record f { items = f.items ++ item ∷ [] } else f) ≡ is_open f
    by true = refl
    by false = refl

  open_in_kept : (s : ℕ) (f : Recorded A) → is_open_in s (with_item section item f) ≡ is_open_in s f
  open_in_kept s f = by (is_open_in section f) where
    by : (b : Bool) → is_open_in s (if b then record f { items = f.items ++ item ∷ [] } else f) ≡ is_open_in s f
    by true = refl
    by false = refl

  symbol_kept : (f : Recorded A) → (with_item section item f).symbol ≡ f.symbol
  symbol_kept f = by (is_open_in section f) where
    by : (b : Bool) → (if b then record f { items = f.items ++ item ∷ [] } else f).symbol ≡ f.symbol
    by true = refl
    by false = refl

  symbols_kept : (functions : List (Recorded A)) → map (λ f. f.symbol) (added section item functions) ≡ map (λ f. f.symbol) functions
  symbols_kept [] = refl
  symbols_kept (f ∷ functions) =
      ap (λ s. s ∷ map (λ f. f.symbol) (added section item functions)) (symbol_kept f) ∙ ap (λ rest. f.symbol ∷ rest) (symbols_kept functions)

  added_ended : (first : ℕ) (functions : List (Recorded A)) → HaveEnded first functions → HaveEnded first (added section item functions)
  added_ended first functions ended = record {
    within = omega (arith, ended.within, length-map functions (with_item section item));
    each = λ k d low high. ap is_open (get_or-map (with_item section item) functions k d d (omega (arith, high, ended.within)))
        ∙ open_kept (get_or functions k d) ∙ ended.each k d low high;
  }

  pub added_told : (counts : List ℕ) (all : ℕ) (numbers : List ℕ) (first : ℕ) (functions : List (Recorded A)) → AreTold counts all numbers first functions
      → AreTold counts all numbers first (added section item functions)
  added_told counts all numbers first functions told = record {
    counted = record {
      sections = λ s. told.counted.sections s ∙ sym (count_map (is_open_in s) (is_open_in s) (with_item section item) (open_in_kept s) functions);
      total = told.counted.total ∙ sym (count_map is_open is_open (with_item section item) open_kept functions);
    };
    numbered = record { each = λ s. told.numbered.each s ∙ sym (ap (last_in s) (symbols_kept functions)) };
    ended = added_ended first functions told.ended;
  }

  -- where none is open in the section, all stay
  pub none_takes : (functions : List (Recorded A)) → list_any (is_open_in section) functions ≡ false → added section item functions ≡ functions
  none_takes [] none = refl
  none_takes (f ∷ functions) none = by (is_open_in section f) refl (none_takes functions) where
    by : (b : Bool) → is_open_in section f ≡ b → (list_any (is_open_in section) functions ≡ false → added section item functions ≡ functions)
        → added section item (f ∷ functions) ≡ f ∷ functions
    by true is again = absurd (true≢false (sym (ap (λ b. b || list_any (is_open_in section) functions) is) ∙ none))
    by false is again =
        ap (λ b. (if b then record f { items = f.items ++ item ∷ [] } else f) ∷ added section item functions) is
        ∙ ap (λ more. f ∷ more) (again (sym (ap (λ b. b || list_any (is_open_in section) functions) is) ∙ none))

  pub none_counted : (counts : List ℕ) (all : ℕ) (functions : List (Recorded A)) → AreCounted counts all functions → slice_index counts section ≡ 0
      → added section item functions ≡ functions
  none_counted counts all functions counted none =
      none_takes functions (found (is_open_in section) functions ∙ ap (λ n. not (n == 0)) (sym (counted.sections section) ∙ none))

-- AS THE CALLS HAVE IT

module _ {A : Type 0} where
  -- an item is put, or there is no memory for it
  pub added_either : {T E : Type 0} (result : Result T E) (section : ℕ) (item : A) (counts : List ℕ) (all : ℕ) (numbers : List ℕ) (first : ℕ) (functions after : List (Recorded A))
      → AreTold counts all numbers first functions → OnOk result (after ≡ added section item functions) → OnErr result (after ≡ functions)
      → AreTold counts all numbers first after
  added_either (Ok done) section item counts all numbers first functions after told ok err =
      subst (AreTold counts all numbers first) (sym ok) (added_told section item counts all numbers first functions told)
  added_either (Err fault) section item counts all numbers first functions after told ok err = subst (AreTold counts all numbers first) (sym err) told

  -- a function begins, once there is room for its numbers
  pub begun_all : (symbol : ℕ) (pos : Pos) (section : ℕ) (start : Place) (functions : List (Recorded A)) (counts counts_room counts_now : List ℕ) (all : ℕ)
      (numbers numbers_room numbers_now : List ℕ) (first count got : ℕ) (after : List (Recorded A)) → AreTold counts all numbers first functions
      → ((i : ℕ) → slice_index numbers_room i ≡ slice_index numbers i) → symbol < length numbers_room
      → ((i : ℕ) → slice_index counts_room i ≡ slice_index counts i) → section < length counts_room
      → after ≡ begun symbol pos section start functions → count ≡ length after → numbers_now ≡ set numbers_room symbol count
      → got ≡ slice_index counts_room section → counts_now ≡ set counts_room section (got + 1)
      → AreTold counts_now (all + 1) numbers_now first after
  begun_all symbol pos section start functions counts counts_room counts_now all numbers numbers_room numbers_now first count got after told same_numbers here same_counts there is long put_number got_is put_count =
      let room = room_told functions counts counts_room all numbers numbers_room first same_counts same_numbers told in
      let made = begun_told symbol pos section start functions counts_room all numbers_room first count room there here (long ∙ ap length is) in
      rw (put_count, got_is, put_number, is) made
