-- The search for a form that leads back to a symbol.
use Rattle.std.proofs.Common.{◌≡◌, ◌≢◌, Bool, true, false, ℕ, ◌+◌, ◌<◌, ◌≤◌, nat_eq, ◌⊎◌, inl, inr, List, [], length, get_or, Option, None, Some, refl, sym, ap, subst, ◌∙◌, arith, slice_get}
use Rattle.std.specs.List.{IsDistinct}
use Rattle.std.proofs.lemmas.Bool.{eqb-true}
use Rattle.std.proofs.lemmas.Bool.Decides.{nat_tests}
use Rattle.std.proofs.lemmas.Map.Steps.{length-le_from_distinct_below}
use Rattle.std.proofs.lemmas.Option.{slice_get-get_or, slice_get_within, same_Some}
use Rattle.asm_expr.specs.Forms.{Form}
use Rattle.asm_symbols.specs.declared.entries.Symbol.{Symbol}
use Rattle.asm_symbols.specs.Assigning.{NamesSymbol, form_at, Leads, straight, further}
use Rattle.asm_symbols.specs.Searching.{seen_with, seen_behind}
use Rattle.asm_symbols.proofs.ForwardLemmas.{form_within}
use Rattle.asm_symbols.proofs.SeenLemmas.{Has, has_at, place_seen, Sees, seen_back, seen_sees}

-- the index is not the target's, and it is seen if it is a symbol's
abbrev pub IsPassed : ℕ → ℕ → List ℕ → ℕ → Type 0
IsPassed count target seen index = (index ≡ target → ⊥) × (index < count → Has seen index)

-- the symbols seen so far, of which those before the place name none but what is seen
pub record IsSearching (symbols : List Symbol) (form : Form) (target : ℕ) (seen : List ℕ) (at : ℕ) : Type 0 where
  pub reached : (index : ℕ) → Has seen index → Leads symbols form index
  pub within : (index : ℕ) → Has seen index → index < length symbols
  pub first : (index : ℕ) → NamesSymbol form index → IsPassed (length symbols) target seen index
  pub done : (k index : ℕ) (next : Form) → k < at → slice_get seen k ≡ Some index → form_at symbols index ≡ Some next → (other : ℕ) → NamesSymbol next other → IsPassed (length symbols) target seen other

module _ (symbols : List Symbol) (form : Form) (target : ℕ) where
  -- what a form names is passed, where it does not name the target
  passed : (next : Form) (seen new : List ℕ) → Sees (length symbols) target next.terms seen new → (index : ℕ) → NamesSymbol next index → IsPassed (length symbols) target new index
  passed next seen new sees index named = (λ same. sees.apart (subst (λ (i : ℕ). NamesSymbol next i) same named), sees.named index named)

  -- what is passed stays passed where more is seen
  still_passed : (seen new : List ℕ) → ((index : ℕ) → Has seen index → Has new index) → (index : ℕ) → IsPassed (length symbols) target seen index → IsPassed (length symbols) target new index
  still_passed seen new kept index is = (is.0, λ less. kept index (is.1 less))

  only_first : (index : ℕ) → Has [] index ⊎ (NamesSymbol form index × (index < length symbols)) → Leads symbols form index × (index < length symbols)
  only_first index (inl none) = cc
  only_first index (inr named) = (straight index named.0, named.1)

  -- the form's own symbols
  pub searching_start : (seen : List ℕ) → seen_with (length symbols) target form.terms [] ≡ Some seen → IsSearching symbols form target seen 0
  searching_start seen is =
      let sees = seen_sees (length symbols) target form.terms [] seen is in
      record {
        reached = λ index has. (only_first index (sees.only index has)).0;
        within = λ index has. (only_first index (sees.only index has)).1;
        first = passed form [] seen sees;
        done = λ k index next before there at other named. absurd (omega arith);
      }

  pub starting_back : seen_with (length symbols) target form.terms [] ≡ None → Leads symbols form target
  starting_back is = straight target (seen_back (length symbols) target form.terms [] is)

  module _ (seen new : List ℕ) (at middle : ℕ) (search : IsSearching symbols form target seen at) (there : slice_get seen at ≡ Some middle) where
    only_more : (next : Form) → form_at symbols middle ≡ Some next → (index : ℕ) → Has seen index ⊎ (NamesSymbol next index × (index < length symbols)) → Leads symbols form index × (index < length symbols)
    only_more next is index (inl old) = (search.reached index old, search.within index old)
    only_more next is index (inr named) = (further middle index next (search.reached middle (has_at seen at middle there)) is named.0, named.1)

    -- what stands before this place stood there, or is this
    old_by : (k index : ℕ) (b : Bool) → nat_eq k at ≡ b → ((j v : ℕ) → slice_get seen j ≡ Some v → slice_get new j ≡ Some v) → k < at + 1 → slice_get new k ≡ Some index
        → ((k < at) × (slice_get seen k ≡ Some index)) ⊎ (index ≡ middle)
    old_by k index true is kept within found =
        let same : k ≡ at = eqb-true k at is in
        inr (same_Some index middle (sym found ∙ ap (slice_get new) same ∙ kept at middle there))
    old_by k index false is kept within found =
        let other : k ≢ at = apart k at is in
        let before : k < at = omega arith in
        let inside : at < length seen = slice_get_within seen at middle there in
        let stood : slice_get seen k ≡ Some (get_or seen k 0) = slice_get-get_or seen k 0 (omega arith) in
        inl (before, stood ∙ sym (kept k (get_or seen k 0) stood) ∙ found)
      where
        apart : (a b : ℕ) → nat_eq a b ≡ false → a ≢ b
        apart a b is = grind (arith, nat_tests)

    old_at : (k index : ℕ) → ((j v : ℕ) → slice_get seen j ≡ Some v → slice_get new j ≡ Some v) → k < at + 1 → slice_get new k ≡ Some index
        → ((k < at) × (slice_get seen k ≡ Some index)) ⊎ (index ≡ middle)
    old_at k index = old_by k index (nat_eq k at) refl

    done_some : (next : Form) → form_at symbols middle ≡ Some next → Sees (length symbols) target next.terms seen new → (k index : ℕ) (its : Form)
        → ((k < at) × (slice_get seen k ≡ Some index)) ⊎ (index ≡ middle) → form_at symbols index ≡ Some its → (other : ℕ) → NamesSymbol its other → IsPassed (length symbols) target new other
    done_some next is sees k index its (inl old) has other named = still_passed seen new sees.has other (search.done k index its old.0 old.1 has other named)
    done_some next is sees k index its (inr same) has other named =
        let one : its ≡ next = same_Some its next (sym has ∙ ap (form_at symbols) same ∙ is) in
        passed next seen new sees other (subst (λ (f : Form). NamesSymbol f other) one named)

    done_none : form_at symbols middle ≡ None → seen ≡ new → (k index : ℕ) (its : Form)
        → ((k < at) × (slice_get seen k ≡ Some index)) ⊎ (index ≡ middle) → form_at symbols index ≡ Some its → (other : ℕ) → NamesSymbol its other → IsPassed (length symbols) target new other
    done_none is same k index its (inl old) has other named = still_passed seen new (λ i old. rw (← same) old) other (search.done k index its old.0 old.1 has other named)
    done_none is same k index its (inr this) has other named = let none : ◌≡◌ {A = Option Form} None (Some its) = sym is ∙ ap (form_at symbols) (sym this) ∙ has in cc

    step_by : (o : Option Form) → form_at symbols middle ≡ o → seen_behind (length symbols) target o seen ≡ Some new → IsSearching symbols form target new (at + 1)
    step_by None is made =
        let same : seen ≡ new = same_Some seen new made in
        record {
          reached = λ index has. search.reached index (rw same has);
          within = λ index has. search.within index (rw same has);
          first = λ index named. still_passed seen new (λ i old. rw (← same) old) index (search.first index named);
          done = λ k index its within found. done_none is same k index its (old_at k index (λ j v old. rw (← same) old) within found);
        }
    step_by (Some next) is made =
        let sees = seen_sees (length symbols) target next.terms seen new made in
        record {
          reached = λ index has. (only_more next is index (sees.only index has)).0;
          within = λ index has. (only_more next is index (sees.only index has)).1;
          first = λ index named. still_passed seen new sees.has index (search.first index named);
          done = λ k index its within found. done_some next is sees k index its (old_at k index sees.kept within found);
        }

    -- the symbols of one more form
    pub searching_step : seen_behind (length symbols) target (form_at symbols middle) seen ≡ Some new → IsSearching symbols form target new (at + 1)
    searching_step = step_by (form_at symbols middle) refl

  module _ (seen : List ℕ) (at : ℕ) (search : IsSearching symbols form target seen at) where
    back_by : (middle : ℕ) (o : Option Form) → slice_get seen at ≡ Some middle → form_at symbols middle ≡ o → seen_behind (length symbols) target o seen ≡ None → Leads symbols form target
    back_by middle None there is made = cc
    back_by middle (Some next) there is made = further middle target next (search.reached middle (has_at seen at middle there)) is (seen_back (length symbols) target next.terms seen made)

    -- the target is named
    pub searching_back : (middle : ℕ) → slice_get seen at ≡ Some middle → seen_behind (length symbols) target (form_at symbols middle) seen ≡ None → Leads symbols form target
    searching_back middle there made = back_by middle (form_at symbols middle) there refl made

    -- what is seen is a symbol
    pub searching_within : (middle : ℕ) → slice_get seen at ≡ Some middle → middle < length symbols
    searching_within middle there = search.within middle (has_at seen at middle there)

    -- no more are seen than there are symbols
    pub searching_few : IsDistinct nat_eq seen → length seen ≤ length symbols
    searching_few distinct = length-le_from_distinct_below seen (length symbols) distinct search.within

    -- all that the form leads to is passed
    all_passed : length seen ≤ at → (index : ℕ) → Leads symbols form index → IsPassed (length symbols) target seen index
    all_passed all index (straight last named) = search.first last named
    all_passed all index (further middle last next leads is named) =
        let place = place_seen seen middle ((all_passed all middle leads).1 (form_within symbols middle next is)) in
        let inside : place.0 < length seen = slice_get_within seen place.0 middle place.1 in
        search.done place.0 middle next (omega arith) place.1 is last named

    -- so it does not lead to the target
    pub searching_done : length seen ≤ at → Leads symbols form target → ⊥
    searching_done all leads = (all_passed all target leads).0 refl
