-- The way to the expanded form of a symbol: symbols each of which awaits the next one, with ranks that fall.
use Rattle.std.proofs.Common.{◌≡◌, ◌≢◌, ℕ, zero, suc, ◌+◌, ◌-◌, ◌<◌, ◌≤◌, ◌⊎◌, inl, inr, true, false, List, [], ◌∷◌, ◌++◌, length, set, Option, None, Some, is_some, refl, sym, ap, subst, ◌∙◌, arith, slice_get, length-append}
use Rattle.std.specs.Option.{option_map}
use Rattle.std.proofs.lemmas.Option.{same_Some, slice_get_within}
use Rattle.asm_expr.specs.Forms.{Form}
use Rattle.asm_symbols.specs.SymbolMap.{SymbolMap}
use Rattle.asm_symbols.specs.Assigning.{form_at, IsNamedIn, NoFormLeadsBack}
use Rattle.assigned_forms.specs.declared.expanding.Visit.{Visit}
use Rattle.assigned_forms.specs.Expanding.{entry_at, awaits, terms_of, Expands, IsAwaited, ArePartly, KeepsForms}
use Rattle.assigned_forms.proofs.RankLemmas.{AreDecided, rank, rank_small, rank_falls}
use Rattle.assigned_forms.proofs.ExpansionLemmas.{awaits_parts, awaits_within, expands_done, partly_put, kept_put, there_put, others_put}

last_there : {X : Type 0} (xs : List X) (x : X) → slice_get (xs ++ x ∷ []) (length xs) ≡ Some x
last_there [] x = refl
last_there (first ∷ xs) x = last_there xs x

stays_there : {X : Type 0} (xs : List X) (x y : X) (at : ℕ) → slice_get xs at ≡ Some y → slice_get (xs ++ x ∷ []) at ≡ Some y
stays_there [] x y zero is = cc
stays_there [] x y (suc at) is = cc
stays_there (first ∷ xs) x y zero is = is
stays_there (first ∷ xs) x y (suc at) is = stays_there xs x y at is

one_of_more : {X : Type 0} (xs : List X) (x y : X) (at : ℕ) → slice_get (xs ++ x ∷ []) at ≡ Some y → (slice_get xs at ≡ Some y) ⊎ ((at ≡ length xs) × (y ≡ x))
one_of_more [] x y zero is = inr (refl, cc)
one_of_more [] x y (suc at) is = inl is
one_of_more (first ∷ xs) x y zero is = inl is
one_of_more (first ∷ xs) x y (suc at) is = elim (one_of_more xs x y at is) [ inl there ↦ inl there | inr last ↦ inr (ap suc last.0, last.1) ]

-- how many symbols have no form there
abbrev pub waiting : List (Option Form) → ℕ
waiting [] = 0
waiting (None ∷ forms) = suc (waiting forms)
waiting (Some form ∷ forms) = waiting forms

waiting_put : (forms : List (Option Form)) (at : ℕ) (made : Form) → at < length forms → is_some (entry_at forms at) ≡ false → waiting forms ≡ suc (waiting (set forms at (Some made)))
waiting_put [] at made inside none = absurd (omega arith)
waiting_put (None ∷ forms) zero made inside none = refl
waiting_put (Some form ∷ forms) zero made inside none = cc
waiting_put (None ∷ forms) (suc at) made inside none = ap suc (waiting_put forms at made (omega arith) none)
waiting_put (Some form ∷ forms) (suc at) made inside none = waiting_put forms at made (omega arith) none

-- so many times the number
abbrev pub times : ℕ → ℕ → ℕ
times zero number = 0
times (suc n) number = number + times n number

-- what is left to do: it falls where a symbol joins the way, and more where one leaves it
abbrev pub left_to_do : SymbolMap → List (Option Form) → List Visit → ℕ
left_to_do all forms way = times (waiting forms) (length all.symbols + 4) + (length all.symbols + 2 - length way)

module _ (all : SymbolMap) where
  abbrev rank_of : Option Form → ℕ
  rank_of None = 0
  rank_of (Some form) = rank all.symbols form

  -- the rank of the symbol's form
  abbrev rank_at : ℕ → ℕ
  rank_at index = rank_of (form_at all.symbols index)

  rank_of_small : (o : Option Form) → rank_of o ≤ length all.symbols
  rank_of_small None = omega arith
  rank_of_small (Some form) = rank_small all.symbols form

  falls_by : AreDecided → NoFormLeadsBack all.symbols → (one other : Option Form) (index : ℕ) → form_at all.symbols index ≡ other → is_some other ≡ true → IsNamedIn (terms_of one) index
      → rank_of other < rank_of one
  falls_by decided forward None other index is some named = absurd named
  falls_by decided forward (Some form) None index is some named = cc
  falls_by decided forward (Some form) (Some next) index is some named = rank_falls decided all.symbols forward form index next is named

  -- each symbol of the way awaits its form, ranks fall along it, and the sums so far are right
  pub record IsWay (forms : List (Option Form)) (way : List Visit) : Type 0 where
    pub awaiting : (k : ℕ) (visit : Visit) → slice_get way k ≡ Some visit → awaits all forms visit.symbol ≡ true
    pub sums : (k : ℕ) (visit : Visit) → slice_get way k ≡ Some visit → Expands all visit.symbol visit.seen visit.made
    pub few : (k : ℕ) (visit : Visit) → slice_get way k ≡ Some visit → rank_at visit.symbol + k ≤ length all.symbols
    pub falls : (j k : ℕ) (one other : Visit) → j < k → slice_get way j ≡ Some one → slice_get way k ≡ Some other → rank_at other.symbol < rank_at one.symbol

  -- the symbol at the beginning of the way
  abbrev pub bottom : List Visit → Option ℕ
  bottom way = option_map (λ visit. visit.symbol) (slice_get way 0)

  -- the forms are made for a symbol, which has its own already or is the first of the way
  pub record IsFilling (before forms : List (Option Form)) (way : List Visit) (at : ℕ) : Type 0 where
    pub partly : ArePartly all forms
    pub way_there : IsWay forms way
    pub first : (awaits all forms at ≡ false) ⊎ (bottom way ≡ Some at)
    pub kept : KeepsForms all before forms

  way_one : (forms : List (Option Form)) (visit : Visit) → awaits all forms visit.symbol ≡ true → Expands all visit.symbol visit.seen visit.made → IsWay forms (visit ∷ [])
  way_one forms visit missing sum = record {
    awaiting = λ k its is. let one = only k its is in rw one.1 missing;
    sums = λ k its is. let one = only k its is in rw one.1 sum;
    few = λ k its is. let one = only k its is in let small = rank_of_small (form_at all.symbols its.symbol) in rw one.0 (omega arith);
    falls = λ j k one other less first second. let this = only j one first in let that = only k other second in absurd (omega (arith, this.0, that.0));
  }
    where
      only : (k : ℕ) (its : Visit) → slice_get (visit ∷ []) k ≡ Some its → (k ≡ 0) × (its ≡ visit)
      only zero its is = (refl, sym (same_Some visit its is))
      only (suc k) its is = cc

  -- the symbol itself is the first on the way
  pub filling_start : (forms : List (Option Form)) (way : List Visit) (visit : Visit) (at : ℕ) → ArePartly all forms → awaits all forms at ≡ true → visit.symbol ≡ at → Expands all at visit.seen visit.made
      → way ≡ visit ∷ [] → IsFilling forms forms way at
  filling_start forms way visit at partly missing same sum is = rw is (record {
    partly = partly;
    way_there = way_one forms visit (ap (awaits all forms) same ∙ missing) (subst (λ (i : ℕ). Expands all i visit.seen visit.made) (sym same) sum);
    first = inr (ap Some same);
    kept = λ index none. none;
  })

  -- no symbol is left on the way
  pub filling_done : (before forms : List (Option Form)) (way : List Visit) (at : ℕ) → IsFilling before forms way at → way ≡ [] → awaits all forms at ≡ false
  filling_done before forms way at filling is = by filling.first
    where
      by : (awaits all forms at ≡ false) ⊎ (bottom way ≡ Some at) → awaits all forms at ≡ false
      by (inl done) = done
      by (inr there) = let none : ◌≡◌ {A = Option ℕ} None (Some at) = sym (ap bottom is) ∙ there in cc

  module _ (before forms : List (Option Form)) (way rest : List Visit) (visit : Visit) (at : ℕ) (filling : IsFilling before forms way at) (is : way ≡ rest ++ visit ∷ []) where
    on_way : IsWay forms (rest ++ visit ∷ [])
    on_way = rw is at filling.way_there

    -- the last symbol of the way
    pub last_awaits : awaits all forms visit.symbol ≡ true
    last_awaits = on_way.awaiting (length rest) visit (last_there rest visit)

    pub last_sum : Expands all visit.symbol visit.seen visit.made
    last_sum = on_way.sums (length rest) visit (last_there rest visit)

    pub last_within : visit.symbol < length all.symbols
    last_within = awaits_within all forms visit.symbol last_awaits

    pub last_inside : visit.symbol < length forms
    last_inside = let long = filling.partly.long in let within = last_within in omega arith

    last_few : rank_at visit.symbol + length rest ≤ length all.symbols
    last_few = on_way.few (length rest) visit (last_there rest visit)

    long_way : length way ≡ length rest + 1
    long_way = ap length is ∙ length-append rest (visit ∷ [])

    module _ (later : Visit) (same : later.symbol ≡ visit.symbol) where
      -- it stays
      old_of : (k : ℕ) (its : Visit) → slice_get (rest ++ later ∷ []) k ≡ Some its → (old : Visit) × ((slice_get (rest ++ visit ∷ []) k ≡ Some old) × (old.symbol ≡ its.symbol))
      old_of k its there = elim (one_of_more rest later its k there) [
        | inl stood ↦ (its, (stays_there rest visit its k stood, refl))
        | inr this ↦ (visit, (rw this.0 (last_there rest visit), sym same ∙ ap (λ v. v.symbol) (sym this.1)))
      ]

      sums_again : Expands all visit.symbol later.seen later.made → (k : ℕ) (its : Visit) → (slice_get rest k ≡ Some its) ⊎ ((k ≡ length rest) × (its ≡ later)) → Expands all its.symbol its.seen its.made
      sums_again sum k its (inl stood) = on_way.sums k its (stays_there rest visit its k stood)
      sums_again sum k its (inr this) = subst (λ (v : Visit). Expands all v.symbol v.seen v.made) (sym this.1) (subst (λ (i : ℕ). Expands all i later.seen later.made) (sym same) sum)

      way_again : Expands all visit.symbol later.seen later.made → IsWay forms (rest ++ later ∷ [])
      way_again sum = record {
        awaiting = λ k its there. let old = old_of k its there in rw (← old.1.1) (on_way.awaiting k old.0 old.1.0);
        sums = λ k its there. sums_again sum k its (one_of_more rest later its k there);
        few = λ k its there. let old = old_of k its there in rw (← old.1.1) (on_way.few k old.0 old.1.0);
        falls = λ j k one other less first second. let old = old_of j one first in let new = old_of k other second in rw (← old.1.1, ← new.1.1) (on_way.falls j k old.0 new.0 less old.1.0 new.1.0);
      }

      module _ (decided : AreDecided) (forward : NoFormLeadsBack all.symbols) (sum : Expands all visit.symbol later.seen later.made) (other : ℕ) (next : Visit) (awaited : IsAwaited all forms visit.symbol other)
          (its : next.symbol ≡ other) (begun : Expands all other next.seen next.made) where
        lower : rank_at next.symbol < rank_at later.symbol
        lower = rw (its, same) (falls_by decided forward (form_at all.symbols visit.symbol) (form_at all.symbols other) other refl (awaits_parts all forms other awaited.missing).0 awaited.named)

        rank_again : rank_at later.symbol ≡ rank_at visit.symbol
        rank_again = ap rank_at same

        awaiting_more : (k : ℕ) (v : Visit) → (slice_get (rest ++ later ∷ []) k ≡ Some v) ⊎ ((k ≡ length (rest ++ later ∷ [])) × (v ≡ next)) → awaits all forms v.symbol ≡ true
        awaiting_more k v (inl stood) = (way_again sum).awaiting k v stood
        awaiting_more k v (inr this) = rw (this.1, its) awaited.missing

        sums_more : (k : ℕ) (v : Visit) → (slice_get (rest ++ later ∷ []) k ≡ Some v) ⊎ ((k ≡ length (rest ++ later ∷ [])) × (v ≡ next)) → Expands all v.symbol v.seen v.made
        sums_more k v (inl stood) = (way_again sum).sums k v stood
        sums_more k v (inr this) = subst (λ (w : Visit). Expands all w.symbol w.seen w.made) (sym this.1) (subst (λ (i : ℕ). Expands all i next.seen next.made) (sym its) begun)

        few_more : (k : ℕ) (v : Visit) → (slice_get (rest ++ later ∷ []) k ≡ Some v) ⊎ ((k ≡ length (rest ++ later ∷ [])) × (v ≡ next)) → rank_at v.symbol + k ≤ length all.symbols
        few_more k v (inl stood) = (way_again sum).few k v stood
        few_more k v (inr this) =
            let long : length (rest ++ later ∷ []) ≡ length rest + 1 = length-append rest (later ∷ []) in
            let less = lower in let again = rank_again in let few = last_few in
            rw (this.0, this.1) (omega arith)

        falls_more : (j k : ℕ) (one two : Visit) → j < k → (slice_get (rest ++ later ∷ []) j ≡ Some one) ⊎ ((j ≡ length (rest ++ later ∷ [])) × (one ≡ next))
            → (slice_get (rest ++ later ∷ []) k ≡ Some two) ⊎ ((k ≡ length (rest ++ later ∷ [])) × (two ≡ next)) → rank_at two.symbol < rank_at one.symbol
        falls_more j k one two less (inl first) (inl second) = (way_again sum).falls j k one two less first second
        falls_more j k one two less (inl first) (inr second) = rw second.1 (by (one_of_more rest later one j first))
          where
            by : (slice_get rest j ≡ Some one) ⊎ ((j ≡ length rest) × (one ≡ later)) → rank_at next.symbol < rank_at one.symbol
            by (inl stood) =
                let inside = slice_get_within rest j one stood in
                let above = (way_again sum).falls j (length rest) one later inside (stays_there rest later one j stood) (last_there rest later) in
                let below = lower in
                omega arith
            by (inr this) = rw this.1 lower
        falls_more j k one two less (inr first) (inl second) = let inside = slice_get_within (rest ++ later ∷ []) k two second in absurd (omega (arith, first.0))
        falls_more j k one two less (inr first) (inr second) = absurd (omega (arith, first.0, second.0))

        way_more : IsWay forms ((rest ++ later ∷ []) ++ next ∷ [])
        way_more = record {
          awaiting = λ k v there. awaiting_more k v (one_of_more (rest ++ later ∷ []) next v k there);
          sums = λ k v there. sums_more k v (one_of_more (rest ++ later ∷ []) next v k there);
          few = λ k v there. few_more k v (one_of_more (rest ++ later ∷ []) next v k there);
          falls = λ j k one two less first second. falls_more j k one two less (one_of_more (rest ++ later ∷ []) next one j first) (one_of_more (rest ++ later ∷ []) next two k second);
        }

        bottom_again : (xs : List Visit) → bottom (xs ++ visit ∷ []) ≡ Some at → bottom ((xs ++ later ∷ []) ++ next ∷ []) ≡ Some at
        bottom_again [] there = ap Some same ∙ there
        bottom_again (first ∷ xs) there = there

        first_again : (awaits all forms at ≡ false) ⊎ (bottom way ≡ Some at) → (awaits all forms at ≡ false) ⊎ (bottom ((rest ++ later ∷ []) ++ next ∷ []) ≡ Some at)
        first_again (inl done) = inl done
        first_again (inr there) = inr (bottom_again rest (sym (ap bottom is) ∙ there))

        -- the last symbol of the way awaits another, which joins it
        pub filling_more : (new : List Visit) → new ≡ (rest ++ later ∷ []) ++ next ∷ [] → IsFilling before forms new at
        filling_more new made = rw made (record { partly = filling.partly; way_there = way_more; first = first_again filling.first; kept = filling.kept })

        pub less_more : (new : List Visit) → new ≡ (rest ++ later ∷ []) ++ next ∷ [] → left_to_do all forms new < left_to_do all forms way
        less_more new made =
            let long : length new ≡ length rest + 2 = ap length made ∙ length-append (rest ++ later ∷ []) (next ∷ []) ∙ ap (λ n. n + 1) (length-append rest (later ∷ [])) ∙ omega arith in
            let old = long_way in let few = last_few in
            omega arith

    module _ (seen : ℕ) (made : Form) (new : List (Option Form)) (put : new ≡ set forms visit.symbol (Some made)) where
      others : (k : ℕ) (its : Visit) → slice_get rest k ≡ Some its → its.symbol ≢ visit.symbol
      others k its there same =
          let inside = slice_get_within rest k its there in
          let less = on_way.falls k (length rest) its visit inside (stays_there rest visit its k there) (last_there rest visit) in
          let equal : rank_at its.symbol ≡ rank_at visit.symbol = ap rank_at same in
          omega arith

      way_less : IsWay (set forms visit.symbol (Some made)) rest
      way_less = record {
        awaiting = λ k its there. others_put all forms visit.symbol made last_inside its.symbol (others k its there) (on_way.awaiting k its (stays_there rest visit its k there));
        sums = λ k its there. on_way.sums k its (stays_there rest visit its k there);
        few = λ k its there. on_way.few k its (stays_there rest visit its k there);
        falls = λ j k one other less first second. on_way.falls j k one other less (stays_there rest visit one j first) (stays_there rest visit other k second);
      }

      bottom_less : (xs : List Visit) → bottom (xs ++ visit ∷ []) ≡ Some at → (visit.symbol ≡ at) ⊎ (bottom xs ≡ Some at)
      bottom_less [] there = inl (same_Some visit.symbol at there)
      bottom_less (first ∷ xs) there = inr there

      first_left : (visit.symbol ≡ at) ⊎ (bottom rest ≡ Some at) → (awaits all (set forms visit.symbol (Some made)) at ≡ false) ⊎ (bottom rest ≡ Some at)
      first_left (inl this) = inl (ap (awaits all (set forms visit.symbol (Some made))) (sym this) ∙ there_put all forms visit.symbol made last_inside)
      first_left (inr there) = inr there

      first_less : (awaits all forms at ≡ false) ⊎ (bottom way ≡ Some at) → (awaits all (set forms visit.symbol (Some made)) at ≡ false) ⊎ (bottom rest ≡ Some at)
      first_less (inl done) = inl (kept_put all forms visit.symbol made last_inside at done)
      first_less (inr there) = first_left (bottom_less rest (sym (ap bottom is) ∙ there))

      -- the last symbol of the way has its form, and leaves it
      pub filling_less : Expands all visit.symbol seen made → length (terms_of (form_at all.symbols visit.symbol)) ≤ seen → IsFilling before new rest at
      filling_less sum all_seen = rw put (record {
        partly = partly_put all forms visit.symbol made last_inside filling.partly (expands_done all visit.symbol seen made sum all_seen);
        way_there = way_less;
        first = first_less filling.first;
        kept = λ index none. kept_put all forms visit.symbol made last_inside index (filling.kept index none);
      })

      pub less_less : left_to_do all new rest < left_to_do all forms way
      less_less =
          let fewer = waiting_put forms visit.symbol made last_inside (awaits_parts all forms visit.symbol last_awaits).1 in
          let old = long_way in
          rw (put, fewer) (omega arith)
