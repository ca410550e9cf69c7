-- The symbols that were seen, and those that one more form names.
use Rattle.std.proofs.Common.{◌≡◌, ℕ, zero, suc, ◌<◌, ◌==◌, nat_eq, nat_lt, ◌⊎◌, inl, inr, Bool, true, false, cond, ◌||◌, List, [], ◌∷◌, ◌++◌, None, Some, refl, sym, ap, ◌∙◌, arith, slice_get, eq-eqb}
use Rattle.std.specs.List.{list_any}
use Rattle.std.proofs.lemmas.Bool.{eqb-true}
use Rattle.std.proofs.lemmas.Bool.Decides.{nat_tests}
use Rattle.std.proofs.lemmas.List.Folds.{list_any-append}
use Rattle.indexmap.specs.IndexSet.{insert_key}
use Rattle.asm_expr.specs.declared.forms.Term.{Term}
use Rattle.asm_symbols.specs.Assigning.{IsNamedIn}
use Rattle.asm_symbols.specs.Searching.{seen_then, seen_with}

-- the index was seen
abbrev pub Has : List ℕ → ℕ → Type 0
Has seen index = list_any (nat_eq index) seen ≡ true

-- an index that is seen stays where it is
get_stays : (seen more : List ℕ) (k v : ℕ) → slice_get seen k ≡ Some v → slice_get (seen ++ more) k ≡ Some v
get_stays [] more k v is = cc
get_stays (first ∷ seen) more zero v is = is
get_stays (first ∷ seen) more (suc k) v is = get_stays seen more k v is

pub has_at : (seen : List ℕ) (k v : ℕ) → slice_get seen k ≡ Some v → Has seen v
has_at [] k v is = cc
has_at (first ∷ seen) zero v is = let same : first ≡ v = cc in rw (same, eq-eqb v v refl)
has_at (first ∷ seen) (suc k) v is = or_true (nat_eq v first) (list_any (nat_eq v) seen) (has_at seen k v is)
  where
    or_true : (a b : Bool) → b ≡ true → (a || b) ≡ true
    or_true true b is = refl
    or_true false b is = is

pub place_seen : (seen : List ℕ) (v : ℕ) → Has seen v → (k : ℕ) × (slice_get seen k ≡ Some v)
place_seen [] v has = cc
place_seen (first ∷ seen) v has = by (nat_eq v first) refl has (place_seen seen v)
  where
    by : (b : Bool) → nat_eq v first ≡ b → (b || list_any (nat_eq v) seen) ≡ true → (Has seen v → (k : ℕ) × (slice_get seen k ≡ Some v)) → (k : ℕ) × (slice_get (first ∷ seen) k ≡ Some v)
    by true is has later = (0, ap Some (sym (eqb-true v first is)))
    by false is has later = let found = later has in (suc found.0, found.1)

-- one index more
module _ (seen : List ℕ) (index : ℕ) where
  either_last : (a b : Bool) → (a || (b || false)) ≡ true → (a ≡ true) ⊎ (b ≡ true)
  either_last true b is = inl refl
  either_last false true is = inr refl
  either_last false false is = cc

  has_by : (b : Bool) → list_any (nat_eq index) seen ≡ b → Has (cond b seen (seen ++ index ∷ [])) index
  has_by true is = is
  has_by false is = list_any-append (nat_eq index) seen (index ∷ []) ∙ rw (is, eq-eqb index index refl)

  has_inserted : Has (insert_key nat_eq seen index) index
  has_inserted = has_by (list_any (nat_eq index) seen) refl

  kept_by : (b : Bool) (other : ℕ) → Has seen other → Has (cond b seen (seen ++ index ∷ [])) other
  kept_by true other has = has
  kept_by false other has = list_any-append (nat_eq other) seen (index ∷ []) ∙ rw has

  has_kept : (other : ℕ) → Has seen other → Has (insert_key nat_eq seen index) other
  has_kept other has = kept_by (list_any (nat_eq index) seen) other has

  only_by : (b : Bool) (other : ℕ) → Has (cond b seen (seen ++ index ∷ [])) other → Has seen other ⊎ (other ≡ index)
  only_by true other has = inl has
  only_by false other has =
      elim (either_last (list_any (nat_eq other) seen) (nat_eq other index) (sym (list_any-append (nat_eq other) seen (index ∷ [])) ∙ has)) [
        | inl old ↦ inl old
        | inr new ↦ inr (eqb-true other index new)
      ]

  only_inserted : (other : ℕ) → Has (insert_key nat_eq seen index) other → Has seen other ⊎ (other ≡ index)
  only_inserted other has = only_by (list_any (nat_eq index) seen) other has

  get_by : (b : Bool) (k v : ℕ) → slice_get seen k ≡ Some v → slice_get (cond b seen (seen ++ index ∷ [])) k ≡ Some v
  get_by true k v is = is
  get_by false k v is = get_stays seen (index ∷ []) k v is

  get_kept : (k v : ℕ) → slice_get seen k ≡ Some v → slice_get (insert_key nat_eq seen index) k ≡ Some v
  get_kept k v is = get_by (list_any (nat_eq index) seen) k v is

-- what is seen after one term, which is not of the target
record SeesOne (count index : ℕ) (seen new : List ℕ) : Type 0 where
  pub kept : (k v : ℕ) → slice_get seen k ≡ Some v → slice_get new k ≡ Some v
  pub has : (other : ℕ) → Has seen other → Has new other
  pub own : index < count → Has new index
  pub only : (other : ℕ) → Has new other → Has seen other ⊎ ((other ≡ index) × (index < count))

below_false : (a b : ℕ) → nat_lt a b ≡ false → a < b → ⊥
below_false a b is less = grind (arith, nat_tests)

below_true : (a b : ℕ) → nat_lt a b ≡ true → a < b
below_true a b is = grind (arith, nat_tests)

sees_one : (count index : ℕ) (seen : List ℕ) (b : Bool) → nat_lt index count ≡ b → SeesOne count index seen (cond b (insert_key nat_eq seen index) seen)
sees_one count index seen true is = record {
  kept = get_kept seen index;
  has = has_kept seen index;
  own = λ less. has_inserted seen index;
  only = λ other has. elim (only_inserted seen index other has) [ inl old ↦ inl old | inr same ↦ inr (same, below_true index count is) ];
}
sees_one count index seen false is = record {
  kept = λ k v there. there;
  has = λ other has. has;
  own = λ less. absurd (below_false index count is less);
  only = λ other has. inl has;
}

-- what is seen with the terms, where they do not name the target
pub record Sees (count target : ℕ) (terms : List Term) (seen new : List ℕ) : Type 0 where
  pub kept : (k v : ℕ) → slice_get seen k ≡ Some v → slice_get new k ≡ Some v
  pub has : (index : ℕ) → Has seen index → Has new index
  pub named : (index : ℕ) → IsNamedIn terms index → index < count → Has new index
  pub only : (index : ℕ) → Has new index → Has seen index ⊎ (IsNamedIn terms index × (index < count))
  pub apart : IsNamedIn terms target → ⊥

module _ (count target : ℕ) where
  -- the terms name the target
  back_by : (term : Term) (terms : List Term) (seen more : List ℕ) (b : Bool) → (term.symbol == target) ≡ b → (seen_with count target terms more ≡ None → IsNamedIn terms target)
      → seen_then (λ then'. seen_with count target terms then') (cond b None (Some more)) ≡ None → IsNamedIn (term ∷ terms) target
  back_by term terms seen more true same later is = inl (eqb-true term.symbol target same)
  back_by term terms seen more false same later is = inr (later is)

  pub seen_back : (terms : List Term) (seen : List ℕ) → seen_with count target terms seen ≡ None → IsNamedIn terms target
  unfolding seen_with
  seen_back [] seen is = cc
  seen_back (term ∷ terms) seen is =
      let more = cond (nat_lt term.symbol count) (insert_key nat_eq seen term.symbol) seen in
      back_by term terms seen more (term.symbol == target) refl (seen_back terms more) is

  -- or the terms' symbols are seen with the others
  module _ (term : Term) (terms : List Term) (seen more new : List ℕ) (one : SeesOne count term.symbol seen more) (rest : Sees count target terms more new) where
    named_both : (index : ℕ) → IsNamedIn (term ∷ terms) index → index < count → Has new index
    named_both index (inl first) less = let there = rest.has term.symbol (one.own (rw first less)) in rw (← first) there
    named_both index (inr later) less = rest.named index later less

    only_first : (index : ℕ) → Has seen index ⊎ ((index ≡ term.symbol) × (term.symbol < count)) → Has seen index ⊎ (IsNamedIn (term ∷ terms) index × (index < count))
    only_first index (inl old) = inl old
    only_first index (inr this) = inr (inl (sym this.0), rw this.0 this.1)

    only_both : (index : ℕ) → Has more index ⊎ (IsNamedIn terms index × (index < count)) → Has seen index ⊎ (IsNamedIn (term ∷ terms) index × (index < count))
    only_both index (inl old) = only_first index (one.only index old)
    only_both index (inr later) = inr (inr later.0, later.1)

    apart_both : (term.symbol == target) ≡ false → IsNamedIn (term ∷ terms) target → ⊥
    apart_both other (inl first) = let test : (term.symbol == target) ≡ true = eq-eqb term.symbol target first in cc
    apart_both other (inr later) = rest.apart later

    sees_both : (term.symbol == target) ≡ false → Sees count target (term ∷ terms) seen new
    sees_both other = record {
      kept = λ k v there. rest.kept k v (one.kept k v there);
      has = λ index has. rest.has index (one.has index has);
      named = named_both;
      only = λ index has. only_both index (rest.only index has);
      apart = apart_both other;
    }

  sees_by : (term : Term) (terms : List Term) (seen more new : List ℕ) (b : Bool) → (term.symbol == target) ≡ b → SeesOne count term.symbol seen more
      → (seen_with count target terms more ≡ Some new → Sees count target terms more new)
      → seen_then (λ then'. seen_with count target terms then') (cond b None (Some more)) ≡ Some new → Sees count target (term ∷ terms) seen new
  sees_by term terms seen more new true same one later is = cc
  sees_by term terms seen more new false same one later is = sees_both term terms seen more new one (later is) same

  pub seen_sees : (terms : List Term) (seen new : List ℕ) → seen_with count target terms seen ≡ Some new → Sees count target terms seen new
  unfolding seen_with
  seen_sees [] seen new is =
      let same : seen ≡ new = cc in
      record {
        kept = λ k v there. rw (← same) there;
        has = λ index has. rw (← same) has;
        named = λ index named. absurd named;
        only = λ index has. inl (rw same has);
        apart = λ named. named;
      }
  seen_sees (term ∷ terms) seen new is =
      let more = cond (nat_lt term.symbol count) (insert_key nat_eq seen term.symbol) seen in
      sees_by term terms seen more new (term.symbol == target) refl (sees_one count term.symbol seen (nat_lt term.symbol count) refl) (seen_sees terms more new) is
