-- The program that decides whether a form leads back to a symbol is right.
use Rattle.std.proofs.Common.{◌≡◌, Bool, true, false, cond, ℕ, zero, suc, ◌+◌, ◌==◌, ◌≤◌, nat_eq, nat_lt, List, [], ◌∷◌, ◌++◌, length, Option, None, Some, refl, arith, slice_get}
use Rattle.std.specs.Cmp.{nat_eq_equiv}
use Rattle.std.specs.List.{IsDistinct, list_any}
use Rattle.std.proofs.lemmas.Map.Keys.{IsDistinct-push}
use Rattle.indexmap.specs.IndexSet.{insert_key}
use Rattle.asm_expr.specs.declared.forms.Term.{Term}
use Rattle.asm_expr.specs.Forms.{Form}
use Rattle.asm_symbols.specs.declared.entries.Symbol.{Symbol}
use Rattle.asm_symbols.specs.Assigning.{form_at, Leads}
use Rattle.asm_symbols.specs.Searching.{seen_then, seen_with, seen_behind}
use Rattle.asm_symbols.specs.LeadsBack.{searched_on, searched_next, searched, leads_back}
use Rattle.asm_symbols.proofs.SearchLemmas.{IsSearching, searching_start, starting_back, searching_step, searching_back, searching_few, searching_done}

distinct_nil : IsDistinct nat_eq []
unfolding IsDistinct
distinct_nil = tt

-- a list ends where nothing stands
ends_at : (seen : List ℕ) (at : ℕ) → slice_get seen at ≡ None → length seen ≤ at
ends_at [] at is = omega arith
ends_at (first ∷ seen) zero is = cc
ends_at (first ∷ seen) (suc at) is = let rest = ends_at seen at is in omega arith

-- no symbol is seen twice
module _ (count target : ℕ) where
  distinct_inserted : (seen : List ℕ) (index : ℕ) → IsDistinct nat_eq seen → IsDistinct nat_eq (insert_key nat_eq seen index)
  distinct_inserted seen index distinct = by (list_any (nat_eq index) seen) refl
    where
      by : (b : Bool) → list_any (nat_eq index) seen ≡ b → IsDistinct nat_eq (cond b seen (seen ++ index ∷ []))
      by true is = distinct
      by false is = IsDistinct-push nat_eq_equiv seen index distinct is

  distinct_one : (b : Bool) (seen : List ℕ) (index : ℕ) → IsDistinct nat_eq seen → IsDistinct nat_eq (cond b (insert_key nat_eq seen index) seen)
  distinct_one true seen index distinct = distinct_inserted seen index distinct
  distinct_one false seen index distinct = distinct

  distinct_by : (terms : List Term) (more new : List ℕ) (b : Bool) → (seen_with count target terms more ≡ Some new → IsDistinct nat_eq new)
      → seen_then (λ then'. seen_with count target terms then') (cond b None (Some more)) ≡ Some new → IsDistinct nat_eq new
  distinct_by terms more new true later is = cc
  distinct_by terms more new false later is = later is

  pub distinct_with : (terms : List Term) (seen new : List ℕ) → IsDistinct nat_eq seen → seen_with count target terms seen ≡ Some new → IsDistinct nat_eq new
  unfolding seen_with
  distinct_with [] seen new distinct is = let same : seen ≡ new = cc in rw (← same) distinct
  distinct_with (term ∷ terms) seen new distinct is =
      let more = cond (nat_lt term.symbol count) (insert_key nat_eq seen term.symbol) seen in
      distinct_by terms more new (term.symbol == target) (distinct_with terms more new (distinct_one (nat_lt term.symbol count) seen term.symbol distinct)) is

  distinct_behind : (o : Option Form) (seen new : List ℕ) → IsDistinct nat_eq seen → seen_behind count target o seen ≡ Some new → IsDistinct nat_eq new
  distinct_behind None seen new distinct is = let same : seen ≡ new = cc in rw (← same) distinct
  distinct_behind (Some form) seen new distinct is = distinct_with form.terms seen new distinct is

-- what the search answers, at each of its states
module _ (symbols : List Symbol) (form : Form) (target : ℕ) where
  -- the answer is right
  abbrev pub Answers : Bool → Type 0
  Answers true = Leads symbols form target
  Answers false = Leads symbols form target → ⊥

  module _ (seen : List ℕ) (at : ℕ) (search : IsSearching symbols form target seen at) (distinct : IsDistinct nat_eq seen) (later : List ℕ → Bool)
      (right : (new : List ℕ) → IsSearching symbols form target new (at + 1) → IsDistinct nat_eq new → Answers (later new)) where
    on_by : (middle : ℕ) → slice_get seen at ≡ Some middle → (o : Option (List ℕ)) → seen_behind (length symbols) target (form_at symbols middle) seen ≡ o → Answers (searched_on o later)
    on_by middle there None is = searching_back symbols form target seen at search middle there is
    on_by middle there (Some new) is =
        right new (searching_step symbols form target seen new at middle search there is) (distinct_behind (length symbols) target (form_at symbols middle) seen new distinct is)

    next_by : (o : Option ℕ) → slice_get seen at ≡ o → Answers (searched_next o symbols target seen later)
    next_by None all = searching_done symbols form target seen at search (ends_at seen at all)
    next_by (Some middle) there = on_by middle there (seen_behind (length symbols) target (form_at symbols middle) seen) refl

  searched_right : (fuel : ℕ) (seen : List ℕ) (at : ℕ) → IsSearching symbols form target seen at → IsDistinct nat_eq seen → length symbols ≤ fuel + at → Answers (searched fuel symbols target seen at)
  unfolding searched
  searched_right zero seen at search distinct enough =
      let few = searching_few symbols form target seen at search distinct in
      searching_done symbols form target seen at search (omega arith)
  searched_right (suc fuel) seen at search distinct enough =
      next_by seen at search distinct (λ more. searched fuel symbols target more (at + 1)) (λ new its apart. searched_right fuel new (at + 1) its apart (omega arith)) (slice_get seen at) refl

  start_by : (o : Option (List ℕ)) → seen_with (length symbols) target form.terms [] ≡ o → Answers (searched_on o (λ seen. searched (length symbols) symbols target seen 0))
  start_by None is = starting_back symbols form target is
  start_by (Some seen) is = searched_right (length symbols) seen 0 (searching_start symbols form target seen is) (distinct_with (length symbols) target form.terms [] seen distinct_nil is) (omega arith)

  leads_back_right : Answers (leads_back symbols form target)
  unfolding leads_back
  leads_back_right = start_by (seen_with (length symbols) target form.terms []) refl

  -- the program answers true exactly where the form leads to the symbol
  pub back_leads : leads_back symbols form target ≡ true → Leads symbols form target
  back_leads is = rw is at leads_back_right

  pub leads_is_back : Leads symbols form target → leads_back symbols form target ≡ true
  leads_is_back leads = by (leads_back symbols form target) refl leads_back_right
    where
      by : (b : Bool) → leads_back symbols form target ≡ b → Answers b → leads_back symbols form target ≡ true
      by true is right = is
      by false is right = absurd (right leads)

  pub leads_not_back : (Leads symbols form target → ⊥) → leads_back symbols form target ≡ false
  leads_not_back not = by (leads_back symbols form target) refl leads_back_right
    where
      by : (b : Bool) → leads_back symbols form target ≡ b → Answers b → leads_back symbols form target ≡ false
      by true is right = absurd (not right)
      by false is right = is
