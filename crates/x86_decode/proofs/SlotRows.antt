-- The first row of an opcode that admits a head is the first one of the table.
use Rattle.std.proofs.Common.{◌≡◌, ◌<◌, ℕ, ◌+◌, ◌-◌, ◌==◌, List, [], ◌∷◌, Bool, true, false, if◌then◌else◌, Option, Some, None, refl, arith, sym, ap, ◌∙◌, inl, inr, ◌⊎◌, zero, suc, slice_get}
use Rattle.std.specs.List.{list_any}
use Rattle.std.proofs.lemmas.Bool.{and_parts, cases_Bool, cases_order, eqb-true, or_cases}
use Rattle.x86_table.specs.declared.forms.Map.{Map}
use Rattle.x86_table.specs.declared.forms.Row.{Row}
use Rattle.x86_table.specs.Rows.{the_rows}
use Rattle.x86_table.specs.Heads.{map_number, span}
use Rattle.x86_table.specs.Leads.{HeadsTellRows}
use Rattle.x86_decode.specs.Heads.{Head}
use Rattle.x86_decode.specs.Admitting.{admits}
use Rattle.x86_decode.specs.Decoding.{first_row}
use Rattle.x86_decode.specs.Slots.{slot_of, slot_numbers, is_listed, all_listed, pick, first_number}
use Rattle.x86_decode.proofs.SharedHeads.{admitted}
use Rattle.x86_decode.proofs.Completeness.{found}
use Rattle.x86_decode.proofs.SlotFacts.{listed}

-- a row that passes stands in the table
record Passes (p : Row → Bool) (r : Row) : Type 0 where
  at : ℕ
  there : slice_get the_rows at ≡ Some r
  passes : p r ≡ true

some_passes : (p : Row → Bool) (numbers : List ℕ) (r : Row) → first_number p numbers ≡ Some r → Passes p r
some_passes p [] r h = cc
some_passes p (n ∷ numbers) r h = picked (slice_get the_rows n) refl h (λ e. some_passes p numbers r e)
  where
    if_passes : (s : Row) (c : Bool) → slice_get the_rows n ≡ Some s → p s ≡ c → (if c then Some s else first_number p numbers) ≡ Some r → (first_number p numbers ≡ Some r → Passes p r) → Passes p r
    if_passes s true e c h rest = let same : s ≡ r = cc in record { at = n; there = e ∙ ap Some same; passes = rw (← same) c }
    if_passes s false e c h rest = rest h

    picked : (o : Option Row) → slice_get the_rows n ≡ o → pick p o (first_number p numbers) ≡ Some r → (first_number p numbers ≡ Some r → Passes p r) → Passes p r
    picked None e h rest = rest h
    picked (Some s) e h rest = if_passes s (p s) e refl h rest

none_passes : (p : Row → Bool) (numbers : List ℕ) (i : ℕ) (r : Row) → first_number p numbers ≡ None → list_any (λ k. k == i) numbers ≡ true → slice_get the_rows i ≡ Some r → p r ≡ false
none_passes p [] i r h l e = cc
none_passes p (n ∷ numbers) i r h l e = elim (cases_order n i) [
  | inl same ↦
      let there : slice_get the_rows n ≡ Some r = rw same e in
      own (p r) refl (rw there at h)
  | inr other ↦ none_passes p numbers i r (behind (slice_get the_rows n) h) (later (n == i) (differ other) l) e
]
  where
    own : (c : Bool) → p r ≡ c → (if p r then Some r else first_number p numbers) ≡ None → p r ≡ false
    own true c h = let t : Some r ≡ None = rw c at h in cc
    own false c h = c

    if_none : (c : Bool) (s : Row) (rest : Option Row) → (if c then Some s else rest) ≡ None → rest ≡ None
    if_none true s rest h = cc
    if_none false s rest h = h

    behind : (o : Option Row) → pick p o (first_number p numbers) ≡ None → first_number p numbers ≡ None
    behind None h = h
    behind (Some s) h = if_none (p s) s (first_number p numbers) h

    differ : (n < i) ⊎ (i < n) → n ≡ i → ⊥
    differ (inl l) e = omega arith
    differ (inr l) e = omega arith

    later : (c : Bool) → (n ≡ i → ⊥) → list_any (λ k. k == i) (n ∷ numbers) ≡ true → list_any (λ k. k == i) numbers ≡ true
    later c d h = elim (or_cases (n == i) (list_any (λ k. k == i) numbers) h) [
      | inl t ↦ absurd (d (eqb-true n i t))
      | inr t ↦ t
    ]

listed_at : (i : ℕ) (r : Row) (n k : ℕ) → is_listed i r n ≡ true → k < n → list_any (λ j. j == i) (slot_numbers (slot_of r.map (r.code + k))) ≡ true
listed_at i r zero k h l = absurd (omega arith)
listed_at i r (suc n) k h l =
    let p = and_parts _ (is_listed i r n) h in
    elim (cases_order k n) [
      | inl e ↦ rw e p.0
      | inr (inl less) ↦ listed_at i r n k p.1 less
      | inr (inr more) ↦ absurd (omega arith)
    ]

row_listed : (rows : List Row) (from i : ℕ) (r : Row) → all_listed from rows ≡ true → slice_get rows i ≡ Some r → is_listed (from + i) r (span r.shape) ≡ true
row_listed [] from i r h e = cc
row_listed (s ∷ rows) from zero r h e =
    let same : s ≡ r = cc in
    let p = and_parts (is_listed from s (span s.shape)) (all_listed (from + 1) rows) h in
    let sum : from + 0 ≡ from = omega arith in
    rw (sum, ← same) p.0
row_listed (s ∷ rows) from (suc i) r h e =
    let p = and_parts (is_listed from s (span s.shape)) (all_listed (from + 1) rows) h in
    let rest = row_listed rows (from + 1) i r p.1 e in
    let sum : from + suc i ≡ from + 1 + i = omega arith in
    rw sum rest

no_row : (p : Row → Bool) (rows : List Row) → ((i : ℕ) (r : Row) → slice_get rows i ≡ Some r → p r ≡ false) → first_row p rows ≡ None
no_row p [] f = refl
no_row p (r ∷ rows) f = let rest = no_row p rows (λ i s e. f (suc i) s e) in rw (f 0 r refl, rest) refl

slot_same : (m n : Map) (o q : ℕ) → map_number m ≡ map_number n → o ≡ q → slot_of m o ≡ slot_of n q
slot_same m n o q e f = omega arith

-- a row that admits the head stands at its opcode
admitting_listed : (m : Map) (h : Head) (o : ℕ) (tail : List ℕ) (i : ℕ) (r : Row) → slice_get the_rows i ≡ Some r → admits m h o tail r ≡ true
    → list_any (λ k. k == i) (slot_numbers (slot_of m o)) ≡ true
admitting_listed m h o tail i r e a =
    let d = admitted m h o tail r a in
    let least = d.least in
    let most = d.most in
    let none : 0 + i ≡ i = omega arith in
    let all : is_listed i r (span r.shape) ≡ true = rw none at (row_listed the_rows 0 i r listed e) in
    let own = listed_at i r (span r.shape) (o - r.code) all (omega arith) in
    let slot = slot_same r.map m (r.code + (o - r.code)) o d.map (omega arith) in
    rw (← slot) own

none_admits : (m : Map) (h : Head) (o : ℕ) (tail : List ℕ) (i : ℕ) (r : Row) → first_number (admits m h o tail) (slot_numbers (slot_of m o)) ≡ None
    → slice_get the_rows i ≡ Some r → admits m h o tail r ≡ false
none_admits m h o tail i r n e = elim (cases_Bool (admits m h o tail r)) [
  | inl a ↦ none_passes (admits m h o tail) (slot_numbers (slot_of m o)) i r n (admitting_listed m h o tail i r e a) e
  | inr a ↦ a
]

pub slot_row : HeadsTellRows → (m : Map) (h : Head) (o : ℕ) (tail : List ℕ) → first_number (admits m h o tail) (slot_numbers (slot_of m o)) ≡ first_row (admits m h o tail) the_rows
slot_row tell m h o tail = by_case (first_number (admits m h o tail) (slot_numbers (slot_of m o))) refl
  where
    by_case : (found_there : Option Row) → first_number (admits m h o tail) (slot_numbers (slot_of m o)) ≡ found_there → found_there ≡ first_row (admits m h o tail) the_rows
    by_case None e = sym (no_row (admits m h o tail) the_rows (λ i r f. none_admits m h o tail i r e f))
    by_case (Some r) e = let s = some_passes (admits m h o tail) _ r e in sym (found tell m h o tail r s.at s.there s.passes)
