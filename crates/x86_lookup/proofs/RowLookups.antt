-- What is found among the rows of a name and a size.
use Rattle.std.proofs.Common.{◌≡◌, ◌<◌, ◌≤◌, ℕ, ◌+◌, ◌-◌, ◌==◌, ◌&&◌, nat_lt, nat_le, List, [], ◌∷◌, take, drop, slice_range, Bool, true, false, Option, Some, None, slice_get, refl, arith, zero, suc, sym, ap, ◌∙◌, inl, inr, subst}
use Rattle.std.proofs.lemmas.Bool.{and_parts, and_from, both_ways, ltb-true, leb-true, cases_Bool}
use Rattle.std.specs.List.{find}
use Rattle.x86_insn.specs.declared.insns.Insn.{Insn}
use Rattle.x86_table.specs.declared.forms.Row.{Row}
use Rattle.x86_lookup.specs.declared.ranges.RowRange.{RowRange}
use Rattle.x86_table.specs.Rows.{the_rows}
use Rattle.x86_lookup.specs.Ranges.{is_in, is_sized, AreRowsOf}
use Rattle.x86_lookup.specs.Writing.{admits, kind_fits, FindsRow}

some_is : {A : Type 0} {m n : A} → Some m ≡ Some n → m ≡ n
some_is h = cc

take_get : (n j : ℕ) (xs : List Row) (r : Row) → slice_get (take n xs) j ≡ Some r → slice_get xs j ≡ Some r
take_get zero j xs r h = cc
take_get (suc n) j [] r h = cc
take_get (suc n) zero (x ∷ xs) r h = h
take_get (suc n) (suc j) (x ∷ xs) r h = take_get n j xs r h

get_take : (n j : ℕ) (xs : List Row) → j < n → slice_get (take n xs) j ≡ slice_get xs j
get_take zero j xs l = absurd (omega arith)
get_take (suc n) j [] l = refl
get_take (suc n) zero (x ∷ xs) l = refl
get_take (suc n) (suc j) (x ∷ xs) l = get_take n j xs (omega arith)

get_drop : (a j : ℕ) (xs : List Row) → slice_get (drop a xs) j ≡ slice_get xs (a + j)
get_drop zero j xs = let z : j ≡ 0 + j = omega arith in ap (slice_get xs) z
get_drop (suc a) j [] = refl
get_drop (suc a) j (x ∷ xs) = let z : suc (a + j) ≡ suc a + j = omega arith in subst (λ (k : ℕ). slice_get (drop a xs) j ≡ slice_get (x ∷ xs) k) z (get_drop a j xs)

-- what is found is one of them and passes
pub found_one : (p : Row → Bool) (xs : List Row) (r : Row) → find p xs ≡ Some r → (j : ℕ) × (slice_get xs j ≡ Some r) × (p r ≡ true)
found_one p [] r h = cc
found_one p (x ∷ xs) r h = elim (cases_Bool (p x)) [
  | inl t ↦
      let same : x ≡ r = some_is (rw t at h) in
      (0, ap Some same, subst (λ (y : Row). p y ≡ true) same t)
  | inr f ↦
      let rest = found_one p xs r (rw f at h) in
      (suc rest.0, rest.1, rest.2)
]

-- where nothing is found, none passes
none_passes : (p : Row → Bool) (xs : List Row) (j : ℕ) (r : Row) → find p xs ≡ None → slice_get xs j ≡ Some r → p r ≡ false
none_passes p [] j r h e = cc
none_passes p (x ∷ xs) zero r h e = elim (cases_Bool (p x)) [
  | inl t ↦ (let bad : Some x ≡ None = rw t at h in cc)
  | inr f ↦ subst (λ (y : Row). p y ≡ false) (some_is e) f
]
none_passes p (x ∷ xs) (suc j) r h e = elim (cases_Bool (p x)) [
  | inl t ↦ (let bad : Some x ≡ None = rw t at h in cc)
  | inr f ↦ none_passes p xs j r (rw f at h) e
]

-- a row that admits the instruction has its name and its size
same_size : (r : Row) (insn : Insn) → admits r insn ≡ true → is_sized insn.name.0 insn.size r ≡ true
unfolding admits
same_size r insn h =
    let p = and_parts (r.name.0 == insn.name.0) ((r.size == insn.size) && (kind_fits r.first insn.first && (kind_fits r.second insn.second && kind_fits r.third insn.third))) h in
    let q = and_parts (r.size == insn.size) (kind_fits r.first insn.first && (kind_fits r.second insn.second && kind_fits r.third insn.third)) p.1 in
    and_from _ _ p.0 q.0

in_parts : (rows : RowRange) (i : ℕ) → is_in rows i ≡ true → (rows.start ≤ i) × (i < rows.stop)
in_parts rows i h =
    let p = and_parts (nat_le rows.start i) (nat_lt i rows.stop) h in
    (leb-true rows.start i p.0, ltb-true i rows.stop p.1)

missed : (insn : Insn) (rows : RowRange) → AreRowsOf (is_sized insn.name.0 insn.size) rows → find (λ r. admits r insn) (slice_range the_rows rows.start rows.stop) ≡ None
    → (i : ℕ) (r : Row) → slice_get the_rows i ≡ Some r → admits r insn ≡ false
missed insn rows are h i r e = elim (cases_Bool (admits r insn)) [
  | inl t ↦
      let inside = in_parts rows i (are i r e ∙ same_size r insn t) in
      let above = inside.0 in
      let below = inside.1 in
      let at : rows.start + (i - rows.start) ≡ i = omega arith in
      let here : slice_get (slice_range the_rows rows.start rows.stop) (i - rows.start) ≡ Some r =
      get_take (rows.stop - rows.start) (i - rows.start) (drop rows.start the_rows) (omega arith) ∙ get_drop rows.start (i - rows.start) the_rows ∙ ap (slice_get the_rows) at ∙ e in
      absurd (both_ways (admits r insn) (none_passes (λ s. admits s insn) (slice_range the_rows rows.start rows.stop) (i - rows.start) r h here) t)
  | inr f ↦ f
]

pub finds : (insn : Insn) (rows : RowRange) (found : Option Row) → AreRowsOf (is_sized insn.name.0 insn.size) rows
    → found ≡ find (λ r. admits r insn) (slice_range the_rows rows.start rows.stop) → FindsRow insn found
finds insn rows None are e = missed insn rows are (sym e)
finds insn rows (Some r) are e =
    let one = found_one (λ s. admits s insn) (slice_range the_rows rows.start rows.stop) r (sym e) in
    (rows.start + one.0, sym (get_drop rows.start one.0 the_rows) ∙ take_get (rows.stop - rows.start) one.0 (drop rows.start the_rows) r one.1, one.2)
