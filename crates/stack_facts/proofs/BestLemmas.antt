use Rattle.std.proofs.Common.{◌≡◌, ℕ, ◌+◌, ◌<◌, ◌≤◌, ◌≢◌, ◌⊎◌, inl, inr, nat_lt, Bool, true, false, cond, Option, Some, None, List, length, get_or, slice_set, get_or-set_same, get_or-set_other, refl, sym, ap, subst, ◌∙◌, arith}
use Rattle.std.proofs.lemmas.Bool.{cases_eq, cases_lt, cases_Bool}
use Rattle.std.proofs.lemmas.Bool.Decides.{nat_tests}
use Rattle.stack_facts.specs.declared.values.Slot.{Slot}
use Rattle.stack_facts.specs.Places.{below}
use Rattle.stack_facts.specs.Facts.{Fact, slot, IsSlotOf}
use Rattle.stack_facts.specs.Sets.{place_of, slot_at, fact_at, holds_in, higher_of, IsBest, AreBest}
use Rattle.stack_facts.proofs.SlotLemmas.{found_there}
use Rattle.stack_facts.proofs.QuietLemmas.{short_best}

-- no slot was looked at
pub begins_best : (slots : List Slot) (bits : List Bool) (r : ℕ) → IsBest slots bits r 0 None
begins_best slots bits r = record { none = λ e k h. absurd (omega arith); stands = λ n e. cc; best = λ n k e h. absurd (omega arith) }

-- one that is of another register, or does not stand, changes nothing
pub passes_best : (slots : List Slot) (bits : List Bool) (r k : ℕ) (found : Option ℕ) → IsBest slots bits r k found
    → ((slot_at slots k).register ≡ r → holds_in slots bits (fact_at slots k) ≡ false) → IsBest slots bits r (k + 1) found
passes_best slots bits r k found b other = record {
  none = λ e m h s. none e m (cases_lt m k) h s;
  stands = b.stands;
  best = λ n m e h s t. best n m e (cases_lt m k) h s t;
}
  where
    here : (m : ℕ) → k ≤ m → m < k + 1 → m ≡ k
    here m l h = omega arith

    quiet : (m : ℕ) → m ≡ k → (slot_at slots m).register ≡ r → holds_in slots bits (fact_at slots m) ≡ false
    quiet m e s = let P : ℕ → Type 0 = λ x. (slot_at slots x).register ≡ r → holds_in slots bits (fact_at slots x) ≡ false in subst P (sym e) other s

    none : found ≡ None → (m : ℕ) → (m < k) ⊎ (k ≤ m) → m < k + 1 → (slot_at slots m).register ≡ r → holds_in slots bits (fact_at slots m) ≡ false
    none e m (inl l) h s = b.none e m l s
    none e m (inr l) h s = quiet m (here m l h) s

    best : (n m : ℕ) → found ≡ Some n → (m < k) ⊎ (k ≤ m) → m < k + 1 → (slot_at slots m).register ≡ r → holds_in slots bits (fact_at slots m) ≡ true → below n (slot_at slots m).distance ≡ false
    best n m e (inl l) h s t = b.best n m e l s t
    best n m e (inr l) h s t = let f = quiet m (here m l h) s in cc

-- one of another register
pub passes_other : (slots : List Slot) (bits : List Bool) (r k : ℕ) (found : Option ℕ) → IsBest slots bits r k found → (slot_at slots k).register ≢ r → IsBest slots bits r (k + 1) found
passes_other slots bits r k found b other = passes_best slots bits r k found b (λ same. absurd (other same))

-- one that does not stand
pub passes_absent : (slots : List Slot) (bits : List Bool) (r k : ℕ) (found : Option ℕ) → IsBest slots bits r k found → holds_in slots bits (fact_at slots k) ≡ false → IsBest slots bits r (k + 1) found
passes_absent slots bits r k found b gone = passes_best slots bits r k found b (λ same. gone)

-- no distance is below itself
not_below_itself : (n : ℕ) → below n n ≡ false
not_below_itself n = grind (arith, nat_tests)

-- what is not below the lower of two is not below the higher
above_both : (a b c : ℕ) → below a b ≡ true → below a c ≡ false → below b c ≡ false
above_both a b c h g = grind (arith, nat_tests)

-- one that stands counts
pub counts_best : (slots : List Slot) (bits : List Bool) (r k : ℕ) (found : Option ℕ) → IsBest slots bits r k found
    → (slot_at slots k).register ≡ r → holds_in slots bits (fact_at slots k) ≡ true → IsBest slots bits r (k + 1) (Some (higher_of found (slot_at slots k).distance))
counts_best slots bits r k found b mine there = record {
  none = λ e m h s. cc;
  stands = λ n e. let P : ℕ → Type 0 = λ x. holds_in slots bits (slot x r) ≡ true in subst P (is_found n e) (stands found refl);
  best = λ n m e h s t. let P : ℕ → Type 0 = λ x. below x (slot_at slots m).distance ≡ false in subst P (is_found n e) (best m (cases_lt m k) found refl h s t);
}
  where
    d : ℕ
    d = (slot_at slots k).distance

    is_found : (n : ℕ) → Some (higher_of found d) ≡ Some n → higher_of found d ≡ n
    is_found n e = cc

    own : holds_in slots bits (slot d r) ≡ true
    own = ap (λ q. holds_in slots bits (slot d q)) (sym mine) ∙ there

    stands : (o : Option ℕ) → found ≡ o → holds_in slots bits (slot (higher_of o d) r) ≡ true
    stands None e = own
    stands (Some n) e = by_test (below n d)
      where
        by_test : (t : Bool) → holds_in slots bits (slot (cond t d n) r) ≡ true
        by_test true = own
        by_test false = b.stands n e

    at_new : (m : ℕ) → m ≡ k → below d (slot_at slots m).distance ≡ false
    at_new m e = ap (λ x. below d (slot_at slots x).distance) e ∙ not_below_itself d

    best : (m : ℕ) → (m < k) ⊎ (k ≤ m) → (o : Option ℕ) → found ≡ o → m < k + 1 → (slot_at slots m).register ≡ r → holds_in slots bits (fact_at slots m) ≡ true → below (higher_of o d) (slot_at slots m).distance ≡ false
    best m (inl l) None e h s t = let f = b.none e m l s in cc
    best m (inl l) (Some n) e h s t = by_test (below n d) refl
      where
        by_test : (u : Bool) → below n d ≡ u → below (cond u d n) (slot_at slots m).distance ≡ false
        by_test true g = above_both n d (slot_at slots m).distance g (b.best n m e l s t)
        by_test false g = b.best n m e l s t
    best m (inr l) None e h s t = at_new m (omega arith)
    best m (inr l) (Some n) e h s t = by_test (below n d) refl
      where
        same : m ≡ k
        same = omega arith

        by_test : (u : Bool) → below n d ≡ u → below (cond u d n) (slot_at slots m).distance ≡ false
        by_test true g = at_new m same
        by_test false g = ap (λ x. below n (slot_at slots x).distance) same ∙ g

-- a slot that stands is in the table
pub found_fact : (slots : List Slot) (bits : List Bool) (n r : ℕ) → holds_in slots bits (slot n r) ≡ true → place_of slots n r < length slots
found_fact slots bits n r h = by_test (nat_lt (place_of slots n r) (length slots)) refl
  where
    by_test : (b : Bool) → nat_lt (place_of slots n r) (length slots) ≡ b → place_of slots n r < length slots
    by_test true e = grind (arith, nat_tests)
    by_test false e = cc

-- all slots were looked at
pub ends_best : (slots : List Slot) (bits : List Bool) (r : ℕ) (found : Option ℕ) → IsBest slots bits r (length slots) found → IsSlotOf (holds_in slots bits) r found
ends_best slots bits r None b = λ n. by_value n (cases_Bool (holds_in slots bits (slot n r)))
  where
    by_value : (n : ℕ) → (holds_in slots bits (slot n r) ≡ true) ⊎ (holds_in slots bits (slot n r) ≡ false) → holds_in slots bits (slot n r) ≡ false
    by_value n (inr h) = h
    by_value n (inl h) =
        let p = found_fact slots bits n r h in
        let f = found_there slots n r p in
        ap (λ x. holds_in slots bits (slot x r)) (sym f.0) ∙ ap (λ x. holds_in slots bits (slot (slot_at slots (place_of slots n r)).distance x)) (sym f.1) ∙ b.none refl (place_of slots n r) p f.1
ends_best slots bits r (Some n) b = (
  b.stands n refl,
  λ m h.
      let p = found_fact slots bits m r h in
      let f = found_there slots m r p in
      let k = place_of slots m r in
      let t : holds_in slots bits (fact_at slots k) ≡ true = ap (λ x. holds_in slots bits (slot x (slot_at slots k).register)) f.0 ∙ ap (λ x. holds_in slots bits (slot m x)) f.1 ∙ h in
      ap (below n) (sym f.0) ∙ b.best n k refl p f.1 t,
)

-- the same for each register: no slot was looked at
pub begins_all : (slots : List Slot) (bits : List Bool) (found : List (Option ℕ)) → ((r : ℕ) → get_or found r None ≡ None) → AreBest slots bits 0 found
begins_all slots bits found none = λ r h. let P : Option ℕ → Type 0 = IsBest slots bits r 0 in subst P (sym (none r)) (begins_best slots bits r)

-- one that does not stand
pub passes_absent_all : (slots : List Slot) (bits : List Bool) (k : ℕ) (found : List (Option ℕ)) → AreBest slots bits k found → holds_in slots bits (fact_at slots k) ≡ false → AreBest slots bits (k + 1) found
passes_absent_all slots bits k found b gone = λ r h. passes_absent slots bits r k (get_or found r None) (b r h) gone

-- one of another register
pub passes_other_all : (slots : List Slot) (bits : List Bool) (k : ℕ) (found : List (Option ℕ)) → AreBest slots bits k found → 7 ≤ (slot_at slots k).register → AreBest slots bits (k + 1) found
passes_other_all slots bits k found b far = λ r h. let ne : (slot_at slots k).register ≢ r = omega arith in passes_other slots bits r k (get_or found r None) (b r h) ne

-- one that stands
pub counts_all : (slots : List Slot) (bits : List Bool) (k own : ℕ) (found : List (Option ℕ)) → AreBest slots bits k found → length found ≡ 7 → own ≡ (slot_at slots k).register → own < 7
    → holds_in slots bits (fact_at slots k) ≡ true → AreBest slots bits (k + 1) (slice_set found own (Some (higher_of (get_or found own None) (slot_at slots k).distance)))
counts_all slots bits k own found b long mine small there = λ r h. by_place r h (cases_eq r own)
  where
    x : Option ℕ
    x = Some (higher_of (get_or found own None) (slot_at slots k).distance)

    here : IsBest slots bits own (k + 1) (get_or (slice_set found own x) own None)
    here =
        let P : Option ℕ → Type 0 = IsBest slots bits own (k + 1) in
        subst P (sym (get_or-set_same found own x None (omega arith))) (counts_best slots bits own k (get_or found own None) (b own small) (sym mine) there)

    by_place : (r : ℕ) → r < 7 → (r ≡ own) ⊎ (r ≡ own → ⊥) → IsBest slots bits r (k + 1) (get_or (slice_set found own x) r None)
    by_place r h (inl e) = let P : ℕ → Type 0 = λ m. IsBest slots bits m (k + 1) (get_or (slice_set found own x) m None) in subst P (sym e) here
    by_place r h (inr ne) =
        let P : Option ℕ → Type 0 = IsBest slots bits r (k + 1) in
        subst P (sym (get_or-set_other found own r x None ne)) (passes_other slots bits r k (get_or found r None) (b r h) (λ e. ne (sym (mine ∙ e))))

-- all slots were looked at
pub ends_all : (slots : List Slot) (bits : List Bool) (found : List (Option ℕ)) → AreBest slots bits (length slots) found → (r : ℕ) → r < 7 → IsSlotOf (holds_in slots bits) r (get_or found r None)
ends_all slots bits found b r h = ends_best slots bits r (get_or found r None) (b r h)

-- no slot stands
pub short_all : (slots : List Slot) (bits : List Bool) (found : List (Option ℕ)) → ((r : ℕ) → get_or found r None ≡ None) → ((k : ℕ) → 6 ≤ k → get_or bits k false ≡ false) → (r : ℕ) → IsSlotOf (holds_in slots bits) r (get_or found r None)
short_all slots bits found none short r = let P : Option ℕ → Type 0 = IsSlotOf (holds_in slots bits) r in subst P (sym (none r)) (short_best slots bits r short)

-- where nothing stands no slot does
pub nothing_stands : (stands : Fact → Bool) (found : List (Option ℕ)) → ((r : ℕ) → get_or found r None ≡ None) → ((f : Fact) → stands f ≡ false) → (r : ℕ) → IsSlotOf stands r (get_or found r None)
nothing_stands stands found none no_fact r = let P : Option ℕ → Type 0 = IsSlotOf stands r in subst P (sym (none r)) (λ n. no_fact (slot n r))
