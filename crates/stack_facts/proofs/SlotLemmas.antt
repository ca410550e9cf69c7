use Rattle.std.proofs.Common.{◌≡◌, ℕ, ◌+◌, ◌<◌, ◌≤◌, ◌⊎◌, inl, inr, ◌==◌, ◌&&◌, nat_lt, Bool, true, false, cond, Some, None, List, [], ◌∷◌, ◌++◌, length, get_or, refl, sym, ap, subst, ◌∙◌, arith}
use Rattle.std.proofs.lemmas.Bool.{cases_lt}
use Rattle.std.proofs.lemmas.Bool.Decides.{nat_tests}
use Rattle.std.proofs.lemmas.List.{get_or_append_left}
use Rattle.std.proofs.lemmas.List.Sums.{passes_at_first}
use Rattle.std.proofs.lemmas.List.Folds.{position_or_len_push}
use Rattle.std.proofs.Math.Seq.{get_or-append_seam}
use Rattle.std.proofs.Common.{length-append}
use Rattle.stack_facts.specs.declared.values.Slot.{Slot}
use Rattle.stack_facts.specs.Places.{is_saved}
use Rattle.stack_facts.specs.Sets.{is_slot, place_of, no_slot, slot_at, fact_at, holds_in, IsPlain, IsAdded, AreAdded}

-- both hold
both : (a b : Bool) → (a && b) ≡ true → (a ≡ true) × (b ≡ true)
both true b h = (refl, h)
both false b h = cc

-- numbers of which the test holds
same_number : (a b : ℕ) → (a == b) ≡ true → a ≡ b
same_number a b h = grind (arith, nat_tests)

-- a slot that is in the table stands at its place
pub found_there : (slots : List Slot) (n r : ℕ) → place_of slots n r < length slots → ((slot_at slots (place_of slots n r)).distance ≡ n) × ((slot_at slots (place_of slots n r)).register ≡ r)
found_there slots n r h =
    let s = slot_at slots (place_of slots n r) in
    let two = both (s.distance == n) (s.register == r) (passes_at_first (is_slot n r) slots no_slot h) in
    (same_number s.distance n two.0, same_number s.register r two.1)

-- the bit of a slot is the one at its place
pub stands_there : (slots : List Slot) (bits : List Bool) (k : ℕ) → IsPlain slots → k < length slots → get_or bits (6 + k) false ≡ holds_in slots bits (fact_at slots k)
stands_there slots bits k plain h =
    let P : ℕ → Type 0 = λ x. get_or bits (6 + k) false ≡ (nat_lt x (length slots) && get_or bits (6 + x) false) in
    subst P (sym (plain.once k h)) (by_test (nat_lt k (length slots)) refl)
  where
    by_test : (b : Bool) → nat_lt k (length slots) ≡ b → get_or bits (6 + k) false ≡ (b && get_or bits (6 + k) false)
    by_test true e = refl
    by_test false e = absurd (let far : length slots ≤ k = grind (arith, nat_tests) in omega arith)

-- a slot that is there keeps its place
pub pushed_place : (slots : List Slot) (s : Slot) (n r k : ℕ) → place_of slots n r ≡ k → k < length slots → place_of (slots ++ s ∷ []) n r ≡ k
pushed_place slots s n r k e h =
    position_or_len_push (is_slot n r) slots s ∙ by_test (place_of slots n r == length slots) refl
  where
    by_test : (b : Bool) → (place_of slots n r == length slots) ≡ b → cond b (length slots + cond (is_slot n r s) 0 1) (place_of slots n r) ≡ k
    by_test true t = absurd (let same : place_of slots n r ≡ length slots = grind (arith, nat_tests) in omega arith)
    by_test false t = e

-- a slot is itself
pub own_slot : (s : Slot) → is_slot s.distance s.register s ≡ true
own_slot s = grind (arith, nat_tests)

-- a slot that was not there stands last
pushed_own : (slots : List Slot) (s : Slot) → place_of slots s.distance s.register ≡ length slots → place_of (slots ++ s ∷ []) s.distance s.register ≡ length slots
pushed_own slots s e =
    position_or_len_push (is_slot s.distance s.register) slots s ∙ by_test (place_of slots s.distance s.register == length slots) refl
  where
    by_test : (b : Bool) → (place_of slots s.distance s.register == length slots) ≡ b → cond b (length slots + cond (is_slot s.distance s.register s) 0 1) (place_of slots s.distance s.register) ≡ length slots
    by_test true t = ap (λ c. length slots + cond c 0 1) (own_slot s) ∙ omega arith
    by_test false t = absurd (grind (arith, nat_tests))

-- slots that were there stay
pub at_old : (slots : List Slot) (s : Slot) (k : ℕ) → k < length slots → slot_at (slots ++ s ∷ []) k ≡ slot_at slots k
at_old slots s k h = get_or_append_left slots (s ∷ []) no_slot k h

-- the slot that was put last
pub at_new : (slots : List Slot) (s : Slot) → slot_at (slots ++ s ∷ []) (length slots) ≡ s
at_new slots s = get_or-append_seam slots s [] no_slot

-- there is one more
pub pushed_length : (slots : List Slot) (s : Slot) → length (slots ++ s ∷ []) ≡ length slots + 1
pushed_length slots s = length-append slots (s ∷ [])

-- each stands once still
pushed_plain : (slots : List Slot) (s : Slot) → IsPlain slots → is_saved s.register ≡ true → place_of slots s.distance s.register ≡ length slots → IsPlain (slots ++ s ∷ [])
pushed_plain slots s plain six e = record {
  once = λ k h. once k (cases_lt k (length slots)) h;
  of_six = λ k h. of_six k (cases_lt k (length slots)) h;
}
  where
    last : (k : ℕ) → length slots ≤ k → k < length (slots ++ s ∷ []) → k ≡ length slots
    last k l h = let n = pushed_length slots s in omega arith

    once : (k : ℕ) → (k < length slots) ⊎ (length slots ≤ k) → k < length (slots ++ s ∷ []) → place_of (slots ++ s ∷ []) (slot_at (slots ++ s ∷ []) k).distance (slot_at (slots ++ s ∷ []) k).register ≡ k
    once k (inl l) h =
        let P : Slot → Type 0 = λ x. place_of (slots ++ s ∷ []) x.distance x.register ≡ k in
        subst P (sym (at_old slots s k l)) (pushed_place slots s (slot_at slots k).distance (slot_at slots k).register k (plain.once k l) l)
    once k (inr l) h =
        let P : ℕ → Type 0 = λ m. place_of (slots ++ s ∷ []) (slot_at (slots ++ s ∷ []) m).distance (slot_at (slots ++ s ∷ []) m).register ≡ m in
        let Q : Slot → Type 0 = λ x. place_of (slots ++ s ∷ []) x.distance x.register ≡ length slots in
        subst P (sym (last k l h)) (subst Q (sym (at_new slots s)) (pushed_own slots s e))

    of_six : (k : ℕ) → (k < length slots) ⊎ (length slots ≤ k) → k < length (slots ++ s ∷ []) → is_saved (slot_at (slots ++ s ∷ []) k).register ≡ true
    of_six k (inl l) h = ap (λ (x : Slot). is_saved x.register) (at_old slots s k l) ∙ plain.of_six k l
    of_six k (inr l) h = ap (λ m. is_saved (slot_at (slots ++ s ∷ []) m).register) (last k l h) ∙ ap (λ (x : Slot). is_saved x.register) (at_new slots s) ∙ six

-- a slot that was not there was put behind
pub added : (slots new : List Slot) (s : Slot) → IsPlain slots → is_saved s.register ≡ true → place_of slots s.distance s.register ≡ length slots → new ≡ slots ++ s ∷ [] → IsAdded slots s new
added slots new s plain six e is = let P : List Slot → Type 0 = λ x. IsAdded slots s x in subst P (sym is) (record {
  plain = pushed_plain slots s plain six e;
  there = let o = pushed_own slots s e in let n = pushed_length slots s in omega arith;
  kept = λ n r h. let o = pushed_place slots s n r (place_of slots n r) refl h in let l = pushed_length slots s in omega arith;
  few = let n = pushed_length slots s in omega arith;
})

-- a slot that was there
pub there : (slots : List Slot) (s : Slot) → IsPlain slots → place_of slots s.distance s.register < length slots → IsAdded slots s slots
there slots s plain h = record { plain = plain; there = h; kept = λ n r l. l; few = omega arith }

-- no slot was found
pub none_added : (slots : List Slot) → IsPlain slots → AreAdded slots None slots
none_added slots plain = record { plain = plain; there = λ n r h. cc; kept = λ n r l. l; few = omega arith }

-- one was found
pub some_added : (slots new : List Slot) (s : Slot) → IsAdded slots s new → AreAdded slots (Some s) new
some_added slots new s a = record {
  plain = a.plain;
  there = λ n r h.
      let two = both (s.distance == n) (s.register == r) h in
      let P : ℕ → Type 0 = λ x. place_of new x r < length new in
      let Q : ℕ → Type 0 = λ x. place_of new s.distance x < length new in
      subst P (same_number s.distance n two.0) (subst Q (same_number s.register r two.1) a.there);
  kept = a.kept;
  few = a.few;
}
