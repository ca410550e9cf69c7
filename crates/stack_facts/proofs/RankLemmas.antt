use Rattle.std.proofs.Common.{◌≡◌, ℕ, ◌+◌, ◌-◌, ◌^◌, ◌<◌, ◌≤◌, ◌≢◌, ◌==◌, ◌⊎◌, ◌&&◌, inl, inr, nat_lt, Bool, true, false, cond, List, [], ◌∷◌, ◌++◌, length, refl, sym, ap, subst, ◌∙◌, arith}
use Rattle.std.specs.Prelude.{slice_index_or}
use Rattle.std.specs.List.{Contains}
use Rattle.std.specs.List.Sorted.{IsPermutation, IsNonDecreasingBy, IsPartitionedBy, IsPartitionPoint}
use Rattle.std.specs.Ordering.{nat_cmp}
use Rattle.std.specs.declared.cmp.Ordering.TheVariants.{Less, Equal, Greater}
use Rattle.std.proofs.lemmas.Bool.{cases_lt, cases_eq}
use Rattle.std.proofs.lemmas.Bool.Decides.{nat_tests}
use Rattle.std.proofs.lemmas.List.{get_or_read}
use Rattle.std.proofs.lemmas.List.Elements.{Contains-get_or}
use Rattle.std.proofs.lemmas.List.Sorted.{IsNonDecreasingBy-from_default, IsPartitionedBy-ltb, IsPermutation-sym, Contains-permutation}
use Rattle.std.proofs.lemmas.List.Sums.{position_or_len_is, fails_before_first}
use Rattle.stack_facts.specs.declared.values.Slot.{Slot}
use Rattle.stack_facts.specs.Places.{is_saved, is_slot_place}
use Rattle.stack_facts.specs.Sets.{is_slot, place_of, no_slot, slot_at, IsPlain, IsAdded}
use Rattle.stack_facts.specs.Ranks.{rank_at, rank_of, MayStand, IsRanked, IsCountBefore, HasAll}
use Rattle.stack_facts.proofs.SlotLemmas.{own_slot, found_there, pushed_length, at_old, at_new, added, there}

-- slots of which one comes before the other are not the same
before_apart : (s : Slot) (n r : ℕ) → rank_of s < rank_at n r → is_slot n r s ≡ false
before_apart s n r h = by_test (s.distance == n) (s.register == r) refl refl
  where
    by_test : (a b : Bool) → (s.distance == n) ≡ a → (s.register == r) ≡ b → (a && b) ≡ false
    by_test true true e f = absurd (let x : s.distance ≡ n = grind (arith, nat_tests) in let y : s.register ≡ r = grind (arith, nat_tests) in omega arith)
    by_test true false e f = refl
    by_test false b e f = refl

-- the other way round
behind_apart : (s : Slot) (n r : ℕ) → rank_at n r < rank_of s → is_slot n r s ≡ false
behind_apart s n r h = by_test (s.distance == n) (s.register == r) refl refl
  where
    by_test : (a b : Bool) → (s.distance == n) ≡ a → (s.register == r) ≡ b → (a && b) ≡ false
    by_test true true e f = absurd (let x : s.distance ≡ n = grind (arith, nat_tests) in let y : s.register ≡ r = grind (arith, nat_tests) in omega arith)
    by_test true false e f = refl
    by_test false b e f = refl

-- each slot stands once
pub ranked_plain : (slots : List Slot) → IsRanked slots → IsPlain slots
ranked_plain slots ranked = record {
  once = λ k h.
      let s = slot_at slots k in
      position_or_len_is (is_slot s.distance s.register) slots k no_slot (omega arith) (λ j l. before_apart (slot_at slots j) s.distance s.register (ranked.rising j k l h)) (λ _. own_slot s);
  of_six = λ k h. (ranked.may k h).0;
}

-- ranks do not fall
not_falling : (slots : List Slot) → IsRanked slots → IsNonDecreasingBy rank_of slots
not_falling slots ranked = IsNonDecreasingBy-from_default rank_of slots no_slot (λ i j l h. by_place i j l h (cases_eq i j))
  where
    by_place : (i j : ℕ) → i ≤ j → j < length slots → (i ≡ j) ⊎ (i ≡ j → ⊥) → rank_of (slot_at slots i) ≤ rank_of (slot_at slots j)
    by_place i j l h (inl e) = let same : rank_of (slot_at slots i) ≡ rank_of (slot_at slots j) = ap (λ k. rank_of (slot_at slots k)) e in omega arith
    by_place i j l h (inr ne) = let n : i ≢ j = ne in let less : i < j = omega arith in let r = ranked.rising i j less h in omega arith

-- slots in order are parted by a rank
pub parted : (slots : List Slot) (rank : ℕ) → IsRanked slots → IsPartitionedBy (λ s. nat_lt (rank_of s) rank) slots
parted slots rank ranked = IsPartitionedBy-ltb rank_of slots rank (not_falling slots ranked)

-- where they are parted, so many of them come before it
pub counted : (slots : List Slot) (rank count : ℕ) → count ≤ length slots
    → IsPartitionPoint (λ s. nat_lt (rank_of s) rank ≡ true) (λ s. nat_lt (rank_of s) rank ≡ false) slots count → IsCountBefore slots rank count
counted slots rank count within point = record {
  within = within;
  before = λ k l. let e = point.0 k no_slot (omega arith) l in grind (arith, nat_tests);
  behind = λ k l h. let e = point.1 k no_slot l h in grind (arith, nat_tests);
}

-- the slot that is found where those that come before it end is the one
pub found_in : (slots : List Slot) (n r at : ℕ) → IsCountBefore slots (rank_at n r) at → at < length slots → is_slot n r (slot_at slots at) ≡ true → at ≡ place_of slots n r
found_in slots n r at c h is = sym (position_or_len_is (is_slot n r) slots at no_slot (omega arith) (λ j l. before_apart (slot_at slots j) n r (c.before j l)) (λ _. is))

-- or else it is not there
pub missing_in : (slots : List Slot) (n r at : ℕ) → IsRanked slots → IsCountBefore slots (rank_at n r) at → (at < length slots → is_slot n r (slot_at slots at) ≡ false) → length slots ≡ place_of slots n r
missing_in slots n r at ranked c is =
    sym (position_or_len_is (is_slot n r) slots (length slots) no_slot (omega arith) (λ j l. by_place j l (cases_lt j at) (cases_eq j at)) (λ h. absurd (omega arith)))
  where
    by_place : (j : ℕ) → j < length slots → (j < at) ⊎ (at ≤ j) → (j ≡ at) ⊎ (j ≡ at → ⊥) → is_slot n r (slot_at slots j) ≡ false
    by_place j l (inl s) e = before_apart (slot_at slots j) n r (c.before j s)
    by_place j l (inr s) (inl e) = ap (λ k. is_slot n r (slot_at slots k)) e ∙ is (let x = e in omega arith)
    by_place j l (inr s) (inr ne) =
        let n2 : j ≢ at = ne in
        let less : at < j = omega arith in
        let a = c.behind at (omega arith) (omega arith) in
        let b = ranked.rising at j less l in
        behind_apart (slot_at slots j) n r (omega arith)

-- numbers are in the order of others by which tests hold of them alike
same_cmp : (a b c d : ℕ) → nat_lt a b ≡ nat_lt c d → (a == b) ≡ (c == d) → nat_cmp a b ≡ nat_cmp c d
same_cmp a b c d e f = ap (λ x. cond x Less (cond (a == b) Equal Greater)) e ∙ ap (λ x. cond (nat_lt c d) Less (cond x Equal Greater)) f

-- the order of two slots of a register
pub by_distance : (one other : Slot) → one.register ≡ other.register → nat_cmp one.distance other.distance ≡ nat_cmp (rank_of one) (rank_of other)
by_distance one other e = same_cmp one.distance other.distance (rank_of one) (rank_of other) (grind (arith, nat_tests)) (grind (arith, nat_tests))

-- and of two others
pub by_register : (one other : Slot) → one.distance < 2 ^ 64 → other.distance < 2 ^ 64 → one.register ≢ other.register → nat_cmp one.register other.register ≡ nat_cmp (rank_of one) (rank_of other)
by_register one other h g ne = same_cmp one.register other.register (rank_of one) (rank_of other) (grind (arith, nat_tests)) (grind (arith, nat_tests))

-- a slot that is in a list has a place
pub contains_place : (slots : List Slot) (s : Slot) → Contains slots s → place_of slots s.distance s.register < length slots
contains_place slots s (k, h, e) = by_place (cases_lt (place_of slots s.distance s.register) (length slots))
  where
    by_place : (place_of slots s.distance s.register < length slots) ⊎ (length slots ≤ place_of slots s.distance s.register) → place_of slots s.distance s.register < length slots
    by_place (inl l) = l
    by_place (inr l) =
        let gone = fails_before_first (is_slot s.distance s.register) slots k s (omega arith) in
        let here : is_slot s.distance s.register (slice_index_or slots k s) ≡ true = ap (is_slot s.distance s.register) e ∙ own_slot s in
        cc

-- a list that is another in other order has the same slots
pub moved_all : (old new : List Slot) → IsPermutation old new → HasAll old new
moved_all old new p n r h =
    let f = found_there old n r h in
    let c = Contains-permutation old new (slot_at old (place_of old n r)) p (Contains-get_or old (place_of old n r) no_slot h) in
    let P : ℕ → ℕ → Type 0 = λ x y. place_of new x y < length new in
    let Q : ℕ → Type 0 = λ y. P (slot_at old (place_of old n r)).distance y in
    let R : ℕ → Type 0 = λ x. P x r in
    subst R f.0 (subst Q f.1 (contains_place new (slot_at old (place_of old n r)) c))

-- and they may all stand
pub moved_may : (old new : List Slot) → IsPermutation old new → MayStand old → MayStand new
moved_may old new p may k h = by_place (Contains-permutation new old (slot_at new k) (IsPermutation-sym old new p) (Contains-get_or new k no_slot h))
  where
    by_place : Contains old (slot_at new k) → (is_saved (slot_at new k).register ≡ true) × (is_slot_place (slot_at new k).distance ≡ true)
    by_place (m, l, e) =
        let same : slot_at old m ≡ slot_at new k = sym (get_or_read old m (slot_at new k) l (sym e) no_slot) in
        let P : Slot → Type 0 = λ x. (is_saved x.register ≡ true) × (is_slot_place x.distance ≡ true) in
        subst P same (may m l)

-- slots of which the test says that they are the same
pub same_rank : (one other : Slot) → is_slot other.distance other.register one ≡ true → one ≡ other
same_rank one other h = by_test (one.distance == other.distance) (one.register == other.register) refl refl h
  where
    made : ℕ → ℕ → Slot
    made n r = record { distance = n; register = r }

    by_test : (a b : Bool) → (one.distance == other.distance) ≡ a → (one.register == other.register) ≡ b → (a && b) ≡ true → one ≡ other
    by_test true true e f t = let x : one.distance ≡ other.distance = grind (arith, nat_tests) in let y : one.register ≡ other.register = grind (arith, nat_tests) in ap (λ n. made n one.register) x ∙ ap (made other.distance) y
    by_test true false e f t = cc
    by_test false b e f t = cc

-- and others
pub other_rank : (one other : Slot) → one.distance < 2 ^ 64 → other.distance < 2 ^ 64 → is_slot other.distance other.register one ≡ false → rank_of one ≢ rank_of other
other_rank one other h g differ = λ e.
    let y : one.register ≡ other.register = omega arith in
    let x : one.distance ≡ other.distance = omega arith in
    let t : (one.distance == other.distance) ≡ true = grind (arith, nat_tests) in
    let u : (one.register == other.register) ≡ true = grind (arith, nat_tests) in
    let v : is_slot other.distance other.register one ≡ true = ap (λ b. b && (one.register == other.register)) t ∙ u in
    cc

-- the slot that is put last
at_last : (slots : List Slot) (s : Slot) (k : ℕ) → length slots ≤ k → k < length (slots ++ s ∷ []) → slot_at (slots ++ s ∷ []) k ≡ s
at_last slots s k l h =
    let n = pushed_length slots s in
    let same : k ≡ length slots = omega arith in
    ap (slot_at (slots ++ s ∷ [])) same ∙ at_new slots s

-- a slot behind all others is none of them
not_there : (slots : List Slot) (s : Slot) → IsRanked slots → ((k : ℕ) → k < length slots → rank_of (slot_at slots k) < rank_of s) → place_of slots s.distance s.register ≡ length slots
not_there slots s ranked below =
    position_or_len_is (is_slot s.distance s.register) slots (length slots) no_slot (omega arith) (λ j l. before_apart (slot_at slots j) s.distance s.register (below j l)) (λ h. absurd (omega arith))

-- a place of slots is a number of 64 bits
placed_small : (n : ℕ) → is_slot_place n ≡ true → n < 2 ^ 64
placed_small n h = grind (arith, nat_tests)

-- all come before it
all_below : (slots : List Slot) (s : Slot) → IsRanked slots → is_slot_place s.distance ≡ true → ((k : ℕ) → k < length slots → rank_of (slot_at slots k) ≤ rank_of s)
    → (0 < length slots → is_slot s.distance s.register (slot_at slots (length slots - 1)) ≡ false) → (k : ℕ) → k < length slots → rank_of (slot_at slots k) < rank_of s
all_below slots s ranked place behind other k h = by_place (cases_eq k (length slots - 1))
  where
    by_place : (k ≡ length slots - 1) ⊎ (k ≡ length slots - 1 → ⊥) → rank_of (slot_at slots k) < rank_of s
    by_place (inl e) =
        let last = slot_at slots (length slots - 1) in
        let ne = other_rank last s (placed_small last.distance (ranked.may (length slots - 1) (omega arith)).1) (placed_small s.distance place) (other (omega arith)) in
        let same : rank_of (slot_at slots k) ≡ rank_of (slot_at slots (length slots - 1)) = ap (λ m. rank_of (slot_at slots m)) e in
        let l = behind k h in
        omega arith
    by_place (inr ne) =
        let n : k ≢ length slots - 1 = ne in
        let less : k < length slots - 1 = omega arith in
        let r = ranked.rising k (length slots - 1) less (omega arith) in
        let l = behind (length slots - 1) (omega arith) in
        omega arith

-- the table stays in order
pub put_ranked : (slots new : List Slot) (s : Slot) → IsRanked slots → (is_saved s.register ≡ true) × (is_slot_place s.distance ≡ true)
    → ((k : ℕ) → k < length slots → rank_of (slot_at slots k) ≤ rank_of s) → (0 < length slots → is_slot s.distance s.register (slot_at slots (length slots - 1)) ≡ false) → new ≡ slots ++ s ∷ [] → IsRanked new
put_ranked slots new s ranked may behind other is = let P : List Slot → Type 0 = IsRanked in subst P (sym is) (record {
  rising = λ i j l h. rising i j l h (cases_lt j (length slots));
  may = λ k h. may_at k h (cases_lt k (length slots));
})
  where
    all : List Slot
    all = slots ++ s ∷ []

    below : (k : ℕ) → k < length slots → rank_of (slot_at slots k) < rank_of s
    below = all_below slots s ranked may.1 behind other

    old : (k : ℕ) → k < length slots → rank_of (slot_at all k) ≡ rank_of (slot_at slots k)
    old k h = ap rank_of (at_old slots s k h)

    rising : (i j : ℕ) → i < j → j < length all → (j < length slots) ⊎ (length slots ≤ j) → rank_of (slot_at all i) < rank_of (slot_at all j)
    rising i j l h (inl g) =
        let a = old i (omega arith) in
        let b = old j g in
        let r = ranked.rising i j l g in
        omega arith
    rising i j l h (inr g) =
        let n = pushed_length slots s in
        let a = old i (omega arith) in
        let b : rank_of (slot_at all j) ≡ rank_of s = ap rank_of (at_last slots s j g h) in
        let r = below i (omega arith) in
        omega arith

    may_at : (k : ℕ) → k < length all → (k < length slots) ⊎ (length slots ≤ k) → (is_saved (slot_at all k).register ≡ true) × (is_slot_place (slot_at all k).distance ≡ true)
    may_at k h (inl g) = let P : Slot → Type 0 = λ x. (is_saved x.register ≡ true) × (is_slot_place x.distance ≡ true) in subst P (sym (at_old slots s k g)) (ranked.may k g)
    may_at k h (inr g) = let P : Slot → Type 0 = λ x. (is_saved x.register ≡ true) × (is_slot_place x.distance ≡ true) in subst P (sym (at_last slots s k g h)) may

-- none comes behind the new one
pub put_behind : (slots new : List Slot) (s : Slot) → ((k : ℕ) → k < length slots → rank_of (slot_at slots k) ≤ rank_of s) → new ≡ slots ++ s ∷ []
    → (k : ℕ) → k < length new → rank_of (slot_at new k) ≤ rank_of s
put_behind slots new s behind is = let P : List Slot → Type 0 = λ xs. (k : ℕ) → k < length xs → rank_of (slot_at xs k) ≤ rank_of s in subst P (sym is) (λ k h. at k h (cases_lt k (length slots)))
  where
    at : (k : ℕ) → k < length (slots ++ s ∷ []) → (k < length slots) ⊎ (length slots ≤ k) → rank_of (slot_at (slots ++ s ∷ []) k) ≤ rank_of s
    at k h (inl g) = let e : rank_of (slot_at (slots ++ s ∷ []) k) ≡ rank_of (slot_at slots k) = ap rank_of (at_old slots s k g) in let l = behind k g in omega arith
    at k h (inr g) = let e : rank_of (slot_at (slots ++ s ∷ []) k) ≡ rank_of s = ap rank_of (at_last slots s k g h) in omega arith

-- the table has it
pub put_added : (slots new : List Slot) (s : Slot) → IsRanked slots → (is_saved s.register ≡ true) × (is_slot_place s.distance ≡ true)
    → ((k : ℕ) → k < length slots → rank_of (slot_at slots k) ≤ rank_of s) → (0 < length slots → is_slot s.distance s.register (slot_at slots (length slots - 1)) ≡ false) → new ≡ slots ++ s ∷ [] → IsAdded slots s new
put_added slots new s ranked may behind other is = added slots new s (ranked_plain slots ranked) may.0 (not_there slots s ranked (all_below slots s ranked may.1 behind other)) is

-- or has it already
pub last_added : (slots : List Slot) (s : Slot) → IsRanked slots → (0 < length slots) × (slot_at slots (length slots - 1) ≡ s) → IsAdded slots s slots
last_added slots s ranked last =
    let some : 0 < length slots = last.0 in
    let once = (ranked_plain slots ranked).once (length slots - 1) (omega arith) in
    let P : Slot → Type 0 = λ x. place_of slots x.distance x.register ≡ length slots - 1 in
    let at : place_of slots s.distance s.register ≡ length slots - 1 = subst P last.1 once in
    there slots s (ranked_plain slots ranked) (omega arith)

-- the slots that are left come behind those that were put
pub behind_rest : (found slots : List Slot) (s : Slot) (at : ℕ) → IsNonDecreasingBy rank_of found → at < length found → s ≡ slot_at found at
    → ((k : ℕ) → k < length slots → rank_of (slot_at slots k) ≤ rank_of s) → (k m : ℕ) → k < length slots → at + 1 ≤ m → m < length found → rank_of (slot_at slots k) ≤ rank_of (slot_at found m)
behind_rest found slots s at sorted within is behind k m h l g =
    let a = behind k h in
    let b = ap rank_of is in
    let c = sorted at m no_slot (omega arith) g in
    omega arith

-- all slots that were put are there
pub all_put : (found slots new : List Slot) (s : Slot) (at : ℕ) → s ≡ slot_at found at → IsAdded slots s new
    → ((m : ℕ) → m < at → place_of slots (slot_at found m).distance (slot_at found m).register < length slots)
    → (m : ℕ) → m < at + 1 → place_of new (slot_at found m).distance (slot_at found m).register < length new
all_put found slots new s at is a before m h = by_place (cases_lt m at)
  where
    by_place : (m < at) ⊎ (at ≤ m) → place_of new (slot_at found m).distance (slot_at found m).register < length new
    by_place (inl l) = a.kept (slot_at found m).distance (slot_at found m).register (before m l)
    by_place (inr l) =
        let same : at ≡ m = omega arith in
        let P : Slot → Type 0 = λ x. place_of new x.distance x.register < length new in
        subst P (is ∙ ap (slot_at found) same) a.there

-- each slot of a list was put
pub put_all : (found slots : List Slot) → ((m : ℕ) → m < length found → place_of slots (slot_at found m).distance (slot_at found m).register < length slots) → HasAll found slots
put_all found slots all n r h =
    let f = found_there found n r h in
    let P : ℕ → ℕ → Type 0 = λ x y. place_of slots x y < length slots in
    let Q : ℕ → Type 0 = λ y. P (slot_at found (place_of found n r)).distance y in
    let R : ℕ → Type 0 = λ x. P x r in
    subst R f.0 (subst Q f.1 (all (place_of found n r) h))
