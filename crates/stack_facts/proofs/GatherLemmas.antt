use Rattle.std.proofs.Common.{◌≡◌, ℕ, suc, ◌+◌, ◌<◌, ◌≤◌, ◌==◌, ◌&&◌, ◌⊎◌, inl, inr, if◌then◌else◌, Bool, true, false, Option, Some, List, [], ◌∷◌, ◌++◌, length, slice_get, is_some, refl, sym, ap, subst, ◌∙◌, arith}
use Rattle.std.proofs.lemmas.Bool.{cases_lt}
use Rattle.std.proofs.lemmas.Bool.Decides.{nat_tests}
use Rattle.std.proofs.Math.Seq.{get_or-append_seam}
use Rattle.code_functions.specs.declared.items.CodeItem.{CodeItem}
use Rattle.stack_depths.specs.Distances.{Distances}
use Rattle.stack_facts.specs.declared.values.Slot.{Slot}
use Rattle.stack_facts.specs.Facts.{is_at, saved_over, saves_before}
use Rattle.stack_facts.specs.Places.{is_saved, is_slot_place}
use Rattle.stack_facts.specs.Sets.{place_of, slot_at, IsPlain, AreAdded, HasSaves, IsTable}
use Rattle.stack_facts.specs.Ranks.{MayStand, IsRanked, HasAll}
use Rattle.stack_facts.proofs.SlotLemmas.{own_slot, at_old, at_new, pushed_length, pushed_place}
use Rattle.stack_facts.proofs.RankLemmas.{contains_place, ranked_plain}

-- an empty table
pub none_plain : (slots : List Slot) → slots ≡ [] → IsPlain slots
none_plain slots e = let P : List Slot → Type 0 = IsPlain in subst P (sym e) (record { once = λ k h. absurd (omega arith); of_six = λ k h. absurd (omega arith) })

-- no item was looked at
pub none_saved : (items : List CodeItem) (known : ℕ → Distances) (slots : List Slot) → HasSaves items known 0 slots
none_saved items known slots i n r h e = absurd (omega arith)

-- one item more was looked at
pub all_saved : (items : List CodeItem) (known : ℕ → Distances) (k : ℕ) (found : Option Slot) (slots new : List Slot) → saved_over (slice_get items k) (known k) ≡ found
    → HasSaves items known k slots → AreAdded slots found new → HasSaves items known (k + 1) new
all_saved items known k found slots new is all added i n r h e = by_place (cases_lt i k)
  where
    by_place : (i < k) ⊎ (k ≤ i) → place_of new n r < length new
    by_place (inl l) = added.kept n r (all i n r l e)
    by_place (inr l) =
        let same : k ≡ i = omega arith in
        added.there n r (ap (λ o. is_at o n r) (sym is) ∙ ap (λ m. is_at (saved_over (slice_get items m) (known m)) n r) same ∙ e)

-- and the table has one slot more at most, where it can make one
pub few_saved : (items : List CodeItem) (known : ℕ → Distances) (k : ℕ) (found : Option Slot) (slots new : List Slot) → saved_over (slice_get items k) (known k) ≡ found
    → length slots ≤ saves_before items known k → AreAdded slots found new → length new ≤ saves_before items known (k + 1)
few_saved items known k found slots new is few added =
    let next : k + 1 ≡ suc k = omega arith in
    let more : saves_before items known (k + 1) ≡ saves_before items known k + (if is_some found then 1 else 0) =
    ap (saves_before items known) next ∙ ap (λ o. saves_before items known k + (if is_some o then 1 else 0)) is in
    let a = added.few in
    omega arith

-- one slot more may stand
pub put_may : (slots new : List Slot) (s : Slot) → MayStand slots → ((n r : ℕ) → is_at (Some s) n r ≡ true → (is_saved r ≡ true) × (is_slot_place n ≡ true)) → new ≡ slots ++ s ∷ [] → MayStand new
put_may slots new s may saved is = let P : List Slot → Type 0 = MayStand in subst P (sym is) (λ k h. at k h (cases_lt k (length slots)))
  where
    Q : Slot → Type 0
    Q x = (is_saved x.register ≡ true) × (is_slot_place x.distance ≡ true)

    at : (k : ℕ) → k < length (slots ++ s ∷ []) → (k < length slots) ⊎ (length slots ≤ k) → Q (slot_at (slots ++ s ∷ []) k)
    at k h (inl l) = subst Q (sym (at_old slots s k l)) (may k l)
    at k h (inr l) =
        let n = pushed_length slots s in
        let same : k ≡ length slots = omega arith in
        subst Q (sym (ap (slot_at (slots ++ s ∷ [])) same ∙ at_new slots s)) (saved s.distance s.register (own_slot s))

-- both hold
both : (a b : Bool) → (a && b) ≡ true → (a ≡ true) × (b ≡ true)
both true b h = (refl, h)
both false b h = cc

-- numbers of which the test holds
same_number : (a b : ℕ) → (a == b) ≡ true → a ≡ b
same_number a b h = grind (arith, nat_tests)

-- it is there
pub put_there : (slots new : List Slot) (s : Slot) (n r : ℕ) → is_at (Some s) n r ≡ true → new ≡ slots ++ s ∷ [] → place_of new n r < length new
put_there slots new s n r e is =
    let two = both (s.distance == n) (s.register == r) e in
    let long = pushed_length slots s in
    let c = contains_place (slots ++ s ∷ []) s (length slots, omega arith, get_or-append_seam slots s [] s) in
    let P : List Slot → Type 0 = λ xs. place_of xs n r < length xs in
    let Q : ℕ → Type 0 = λ x. place_of (slots ++ s ∷ []) x r < length (slots ++ s ∷ []) in
    let R : ℕ → Type 0 = λ y. place_of (slots ++ s ∷ []) s.distance y < length (slots ++ s ∷ []) in
    subst P (sym is) (subst Q (same_number s.distance n two.0) (subst R (same_number s.register r two.1) c))

-- and those that were there are
pub put_kept : (slots new : List Slot) (s : Slot) → new ≡ slots ++ s ∷ [] → HasAll slots new
put_kept slots new s is n r h =
    let P : List Slot → Type 0 = λ xs. place_of xs n r < length xs in
    let p = pushed_place slots s n r (place_of slots n r) refl h in
    let l = pushed_length slots s in
    subst P (sym is) (let k : place_of (slots ++ s ∷ []) n r < length (slots ++ s ∷ []) = omega arith in k)

-- one item more was looked at, and its slot put
pub all_found : (items : List CodeItem) (known : ℕ → Distances) (k : ℕ) (found : Option Slot) (slots new : List Slot) → saved_over (slice_get items k) (known k) ≡ found
    → HasSaves items known k slots → ((n r : ℕ) → is_at found n r ≡ true → place_of new n r < length new) → HasAll slots new → HasSaves items known (k + 1) new
all_found items known k found slots new is all there kept i n r h e = by_place (cases_lt i k)
  where
    by_place : (i < k) ⊎ (k ≤ i) → place_of new n r < length new
    by_place (inl l) = kept n r (all i n r l e)
    by_place (inr l) =
        let same : k ≡ i = omega arith in
        there n r (ap (λ o. is_at o n r) (sym is) ∙ ap (λ m. is_at (saved_over (slice_get items m) (known m)) n r) same ∙ e)

-- the list has one slot more at most, where it can make one
pub few_found : (items : List CodeItem) (known : ℕ → Distances) (k : ℕ) (found : Option Slot) (slots new : List Slot) → saved_over (slice_get items k) (known k) ≡ found
    → length slots ≤ saves_before items known k → length new ≤ length slots + (if is_some found then 1 else 0) → length new ≤ saves_before items known (k + 1)
few_found items known k found slots new is few added =
    let next : k + 1 ≡ suc k = omega arith in
    let more : saves_before items known (k + 1) ≡ saves_before items known k + (if is_some found then 1 else 0) =
    ap (saves_before items known) next ∙ ap (λ o. saves_before items known k + (if is_some o then 1 else 0)) is in
    omega arith

-- what a table has of all slots of a list it has of all items
pub ranked_table : (items : List CodeItem) (known : ℕ → Distances) (found slots : List Slot) → HasSaves items known (length items) found → HasAll found slots → IsRanked slots → IsTable items known slots
ranked_table items known found slots all has ranked = record { plain = ranked_plain slots ranked; all = λ i n r h e. has n r (all i n r h e) }
