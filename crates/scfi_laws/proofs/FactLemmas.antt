-- What an item does to facts, by what it follows and where.
use Rattle.std.proofs.Common.{◌≡◌, ◌⊎◌, ◌+◌, ◌==◌, ◌||◌, ◌&&◌, not, ℕ, Bool, true, false, cond, Option, Some, None, refl, sym, ap, subst, inl, inr, ◌∙◌, arith}
use Rattle.std.proofs.lemmas.Bool.Decides.{nat_tests}
use Rattle.insn_effects.specs.Followed.{wrap, FollowedStore, FollowedLoad, Followed}
use Rattle.stack_depths.specs.Distances.{Distances, sum_of}
use Rattle.stack_facts.specs.declared.values.Slot.{Slot}
use Rattle.stack_facts.specs.Places.{is_saved, is_slot_place, overlaps, span_at, stored_by, saved_at, saved_by, loaded_at, loaded_by, loads_to, change_of}
use Rattle.stack_facts.specs.Facts.{Fact, entry, slot, is_at, is_touched, loads_own, facts_after}
use Rattle.x86_steps.specs.Memory.{word_at}
use Rattle.x86_steps.specs.States.{State}
use Rattle.scfi_laws.specs.Performing.{held, PerformsLoad, PerformsStore, PerformsSave}
use Rattle.scfi_laws.specs.Executions.{LeavesAlone, KeepsUnless}
use Rattle.scfi_laws.proofs.Words.{same_word, same_outside, overlaps_itself}
use Rattle.scfi_laws.proofs.DistanceLemmas.{DistancesHold}

-- two tests that hold together, or one of two that does
pub both : (a b : Bool) → (a && b) ≡ true → (a ≡ true) × (b ≡ true)
both true b h = (refl, h)
both false b h = cc

pub either_of : (a b : Bool) → (a || b) ≡ true → (a ≡ true) ⊎ (b ≡ true)
either_of true b h = inl refl
either_of false b h = inr h

-- numbers that a test says are one
pub same_number : (a b : ℕ) → (a == b) ≡ true → a ≡ b
same_number a b h = grind (arith, nat_tests)

-- an address at a displacement from a register whose distance is known
pub same_place : (frame k d x : ℕ) → x ≡ wrap (frame + k) → wrap (x + d) ≡ wrap (frame + wrap (k + d))
same_place frame k d x h = omega arith

-- a register is saved at a known place: its value stands there, and the store touches it
saved_there : (c : Bool) (st : FollowedStore) (k frame n r : ℕ) (s t : State) → (is_saved st.register && (st.size == 8 && is_slot_place (wrap (k + st.displacement)))) ≡ c
    → held s st.base ≡ wrap (frame + k) → PerformsSave (Some st) s t → is_at (cond c (Some (record { distance = wrap (k + st.displacement); register = st.register })) None) n r ≡ true
    → (word_at t.memory (frame + n) ≡ held s r) × (overlaps (wrap (k + st.displacement)) st.size n ≡ true)
saved_there false st k frame n r s t is there saves h = cc
saved_there true st k frame n r s t is there saves h =
    let two = both (wrap (k + st.displacement) == n) (st.register == r) h in
    let own = both (is_saved st.register) (st.size == 8 && is_slot_place (wrap (k + st.displacement))) is in
    let eight = same_number st.size 8 (both (st.size == 8) (is_slot_place (wrap (k + st.displacement))) own.1).0 in
    let at = same_number (wrap (k + st.displacement)) n two.0 in
    let who = same_number st.register r two.1 in
    let place : wrap (frame + n) ≡ wrap (held s st.base + st.displacement) = sym (same_place frame k st.displacement (held s st.base) there ∙ ap (λ x. wrap (frame + x)) at) in (
      same_word t.memory (frame + n) (held s st.base + st.displacement) place ∙ saves own.0 ∙ ap (held s) who,
      subst (λ x. overlaps (wrap (k + st.displacement)) st.size x ≡ true) at (overlaps_itself (wrap (k + st.displacement)) st.size (omega arith)),
    )

pub saved_word : (to : Option FollowedStore) (known : Distances) (frame : ℕ) (s t : State) (n r : ℕ) → DistancesHold frame known s → PerformsSave to s t → is_at (saved_by to known) n r ≡ true
    → (word_at t.memory (frame + n) ≡ held s r) × (is_touched (stored_by to known) n ≡ true)
saved_word None known frame s t n r holds saves h = cc
saved_word (Some st) known frame s t n r holds saves h = by (known st.base) refl h
  where
    by : (k : Option ℕ) → known st.base ≡ k → is_at (saved_at st.register st.size (sum_of k st.displacement)) n r ≡ true
        → (word_at t.memory (frame + n) ≡ held s r) × (is_touched (span_at st.size (sum_of (known st.base) st.displacement)) n ≡ true)
    by None e i = cc
    by (Some k) e i =
        let there = saved_there (is_saved st.register && (st.size == 8 && is_slot_place (wrap (k + st.displacement)))) st k frame n r s t refl (holds st.base k e) saves i in
        (there.0, ap (λ d. is_touched (span_at st.size (sum_of d st.displacement)) n) e ∙ there.1)

-- a register is loaded from a known place
pub loaded_word : (l : Option FollowedLoad) (known : Distances) (frame : ℕ) (s t : State) (x : Slot) → DistancesHold frame known s → PerformsLoad l s t → loaded_by l known ≡ Some x
    → (held t x.register ≡ word_at s.memory (frame + x.distance)) × (loads_to l x.register ≡ true)
loaded_word None known frame s t x holds loads h = cc
loaded_word (Some l) known frame s t x holds loads h = by (known l.base) refl h
  where
    own : (n : ℕ) → (n == n) ≡ true
    own n = grind (arith, nat_tests)

    by : (k : Option ℕ) → known l.base ≡ k → loaded_at l.register (sum_of k l.displacement) ≡ Some x
        → (held t x.register ≡ word_at s.memory (frame + x.distance)) × (loads_to (Some l) x.register ≡ true)
    by None e i = cc
    by (Some k) e i =
        let at : wrap (k + l.displacement) ≡ x.distance = cc in
        let who : l.register ≡ x.register = cc in
        let place : wrap (held s l.base + l.displacement) ≡ wrap (frame + x.distance) = same_place frame k l.displacement (held s l.base) (holds l.base k e) ∙ ap (λ d. wrap (frame + d)) at in (
          ap (held t) (sym who) ∙ loads ∙ same_word s.memory (held s l.base + l.displacement) (frame + x.distance) place,
          ap (λ r. l.register == r) (sym who) ∙ own l.register,
        )

-- a word at a known distance that no fixed store touches stays, if a step that makes none keeps it
pub untouched_word : (to : Option FollowedStore) (known : Distances) (stands : Fact → Bool) (start s t : State) (frame n : ℕ) → DistancesHold frame known s → PerformsStore to s t
    → KeepsUnless (stored_by to known) stands start s t → is_touched (stored_by to known) n ≡ false
    → (LeavesAlone stands start s t → word_at t.memory (frame + n) ≡ word_at s.memory (frame + n)) → word_at t.memory (frame + n) ≡ word_at s.memory (frame + n)
untouched_word None known stands start s t frame n holds stores keeps untouched alone = alone keeps
untouched_word (Some st) known stands start s t frame n holds stores keeps untouched alone = by (known st.base) refl keeps untouched
  where
    by : (k : Option ℕ) → known st.base ≡ k → KeepsUnless (span_at st.size (sum_of k st.displacement)) stands start s t
        → is_touched (span_at st.size (sum_of k st.displacement)) n ≡ false → word_at t.memory (frame + n) ≡ word_at s.memory (frame + n)
    by None e i u = alone i
    by (Some k) e i u =
        same_outside s.memory t.memory (held s st.base + st.displacement) frame (wrap (k + st.displacement)) st.size n (same_place frame k st.displacement (held s st.base) (holds st.base k e)) u stores

-- what carries a fact over an item
module _ (written : ℕ → Bool) (e : Followed) (known : Distances) (stood : Fact → Bool) where
  pub slot_from_entry : (n r : ℕ) → is_touched (stored_by e.stores known) n ≡ true → facts_after written (change_of e known) stood (slot n r) ≡ true → stood (entry r) ≡ true
  slot_from_entry n r touched h = grind arith

  pub slot_from_slot : (n r : ℕ) → is_at (saved_by e.stores known) n r ≡ false → facts_after written (change_of e known) stood (slot n r) ≡ true → stood (slot n r) ≡ true
  slot_from_slot n r unsaved h = grind arith

  pub slot_untouched : (n r : ℕ) → is_at (saved_by e.stores known) n r ≡ false → facts_after written (change_of e known) stood (slot n r) ≡ true
      → is_touched (stored_by e.stores known) n ≡ false
  slot_untouched n r unsaved h = grind arith

  pub entry_from_slot : (x : Slot) (r : ℕ) → loaded_by e.loads known ≡ Some x → x.register ≡ r → written r ≡ true → facts_after written (change_of e known) stood (entry r) ≡ true
      → stood (slot x.distance r) ≡ true
  entry_from_slot x r l same w h = grind arith

  pub entry_from_entry : (r : ℕ) → loads_own (loaded_by e.loads known) stood r ≡ false → facts_after written (change_of e known) stood (entry r) ≡ true
      → (stood (entry r) ≡ true) × (written r ≡ false)
  entry_from_entry r l h = grind arith

-- the register that a fact speaks of
abbrev pub register_of : Fact → ℕ
register_of (entry r) = r
register_of (slot n r) = r

-- a fact of the same register stood
pub record From (stood : Fact → Bool) (r : ℕ) : Type 0 where
  pub fact : Fact
  pub stands : stood fact ≡ true
  pub same : register_of fact ≡ r

own_from : (o : Option Slot) (stood : Fact → Bool) (r : ℕ) → loads_own o stood r ≡ true → From stood r
own_from None stood r h = cc
own_from (Some x) stood r h = record { fact = slot x.distance r; stands = (both (x.register == r) (stood (slot x.distance r)) h).1; same = refl }

-- a fact comes from one of the same register
pub same_register : (written : ℕ → Bool) (e : Followed) (known : Distances) (stood : Fact → Bool) (f : Fact) → facts_after written (change_of e known) stood f ≡ true → From stood (register_of f)
same_register written e known stood (entry r) h = by (either_of (loads_own (loaded_by e.loads known) stood r) (stood (entry r) && not (written r)) h)
  where
    by : (loads_own (loaded_by e.loads known) stood r ≡ true) ⊎ ((stood (entry r) && not (written r)) ≡ true) → From stood r
    by (inl g) = own_from (loaded_by e.loads known) stood r g
    by (inr g) = record { fact = entry r; stands = (both (stood (entry r)) (not (written r)) g).0; same = refl }
same_register written e known stood (slot n r) h = by (stood (entry r)) refl (stood (slot n r)) refl
  where
    by : (a : Bool) → stood (entry r) ≡ a → (b : Bool) → stood (slot n r) ≡ b → From stood r
    by true is b also = record { fact = entry r; stands = is; same = refl }
    by false is true also = record { fact = slot n r; stands = also; same = refl }
    by false is false also = absurd (let none : ⊥ = grind arith in none)
