use Rattle.std.proofs.Common.{◌≡◌, ℕ, ◌+◌, ◌-◌, ◌<◌, ◌≤◌, ◌≢◌, ◌==◌, ◌⊎◌, ◌&&◌, ◌||◌, not, inl, inr, Bool, true, false, if◌then◌else◌, None, Some, List, length, get_or, refl, sym, ap, subst, ◌∙◌, arith}
use Rattle.std.proofs.lemmas.Bool.{cases_eq}
use Rattle.std.proofs.lemmas.Bool.Decides.{nat_tests}
use Rattle.stack_facts.specs.declared.values.Slot.{Slot}
use Rattle.stack_facts.specs.declared.values.Change.{Change}
use Rattle.stack_facts.specs.Places.{is_saved}
use Rattle.stack_facts.specs.Facts.{Fact, entry, slot, loads_own, facts_after}
use Rattle.stack_facts.specs.Sets.{place_of, slot_at, fact_at, holds_in, IsPlain}
use Rattle.stack_facts.specs.Passing.{IsDropped, is_stored, is_under, is_here, IsPut, IsMade, IsFreed}
use Rattle.stack_facts.proofs.SlotLemmas.{found_there, stands_there}

-- what holds with what does
and_true : (a : Bool) → (a && true) ≡ a
and_true true = refl
and_true false = refl

-- what holds with what does not
and_false : (a : Bool) → (a && false) ≡ false
and_false true = refl
and_false false = refl

-- no slot was looked at
pub drops_begin : (word : List Bool) (test : ℕ → Bool) → IsDropped word word test 0
drops_begin word test = record { entries = λ k h. refl; done = λ k h. absurd (omega arith); rest = λ k h. refl }

-- one is taken out
pub drops_one : (word out new : List Bool) (test : ℕ → Bool) (at : ℕ) → IsDropped word out test at → test at ≡ true
    → get_or new (6 + at) false ≡ false → ((j : ℕ) → j ≢ 6 + at → get_or new j false ≡ get_or out j false) → IsDropped word new test (at + 1)
drops_one word out new test at d held here others = record {
  entries = λ k h. let ne : k ≢ 6 + at = omega arith in others k ne ∙ d.entries k h;
  done = λ k h. by_place k h (cases_eq k at);
  rest = λ k h. let ne : 6 + k ≢ 6 + at = omega arith in others (6 + k) ne ∙ d.rest k (omega arith);
}
  where
    by_place : (k : ℕ) → k < at + 1 → (k ≡ at) ⊎ (k ≡ at → ⊥) → get_or new (6 + k) false ≡ (get_or word (6 + k) false && not (test k))
    by_place k h (inl e) =
        ap (λ m. get_or new (6 + m) false) e ∙ here ∙ sym (and_false (get_or word (6 + k) false)) ∙ ap (λ b. get_or word (6 + k) false && not b) (sym (ap test e ∙ held))
    by_place k h (inr ne) = let far : 6 + k ≢ 6 + at = λ e. ne (omega arith) in let less : k < at = let q : k ≢ at = ne in omega arith in others (6 + k) far ∙ d.done k less

-- one stays
pub drops_none : (word out : List Bool) (test : ℕ → Bool) (at : ℕ) → IsDropped word out test at → test at ≡ false → IsDropped word out test (at + 1)
drops_none word out test at d fails = record {
  entries = d.entries;
  done = λ k h. by_place k h (cases_eq k at);
  rest = λ k h. d.rest k (omega arith);
}
  where
    by_place : (k : ℕ) → k < at + 1 → (k ≡ at) ⊎ (k ≡ at → ⊥) → get_or out (6 + k) false ≡ (get_or word (6 + k) false && not (test k))
    by_place k h (inl e) =
        d.rest k (omega arith) ∙ sym (and_true (get_or word (6 + k) false)) ∙ ap (λ b. get_or word (6 + k) false && not b) (sym (ap test e ∙ fails))
    by_place k h (inr ne) = let less : k < at = let q : k ≢ at = ne in omega arith in d.done k less

-- nothing is taken out of which no test holds
pub drops_nothing : (word : List Bool) (test : ℕ → Bool) (count : ℕ) → ((k : ℕ) → test k ≡ false) → IsDropped word word test count
drops_nothing word test count fails = record {
  entries = λ k h. refl;
  done = λ k h. sym (ap (λ b. get_or word (6 + k) false && not b) (fails k) ∙ and_true (get_or word (6 + k) false));
  rest = λ k h. refl;
}

-- numbers of which the test holds
same_number : (a b : ℕ) → (a == b) ≡ true → a ≡ b
same_number a b h = grind (arith, nat_tests)

same_test : (a b : ℕ) → a ≡ b → (a == b) ≡ true
same_test a b h = grind (arith, nat_tests)

both : (a b : Bool) → (a && b) ≡ true → (a ≡ true) × (b ≡ true)
both true b h = (refl, h)
both false b h = cc

-- the slot at a place is the one that is found there
here_is : (slots : List Slot) (s : Slot) (k : ℕ) → IsPlain slots → k < length slots → is_here (Some s) slots k ≡ true → place_of slots s.distance s.register ≡ k
here_is slots s k plain h e =
    let two = both (s.distance == (slot_at slots k).distance) (s.register == (slot_at slots k).register) e in
    ap (λ n. place_of slots n s.register) (same_number s.distance (slot_at slots k).distance two.0)
    ∙ ap (place_of slots (slot_at slots k).distance) (same_number s.register (slot_at slots k).register two.1) ∙ plain.once k h

there_is : (slots : List Slot) (s : Slot) (k : ℕ) → place_of slots s.distance s.register ≡ k → k < length slots → is_here (Some s) slots k ≡ true
there_is slots s k e h =
    let f = found_there slots s.distance s.register (let x = e in omega arith) in
    let P : ℕ → Type 0 = λ m. ((slot_at slots m).distance ≡ s.distance) × ((slot_at slots m).register ≡ s.register) in
    let g = subst P e f in
    ap (λ b. b && (s.register == (slot_at slots k).register)) (same_test s.distance (slot_at slots k).distance (sym g.0)) ∙ same_test s.register (slot_at slots k).register (sym g.1)

-- the bit at the slot's place is set
pub puts_there : (slots : List Slot) (s : Slot) (bit : Bool) (word out : List Bool) (at : ℕ) → IsPlain slots → at ≡ place_of slots s.distance s.register → at < length slots
    → get_or out (6 + at) false ≡ bit → ((j : ℕ) → j ≢ 6 + at → get_or out j false ≡ get_or word j false) → IsPut slots s bit word out
puts_there slots s bit word out at plain is h here others = record {
  each = λ k l. by_place k l (cases_eq k at);
  high = λ k l. let ne : 6 + k ≢ 6 + at = omega arith in others (6 + k) ne;
}
  where
    by_test : (k : ℕ) → k < length slots → (k ≡ at → ⊥) → (b : Bool) → is_here (Some s) slots k ≡ b → get_or out (6 + k) false ≡ (if b then bit else get_or word (6 + k) false)
    by_test k l ne true e = absurd (ne (sym (is ∙ here_is slots s k plain l e)))
    by_test k l ne false e = let far : 6 + k ≢ 6 + at = λ e. ne (omega arith) in others (6 + k) far

    by_place : (k : ℕ) → k < length slots → (k ≡ at) ⊎ (k ≡ at → ⊥) → get_or out (6 + k) false ≡ (if is_here (Some s) slots k then bit else get_or word (6 + k) false)
    by_place k l (inl e) =
        ap (λ m. get_or out (6 + m) false) e ∙ here ∙ sym (ap (λ b. if b then bit else get_or word (6 + k) false) (there_is slots s k (sym (e ∙ is)) l))
    by_place k l (inr ne) = by_test k l ne (is_here (Some s) slots k) refl

-- a slot that is not in the table
pub puts_none : (slots : List Slot) (s : Slot) (bit : Bool) (word : List Bool) (at : ℕ) → IsPlain slots → at ≡ place_of slots s.distance s.register → length slots ≤ at → IsPut slots s bit word word
puts_none slots s bit word at plain is h = record {
  each = λ k l. by_test k l (is_here (Some s) slots k) refl;
  high = λ k l. refl;
}
  where
    by_test : (k : ℕ) → k < length slots → (b : Bool) → is_here (Some s) slots k ≡ b → get_or word (6 + k) false ≡ (if b then bit else get_or word (6 + k) false)
    by_test k l true e = absurd (let x = is ∙ here_is slots s k plain l e in omega arith)
    by_test k l false e = refl

-- where the slot at a place is the one that is saved, its register is too
own_entry : (slots : List Slot) (s : Slot) (k : ℕ) (stood : Fact → Bool) → is_here (Some s) slots k ≡ true → stood (entry (slot_at slots k).register) ≡ stood (entry s.register)
own_entry slots s k stood e =
    let two = both (s.distance == (slot_at slots k).distance) (s.register == (slot_at slots k).register) e in
    ap (λ r. stood (entry r)) (sym (same_number s.register (slot_at slots k).register two.1))

own_fact : (slots : List Slot) (s : Slot) (k : ℕ) (stood : Fact → Bool) → is_here (Some s) slots k ≡ true → stood (fact_at slots k) ≡ stood (slot s.distance s.register)
own_fact slots s k stood e =
    let two = both (s.distance == (slot_at slots k).distance) (s.register == (slot_at slots k).register) e in
    ap (λ r. stood (slot (slot_at slots k).distance r)) (sym (same_number s.register (slot_at slots k).register two.1))
    ∙ ap (λ n. stood (slot n s.register)) (sym (same_number s.distance (slot_at slots k).distance two.0))

-- a register that has its entry value makes a slot
pub saves_one : (slots : List Slot) (s : Slot) (before word out : List Bool) → holds_in slots before (entry s.register) ≡ true → IsPut slots s true word out → IsMade slots (Some s) before word out
saves_one slots s before word out has p = record { each = λ k l. p.each k l ∙ by_test k (is_here (Some s) slots k) refl; high = p.high }
  where
    by_test : (k : ℕ) (b : Bool) → is_here (Some s) slots k ≡ b
        → (if b then true else get_or word (6 + k) false) ≡ ((b && holds_in slots before (entry (slot_at slots k).register)) || get_or word (6 + k) false)
    by_test k true e = sym (ap (λ x. x || get_or word (6 + k) false) (own_entry slots s k (holds_in slots before) e ∙ has))
    by_test k false e = refl

-- one that does not makes none
pub saves_unentered : (slots : List Slot) (s : Slot) (before word : List Bool) → holds_in slots before (entry s.register) ≡ false → IsMade slots (Some s) before word word
saves_unentered slots s before word has = record { each = λ k l. by_test k (is_here (Some s) slots k) refl; high = λ k l. refl }
  where
    by_test : (k : ℕ) (b : Bool) → is_here (Some s) slots k ≡ b
        → get_or word (6 + k) false ≡ ((b && holds_in slots before (entry (slot_at slots k).register)) || get_or word (6 + k) false)
    by_test k true e = sym (ap (λ x. x || get_or word (6 + k) false) (own_entry slots s k (holds_in slots before) e ∙ has))
    by_test k false e = refl

-- nothing is saved
pub saves_none : (slots : List Slot) (before word : List Bool) → IsMade slots None before word word
saves_none slots before word = record { each = λ k l. refl; high = λ k l. refl }

-- a register is loaded from a slot that stood
pub loads_one : (slots : List Slot) (s : Slot) (before word out : List Bool) → holds_in slots before (slot s.distance s.register) ≡ true → IsPut slots s false word out → IsFreed slots (Some s) before word out
loads_one slots s before word out has p = record { each = λ k l. p.each k l ∙ by_test k (is_here (Some s) slots k) refl; high = p.high }
  where
    by_test : (k : ℕ) (b : Bool) → is_here (Some s) slots k ≡ b
        → (if b then false else get_or word (6 + k) false) ≡ (get_or word (6 + k) false && not (b && holds_in slots before (fact_at slots k)))
    by_test k true e = sym (ap (λ x. get_or word (6 + k) false && not x) (own_fact slots s k (holds_in slots before) e ∙ has) ∙ and_false (get_or word (6 + k) false))
    by_test k false e = sym (and_true (get_or word (6 + k) false))

-- from one that did not
pub loads_unstood : (slots : List Slot) (s : Slot) (before word : List Bool) → holds_in slots before (slot s.distance s.register) ≡ false → IsFreed slots (Some s) before word word
loads_unstood slots s before word has = record { each = λ k l. by_test k (is_here (Some s) slots k) refl; high = λ k l. refl }
  where
    by_test : (k : ℕ) (b : Bool) → is_here (Some s) slots k ≡ b
        → get_or word (6 + k) false ≡ (get_or word (6 + k) false && not (b && holds_in slots before (fact_at slots k)))
    by_test k true e = sym (ap (λ x. get_or word (6 + k) false && not x) (own_fact slots s k (holds_in slots before) e ∙ has) ∙ and_true (get_or word (6 + k) false))
    by_test k false e = sym (and_true (get_or word (6 + k) false))

-- nothing is loaded
pub loads_none : (slots : List Slot) (before word : List Bool) → IsFreed slots None before word word
loads_none slots before word = record { each = λ k l. sym (and_true (get_or word (6 + k) false)); high = λ k l. refl }

-- a register is loaded from its own slot where that stood
pub own_loaded : (s : Slot) (stood : Fact → Bool) (r : ℕ) (b : Bool) → stood (slot s.distance s.register) ≡ b → loads_own (Some s) stood r ≡ ((s.register == r) && b)
own_loaded s stood r b e = by_test (s.register == r) refl
  where
    by_test : (t : Bool) → (s.register == r) ≡ t → (t && stood (slot s.distance r)) ≡ (t && b)
    by_test true h = ap (λ x. stood (slot s.distance x)) (sym (same_number s.register r h)) ∙ e
    by_test false h = refl

-- an entry value after an item
pub entry_after : (slots : List Slot) (written : ℕ → Bool) (c : Change) (before : List Bool) (k : ℕ) → k < 6
    → facts_after written c (holds_in slots before) (entry (k + 1)) ≡ (loads_own c.loaded (holds_in slots before) (k + 1) || (get_or before k false && not (written (k + 1))))
entry_after slots written c before k h =
    let six : is_saved (k + 1) ≡ true = grind (arith, nat_tests) in
    let back : k + 1 - 1 ≡ k = omega arith in
    ap (λ b. loads_own c.loaded (holds_in slots before) (k + 1) || ((b && get_or before (k + 1 - 1) false) && not (written (k + 1)))) six
    ∙ ap (λ m. loads_own c.loaded (holds_in slots before) (k + 1) || (get_or before m false && not (written (k + 1)))) back

-- two tests, one after the other
two_tests : (x a b : Bool) → ((x && not a) && not b) ≡ (x && not (a || b))
two_tests true true b = refl
two_tests true false b = refl
two_tests false a b = refl

-- a slot after an item, of sets that are made one from the other
pub slot_after : (slots : List Slot) (written : ℕ → Bool) (c : Change) (before known stored cleared saved freed risen : List Bool) (k : ℕ) → IsPlain slots → k < length slots
    → get_or known (6 + k) false ≡ get_or before (6 + k) false
    → IsDropped known stored (is_stored c.stored slots) (length slots) → IsDropped stored cleared (is_under c.cleared slots) (length slots)
    → IsMade slots c.saved before cleared saved → IsFreed slots c.freed before saved freed → IsDropped freed risen (is_under c.floor slots) (length slots)
    → get_or risen (6 + k) false ≡ facts_after written c (holds_in slots before) (fact_at slots k)
slot_after slots written c before known stored cleared saved freed risen k plain h same a b m f r =
    let stood = stands_there slots before k plain h in
    r.done k h ∙ ap (λ x. x && not (is_under c.floor slots k)) (f.each k h
    ∙ ap (λ x. x && not (is_here c.freed slots k && holds_in slots before (fact_at slots k))) (m.each k h
    ∙ ap (λ x. (is_here c.saved slots k && holds_in slots before (entry (slot_at slots k).register)) || x) (b.done k h
    ∙ ap (λ x. x && not (is_under c.cleared slots k)) (a.done k h ∙ ap (λ x. x && not (is_stored c.stored slots k)) (same ∙ stood))
    ∙ two_tests (holds_in slots before (fact_at slots k)) (is_stored c.stored slots k) (is_under c.cleared slots k))))

-- behind the table nothing is put
pub none_after : (slots : List Slot) (c : Change) (before known stored cleared saved freed risen : List Bool) (k : ℕ) → 6 + length slots ≤ k
    → get_or known k false ≡ false
    → IsDropped known stored (is_stored c.stored slots) (length slots) → IsDropped stored cleared (is_under c.cleared slots) (length slots)
    → IsMade slots c.saved before cleared saved → IsFreed slots c.freed before saved freed → IsDropped freed risen (is_under c.floor slots) (length slots)
    → get_or risen k false ≡ false
none_after slots c before known stored cleared saved freed risen k h none a b m f r =
    let n = k - 6 in
    let far : length slots ≤ n = omega arith in
    let back : 6 + n ≡ k = omega arith in
    ap (λ x. get_or risen x false) (sym back) ∙ r.rest n far ∙ f.high n far ∙ m.high n far ∙ b.rest n far ∙ a.rest n far ∙ ap (λ x. get_or known x false) back ∙ none
