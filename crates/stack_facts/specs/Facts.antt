-- Facts: where the entry values of the callee-saved registers are (psABI for AMD64, section 3.2.1).
use Rattle.std.specs.Prelude.{◌≡◌, ◌+◌, ◌==◌, ◌&&◌, ◌||◌, ◌↔◌, not, ℕ, zero, suc, Bool, true, false, Option, None, Some, List, [], ◌∷◌, length, slice_get, is_some, if◌then◌else◌}
use Rattle.flow_graph.specs.declared.nodes.Node.{Node}
use Rattle.flow_graph.specs.Walks.{IsWalk}
use Rattle.insn_effects.specs.Followed.{followed_by}
use Rattle.code_functions.specs.declared.items.CodeItem.{CodeItem}
use Rattle.stack_depths.specs.Distances.{Distances}
use Rattle.stack_facts.specs.declared.values.Span.{Span}
use Rattle.stack_facts.specs.declared.values.Slot.{Slot}
use Rattle.stack_facts.specs.declared.values.Clauses.{Clauses}
use Rattle.stack_facts.specs.declared.values.Clauses.TheVariants.{Synthesis, Kept}
use Rattle.stack_facts.specs.declared.values.Change.{Change}
use Rattle.stack_facts.specs.Places.{below, overlaps, is_saved, saved_by, change_by, writes}

-- a register has its entry value, or the 8 bytes at a distance from the frame address, a slot, hold a register's entry value
pub data Fact : Type 0 where
  entry : (register : ℕ) → Fact
  slot : (distance register : ℕ) → Fact

-- it is the slot of this register at this distance
abbrev pub is_at : Option Slot → (distance register : ℕ) → Bool
is_at None n r = false
is_at (Some s) n r = s.distance == n && s.register == r

-- the distance is below this one
abbrev pub is_below : Option ℕ → ℕ → Bool
is_below None n = false
is_below (Some a) n = below n a

-- the bytes meet a slot
abbrev pub is_touched : Option Span → ℕ → Bool
is_touched None n = false
is_touched (Some s) n = overlaps s.start s.size n

-- 1. a store drops the slots that it overlaps, and a call those below rsp
abbrev pub after_storing : Change → (Fact → Bool) → Fact → Bool
after_storing c now (entry r) = now (entry r)
after_storing c now (slot n r) = now (slot n r) && not (is_touched c.stored n || is_below c.cleared n)

-- 2. a register that has its entry value makes a slot where it is saved
abbrev pub after_saving : Change → (Fact → Bool) → Fact → Bool
after_saving c now (entry r) = now (entry r)
after_saving c now (slot n r) = (is_at c.saved n r && now (entry r)) || now (slot n r)

-- 3. registers that are written lose their entry values
abbrev pub after_writing : (ℕ → Bool) → (Fact → Bool) → Fact → Bool
after_writing written now (entry r) = now (entry r) && not (written r)
after_writing written now (slot n r) = now (slot n r)

-- a register is loaded from a slot of its own that stood
abbrev pub loads_own : Option Slot → (stood : Fact → Bool) → ℕ → Bool
loads_own None stood r = false
loads_own (Some s) stood r = s.register == r && stood (slot s.distance r)

-- 4. a register that is loaded from a slot of its own that stood before the item has its entry value, and the slot is dropped; a kept one stays
abbrev pub after_loading : Change → (stood : Fact → Bool) → (Fact → Bool) → Fact → Bool
after_loading c stood now (entry r) = loads_own c.loaded stood r || now (entry r)
after_loading c stood now (slot n r) = now (slot n r) && not (is_at c.freed n r && stood (slot n r))

-- 5. slots below an rsp that rose are dropped; kept ones stay
abbrev pub after_rising : Change → (Fact → Bool) → Fact → Bool
after_rising c now (entry r) = now (entry r)
after_rising c now (slot n r) = now (slot n r) && not (is_below c.floor n)

-- the facts after an item that writes these registers, of those that stood before it
abbrev pub facts_after : (written : ℕ → Bool) → Change → (stood : Fact → Bool) → Fact → Bool
facts_after written c stood f =
    after_rising c (after_loading c stood (after_writing written (after_saving c (after_storing c stood)))) f

-- the facts after an item by these clauses, if it is there
abbrev pub facts_over_by : Clauses → Option CodeItem → Distances → (stood : Fact → Bool) → Fact → Bool
facts_over_by by None known stood f = stood f
facts_over_by by (Some item) known stood f = facts_after (writes (followed_by item.effect)) (change_by by (followed_by item.effect) known) stood f

-- at entry the six have their entry values
abbrev pub entry_facts : Fact → Bool
entry_facts (entry r) = is_saved r
entry_facts (slot n r) = false

-- the facts along a walk through these items, the last one first, by the distances that are known at each item
abbrev pub facts_along_by : Clauses → List CodeItem → (ℕ → Distances) → List ℕ → Fact → Bool
facts_along_by by items known [] f = entry_facts f
facts_along_by by items known (last ∷ before) f = facts_over_by by (slice_get items last) (known last) (facts_along_by by items known before) f

-- a fact stands at an item exactly if there is a walk to the item and every walk to it carries the fact
abbrev pub AreFactsBy : Clauses → List Node → List CodeItem → (ℕ → Distances) → (ℕ → Fact → Bool) → Type 0
AreFactsBy by nodes items known stands = (j : ℕ) (f : Fact) → (stands j f ≡ true)
    ↔ (((w : List ℕ) × IsWalk nodes w j) × ((w : List ℕ) → IsWalk nodes w j → facts_along_by by items known w f ≡ true))

-- the same by the clauses of synthesis
abbrev pub facts_over : Option CodeItem → Distances → (stood : Fact → Bool) → Fact → Bool
facts_over = facts_over_by Synthesis

abbrev pub facts_along : List CodeItem → (ℕ → Distances) → List ℕ → Fact → Bool
facts_along = facts_along_by Synthesis

abbrev pub AreFacts : List Node → List CodeItem → (ℕ → Distances) → (ℕ → Fact → Bool) → Type 0
AreFacts = AreFactsBy Synthesis

-- kept facts: a load leaves its slot standing, and an rsp that rises drops no slot
abbrev pub AreKeptFacts : List Node → List CodeItem → (ℕ → Distances) → (ℕ → Fact → Bool) → Type 0
AreKeptFacts = AreFactsBy Kept

-- a register's slot with the greatest distance, or none where none stands
abbrev pub IsSlotOf : (stands : Fact → Bool) → (register : ℕ) → Option ℕ → Type 0
IsSlotOf stands r None = (n : ℕ) → stands (slot n r) ≡ false
IsSlotOf stands r (Some n) = (stands (slot n r) ≡ true) × ((m : ℕ) → stands (slot m r) ≡ true → below n m ≡ false)

-- the slot that an item may make, if it is there
abbrev pub saved_over : Option CodeItem → Distances → Option Slot
saved_over None known = None
saved_over (Some item) known = saved_by (followed_by item.effect).stores known

-- how many of the first items may make a slot
abbrev pub saves_before : List CodeItem → (ℕ → Distances) → ℕ → ℕ
saves_before items known zero = 0
saves_before items known (suc n) = saves_before items known n + (if is_some (saved_over (slice_get items n) (known n)) then 1 else 0)

-- how many items may make a slot
abbrev pub saves : List CodeItem → (ℕ → Distances) → ℕ
saves items known = saves_before items known (length items)
