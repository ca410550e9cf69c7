-- The analysis of facts for the work list.
use Rattle.std.specs.Prelude.{◌+◌, ℕ, zero, suc, Bool, false, Option, None, Some, option_map, List, length, slice_get, sum_by}
use Rattle.work_lists.specs.Exact as lists
use Rattle.code_functions.specs.declared.items.CodeItem.{CodeItem}
use Rattle.stack_depths.specs.Distances.{Distances}
use Rattle.stack_facts.specs.declared.values.Clauses.{Clauses}
use Rattle.stack_facts.specs.declared.values.Slot.{Slot}
use Rattle.stack_facts.specs.Facts.{Fact, entry, slot, entry_facts}
use Rattle.number_sets.specs.Bits.{counted}
use Rattle.stack_facts.specs.Sets.{holds_in}
use Rattle.stack_facts.specs.Sources.{source_over}

-- what the work list calls a fact
abbrev pub said : Fact → lists.Fact
said (entry r) = lists.says 0 r
said (slot n r) = lists.says (suc n) r

-- and back
abbrev pub fact_of : lists.Fact → Fact
fact_of (lists.says zero r) = entry r
fact_of (lists.says (suc n) r) = slot n r

-- the analysis of facts by these clauses, over a table of slots
unfoldable pub fact_rules : Clauses → List CodeItem → (ℕ → Distances) → List Slot → lists.Rules (List Bool)
fact_rules by items known slots = record {
  holds = λ bits f. holds_in slots bits (fact_of f);
  weight = λ bits. sum_by counted bits;
  limit = 6 + length slots;
  given = λ f. entry_facts (fact_of f);
  source = λ i f. option_map said (source_over by (slice_get items i) (known i) (fact_of f));
}

-- the facts of an item's set, where there is one
abbrev pub stands_at : List Slot → Option (List Bool) → Fact → Bool
stands_at slots None f = false
stands_at slots (Some bits) f = holds_in slots bits f

-- what a table of facts has: the slots that items can make, and a set for each item
abbrev pub Facts : Type 0
Facts = List Slot × List (Option (List Bool))

-- the facts that stand at an item
unfoldable pub facts_in : Facts → ℕ → Fact → Bool
facts_in facts j f = stands_at facts.0 (lists.look facts.1 j) f
