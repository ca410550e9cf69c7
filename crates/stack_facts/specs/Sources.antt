-- Each fact after an item comes from one fact before it, at most.
use Rattle.std.specs.Prelude.{◌≡◌, ◌==◌, ◌||◌, ℕ, Bool, true, false, Option, None, Some, if◌then◌else◌}
use Rattle.insn_effects.specs.Followed.{followed_by}
use Rattle.code_functions.specs.declared.items.CodeItem.{CodeItem}
use Rattle.stack_depths.specs.Distances.{Distances}
use Rattle.stack_facts.specs.declared.values.Slot.{Slot}
use Rattle.stack_facts.specs.declared.values.Clauses.{Clauses}
use Rattle.stack_facts.specs.declared.values.Change.{Change}
use Rattle.stack_facts.specs.Places.{change_by, writes}
use Rattle.stack_facts.specs.Facts.{Fact, entry, slot, is_at, is_below, is_touched}

-- a fact that is not lost comes from itself
abbrev pub unless : Bool → Fact → Option Fact
unless true f = None
unless false f = Some f

-- of an entry value
abbrev pub entry_source : Option Slot → Bool → ℕ → Option Fact
entry_source None written r = unless written (entry r)
entry_source (Some s) written r = if s.register == r then Some (slot s.distance r) else unless written (entry r)

-- the one fact before an item that makes a fact stand after it
abbrev pub source_of : (written : ℕ → Bool) → Change → Fact → Option Fact
source_of written c (entry r) = entry_source c.loaded (written r) r
source_of written c (slot n r) =
    if is_below c.floor n then None
    else if is_at c.saved n r then Some (entry r)
    else unless ((is_touched c.stored n || is_below c.cleared n) || is_at c.freed n r) (slot n r)

-- the same of an item by these clauses, if it is there
abbrev pub source_over : Clauses → Option CodeItem → Distances → Fact → Option Fact
source_over by None known f = Some f
source_over by (Some item) known f = source_of (writes (followed_by item.effect)) (change_by by (followed_by item.effect) known) f

-- a fact stands that comes from this one, of those that stood
abbrev pub carried_from : (Fact → Bool) → Option Fact → Bool
carried_from stood None = false
carried_from stood (Some f) = stood f

-- a register that is loaded is written, a save stores there, and what saves frees nothing there
pub record IsChange (written : ℕ → Bool) (c : Change) : Type 0 where
  pub loads_write : (s : Slot) → c.loaded ≡ Some s → written s.register ≡ true
  pub saves_store : (n r : ℕ) → is_at c.saved n r ≡ true → is_touched c.stored n ≡ true
  pub saves_only : (n r : ℕ) → is_at c.saved n r ≡ true → is_at c.freed n r ≡ false
