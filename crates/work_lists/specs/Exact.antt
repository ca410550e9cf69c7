-- What an analysis computes: at each item the facts that every walk to it carries.
use Rattle.std.specs.Prelude.{◌≡◌, ℕ, ◌↔◌, Bool, true, false, List, [], ◌∷◌, length, get_or, Option, Some, None}
use Rattle.work_lists.specs.Graphs.{IsWalk}

-- a fact says a number of a subject
pub data Fact : Type 0 where
  says : (subject value : ℕ) → Fact

-- what an analysis with states of type S computes
pub record Rules (S : Type 0) : Type 0 where
  -- whether a state has a fact
  pub holds : S → Fact → Bool
  -- how many facts a state may still lose, which is never more than the limit
  pub weight : S → ℕ
  pub limit : ℕ
  -- the facts at entry
  pub given : Fact → Bool
  -- the one fact before an item that makes a fact stand after it, if there is one
  pub source : ℕ → Fact → Option Fact

-- a fact stands that comes from this one, of those that stood
abbrev pub carried_from : (Fact → Bool) → Option Fact → Bool
carried_from stood None = false
carried_from stood (Some f) = stood f

-- a walk through these items, the last one first, carries a fact
abbrev pub carries : {S : Type 0} → Rules S → List ℕ → Fact → Bool
carries rules [] f = rules.given f
carries rules (i ∷ before) f = carried_from (carries rules before) (rules.source i f)

-- the facts that every walk to the item carries, or none where there is no walk
abbrev pub IsExactAt : {S : Type 0} → Rules S → List (List ℕ) → ℕ → Option S → Type 0
IsExactAt rules graph j None = (w : List ℕ) → IsWalk graph w j → ⊥
IsExactAt rules graph j (Some s) =
    ((w : List ℕ) × IsWalk graph w j)
    × ((f : Fact) → (rules.holds s f ≡ true) ↔ ((w : List ℕ) → IsWalk graph w j → carries rules w f ≡ true))

-- the state of an item
abbrev pub look : {S : Type 0} → List (Option S) → ℕ → Option S
look states j = get_or states j None

-- each item has the facts that every walk to it carries
abbrev pub AreExact : {S : Type 0} → Rules S → List (List ℕ) → List (Option S) → Type 0
AreExact rules graph states = (length states ≡ length graph) × ((j : ℕ) → IsExactAt rules graph j (look states j))
