-- What holds while the work list is gone through, and what is still to be paid for.
use Rattle.std.specs.Prelude.{◌≡◌, ℕ, ◌+◌, ◌*◌, ◌<◌, ◌≤◌, ◌≢◌, ◌⊎◌, true, false, List, [], ◌∷◌, ◌++◌, length, get_or, sum_by, Contains, Option, Some, None, slice_set}
use Rattle.work_lists.specs.Graphs.{row, IsWalk}
use Rattle.work_lists.specs.Exact.{Fact, Rules, carried_from, carries, look}

-- how many times more an item's state may change
abbrev pub left : {S : Type 0} → Rules S → Option S → ℕ
left rules None = rules.limit + 1
left rules (Some s) = rules.weight s

-- a state was carried into item j: it is there now, or met with what was there, and the item waits if anything changed
pub record Carried {S : Type 0} (rules : Rules S) (old new : List (Option S)) (todo waiting : List ℕ) (j : ℕ) (out : S) : Type 0 where
  pub state : S
  pub set : new ≡ slice_set old j (Some state)
  pub under : (f : Fact) → rules.holds state f ≡ true → rules.holds out f ≡ true
  pub kept : (s : S) (f : Fact) → look old j ≡ Some s → rules.holds state f ≡ true → rules.holds s f ≡ true
  pub lost : (f : Fact) → rules.holds state f ≡ false → (rules.holds out f ≡ false) ⊎ ((s : S) × (look old j ≡ Some s) × (rules.holds s f ≡ false))
  pub pays : ((waiting ≡ todo) × (look old j ≡ Some state)) ⊎ ((waiting ≡ todo ++ j ∷ []) × (rules.weight state + 1 ≤ left rules (look old j)))

-- each state that an item's state goes over to has no more than it should
abbrev pub IsDone : {S : Type 0} → Rules S → List (List ℕ) → List (Option S) → ℕ → S → Type 0
IsDone {S = S} rules graph states i s =
    (j : ℕ) → Contains (row graph i) j → (t : S) × (look states j ≡ Some t) × ((f : Fact) → rules.holds t f ≡ true → carried_from (rules.holds s) (rules.source i f) ≡ true)

-- what is known between two items that are worked off
pub record Searching {S : Type 0} (rules : Rules S) (graph : List (List ℕ)) (states : List (Option S)) (todo : List ℕ) : Type 0 where
  pub long : length states ≡ length graph
  pub inside : (i : ℕ) → Contains todo i → i < length graph
  pub entered : (s : S) × (look states 0 ≡ Some s) × ((f : Fact) → rules.holds s f ≡ true → rules.given f ≡ true)
  pub reached : (j : ℕ) (s : S) → look states j ≡ Some s → (w : List ℕ) × IsWalk graph w j
  pub lost : (j : ℕ) (s : S) (f : Fact) → look states j ≡ Some s → rules.holds s f ≡ false → (w : List ℕ) × IsWalk graph w j × (carries rules w f ≡ false)
  pub done : (i : ℕ) (s : S) → look states i ≡ Some s → Contains todo i ⊎ IsDone rules graph states i s

-- the same while an item's state goes over its edges, of which the first ones are worked off
pub record Spreading {S : Type 0} (rules : Rules S) (graph : List (List ℕ)) (states : List (Option S)) (todo : List ℕ) (i : ℕ) (out : S) (k : ℕ) : Type 0 where
  pub long : length states ≡ length graph
  pub inside : (m : ℕ) → Contains todo m → m < length graph
  pub entered : (s : S) × (look states 0 ≡ Some s) × ((f : Fact) → rules.holds s f ≡ true → rules.given f ≡ true)
  pub reached : (j : ℕ) (s : S) → look states j ≡ Some s → (w : List ℕ) × IsWalk graph w j
  pub lost : (j : ℕ) (s : S) (f : Fact) → look states j ≡ Some s → rules.holds s f ≡ false → (w : List ℕ) × IsWalk graph w j × (carries rules w f ≡ false)
  pub done : (m : ℕ) (s : S) → m ≢ i → look states m ≡ Some s → Contains todo m ⊎ IsDone rules graph states m s
  pub current : (s : S) → look states i ≡ Some s → Contains todo i ⊎ ((f : Fact) → rules.holds out f ≡ true → carried_from (rules.holds s) (rules.source i f) ≡ true)
  pub spread : (m : ℕ) → m < k → (t : S) × (look states (get_or (row graph i) m 0) ≡ Some t) × ((f : Fact) → rules.holds t f ≡ true → rules.holds out f ≡ true)
  pub walked : (w : List ℕ) × IsWalk graph w i
  pub out_lost : (f : Fact) → rules.holds out f ≡ false → (w : List ℕ) × IsWalk graph w i × (carried_from (carries rules w) (rules.source i f) ≡ false)

-- what is still to be paid: each change that is left, and each item that waits, costs the price of its item
abbrev pub charge : {S : Type 0} → Rules S → (List ℕ → ℕ) → List (List ℕ) → List (Option S) → ℕ
charge rules price [] states = 0
charge rules price (edges ∷ graph) [] = 0
charge rules price (edges ∷ graph) (s ∷ states) = price edges * left rules s + charge rules price graph states

-- what is owed for states, and for the items that wait
abbrev pub owed : {S : Type 0} → Rules S → (List ℕ → ℕ) → List (List ℕ) → List (Option S) → List ℕ → ℕ
owed rules price graph states todo = charge rules price graph states + sum_by (λ i. price (row graph i)) todo

-- what waits, with an item that is worked off before all others, if there is one
abbrev pub with_next : List ℕ → Option ℕ → List ℕ
with_next todo None = todo
with_next todo (Some i) = todo ++ i ∷ []

-- 1 where none is
abbrev pub ended : Option ℕ → ℕ
ended None = 1
ended (Some i) = 0
