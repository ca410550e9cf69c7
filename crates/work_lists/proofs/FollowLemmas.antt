use Rattle.std.proofs.Common.{◌≡◌, ℕ, ◌<◌, ◌≤◌, List, [], ◌∷◌, length, get_or, Option, sym, ap, arith}
use Rattle.work_lists.specs.Graphs.{row, IsInside}
use Rattle.work_lists.specs.Exact.{Rules}
use Rattle.work_lists.specs.Search.{Carried, Searching, Spreading, owed}
use Rattle.work_lists.proofs.SpreadLemmas.{spread_step, spread_ends, target_inside}
use Rattle.work_lists.proofs.ChargeLemmas.{carry_pays}

-- there is one edge
one_edge : (graph : List (List ℕ)) (i j : ℕ) → row graph i ≡ j ∷ [] → 0 < length (row graph i)
one_edge graph i j e = let l = ap length e in omega arith

-- it leads there
leads_there : (graph : List (List ℕ)) (i j : ℕ) → row graph i ≡ j ∷ [] → j ≡ get_or (row graph i) 0 0
leads_there graph i j e = sym (ap (λ xs. get_or xs 0 0) e)

-- the one item to which an item leads is one
pub only_inside : {S : Type 0} (rules : Rules S) (graph : List (List ℕ)) (old : List (Option S)) (todo : List ℕ) (i j : ℕ) (out : S) → IsInside graph → row graph i ≡ j ∷ [] → Spreading rules graph old todo i out 0 → j < length old
only_inside rules graph old todo i j out fits e b = target_inside rules graph old todo i j out 0 fits b (one_edge graph i j e) (leads_there graph i j e)

-- the one edge was gone over
pub only_spread : {S : Type 0} (rules : Rules S) (graph : List (List ℕ)) (old new : List (Option S)) (todo waiting : List ℕ) (i j : ℕ) (out : S) → IsInside graph → row graph i ≡ j ∷ [] → Spreading rules graph old todo i out 0 → Carried rules old new todo waiting j out → Searching rules graph new waiting
only_spread rules graph old new todo waiting i j out fits e b c =
    let next = spread_step rules graph old new todo waiting i j out 0 fits b (one_edge graph i j e) (leads_there graph i j e) c in
    spread_ends rules graph new waiting i out 1 next (sym (ap length e))

-- and paid for
pub only_paid : {S : Type 0} (rules : Rules S) (price : List ℕ → ℕ) (graph : List (List ℕ)) (old new : List (Option S)) (todo waiting : List ℕ) (i j : ℕ) (out : S) → IsInside graph → row graph i ≡ j ∷ [] → Spreading rules graph old todo i out 0 → Carried rules old new todo waiting j out → owed rules price graph new waiting ≤ owed rules price graph old todo
only_paid rules price graph old new todo waiting i j out fits e b c = carry_pays rules price graph old new todo waiting j out b.long (only_inside rules graph old todo i j out fits e b) c
