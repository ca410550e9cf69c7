use Rattle.std.proofs.Common.{◌≡◌, ℕ, zero, suc, ◌+◌, ◌*◌, ◌<◌, ◌≤◌, ◌⊎◌, List, [], ◌∷◌, ◌++◌, length, set, Option, Some, None, sum_by, sym, ap, inl, inr, arith, ◌∙◌, mul-le-mul_left, mul-add, mul_comm}
use Rattle.std.proofs.lemmas.List.Sums.{sum_by-append, sum_by-cons}
use Rattle.work_lists.specs.Graphs.{row}
use Rattle.work_lists.specs.Exact.{Rules, look}
use Rattle.work_lists.specs.Search.{Carried, left, charge, owed}

-- what is owed for the states, where one is another
charge_set : {S : Type 0} (rules : Rules S) (price : List ℕ → ℕ) (graph : List (List ℕ)) (states : List (Option S)) (j : ℕ) (x : Option S) → length states ≡ length graph → j < length states → charge rules price graph (set states j x) + price (row graph j) * left rules (look states j) ≡ charge rules price graph states + price (row graph j) * left rules x
charge_set rules price [] [] j x e h = absurd (omega arith)
charge_set rules price [] (s ∷ states) j x e h = absurd (omega arith)
charge_set rules price (r ∷ graph) [] j x e h = absurd (omega arith)
charge_set rules price (r ∷ graph) (s ∷ states) zero x e h = omega arith
charge_set rules price (r ∷ graph) (s ∷ states) (suc j) x e h =
    let ih = charge_set rules price graph states j x (omega arith) (omega arith) in omega arith

-- a carried state is paid for
pub carry_pays : {S : Type 0} (rules : Rules S) (price : List ℕ → ℕ) (graph : List (List ℕ)) (old new : List (Option S)) (todo waiting : List ℕ) (j : ℕ) (out : S) → length old ≡ length graph → j < length old → Carried rules old new todo waiting j out → owed rules price graph new waiting ≤ owed rules price graph old todo
carry_pays rules price graph old new todo waiting j out e h c =
    let moved = charge_set rules price graph old j (Some c.state) e h in
    let same : charge rules price graph new ≡ charge rules price graph (set old j (Some c.state)) = ap (charge rules price graph) c.set in
    by_pay moved same c.pays
  where
    p : ℕ
    p = price (row graph j)

    by_pay : charge rules price graph (set old j (Some c.state)) + price (row graph j) * left rules (look old j) ≡ charge rules price graph old + price (row graph j) * rules.weight c.state → charge rules price graph new ≡ charge rules price graph (set old j (Some c.state)) → ((waiting ≡ todo) × (look old j ≡ Some c.state)) ⊎ ((waiting ≡ todo ++ j ∷ []) × (rules.weight c.state + 1 ≤ left rules (look old j))) → owed rules price graph new waiting ≤ owed rules price graph old todo
    by_pay moved same (inl (w, u)) =
        let a : left rules (look old j) ≡ rules.weight c.state = ap (left rules) u in
        let b : price (row graph j) * left rules (look old j) ≡ price (row graph j) * rules.weight c.state = ap (λ n. price (row graph j) * n) a in
        let d : sum_by (λ i. price (row graph i)) waiting ≡ sum_by (λ i. price (row graph i)) todo = ap (sum_by (λ i. price (row graph i))) w in
        omega arith
    by_pay moved same (inr (w, u)) =
        let d : sum_by (λ i. price (row graph i)) waiting ≡ sum_by (λ i. price (row graph i)) (todo ++ j ∷ []) = ap (sum_by (λ i. price (row graph i))) w in
        let s : sum_by (λ i. price (row graph i)) (todo ++ j ∷ []) ≡ sum_by (λ i. price (row graph i)) todo + sum_by (λ i. price (row graph i)) (j ∷ []) = sum_by-append (λ i. price (row graph i)) todo (j ∷ []) in
        let m : price (row graph j) * (rules.weight c.state + 1) ≤ price (row graph j) * left rules (look old j) = mul-le-mul_left (price (row graph j)) u in
        omega arith

-- where no item has a state, all is owed
pub charge_none : {S : Type 0} (rules : Rules S) (price : List ℕ → ℕ) (graph : List (List ℕ)) (states : List (Option S)) → length states ≡ length graph → ((k : ℕ) → look states k ≡ None) → charge rules price graph states ≡ (rules.limit + 1) * sum_by price graph
charge_none rules price [] states e h = omega arith
charge_none rules price (r ∷ graph) [] e h = absurd (omega arith)
charge_none rules price (r ∷ graph) (s ∷ states) e h =
    let ih = charge_none rules price graph states (omega arith) (λ k. h (suc k)) in
    let l : left rules s ≡ rules.limit + 1 = ap (left rules) (h 0) in
    let m : price r * left rules s ≡ price r * (rules.limit + 1) = ap (λ n. price r * n) l in
    let a : (rules.limit + 1) * (price r + sum_by price graph) ≡ (rules.limit + 1) * price r + (rules.limit + 1) * sum_by price graph = mul-add (rules.limit + 1) (price r) (sum_by price graph) in
    let d : price r * (rules.limit + 1) ≡ (rules.limit + 1) * price r = mul_comm (price r) (rules.limit + 1) in
    ap (λ n. n + charge rules price graph states) (m ∙ d) ∙ ap (λ n. (rules.limit + 1) * price r + n) ih ∙ sym a ∙ ap (λ n. (rules.limit + 1) * n) (sym (sum_by-cons price r graph))
