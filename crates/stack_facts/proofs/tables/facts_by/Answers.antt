use Rattle.std.proofs.Common.{◌+◌, ◌*◌, ◌≤◌, ℕ, length, ap, arith, mul-le-mul_left, mul_comm}
use Rattle.stack_depths.specs.Distances.{edges}
use Rattle.stack_depths.specs.States.{distances_in}
use Rattle.stack_facts.specs.Facts.{saves}
use Rattle.stack_facts.proofs.tables.facts_by.Goals as goal

more : (a b n : ℕ) → a ≤ b → (a + 7) * n ≤ (b + 7) * n
more a b n h =
    let l : n * (a + 7) ≤ n * (b + 7) = mul-le-mul_left n (let u : a + 7 ≤ b + 7 = omega arith in u) in
    let x = mul_comm n (a + 7) in
    let y = mul_comm n (b + 7) in
    omega arith

pub returns-clause-cost : goal.returns-clause-cost
returns-clause-cost g c =
    let a = c.in_ok-sets.ensures.cost in
    let f = c.in_ok-slots.ensures.few in
    let v = ap length c.deref-2.ensures.value in
    let m = more (length c.deref-2.result.now) (saves c.args.items.now (distances_in c.args.depths.now)) (edges c.args.graph.now) (omega arith) in
    omega arith
