use Rattle.std.proofs.Common.{refl, arith}
use Rattle.stack_depths.specs.States.{distances_in, reached_in}
use Rattle.stack_facts.specs.States.{facts_in}
use Rattle.scfi_pass.specs.Tables.{Analyzed}
use Rattle.cfi_checks.proofs.checking.check.Goals as goal

pub returns-clause-right : goal.returns-clause-right
returns-clause-right g c =
    let known = c.in_ok-known.ensures in
    let standing = c.in_ok-standing.ensures in
    let a : Analyzed = record {
      items = c.args.items.now;
      nodes = c.args.graph.now;
      distances = distances_in c.in_ok-known.known;
      reached = reached_in c.in_ok-known.known;
      facts = facts_in c.in_ok-standing.standing;
    } in
    (a, record { same_items = refl; same_nodes = refl; distances = known.distances; reached = known.reached; facts = standing.facts; cost = let m = known.cost in let n = standing.cost in omega arith }, c.in-Ok.ensures.shown)
