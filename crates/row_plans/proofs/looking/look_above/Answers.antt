-- The next node above.
use Rattle.std.proofs.Common.{◌≡◌, ◌<◌, ℕ, get_or, length, inl, inr, refl, sym, ◌∙◌, subst, arith}
use Rattle.std.proofs.lemmas.List.{get_or-set_other, length-set}
use Rattle.asm_levels.specs.Watching.{IsFollowed}
use Rattle.row_plans.proofs.PassLemmas.{left_half, lefts_half, left_passed, left_none, stamps_more}
use Rattle.row_plans.proofs.looking.look_above.Goals as goal

pub loop-node-init : goal.loop-node-init
loop-node-init g c = record {
  part = λ old start part. part;
  bound = omega arith;
  done = λ node up. inl up;
  walked = λ other above is some up. inr (c.requires.passed other above is some up);
  before = λ at low. refl;
  stamps = λ low. low;
  kept = λ at is. is;
  many_levels = refl;
  many_seen = refl;
  many_passed = refl;
  room = refl;
}

pub look_node-count-requires-clause-begun : goal.look_node-count-requires-clause-begun
look_node-count-requires-clause-begun g c = let begun = c.requires.begun in (begun.0, begun.1, c.loop-node.invariant.part begun.0 begun.1 begun.2)

pub loop-node-preserved : goal.loop-node-preserved
loop-node-preserved g c =
    let all = c.loop-node.invariant in
    let one = c.look_node-count.ensures in
    let entries = c.args.entries.now in
    let node = c.loop-node.node in
    let round = c.args.view.round in
    let long = all.many_passed in
    let enough = c.requires.as_many_passed in
    let leaf = c.requires.leaf in
    let bound = all.bound in
    let some = c.loop-node-test.true in
    let inside : node < length c.loop-node.passed = omega arith in
    record {
      part = λ old start part. one.part old start (all.part old start part);
      bound = omega arith;
      done = λ above up. left_half entries.rows.items entries.nodes.items entries.follows.items c.loop-node.seen c.look_node-count.new.seen round one.kept node above one.seen (all.done above up);
      walked = lefts_half entries.rows.items entries.nodes.items entries.follows.items c.loop-node.seen c.look_node-count.new.seen round one.kept c.loop-node.passed node inside one.seen all.walked;
      before = λ at low. get_or-set_other c.loop-node.passed node at round 0 (omega arith) ∙ all.before at (omega arith);
      stamps = λ low. stamps_more c.loop-node.passed node round inside (all.stamps low);
      kept = λ at is. one.kept at (all.kept at is);
      many_levels = one.as_many_levels ∙ all.many_levels;
      many_seen = one.as_many_seen ∙ all.many_seen;
      many_passed = length-set c.loop-node.passed node round ∙ all.many_passed;
      room = one.room ∙ all.room;
    }

pub returns-then-passed-node-clause-passed : goal.returns-then-passed-node-clause-passed
returns-then-passed-node-clause-passed g c = λ other above is some up. (
    let all = c.loop-node.invariant in
    let entries = c.args.entries.now in
    let node = c.loop-node.node in
    let before : get_or c.args.passed.now node 0 ≡ c.args.view.round = sym (all.before node (omega arith)) ∙ c.if-passed-node.true in
    left_passed entries.rows.items entries.nodes.items entries.follows.items c.args.seen.now c.loop-node.seen c.args.view.round all.kept c.args.passed.now node above c.requires.passed before some (all.walked other above is some up))

pub returns-then-passed-node-clause-seen : goal.returns-then-passed-node-clause-seen
returns-then-passed-node-clause-seen g c = λ row entry. (
    let all = c.loop-node.invariant in
    let entries = c.args.entries.now in
    let node = c.loop-node.node in
    let own = entry.2 in
    let at = own.3 in
    let before : get_or c.args.passed.now node 0 ≡ c.args.view.round = sym (all.before node (omega arith)) ∙ c.if-passed-node.true in
    left_passed entries.rows.items entries.nodes.items entries.follows.items c.args.seen.now c.loop-node.seen c.args.view.round all.kept c.args.passed.now node own.0 c.requires.passed before own.1 (all.done own.0 own.2)
    at.0 row at.1 at.3 (subst (λ (first : ℕ). IsFollowed entries.follows.items first row) (sym at.2) entry.1))

pub returns-clause-seen : goal.returns-clause-seen
returns-clause-seen g c = λ row entry. (
    let entries = c.args.entries.now in
    let own = entry.2 in
    let at = own.3 in
    let past = c.loop-node-test.false in
    left_none entries.rows.items entries.nodes.items entries.follows.items c.loop-node.seen c.args.view.round c.loop-node.node own.0 (omega arith) own.1 (c.loop-node.invariant.done own.0 own.2)
    at.0 row at.1 at.3 (subst (λ (first : ℕ). IsFollowed entries.follows.items first row) (sym at.2) entry.1))

pub returns-clause-passed : goal.returns-clause-passed
returns-clause-passed g c = λ other above is some up. (
    let entries = c.args.entries.now in
    let past = c.loop-node-test.false in
    left_none entries.rows.items entries.nodes.items entries.follows.items c.loop-node.seen c.args.view.round c.loop-node.node above (omega arith) some (c.loop-node.invariant.walked other above is some up))
