-- The entry before those that were looked at.
use Rattle.std.proofs.Common.{◌≡◌, ℕ, ◌-◌, ◌<◌, length, get_or, sym, ◌∙◌, subst, arith}
use Rattle.std.proofs.lemmas.List.{get_or_default}
use Rattle.asm_levels.specs.Watching.{IsFollowed}
use Rattle.row_plans.proofs.PartLemmas.{from_entry}
use Rattle.row_plans.proofs.looking.look_node.Goals as goal

pub look_run-count-requires-clause-begun : goal.look_run-count-requires-clause-begun
look_run-count-requires-clause-begun g c = let begun = c.requires.begun in (begun.0, begun.1, c.loop-left.invariant.part begun.0 begun.1 begun.2)

pub loop-left-preserved : goal.loop-left-preserved
loop-left-preserved g c =
    let all = c.loop-left.invariant in
    let one = c.look_run-count.ensures in
    let rows = c.args.entries.now.rows.items in
    let links = c.args.entries.now.links.items in
    let linked = c.requires.linked in
    let at : ℕ = c.loop-left.left - 1 in
    let bound = all.bound in
    let some = c.loop-left-test.true in
    let inside : at < length rows = omega arith in
    let many = linked.many_links in
    let of : get_or c.args.entries.now.nodes.items at 0 ≡ c.args.node = all.of_node at (omega arith) in
    let row : c.index.result.now ≡ get_or rows at 0 = c.index.ensures ∙ get_or_default rows at _ 0 inside in
    let next : c.index-left-in-loop-left.result.now ≡ get_or links at 0 = c.index-left-in-loop-left.ensures ∙ get_or_default links at _ 0 (omega arith) in
    let follows = c.args.entries.now.follows.items in
    let own : (other : ℕ) → IsFollowed follows (get_or rows at 0) other → get_or c.look_run-count.new.seen other 0 ≡ c.args.view.round =
    λ other followed. one.seen other (subst (λ (first : ℕ). IsFollowed follows first other) (sym row) followed) in
    record {
      part = λ old start part. one.part old start (all.part old start part);
      bound = (let low = linked.link_bound at inside in omega arith);
      here = from_entry (length c.args.view.rows.now) rows c.args.entries.now.nodes.items c.args.entries.now.heads.items links follows c.loop-left.seen c.look_run-count.new.seen c.args.node c.args.view.round c.loop-left.left
          c.index-left-in-loop-left.result.now linked some bound of next one.kept own all.here;
      of_node = λ other is. linked.link_of at inside (omega arith) other (omega arith) ∙ of;
      kept = λ other is. one.kept other (all.kept other is);
      many_levels = one.as_many_levels ∙ all.many_levels;
      many_seen = one.as_many_seen ∙ all.many_seen;
      room = one.room ∙ all.room;
    }
