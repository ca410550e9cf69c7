-- The nodes a level above.
use Rattle.std.proofs.Common.{◌+◌, length, refl, ◌∙◌, arith}
use Rattle.asm_levels.specs.Watching.{first_leaf}
use Rattle.asm_levels.proofs.LinkLemmas.{more_none, more_again}
use Rattle.asm_levels.proofs.TreeLemmas.{reached_first, reached_half, reached_all}
use Rattle.asm_levels.proofs.watching.add_all.Goals as goal

pub overflow_add-low : goal.overflow_add-low
overflow_add-low c = let leaf = c.first_leaf-leaf.ensures in let few = c.requires.few in let low = c.requires.first in omega arith

pub loop-low-init : goal.loop-low-init
loop-low-init c =
    let old = c.args.entries.now in
    let count = length c.args.all.rows.now in
    let leaf = c.first_leaf-leaf.ensures in
    let last = c.requires.last in
    record {
      more = more_none count c.args.row old.rows.items old.nodes.items old.heads.items old.links.items c.requires.linked;
      heads = refl;
      follows = refl;
      some = omega arith;
      bound = omega arith;
      entry = λ block low high. reached_first old.rows.items old.nodes.items c.args.row (block + first_leaf count) (c.first_leaf-leaf.result + c.args.first) (c.first_leaf-leaf.result + c.args.last + 1) (omega arith) (omega arith);
    }

pub loop-low-preserved : goal.loop-low-preserved
loop-low-preserved c =
    let all = c.loop-low.invariant in
    let one = c.in_ok-add_ends.ensures in
    let before = c.loop-low.entries in
    let now = c.add_ends.new.self in
    let first = c.args.entries.now in
    let count = length c.args.all.rows.now in
    record {
      more = more_again count c.args.row first.rows.items first.nodes.items before.rows.items before.nodes.items before.heads.items before.links.items
          now.rows.items now.nodes.items now.heads.items now.links.items all.more one.more;
      heads = c.add_ends.ensures.nodes ∙ all.heads;
      follows = c.add_ends.ensures.follows ∙ all.follows;
      some = (let some = all.some in omega arith);
      bound = (let bound = all.bound in omega arith);
      entry = λ block low high. reached_half before.rows.items before.nodes.items now.rows.items now.nodes.items c.args.row (block + first_leaf count) c.loop-low.low c.loop-low.end all.some one.more.kept one.entry (all.entry block low high);
    }

pub returns-clause-entry : goal.returns-clause-entry
returns-clause-entry c = λ block low high. reached_all c.loop-low.entries.rows.items c.loop-low.entries.nodes.items c.args.row (block + first_leaf (length c.args.all.rows.now)) c.loop-low.low c.loop-low.end
    (let past = c.loop-low-test.false in omega arith) (c.loop-low.invariant.entry block low high)
