-- No row is watched so far.
use Rattle.std.proofs.Common.{arith}
use Rattle.asm_levels.proofs.WatchLemmas.{watched_none}
use Rattle.asm_levels.proofs.watching.Watchers.new.Goals as goal

pub loop-row-init : goal.loop-row-init
loop-row-init c =
    let made = c.in_ok-new.field-0 in
    record {
      first = watched_none c.args.all.rows.now c.args.all.ends.now made.rows.items made.nodes.items made.heads.items made.links.items made.follows.items c.new-2.result.items
          c.in_ok-new.ensures.linked c.in_ok-new.ensures.none c.in_ok-new.ensures.no_follows c.new-2.ensures.items (let many = c.in_ok-new.ensures.nodes in let long = made.heads.ok.0 in omega arith);
      run = λ block low high. absurd (omega arith);
    }
