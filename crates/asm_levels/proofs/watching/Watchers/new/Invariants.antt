-- The rows so far are watched.
use Rattle.std.proofs.Common.{length}
use Rattle.asm_levels.specs.Watching.{FirstWatchers, IsRun}
use Rattle.asm_levels.proofs.watching.Watchers.new.Given as goal

abbrev pub invariant-loop-row : goal.invariant-loop-row
invariant-loop-row l = record {
  first : FirstWatchers l.all.rows.now l.all.ends.now l.made.entries.rows.items l.made.entries.nodes.items l.made.entries.heads.items l.made.entries.links.items l.made.entries.follows.items l.made.wide.items l.row;
  run : IsRun (length l.all.rows.now) l.made.entries.rows.items l.made.entries.nodes.items l.made.entries.follows.items l.run.0 l.run.1 l.row;
}
