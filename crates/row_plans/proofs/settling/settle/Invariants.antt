-- Each round so far raised a level.
use Rattle.std.proofs.Common.{◌≡◌, ◌<◌, ◌≤◌, ◌+◌, ◌*◌, ◌-◌, ℕ, None, IfSome, length, get_or, take, sum}
use Rattle.std.specs.Prelude.{vec_len}
use Rattle.level_ranks.specs.Rounds.{IsAfterRounds}
use Rattle.asm_levels.specs.Shifts.{shifts_of}
use Rattle.asm_levels.specs.Needs.{need, tops, several}
use Rattle.asm_levels.specs.Watching.{AreWatchers, AreHighest}
use Rattle.row_plans.specs.Looking.{AreCalm}
use Rattle.row_plans.proofs.settling.settle.Given as goal

abbrev pub invariant-loop-rounds : goal.invariant-loop-rounds
invariant-loop-rounds g l = record {
  after : IsAfterRounds (need l.all.rows.now) (tops l.all.rows.now) l.fn.levels l.levels l.rounds;
  placed : l.shifts ≡ shifts_of l.all.rows.now l.levels;
  many_shifts : length l.shifts ≡ length l.all.rows.now;
  at_most : l.steps ≤ l.fn.steps + l.rounds * several l.all.rows.now;
  from_start : l.fn.steps ≤ l.steps;
  at_least : 0 < l.rounds → l.fn.steps + several l.all.rows.now ≤ l.steps;
  many_seen : length l.seen ≡ length l.all.rows.now;
  stamps : (at : ℕ) → get_or l.seen at 0 ≤ l.stamp;
  many_passed : length l.passed ≡ vec_len l.entries.heads;
  stamps_passed : (at : ℕ) → get_or l.passed at 0 ≤ l.stamp;
  first : l.rounds ≡ 0 → l.moved ≡ None;
  room : length l.risen + length l.dependents ≤ length l.touched;
  end : IfSome l.moved (λ many. many ≤ length l.touched);
  inside : IfSome l.moved (λ many. (at : ℕ) → at < many → get_or l.touched at 0 < length l.all.rows.now);
  calm : IfSome l.moved (λ many. AreCalm l.all.rows.now l.shifts l.levels l.entries.rows.items l.entries.nodes.items l.entries.follows.items (take l.left l.wide) many l.touched);
  left : l.left ≤ length l.wide;
  highest : AreHighest l.all.rows.now l.levels l.left l.wide;
  watchers : AreWatchers l.all.rows.now l.all.ends.now l.entries.rows.items l.entries.nodes.items l.entries.heads.items l.entries.links.items l.entries.follows.items l.wide;
}

abbrev pub decreases-loop-rounds : goal.decreases-loop-rounds
decreases-loop-rounds g l = (1 + sum (tops l.all.rows.now)) - l.rounds
