-- The dependents so far have their sizes.
use Rattle.std.proofs.Common.{◌≡◌, ◌+◌, ◌<◌, ◌≤◌, ℕ, List, length, get_or}
use Rattle.row_plans.specs.Resizing.{AreResized}
use Rattle.row_plans.proofs.SizedLemmas.{FirstSized}
use Rattle.row_plans.proofs.resizing.resize_dependents.Given as goal

abbrev pub invariant-loop-row : goal.invariant-loop-row
invariant-loop-row l = record {
  resized : (before : List ℕ) → AreResized l.all.rows.now l.levels before l.fn.shifts l.start l.fn.touched
      → (all : AreResized l.all.rows.now l.levels before l.shifts l.place l.touched) × FirstSized l.all.rows.now l.levels all.sizes l.dependents l.row-index;
  within : (at : ℕ) → at < l.place → get_or l.touched at 0 < length l.all.rows.now;
  end : l.place ≤ l.start + l.row-index;
  many_shifts : length l.shifts ≡ length l.all.rows.now;
  as_many : length l.touched ≡ length l.fn.touched;
}
