-- The rows of the list so far have their sizes.
use Rattle.std.proofs.Common.{◌≡◌, ◌<◌, ℕ, List, length, get_or}
use Rattle.row_plans.specs.Resizing.{AreMoved, AreTouched, AreSizedBut}
use Rattle.row_plans.proofs.SizedLemmas.{AllButLater}
use Rattle.row_plans.proofs.resizing.resize_risen.Given as goal

abbrev pub invariant-loop-place : goal.invariant-loop-place
invariant-loop-place l = record {
  resized : (before : List ℕ) → AreSizedBut l.all.rows.now l.levels before l.fn.shifts (length l.risen) l.risen
      → (sizes : List ℕ) × AreMoved l.all.rows.now sizes l.shifts × AllButLater l.all.rows.now l.levels sizes l.place l.risen × AreTouched before sizes l.place l.touched;
  within : (at : ℕ) → at < l.place → get_or l.touched at 0 < length l.all.rows.now;
  many_shifts : length l.shifts ≡ length l.all.rows.now;
  as_many : length l.touched ≡ length l.fn.touched;
}
