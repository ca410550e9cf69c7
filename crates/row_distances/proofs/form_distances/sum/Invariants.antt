-- The terms so far have their rows.
use Rattle.std.proofs.Common.{◌≡◌, ◌++◌, drop}
use Rattle.row_distances.specs.FormDistances.{moved_terms}
use Rattle.row_distances.proofs.form_distances.sum.Given as goal

abbrev pub invariant-loop-term : goal.invariant-loop-term
invariant-loop-term l = record {
  rows : l.rows.items ++ moved_terms l.view.symbols.now l.view.own l.view.starts.now l.count (drop l.term-index l.terms)
      ≡ moved_terms l.view.symbols.now l.view.own l.view.starts.now l.count l.terms;
}
