-- The sum so far and the terms that follow give the expanded form.
use Rattle.std.proofs.Common.{length, ◌-◌}
use Rattle.assigned_forms.specs.Expanding.{Expands}
use Rattle.assigned_forms.specs.Opened.{opened}
use Rattle.assigned_forms.proofs.expanding.MadeForms.advance.Given as goal

abbrev pub invariant-loop-seen : goal.invariant-loop-seen
invariant-loop-seen l = Expands (opened l.view.symbols.now l.view.marks.now) l.symbol l.seen l.made

abbrev pub decreases-loop-seen : goal.decreases-loop-seen
decreases-loop-seen l = length l.terms - l.seen
