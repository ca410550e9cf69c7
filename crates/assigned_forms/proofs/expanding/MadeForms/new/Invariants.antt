-- The expanded forms of the symbols before this one are there.
use Rattle.assigned_forms.specs.Opened.{opened}
use Rattle.assigned_forms.proofs.ExpansionLemmas.{AreUpTo}
use Rattle.assigned_forms.proofs.expanding.MadeForms.new.Given as goal

abbrev pub invariant-loop-at : goal.invariant-loop-at
invariant-loop-at l = AreUpTo (opened l.view.symbols.now l.view.marks.now) l.made l.at
