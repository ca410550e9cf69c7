-- The symbol has its form, or is the first of those on the way.
use Rattle.assigned_forms.specs.Opened.{opened}
use Rattle.assigned_forms.proofs.WayLemmas.{IsFilling, left_to_do}
use Rattle.assigned_forms.proofs.expanding.MadeForms.fill_from.Given as goal

abbrev pub invariant-way : goal.invariant-way
invariant-way l = IsFilling (opened l.view.symbols.now l.view.marks.now) l.initial.self l.self l.way.items l.at

abbrev pub decreases-way : goal.decreases-way
decreases-way l = left_to_do (opened l.view.symbols.now l.view.marks.now) l.self l.way.items
