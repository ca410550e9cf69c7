-- The form is stored in its box.
use Rattle.assigned_forms.specs.declared.expanding.Expansion.TheVariants.{Made}
use Rattle.assigned_forms.specs.Expansions.{form_there}
use Rattle.assigned_forms.proofs.ExpansionLemmas.{map_set}
use Rattle.assigned_forms.proofs.expanding.MadeForms.put.Goals as goal

pub returns : goal.returns
returns c = rw (← c.self.view_is, ← c.in_ok-form.ensures.ok) (map_set form_there c.self.inside.forms.items c.args.at (Made c.in_ok-form.form))
