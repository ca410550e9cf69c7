-- The symbol's own form is stored.
use Rattle.assigned_forms.specs.declared.expanding.Expansion.TheVariants.{Own}
use Rattle.assigned_forms.specs.Expansions.{form_there}
use Rattle.assigned_forms.proofs.ExpansionLemmas.{map_set}
use Rattle.assigned_forms.proofs.expanding.MadeForms.put_own.Goals as goal

pub returns : goal.returns
returns c = rw (← c.self.view_is) (map_set form_there c.self.inside.forms.items c.args.at (Own c.args.form))
