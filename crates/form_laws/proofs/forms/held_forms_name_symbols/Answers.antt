use Rattle.form_laws.proofs.Instructions.{held_there}
use Rattle.form_laws.proofs.forms.held_forms_name_symbols.Goals as goal

pub returns : goal.returns
returns c = held_there
