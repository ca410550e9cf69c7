use Rattle.form_laws.proofs.Small.{values_fit}
use Rattle.form_laws.proofs.numbers.values_fit.Goals as goal

pub returns : goal.returns
returns c = values_fit c.read_is_spelled.ensures c.read_is_spelled-2.ensures
