use Rattle.x86_table.proofs.OneReading.{one_way}
use Rattle.x86_table.proofs.laws.read_one_way.Goals as goal

pub returns : goal.returns
returns c = one_way
