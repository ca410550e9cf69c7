use Rattle.source_ends.proofs.FaultLaws.{end_is_no_reading}
use Rattle.source_ends.proofs.laws.the_end_is_no_reading.Goals as goal

pub returns : goal.returns
returns c = end_is_no_reading
