use Rattle.step_readings.proofs.Holding.{any_held}
use Rattle.step_readings.proofs.laws.any_bytes_are_held.Goals as goal

pub returns : goal.returns
returns c = any_held
