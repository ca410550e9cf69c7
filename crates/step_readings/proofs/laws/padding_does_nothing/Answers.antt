use Rattle.step_readings.proofs.Padding.{padding, filling, long}
use Rattle.step_readings.proofs.laws.padding_does_nothing.Goals as goal

pub returns : goal.returns
returns c = record {
  padding = padding c.read_one_way.ensures c.worked_readings.ensures;
  filled = filling c.read_one_way.ensures c.worked_readings.ensures;
  long = long;
}
