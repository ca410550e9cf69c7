use Rattle.item_readings.proofs.Running.{execution}
use Rattle.item_readings.proofs.laws.worked_execution.Goals as goal

pub returns : goal.returns
returns c = execution (record { followed = c.effects_are_followed.ensures.followed; obey = c.read_bytes_obey.ensures; steps = c.worked_steps.ensures })
