use Rattle.step_readings.proofs.Obeying.{read_bytes}
use Rattle.step_readings.proofs.laws.read_bytes_obey.Goals as goal

-- src/laws.rt:12:1
pub returns : goal.returns
returns c =
    read_bytes (record {
      one = c.read_one_way.ensures;
      holds = c.effects_hold.ensures.holds;
      supported = c.effects_hold.ensures.supported;
      leads = c.flows_hold.ensures;
      covered = c.fillings_are_covered.ensures.covered;
    })
