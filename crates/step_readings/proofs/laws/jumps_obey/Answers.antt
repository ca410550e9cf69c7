use Rattle.step_readings.proofs.Jumps.{jumps, loaded_jumps}
use Rattle.step_readings.proofs.laws.jumps_obey.Goals as goal

pub returns : goal.returns
returns c = record {
  obey =
      jumps (record {
        one = c.read_one_way.ensures;
        holds = c.effects_hold.ensures.holds;
        supported = c.effects_hold.ensures.supported;
        leads = c.flows_hold.ensures;
        covered = c.fillings_are_covered.ensures.covered;
      }) c.jump_codes_read.ensures;
  loaded = loaded_jumps;
}
