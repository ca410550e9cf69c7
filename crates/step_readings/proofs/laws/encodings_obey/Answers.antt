use Rattle.step_readings.proofs.Given.{Given}
use Rattle.step_readings.proofs.Obeying.{filled_bytes, encodings, plain}
use Rattle.step_readings.proofs.laws.encodings_obey.Goals as goal

-- src/laws.rt:24:1
pub returns : goal.returns
returns c =
    let laws : Given = record {
      one = c.read_one_way.ensures;
      holds = c.effects_hold.ensures.holds;
      supported = c.effects_hold.ensures.supported;
      leads = c.flows_hold.ensures;
      covered = c.fillings_are_covered.ensures.covered;
    } in
    record { filled = filled_bytes laws; encoded = encodings laws c.encodings_are_codes.ensures.fields; plain = plain }
