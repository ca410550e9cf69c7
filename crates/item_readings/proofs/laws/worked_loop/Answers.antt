use Rattle.item_readings.proofs.Looping.{loop_laid, refused}
use Rattle.item_readings.proofs.laws.worked_loop.Goals as goal

pub returns : goal.returns
returns c = record {
  laid = loop_laid c.effects_are_followed.ensures.followed c.read_bytes_obey.ensures c.worked_readings.ensures c.items_are_read.ensures.jumps;
  refused = refused c.inner_jumps_are_plain.ensures.plain c.jump_codes_read.ensures c.worked_readings.ensures;
}
