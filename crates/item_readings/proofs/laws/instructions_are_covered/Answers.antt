use Rattle.item_readings.proofs.Covering.{covers}
use Rattle.item_readings.proofs.laws.instructions_are_covered.Goals as goal

pub returns : goal.returns
returns c = covers c.effects_are_followed.ensures.followed
