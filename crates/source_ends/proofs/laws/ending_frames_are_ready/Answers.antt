use Rattle.source_ends.proofs.ReadyFrames.{are_ready}
use Rattle.source_ends.proofs.laws.ending_frames_are_ready.Goals as goal

pub returns : goal.returns
returns c = are_ready c.tables_can_be_written.ensures c.tables_are_of_items.ensures
