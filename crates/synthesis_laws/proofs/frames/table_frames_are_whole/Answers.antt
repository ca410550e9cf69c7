use Rattle.synthesis_laws.proofs.WholeFrames.{table_frames_are_whole}
use Rattle.synthesis_laws.proofs.frames.table_frames_are_whole.Goals as goal

-- src/frames.rt:34:1
pub returns : goal.returns
returns c = table_frames_are_whole c.tables_can_be_written.ensures
